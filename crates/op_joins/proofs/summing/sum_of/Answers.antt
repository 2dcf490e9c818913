use Rattle.std.proofs.Common.{rules, ◌≡◌, ◌∙◌, sym, ap, subst, drop, ◌+◌, ℤ, ◌+ℤ◌, w64, to_z, of_z, SomeIff, FitsSigned}
use Rattle.op_joins.specs.Summed.{sum_found}
use Rattle.op_joins.proofs.SumPlans.{sum_more, sum_out}
use Rattle.op_joins.proofs.summing.sum_of.Goals as goal

pub returns-in_default : goal.returns-in_default
returns-in_default c =
    let n = to_z w64 c.loop-item.so_far-bits in let items = c.args.items.now in let i = c.loop-item.item-index in
    let back : to_z w64 (of_z w64 c.number_or_zero.result) ≡ c.number_or_zero.result = search rules in
    let out = subst (λ found. SomeIff found (FitsSigned w64 (n +ℤ to_z w64 (of_z w64 c.number_or_zero.result))) (n +ℤ to_z w64 (of_z w64 c.number_or_zero.result))) c.in_default.is c.checked_add.ensures in
    sym (sum_out n items i c.loop-item-test.true (λ fits. out (subst (λ (k : ℤ). FitsSigned w64 (n +ℤ k)) (sym (back ∙ c.number_or_zero.ensures)) fits))) ∙ c.loop-item.invariant

pub loop-item-preserved : goal.loop-item-preserved
loop-item-preserved c =
    let n = to_z w64 c.loop-item.so_far-bits in let items = c.args.items.now in let i = c.loop-item.item-index in let next = c.in-Some.next in
    let back : to_z w64 (of_z w64 c.number_or_zero.result) ≡ c.number_or_zero.result = search rules in
    let forth : to_z w64 (of_z w64 next) ≡ next = search rules in
    let known = subst (λ found. SomeIff found (FitsSigned w64 (n +ℤ to_z w64 (of_z w64 c.number_or_zero.result))) (n +ℤ to_z w64 (of_z w64 c.number_or_zero.result))) c.in-Some.is c.checked_add.ensures in
    ap (λ (k : ℤ). sum_found k (drop (i + 1) items)) forth
    ∙ (sum_more n next items i c.loop-item-test.true (subst (λ (k : ℤ). FitsSigned w64 k) (sym known.1) known.0) (known.1 ∙ ap (λ (k : ℤ). n +ℤ k) (back ∙ c.number_or_zero.ensures))
    ∙ c.loop-item.invariant)
