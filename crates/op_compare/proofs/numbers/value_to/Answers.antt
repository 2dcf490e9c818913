use Rattle.std.proofs.Common.{rules, ◌≡◌, ◌∙◌, sym, ap, ℤ, Some, w64, to_z, of_z}
use Rattle.op_lists.proofs.RangeNumbers.{of_three}
use Rattle.op_compare.specs.Places.{looked_up_to}
use Rattle.op_compare.proofs.numbers.value_to.Goals as goal

pub returns-in-Some : goal.returns-in-Some
returns-in-Some c =
    let back : to_z w64 (of_z w64 c.in-Some.i) ≡ c.in-Some.i = search rules in
    let a_is : to_z w64 (of_z w64 c.args.start) ≡ c.args.start = search rules in
    let b_is : to_z w64 (of_z w64 c.args.end) ≡ c.args.end = search rules in
    let s_is : to_z w64 (of_z w64 c.args.step) ≡ c.args.step = search rules in
    c.numbers_to.ensures ∙ (of_three (λ x y z. looked_up_to x y z (Some (to_z w64 (of_z w64 c.in-Some.i)))) a_is b_is s_is
    ∙ (ap (λ (i : ℤ). looked_up_to c.args.start c.args.end c.args.step (Some i)) back
    ∙ sym (ap (looked_up_to c.args.start c.args.end c.args.step) (sym c.number_of.ensures ∙ c.in-Some.is))))
