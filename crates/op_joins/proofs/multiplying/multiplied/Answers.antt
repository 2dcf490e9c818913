use Rattle.std.proofs.Common.{rules, ◌≡◌, ◌∙◌, sym, ap, subst, None, Some, ℤ, ◌*ℤ◌, w64, to_z, of_z, SomeIff, FitsSigned}
use Rattle.py_model.specs.Arithmetic.{multiplied, repeats}
use Rattle.py_model.specs.Numbers.{times}
use Rattle.py_model.specs.Operands.{gives_int}
use Rattle.py_value.specs.Contents.{contents}
use Rattle.op_numbers.proofs.EndsAlike.{ends_as}
use Rattle.op_work.proofs.Ending.{ends_fault}
use Rattle.op_joins.proofs.ProductPlans.{product_is}
use Rattle.op_joins.proofs.multiplying.multiplied.Goals as goal

pub returns-in-Some-Some : goal.returns-in-Some-Some
returns-in-Some-Some c =
    let i = c.in-Some-Some.i in let j = c.in-Some-Some.j in
    let first : to_z w64 (of_z w64 i) ≡ i = search rules in
    let second : to_z w64 (of_z w64 j) ≡ j = search rules in
    let half = subst (λ (k : ℤ). SomeIff c.checked_mul.result (FitsSigned w64 (k *ℤ to_z w64 (of_z w64 j))) (k *ℤ to_z w64 (of_z w64 j))) first c.checked_mul.ensures in
    let found = subst (λ (k : ℤ). SomeIff c.checked_mul.result (FitsSigned w64 (i *ℤ k)) (i *ℤ k)) second half in
    ends_as (λ table. multiplied (contents table c.args.v) (contents table c.args.w)) (λ table. gives_int (i *ℤ j))
    (λ table interned extends. product_is table c.args.v c.args.w (Some i) (Some j) (sym c.number_of.ensures ∙ c.in-Some-Some.is-0) (sym c.number_of-2.ensures ∙ c.in-Some-Some.is-1))
    (c.int_answer.ensures (i *ℤ j) found)

pub returns-in-Some-None : goal.returns-in-Some-None
returns-in-Some-None c =
    let i = c.in-Some-None.i in
    let back : to_z w64 (of_z w64 i) ≡ i = search rules in
    ends_as (λ table. multiplied (contents table c.args.v) (contents table c.args.w)) (λ table. repeats (contents table c.args.w) c.times_of.result)
    (λ table interned extends. product_is table c.args.v c.args.w (Some i) None (sym c.number_of.ensures ∙ c.in-Some-None.is-0) (sym c.number_of-2.ensures ∙ c.in-Some-None.is-1)
    ∙ ap (repeats (contents table c.args.w)) (sym (c.times_of.ensures ∙ ap times back)))
    c.repeat.ensures

pub returns-in-None-Some : goal.returns-in-None-Some
returns-in-None-Some c =
    let j = c.in-None-Some.j in
    let back : to_z w64 (of_z w64 j) ≡ j = search rules in
    ends_as (λ table. multiplied (contents table c.args.v) (contents table c.args.w)) (λ table. repeats (contents table c.args.v) c.times_of-in-None-Some.result)
    (λ table interned extends. product_is table c.args.v c.args.w None (Some j) (sym c.number_of.ensures ∙ c.in-None-Some.is-0) (sym c.number_of-2.ensures ∙ c.in-None-Some.is-1)
    ∙ ap (repeats (contents table c.args.v)) (sym (c.times_of-in-None-Some.ensures ∙ ap times back)))
    c.repeat-in-None-Some.ensures

pub returns-in-None-None : goal.returns-in-None-None
returns-in-None-None c = ends_fault (λ table. multiplied (contents table c.args.v) (contents table c.args.w)) 9 _ c.fault.result c.fault.ensures
    (λ table interned extends. product_is table c.args.v c.args.w None None (sym c.number_of.ensures ∙ c.in-None-None.is-0) (sym c.number_of-2.ensures ∙ c.in-None-None.is-1))
