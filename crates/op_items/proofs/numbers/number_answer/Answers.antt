use Rattle.std.proofs.Common.{rules, ◌≡◌, ◌∙◌, sym, ap, ℤ, w64, to_z, of_z}
use Rattle.py_model.specs.Lists.{number_at}
use Rattle.py_model.specs.Operands.{gives}
use Rattle.py_model.specs.Plan.{looks}
use Rattle.py_value.specs.Contents.{contents, int}
use Rattle.py_value.specs.declared.value.Value.TheVariants.{Int}
use Rattle.op_numbers.proofs.EndsAlike.{ends_as}
use Rattle.op_items.proofs.numbers.number_answer.Goals as goal

pub returns : goal.returns
returns c =
    let back : to_z w64 (of_z w64 c.in-Some.number) ≡ c.in-Some.number = search rules in
    let start_is : to_z w64 (of_z w64 c.args.start) ≡ c.args.start = search rules in
    let step_is : to_z w64 (of_z w64 c.args.step) ≡ c.args.step = search rules in
    ends_as (λ table. looks 1 (gives (number_at c.args.start c.args.step c.args.p))) (λ table. looks 1 (gives (contents table (Int (to_z w64 (of_z w64 c.in-Some.number))))))
    (λ table interned extends. ap (λ (n : ℤ). looks 1 (gives (number_at n c.args.step c.args.p))) (sym start_is)
    ∙ (ap (λ (n : ℤ). looks 1 (gives (number_at (to_z w64 (of_z w64 c.args.start)) n c.args.p))) (sym step_is)
    ∙ ap (λ (n : ℤ). looks 1 (gives (int n))) (sym (c.number_at.ensures c.in-Some.number c.in-Some.is) ∙ sym back))) c.look_answer.ensures
