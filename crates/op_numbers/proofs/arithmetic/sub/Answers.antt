use Rattle.std.proofs.Common.{rules, ◌≡◌, refl, subst, map, ℤ, ◌-ℤ◌, w64, to_z, of_z, SomeIff, FitsSigned}
use Rattle.op_work.specs.Work.{Ends}
use Rattle.py_model.specs.Arithmetic.{sub_plan}
use Rattle.py_model.specs.Operands.{gives_int}
use Rattle.py_value.specs.Contents.{contents}
use Rattle.op_work.proofs.Ending.{ends_then, ends_stop}
use Rattle.op_work.proofs.Going.{passes_err}
use Rattle.op_numbers.proofs.arithmetic.sub.Goals as goal

pub returns-in_err-i : goal.returns-in_err-i
returns-in_err-i c = passes_err (λ result. Ends (λ table. sub_plan (map (contents table) c.args.operands.now)) c.args.work.now c.two_numbers.new.work result)
    c.from_residual.result c.from_residual.ensures.1 (ends_stop (λ table x. gives_int (x.0 -ℤ x.1)) _ c.in_err-i.ensures)

pub returns : goal.returns
returns c =
    let first : to_z w64 (of_z w64 c.in_ok-i.i) ≡ c.in_ok-i.i = search rules in
    let second : to_z w64 (of_z w64 c.in_ok-i.j) ≡ c.in_ok-i.j = search rules in
    let half = subst (λ (k : ℤ). SomeIff c.checked_sub.result (FitsSigned w64 (k -ℤ (to_z w64 (of_z w64 c.in_ok-i.j)))) (k -ℤ (to_z w64 (of_z w64 c.in_ok-i.j)))) first c.checked_sub.ensures in
    let found = subst (λ (k : ℤ). SomeIff c.checked_sub.result (FitsSigned w64 (c.in_ok-i.i -ℤ k)) (c.in_ok-i.i -ℤ k)) second half in
    ends_then (λ table x. gives_int (x.0 -ℤ x.1)) c.in_ok-i.ensures (λ table interned extends. refl) (c.int_answer.ensures (c.in_ok-i.i -ℤ c.in_ok-i.j) found)
