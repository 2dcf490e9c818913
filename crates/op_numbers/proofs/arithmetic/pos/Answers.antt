use Rattle.std.proofs.Common.{rules, ◌≡◌, refl, subst, map, ℤ, w64, to_z, of_z, SomeIff, Some, sym, FitsSigned}
use Rattle.op_work.specs.Work.{Ends}
use Rattle.py_model.specs.Arithmetic.{pos_plan}
use Rattle.py_model.specs.Operands.{gives_int}
use Rattle.py_value.specs.Contents.{contents}
use Rattle.op_work.proofs.Ending.{ends_then, ends_stop}
use Rattle.op_work.proofs.Going.{passes_err}
use Rattle.op_numbers.proofs.arithmetic.pos.Goals as goal

pub returns-in_err-i : goal.returns-in_err-i
returns-in_err-i c = passes_err (λ result. Ends (λ table. pos_plan (map (contents table) c.args.operands.now)) c.args.work.now c.one_number.new.work result)
    c.from_residual.result c.from_residual.ensures.1 (ends_stop (λ table i. gives_int i) _ c.in_err-i.ensures)

pub returns : goal.returns
returns c =
    let back : to_z w64 (of_z w64 c.in_ok-i.i) ≡ c.in_ok-i.i = search rules in
    let fits : FitsSigned w64 c.in_ok-i.i = search rules in
    ends_then (λ table i. gives_int i) c.in_ok-i.ensures (λ table interned extends. refl)
    (c.int_answer.ensures c.in_ok-i.i (subst (λ (k : ℤ). SomeIff (Some k) (FitsSigned w64 c.in_ok-i.i) c.in_ok-i.i) (sym back) (fits, refl)))
