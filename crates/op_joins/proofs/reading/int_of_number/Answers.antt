use Rattle.std.proofs.Common.{rules, ◌≡◌, refl, sym, subst, ℤ, w64, to_z, of_z, SomeIff, Some, FitsSigned}
use Rattle.py_model.specs.Operands.{with_number, gives_int}
use Rattle.py_value.specs.Contents.{contents}
use Rattle.op_work.specs.Work.{Ends}
use Rattle.op_work.proofs.Ending.{ends_then, ends_stop}
use Rattle.op_work.proofs.Going.{passes_err}
use Rattle.op_joins.proofs.reading.int_of_number.Goals as goal

pub returns-in_err-i : goal.returns-in_err-i
returns-in_err-i c = passes_err (λ result. Ends (λ table. with_number (contents table c.args.v) gives_int) c.args.work.now c.number.new.work result)
    c.from_residual.result c.from_residual.ensures.1 (ends_stop (λ table i. gives_int i) _ c.in_err-i.ensures)

pub returns : goal.returns
returns c =
    let back : to_z w64 (of_z w64 c.in_ok-i.i) ≡ c.in_ok-i.i = search rules in
    let fits : FitsSigned w64 c.in_ok-i.i = search rules in
    ends_then (λ table i. gives_int i) c.in_ok-i.ensures (λ table interned extends. refl)
    (c.int_answer.ensures c.in_ok-i.i (subst (λ (k : ℤ). SomeIff (Some k) (FitsSigned w64 c.in_ok-i.i) c.in_ok-i.i) (sym back) (fits, refl)))
