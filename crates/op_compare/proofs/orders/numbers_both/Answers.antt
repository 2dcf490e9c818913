use Rattle.std.proofs.Common.{refl}
use Rattle.py_model.specs.Operands.{with_number, with_numbers}
use Rattle.py_model.specs.Plan.{Plan}
use Rattle.py_value.specs.Contents.{contents}
use Rattle.op_work.specs.Work.{Comes, is_any, as_is}
use Rattle.op_work.proofs.Going.{comes_then, comes_stop, comes_as, passes_err}
use Rattle.op_compare.proofs.orders.numbers_both.Goals as goal

pub returns-in_err-i : goal.returns-in_err-i
returns-in_err-i c = passes_err (λ result. Comes is_any as_is (λ table (go : Unit {0} → Plan). with_numbers (contents table c.args.v) (contents table c.args.w) (λ i j. go tt)) c.args.work.now c.number.new.work result)
    c.from_residual.result c.from_residual.ensures.1 (comes_stop (λ table i go. with_number (contents table c.args.w) (λ j. go tt)) c.in_err-i.ensures)

pub returns-in_err-j : goal.returns-in_err-j
returns-in_err-j c = passes_err (λ result. Comes is_any as_is (λ table (go : Unit {0} → Plan). with_numbers (contents table c.args.v) (contents table c.args.w) (λ i j. go tt)) c.args.work.now c.number-2.new.work result)
    c.from_residual-in_err-j.result c.from_residual-in_err-j.ensures.1
    (comes_then (λ table i go. with_number (contents table c.args.w) (λ j. go tt)) c.in_ok-i.ensures (λ table interned extends go. refl) (comes_stop (λ table j go. go tt) c.in_err-j.ensures))

pub returns : goal.returns
returns c = comes_then (λ table i go. with_number (contents table c.args.w) (λ j. go tt)) c.in_ok-i.ensures (λ table interned extends go. refl)
    (comes_as (λ table j go. go tt) tt c.in_ok-j.ensures tt (λ table interned extends go. refl))
