use Rattle.std.proofs.Common.{refl, map}
use Rattle.op_numbers.specs.Numbers.{of_number}
use Rattle.op_work.specs.Work.{Comes, is_any, as_is}
use Rattle.py_model.specs.Operands.{with_number}
use Rattle.py_value.specs.Contents.{contents}
use Rattle.op_work.proofs.Going.{comes_then, comes_stop, passes_err}
use Rattle.op_numbers.proofs.operands.one_number.Goals as goal

pub returns-in_err-v : goal.returns-in_err-v
returns-in_err-v c = passes_err (λ result. Comes is_any as_is (λ table. of_number (map (contents table) c.args.operands.now)) c.args.work.now c.one.new.work result)
    c.from_residual.result c.from_residual.ensures.1 (comes_stop (λ table v go. with_number v go) c.in_err-v.ensures)

pub returns : goal.returns
returns c = comes_then (λ table v go. with_number v go) c.in_ok-v.ensures (λ table interned extends go. refl) c.number.ensures
