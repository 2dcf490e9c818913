use Rattle.std.proofs.Common.{refl, map}
use Rattle.py_model.specs.Operands.{of_one}
use Rattle.py_model.specs.Printing.{repr_of}
use Rattle.py_value.specs.Contents.{contents}
use Rattle.op_work.specs.Work.{Ends}
use Rattle.op_work.proofs.Ending.{ends_then, ends_stop}
use Rattle.op_work.proofs.Going.{passes_err}
use Rattle.op_printing.proofs.operations.repr.Goals as goal

pub returns-in_err-v : goal.returns-in_err-v
returns-in_err-v c = passes_err (λ result. Ends (λ table. of_one repr_of (map (contents table) c.args.operands.now)) c.args.work.now c.one.new.work result)
    c.from_residual.result c.from_residual.ensures.1 (ends_stop (λ table v. repr_of v) _ c.in_err-v.ensures)

pub returns : goal.returns
returns c = ends_then (λ table v. repr_of v) c.in_ok-v.ensures (λ table interned extends. refl) c.answer.ensures
