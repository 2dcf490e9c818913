use Rattle.op_work.specs.Work.{WroteAll}
use Rattle.py_model.specs.Plan.{write, done_at_end}
use Rattle.py_value.specs.Seen.{offset_at, offset_is}
use Rattle.op_work.proofs.Ending.{writes_then, writes_stop}
use Rattle.op_work.proofs.Going.{passes_err}
use Rattle.op_items.proofs.LineEnds.{writes_at_end}
use Rattle.op_items.proofs.lines.at_end.Goals as goal

pub returns-in_err-set : goal.returns-in_err-set
returns-in_err-set c = passes_err (λ result. WroteAll (λ table. write (offset_at c.args.o) (offset_is c.args.offset) done_at_end) c.args.work.now c.set.new.self result) c.from_residual.result c.from_residual.ensures.1
    (writes_stop (λ table. done_at_end) c.in_err-set.field-0.0 c.in_err-set.ensures)

pub returns : goal.returns
returns c = writes_then c.in_ok-set.ensures (writes_at_end c.set.new.self)
