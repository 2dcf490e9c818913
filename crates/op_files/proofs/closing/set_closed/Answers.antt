use Rattle.std.proofs.Common.{refl, true}
use Rattle.op_work.specs.Work.{WroteAll}
use Rattle.py_model.specs.Plan.{write, done}
use Rattle.py_value.specs.Contents.{nothing}
use Rattle.py_value.specs.Seen.{closed_at, closed_is}
use Rattle.py_value.specs.declared.value.Value.TheVariants.{None as NoneValue}
use Rattle.op_work.proofs.Ending.{writes_then, writes_stop, writes_done}
use Rattle.op_work.proofs.Going.{passes_err}
use Rattle.op_files.proofs.closing.set_closed.Goals as goal

pub returns-in_err-set : goal.returns-in_err-set
returns-in_err-set c = passes_err (λ result. WroteAll (λ table. write (closed_at c.args.o) (closed_is true) (done nothing)) c.args.work.now c.set.new.self result) c.from_residual.result c.from_residual.ensures.1
    (writes_stop (λ table. done nothing) c.in_err-set.field-0.0 c.in_err-set.ensures)

pub returns : goal.returns
returns c = writes_then c.in_ok-set.ensures (writes_done c.set.new.self NoneValue (λ table. done nothing) tt (λ table extends. refl))
