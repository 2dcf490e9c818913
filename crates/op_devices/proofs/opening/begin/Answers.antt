use Rattle.std.proofs.Common.{refl, false}
use Rattle.op_work.specs.Work.{WroteAll}
use Rattle.py_model.specs.Files.{begun}
use Rattle.py_model.specs.Plan.{write, done}
use Rattle.py_value.specs.Contents.{object}
use Rattle.py_value.specs.Seen.{closed_at, closed_is}
use Rattle.py_value.specs.declared.value.Value.TheVariants.{Object}
use Rattle.op_work.proofs.Ending.{writes_then, writes_stop, writes_done}
use Rattle.op_work.proofs.Going.{passes_err}
use Rattle.op_devices.proofs.opening.begin.Goals as goal

pub returns-in_err-set : goal.returns-in_err-set
returns-in_err-set c = passes_err (λ result. WroteAll (λ table. begun c.args.o) c.args.work.now c.set.new.self result) c.from_residual.result c.from_residual.ensures.1
    (writes_stop (λ table. write (closed_at c.args.o) (closed_is false) (done (object c.args.o))) c.in_err-set.field-0.0 c.in_err-set.ensures)

pub returns-in_err-set-2 : goal.returns-in_err-set-2
returns-in_err-set-2 c = passes_err (λ result. WroteAll (λ table. begun c.args.o) c.args.work.now c.set-2.new.self result) c.from_residual-in_err-set-2.result c.from_residual-in_err-set-2.ensures.1
    (writes_then c.in_ok-set.ensures (writes_stop (λ table. done (object c.args.o)) c.in_err-set-2.field-0.0 c.in_err-set-2.ensures))

pub returns : goal.returns
returns c = writes_then c.in_ok-set.ensures (writes_then c.in_ok-set-2.ensures (writes_done c.set-2.new.self (Object c.args.o) (λ table. done (object c.args.o)) tt (λ table extends. refl)))
