use Rattle.op_work.specs.Work.{WroteAll}
use Rattle.py_model.specs.Files.{begun}
use Rattle.py_model.specs.Plan.{opens}
use Rattle.py_value.specs.Seen.{bytes_of}
use Rattle.op_work.proofs.Ending.{writes_then, writes_stop}
use Rattle.op_work.proofs.Going.{passes_err}
use Rattle.op_devices.proofs.opening.begin_open.Goals as goal

pub returns-in_err-open : goal.returns-in_err-open
returns-in_err-open c = passes_err (λ result. WroteAll (λ table. opens (bytes_of table c.args.path) (begun c.args.o)) c.args.work.now c.open.new.self result) c.from_residual.result c.from_residual.ensures.1
    (writes_stop (λ table. begun c.args.o) c.in_err-open.field-0.0 c.in_err-open.ensures)

pub returns : goal.returns
returns c = writes_then c.in_ok-open.ensures c.begin.ensures
