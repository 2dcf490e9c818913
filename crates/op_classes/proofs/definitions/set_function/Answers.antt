use Rattle.std.proofs.Common.{refl, Some}
use Rattle.py_model.specs.Classes.{define}
use Rattle.py_model.specs.Plan.{notes, write, done}
use Rattle.py_value.specs.Contents.{nothing, function}
use Rattle.py_value.specs.Seen.{bytes_of, var_at, var_is}
use Rattle.py_value.specs.declared.value.Value.TheVariants.{None as NoneValue}
use Rattle.op_work.specs.Work.{Ends}
use Rattle.op_work.proofs.Ending.{ends_writes, writes_then, writes_stop, writes_done}
use Rattle.op_work.proofs.Going.{passes_err}
use Rattle.op_classes.proofs.definitions.set_function.Goals as goal

pub returns-in_err-set : goal.returns-in_err-set
returns-in_err-set c = passes_err (λ result. Ends (λ table. define (bytes_of table c.args.name) (function c.args.place)) c.args.work.now c.set.new.self result)
    c.from_residual.result c.from_residual.ensures.1
    (ends_writes (λ table. define (bytes_of table c.args.name) (function c.args.place)) c.requires.first
    (λ table. notes c.args.place (bytes_of table c.args.name) (write (var_at 0 (bytes_of table c.args.name)) (var_is (Some (function c.args.place))) (done nothing))) (λ table interned extends. refl)
    (writes_then c.note.ensures (writes_stop (λ table. done nothing) c.in_err-set.field-0.0 c.in_err-set.ensures)))

pub returns : goal.returns
returns c = ends_writes (λ table. define (bytes_of table c.args.name) (function c.args.place)) c.requires.first
    (λ table. notes c.args.place (bytes_of table c.args.name) (write (var_at 0 (bytes_of table c.args.name)) (var_is (Some (function c.args.place))) (done nothing))) (λ table interned extends. refl)
    (writes_then c.note.ensures (writes_then c.in_ok-set.ensures (writes_done c.set.new.self NoneValue (λ table. done nothing) tt (λ table extends. refl))))
