use Rattle.std.proofs.Common.{refl}
use Rattle.py_model.specs.Classes.{class_begun}
use Rattle.py_model.specs.Plan.{notes, write, done}
use Rattle.py_value.specs.Contents.{class}
use Rattle.py_value.specs.Seen.{bytes_of, base_at, base_is}
use Rattle.py_value.specs.declared.value.Value.TheVariants.{Class}
use Rattle.op_work.specs.Work.{Ends, seen_maybe}
use Rattle.op_work.proofs.Ending.{ends_writes, writes_then, writes_stop, writes_done}
use Rattle.op_work.proofs.Going.{passes_err}
use Rattle.op_classes.proofs.Defining.{base_named, maybe_on}
use Rattle.op_classes.proofs.definitions.set_base.Goals as goal

pub set-requires-clause-named : goal.set-requires-clause-named
set-requires-clause-named c = (refl, (tt, base_named c.note.new.self.values c.args.base (maybe_on c.note.ensures.kept.extends c.args.base c.requires.base)))

pub returns-in_err-set : goal.returns-in_err-set
returns-in_err-set c = passes_err (λ result. Ends (λ table. class_begun (bytes_of table c.args.name) (class c.args.place) (seen_maybe table c.args.base)) c.args.work.now c.set.new.self result)
    c.from_residual.result c.from_residual.ensures.1
    (ends_writes (λ table. class_begun (bytes_of table c.args.name) (class c.args.place) (seen_maybe table c.args.base)) c.requires.first
    (λ table. notes c.args.place (bytes_of table c.args.name) (write (base_at c.args.place) (base_is (seen_maybe table c.args.base)) (done (class c.args.place)))) (λ table interned extends. refl)
    (writes_then c.note.ensures (writes_stop (λ table. done (class c.args.place)) c.in_err-set.field-0.0 c.in_err-set.ensures)))

pub returns : goal.returns
returns c = ends_writes (λ table. class_begun (bytes_of table c.args.name) (class c.args.place) (seen_maybe table c.args.base)) c.requires.first
    (λ table. notes c.args.place (bytes_of table c.args.name) (write (base_at c.args.place) (base_is (seen_maybe table c.args.base)) (done (class c.args.place)))) (λ table interned extends. refl)
    (writes_then c.note.ensures (writes_then c.in_ok-set.ensures (writes_done c.set.new.self (Class c.args.place) (λ table. done (class c.args.place)) tt (λ table extends. refl))))
