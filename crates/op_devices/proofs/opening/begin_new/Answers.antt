use Rattle.std.proofs.Common.{sym, ap, List, ℕ, []}
use Rattle.op_work.specs.Work.{WroteAll}
use Rattle.op_devices.specs.Opening.{made_new}
use Rattle.op_devices.proofs.EndsAt.{wrote_equal}
use Rattle.op_texts.proofs.Taken.{bytes_stay}
use Rattle.op_work.proofs.Ending.{writes_then, writes_stop}
use Rattle.op_work.proofs.Going.{passes_err, extends_then}
use Rattle.py_model.specs.Files.{begun}
use Rattle.py_model.specs.Plan.{write, opens}
use Rattle.py_value.specs.Seen.{bytes_of, file_at, file_is}
use Rattle.op_devices.proofs.opening.begin_new.Goals as goal

pub returns-in_err-set : goal.returns-in_err-set
returns-in_err-set c = passes_err (λ result. WroteAll (λ table. made_new (bytes_of table c.args.path) c.args.o) c.args.work.now c.set.new.self result) c.from_residual.result c.from_residual.ensures.1
    (wrote_equal (λ table. made_new (bytes_of table c.args.path) c.args.o)
    (λ table extends. ap (λ (bs : List ℕ). write (file_at (bytes_of table c.args.path)) (file_is bs) (opens (bytes_of table c.args.path) (begun c.args.o)))
    (sym (bytes_stay c.args.work.now.values table c.args.empty [] c.requires.empty (extends_then c.set.ensures.kept.extends extends))))
    (writes_stop (λ table. opens (bytes_of table c.args.path) (begun c.args.o)) c.in_err-set.field-0.0 c.in_err-set.ensures))

pub returns : goal.returns
returns c = wrote_equal (λ table. made_new (bytes_of table c.args.path) c.args.o)
    (λ table extends. ap (λ (bs : List ℕ). write (file_at (bytes_of table c.args.path)) (file_is bs) (opens (bytes_of table c.args.path) (begun c.args.o)))
    (sym (bytes_stay c.args.work.now.values table c.args.empty [] c.requires.empty (extends_then c.set.ensures.kept.extends (extends_then c.begin_open.ensures.kept.extends extends)))))
    (writes_then c.in_ok-set.ensures c.begin_open.ensures)
