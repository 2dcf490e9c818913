use Rattle.std.proofs.Common.{refl}
use Rattle.py_model.specs.Plan.{write}
use Rattle.py_value.specs.Seen.{location_seen, content_seen}
use Rattle.py_value.specs.declared.access.Access.TheVariants.{Set}
use Rattle.op_work.proofs.Going.{wrote}
use Rattle.op_work.proofs.work.Work.set.Goals as goal

pub returns : goal.returns
returns c = wrote (λ table. write (location_seen table c.args.l) (content_seen table c.args.content)) (Set c.args.l c.args.content) (λ table store made rest. refl)
    c.note_set.result c.note_set.ensures.done c.note_set.ensures.unpaid c.note_set.ensures.same
