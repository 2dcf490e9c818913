use Rattle.std.proofs.Common.{refl}
use Rattle.py_model.specs.Plan.{change as plan_change}
use Rattle.py_value.specs.Seen.{location_seen, change_seen}
use Rattle.py_value.specs.declared.access.Access.TheVariants.{Update}
use Rattle.op_work.proofs.Going.{wrote}
use Rattle.op_work.proofs.work.Work.update.Goals as goal

pub returns : goal.returns
returns c = wrote (λ table. plan_change (location_seen table c.args.l) (change_seen table c.args.how)) (Update c.args.l c.args.how) (λ table store made rest. refl)
    c.note_update.result c.note_update.ensures.done c.note_update.ensures.unpaid c.note_update.ensures.same
