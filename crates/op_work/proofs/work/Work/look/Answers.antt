use Rattle.op_work.proofs.Going.{look_comes}
use Rattle.op_work.proofs.work.Work.look.Goals as goal

pub returns : goal.returns
returns c = look_comes c.args.items c.note_looks.result c.note_looks.ensures.done c.note_looks.ensures.unpaid c.note_looks.ensures.same
