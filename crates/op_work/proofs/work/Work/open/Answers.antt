use Rattle.op_work.proofs.Saying.{open_wrote}
use Rattle.op_work.proofs.work.Work.open.Goals as goal

pub returns : goal.returns
returns c = open_wrote c.args.path c.note_open.result c.note_open.ensures.done c.note_open.ensures.memory c.note_open.ensures.same
