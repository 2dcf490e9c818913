use Rattle.op_work.proofs.Saying.{note_wrote}
use Rattle.op_work.proofs.work.Work.note.Goals as goal

pub returns : goal.returns
returns c = note_wrote c.args.place c.args.name c.requires.first c.set_note.ensures
