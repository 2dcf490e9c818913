use Rattle.op_work.proofs.Going.{count_comes}
use Rattle.op_work.proofs.work.Work.count.Goals as goal

pub returns : goal.returns
returns c = count_comes c.args.characters c.note_characters.result c.note_characters.ensures.done c.note_characters.ensures.unpaid c.note_characters.ensures.same
