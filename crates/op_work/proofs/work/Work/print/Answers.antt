use Rattle.op_work.proofs.Saying.{print_comes}
use Rattle.op_work.proofs.work.Work.print.Goals as goal

pub returns : goal.returns
returns c = print_comes c.args.bytes.now c.note_print.result c.note_print.ensures.done c.note_print.ensures.memory c.note_print.ensures.same
