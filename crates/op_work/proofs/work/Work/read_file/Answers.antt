use Rattle.op_work.proofs.FileReads.{file_comes}
use Rattle.op_work.proofs.work.Work.read_file.Goals as goal

pub returns-clause-there : goal.returns-clause-there
returns-clause-there c there = file_comes c.args.path c.requires there c.note_read.result c.note_read.ensures.done c.note_read.ensures.unpaid c.note_read.ensures.same
