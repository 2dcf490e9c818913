use Rattle.op_items.proofs.LineEnds.{opened_reads}
use Rattle.op_items.proofs.lines.read_opened.Goals as goal

pub returns : goal.returns
returns c = opened_reads c.args.o c.args.path c.args.mode c.requires.kind c.read_file.result c.read_file.ensures.there c.read_file.ensures.done c.read_file.ensures.unpaid c.read_file.ensures.same
