use Rattle.trace_rows.proofs.PartsExact.{answer_reads}
use Rattle.trace_rows.proofs.laws.parts_are_read_exactly.Goals as goal

pub returns : goal.returns
returns c = answer_reads
