use Rattle.std.proofs.Common.{length}
use Rattle.trace_rows.proofs.PageLaws.{Front}
use Rattle.trace_rows.proofs.page.read_rows.Given as goal

-- what was read, and what is left to read
abbrev pub invariant-loop-rest : goal.invariant-loop-rest
invariant-loop-rest l = Front l.bytes l.rows.items l.rest

abbrev pub decreases-loop-rest : goal.decreases-loop-rest
decreases-loop-rest l = length l.rest
