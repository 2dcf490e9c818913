use Rattle.feedings.proofs.FindLaws.{IsLooking}
use Rattle.feedings.proofs.finding.find_time.Given as goal

abbrev pub invariant-loop-row : goal.invariant-loop-row
invariant-loop-row l = IsLooking l.at l.k l.rows l.row-index l.seen l.time
