use Rattle.slicer.proofs.FindingLaws.{IsLooking}
use Rattle.held_rows.proofs.finding.find_evaluation.Given as goal

abbrev pub invariant-loop-i : goal.invariant-loop-i
invariant-loop-i l = IsLooking l.at l.k l.rows l.i l.seen
