use Rattle.slice_law.proofs.ClosedSets.{meet}
use Rattle.slice_law.proofs.laws.closed_sets_meet.Goals as goal

pub returns : goal.returns
returns c = meet
