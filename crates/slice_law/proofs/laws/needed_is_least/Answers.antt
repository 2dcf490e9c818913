use Rattle.slice_law.proofs.ClosedSets.{needed_least}
use Rattle.slice_law.proofs.laws.needed_is_least.Goals as goal

pub returns : goal.returns
returns c = needed_least
