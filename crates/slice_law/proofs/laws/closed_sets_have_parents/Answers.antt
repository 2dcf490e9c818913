use Rattle.slice_law.proofs.ClosedSets.{has_parents}
use Rattle.slice_law.proofs.laws.closed_sets_have_parents.Goals as goal

pub returns : goal.returns
returns c = has_parents
