use Rattle.slice_law.proofs.Reaching.{reachable_reached}
use Rattle.slice_law.proofs.laws.reachable_is_reached.Goals as goal

pub returns : goal.returns
returns c = reachable_reached
