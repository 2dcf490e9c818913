use Rattle.replays.proofs.OneReplay.{slice_reached, slice_value}
use Rattle.replays.proofs.laws.replayed_slices_give_the_value.Goals as goal

pub returns-clause-reached : goal.returns-clause-reached
returns-clause-reached c = slice_reached

pub returns-clause-value : goal.returns-clause-value
returns-clause-value c = slice_value
