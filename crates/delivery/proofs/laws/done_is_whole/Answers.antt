use Rattle.delivery.proofs.Reading.{done_is}
use Rattle.delivery.proofs.laws.done_is_whole.Goals as goal

pub returns : goal.returns
returns c = done_is
