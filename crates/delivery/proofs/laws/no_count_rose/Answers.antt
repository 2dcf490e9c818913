use Rattle.delivery.proofs.Reading.{quiet_is}
use Rattle.delivery.proofs.laws.no_count_rose.Goals as goal

pub returns : goal.returns
returns c = quiet_is
