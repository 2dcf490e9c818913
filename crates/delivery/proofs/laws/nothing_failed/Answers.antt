use Rattle.delivery.proofs.Reading.{went_well}
use Rattle.delivery.proofs.laws.nothing_failed.Goals as goal

pub returns : goal.returns
returns c = went_well
