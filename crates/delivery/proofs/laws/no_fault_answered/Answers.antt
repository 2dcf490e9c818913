use Rattle.delivery.proofs.Reading.{planned_is}
use Rattle.delivery.proofs.laws.no_fault_answered.Goals as goal

pub returns : goal.returns
returns c = planned_is
