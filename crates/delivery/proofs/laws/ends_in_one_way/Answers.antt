use Rattle.delivery.proofs.Ways.{ends_in_a_way}
use Rattle.delivery.proofs.laws.ends_in_one_way.Goals as goal

pub returns : goal.returns
returns c = ends_in_a_way
