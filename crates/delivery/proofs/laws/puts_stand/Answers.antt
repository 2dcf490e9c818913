use Rattle.delivery.proofs.Standing.{stand}
use Rattle.delivery.proofs.laws.puts_stand.Goals as goal

pub returns : goal.returns
returns c = stand
