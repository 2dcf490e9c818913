use Rattle.delivery.proofs.Ways.{tells_prefixes}
use Rattle.delivery.proofs.laws.prefixes_are_written.Goals as goal

pub returns : goal.returns
returns c = tells_prefixes
