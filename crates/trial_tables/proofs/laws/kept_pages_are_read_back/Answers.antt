use Rattle.trial_tables.proofs.Staying.{pages_back}
use Rattle.trial_tables.proofs.laws.kept_pages_are_read_back.Goals as goal

pub returns : goal.returns
returns c = pages_back
