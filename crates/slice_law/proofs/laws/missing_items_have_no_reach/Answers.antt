use Rattle.slice_law.proofs.MissingItems.{unreached}
use Rattle.slice_law.proofs.laws.missing_items_have_no_reach.Goals as goal

pub returns : goal.returns
returns c = unreached
