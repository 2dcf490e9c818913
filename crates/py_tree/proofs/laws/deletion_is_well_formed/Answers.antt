use Rattle.py_tree.proofs.PlaceLaws.{deleted_is_well_formed}
use Rattle.py_tree.proofs.laws.deletion_is_well_formed.Goals as goal

pub returns : goal.returns
returns c = deleted_is_well_formed
