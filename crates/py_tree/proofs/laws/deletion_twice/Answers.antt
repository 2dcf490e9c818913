use Rattle.py_tree.proofs.NewNumbers.{deletions_join}
use Rattle.py_tree.proofs.laws.deletion_twice.Goals as goal

pub returns : goal.returns
returns c = deletions_join
