use Rattle.py_tree.proofs.DeletionLaws.{nothing_deleted}
use Rattle.py_tree.proofs.laws.deletion_of_nothing.Goals as goal

pub returns : goal.returns
returns c = nothing_deleted
