use Rattle.py_tree.proofs.PlaceLaws.{nodes_stay, statements_stay}
use Rattle.py_tree.proofs.laws.deletion_keeps_places.Goals as goal

pub returns : goal.returns
returns c = record { nodes = nodes_stay; statements = statements_stay }
