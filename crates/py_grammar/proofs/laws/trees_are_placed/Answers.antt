use Rattle.py_grammar.proofs.TreePlaces.{tree_is_placed, deleted_is_placed}
use Rattle.py_grammar.proofs.laws.trees_are_placed.Goals as goal

pub returns : goal.returns
returns c = record { told = tree_is_placed; kept = deleted_is_placed }
