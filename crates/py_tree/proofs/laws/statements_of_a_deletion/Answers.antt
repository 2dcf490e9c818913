use Rattle.py_tree.proofs.RemainingLaws.{left, closed_left, standings_left, parents_left, functions_left, places_left}
use Rattle.py_tree.proofs.laws.statements_of_a_deletion.Goals as goal

pub returns : goal.returns
returns c = record { statements = left; closed = closed_left; found = standings_left; parents = parents_left; functions = functions_left; places = places_left }
