use Rattle.py_tree.proofs.SpanLaws.{statements_move, parents_stay, owners_stay, places_stay, numbers_stay, place_owners_stay, binding_stays, functions_move, function_moves, classes_move, local_same, deletion_moves}
use Rattle.py_tree.proofs.laws.spans_are_not_looked_at.Goals as goal

pub returns : goal.returns
returns c = record {
  statements = statements_move;
  parents = parents_stay;
  owners = owners_stay;
  placed = places_stay;
  numbers = numbers_stay;
  node_owners = place_owners_stay;
  bound = binding_stays;
  functions = functions_move;
  places = function_moves;
  classes = classes_move;
  local = local_same;
  deletion = deletion_moves;
}
