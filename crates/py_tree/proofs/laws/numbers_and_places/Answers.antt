use Rattle.py_tree.proofs.PlacedLaws.{stands_at, stands_on, inverse, one_owner, all_have_owners}
use Rattle.py_tree.proofs.laws.numbers_and_places.Goals as goal

pub returns : goal.returns
returns c = record { numbers = stands_at; places = stands_on; inverse = inverse; owner = one_owner; owned = all_have_owners }
