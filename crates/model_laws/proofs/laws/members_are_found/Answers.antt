use Rattle.model_laws.proofs.laws.members_are_found.Goals as goal
use Rattle.model_laws.proofs.Members.{in_does, index_does, same_number_equal, other_number_differs, texts_compared, object_itself, not_in_does, in_tuple, not_in_tuple}

pub returns-clause-contains : goal.returns-clause-contains
returns-clause-contains c = λ store answers o items v place listed found. in_does store answers o items listed v place found

pub returns-clause-index : goal.returns-clause-index
returns-clause-index c = λ store answers o items v place listed found. index_does store answers o items listed v place found

pub returns-clause-same_number : goal.returns-clause-same_number
returns-clause-same_number c = same_number_equal

pub returns-clause-other_number : goal.returns-clause-other_number
returns-clause-other_number c = other_number_differs

pub returns-clause-texts : goal.returns-clause-texts
returns-clause-texts c = texts_compared

pub returns-clause-itself : goal.returns-clause-itself
returns-clause-itself c = object_itself

pub returns-clause-lacks : goal.returns-clause-lacks
returns-clause-lacks c = λ store answers o items v place listed found. not_in_does store answers o items listed v place found

pub returns-clause-tuple_contains : goal.returns-clause-tuple_contains
returns-clause-tuple_contains c = in_tuple

pub returns-clause-tuple_lacks : goal.returns-clause-tuple_lacks
returns-clause-tuple_lacks c = not_in_tuple
