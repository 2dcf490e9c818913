use Rattle.py_model.specs.Sorting.{in_order}
use Rattle.model_laws.proofs.orders.items_are_sorted.Goals as goal
use Rattle.model_laws.proofs.Alone.{sorted_does, sorted_refused}
use Rattle.model_laws.proofs.Lists.{sort_does, sort_refused}
use Rattle.model_laws.proofs.OneOrder.{one_sorted}
use Rattle.model_laws.proofs.Sorting.{sorted_of}

pub returns-clause-sort : goal.returns-clause-sort
returns-clause-sort c = λ store answers o items listed none. (in_order items, (sorted_of store items none, sort_does store answers o items listed none))

pub returns-clause-sort_refused : goal.returns-clause-sort_refused
returns-clause-sort_refused c = λ store answers o items number words listed refused. sort_refused store answers o items listed number words refused

pub returns-clause-sorted : goal.returns-clause-sorted
returns-clause-sorted c = λ store answers v items has none. (in_order items, (sorted_of store items none, sorted_does store answers v items has none))

pub returns-clause-sorted_refused : goal.returns-clause-sorted_refused
returns-clause-sorted_refused c = λ store answers v items number words has refused. sorted_refused store answers v items has number words refused

pub returns-clause-one : goal.returns-clause-one
returns-clause-one c = one_sorted
