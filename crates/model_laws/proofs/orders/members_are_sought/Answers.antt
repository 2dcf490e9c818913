use Rattle.model_laws.proofs.orders.members_are_sought.Goals as goal
use Rattle.model_laws.proofs.Seeking.{list_contains, list_lacks, list_index, tuple_contains, tuple_lacks}

pub returns-clause-contains : goal.returns-clause-contains
returns-clause-contains c = λ store answers o items v dicts listed. list_contains c.tests_are_equality.ensures.values store answers dicts o v items listed

pub returns-clause-lacks : goal.returns-clause-lacks
returns-clause-lacks c = λ store answers o items v dicts listed. list_lacks c.tests_are_equality.ensures.values store answers dicts o v items listed

pub returns-clause-index : goal.returns-clause-index
returns-clause-index c = λ store answers o items v dicts listed. list_index c.tests_are_equality.ensures.values store answers dicts o v items listed

pub returns-clause-tuple_contains : goal.returns-clause-tuple_contains
returns-clause-tuple_contains c = λ store answers v parts dicts. tuple_contains c.tests_are_equality.ensures.values store answers dicts v parts

pub returns-clause-tuple_lacks : goal.returns-clause-tuple_lacks
returns-clause-tuple_lacks c = λ store answers v parts dicts. tuple_lacks c.tests_are_equality.ensures.values store answers dicts v parts
