use Rattle.model_laws.proofs.orders.comparisons_do_as_the_table.Goals as goal
use Rattle.model_laws.proofs.Comparisons.{equal_does, unequal_does, lt_does, le_does, gt_does, ge_does, equals_as}

pub returns-clause-eq : goal.returns-clause-eq
returns-clause-eq c = λ store answers v w dicts. equal_does c.tests_are_equality.ensures.values store answers dicts v w

pub returns-clause-ne : goal.returns-clause-ne
returns-clause-ne c = λ store answers v w dicts. unequal_does c.tests_are_equality.ensures.values store answers dicts v w

pub returns-clause-lt : goal.returns-clause-lt
returns-clause-lt c = λ store answers v w dicts. lt_does c.tests_are_equality.ensures.values store answers dicts v w

pub returns-clause-le : goal.returns-clause-le
returns-clause-le c = λ store answers v w dicts. le_does c.tests_are_equality.ensures.values store answers dicts v w

pub returns-clause-gt : goal.returns-clause-gt
returns-clause-gt c = λ store answers v w dicts. gt_does c.tests_are_equality.ensures.values store answers dicts v w

pub returns-clause-ge : goal.returns-clause-ge
returns-clause-ge c = λ store answers v w dicts. ge_does c.tests_are_equality.ensures.values store answers dicts v w

pub returns-clause-members : goal.returns-clause-members
returns-clause-members c = λ store answers v w how dicts is. equals_as c.tests_are_equality.ensures.values store answers dicts v w how is
