use Rattle.model_laws.proofs.orders.best_items_are_found.Goals as goal
use Rattle.model_laws.proofs.Bests.{greatest, least}
use Rattle.model_laws.proofs.Comparisons.{max_does, max_of_does, min_does, min_of_does}

pub returns-clause-max : goal.returns-clause-max
returns-clause-max c = λ store answers v items dicts has. max_does c.tests_are_equality.ensures.values store answers dicts v items has

pub returns-clause-max_of : goal.returns-clause-max_of
returns-clause-max_of c = λ store answers v w more dicts. max_of_does c.tests_are_equality.ensures.values store answers dicts v w more

pub returns-clause-greatest : goal.returns-clause-greatest
returns-clause-greatest c = greatest

pub returns-clause-min : goal.returns-clause-min
returns-clause-min c = λ store answers v items dicts has. min_does c.tests_are_equality.ensures.values store answers dicts v items has

pub returns-clause-min_of : goal.returns-clause-min_of
returns-clause-min_of c = λ store answers v w more dicts. min_of_does c.tests_are_equality.ensures.values store answers dicts v w more

pub returns-clause-least : goal.returns-clause-least
returns-clause-least c = least
