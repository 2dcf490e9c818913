use Rattle.model_laws.proofs.key_laws.operations_suit.Goals as goal
use Rattle.py_model.specs.Operations.{plan}

pub returns-clause-suit : goal.returns-clause-suit
returns-clause-suit c = λ store answers op values keyed. (c.plans_suit_stores.ensures store answers (plan op values) (c.operations_are_orderly.ensures op values) keyed).0

pub returns-clause-keyed : goal.returns-clause-keyed
returns-clause-keyed c = λ store answers op values keyed. (c.plans_suit_stores.ensures store answers (plan op values) (c.operations_are_orderly.ensures op values) keyed).1
