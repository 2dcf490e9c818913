use Rattle.model_laws.proofs.laws.attributes_do_as_the_table.Goals as goal
use Rattle.model_laws.proofs.Dicts.{setattr_does, getattr_does, find_does}

pub returns-clause-setattr : goal.returns-clause-setattr
returns-clause-setattr c = λ store answers of o pairs name item is. setattr_does c.tests_are_equality.ensures.values store answers of o pairs is name item

pub returns-clause-getattr : goal.returns-clause-getattr
returns-clause-getattr c = λ store answers of o pairs name pair is found. getattr_does c.tests_are_equality.ensures.values store answers of o pairs is name pair found

pub returns-clause-find : goal.returns-clause-find
returns-clause-find c = λ store answers of o pairs name pair is found. find_does c.tests_are_equality.ensures.values store answers of o pairs is name pair found
