use Rattle.std.proofs.Common.{[]}
use Rattle.model_laws.proofs.laws.dicts_are_made.Goals as goal
use Rattle.model_laws.proofs.NewDicts.{display_made, dict_made}

pub returns-clause-display : goal.returns-clause-display
returns-clause-display c = λ store answers items fresh usable. display_made c.tests_are_equality.ensures.values store answers fresh items [] usable tt

pub returns-clause-empty : goal.returns-clause-empty
returns-clause-empty c = λ store answers fresh. dict_made c.tests_are_equality.ensures.values store answers fresh [] tt
