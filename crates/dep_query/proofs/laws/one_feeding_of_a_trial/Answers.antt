use Rattle.dep_query.proofs.OneFeeding.{one_feeding, not_lacking}
use Rattle.dep_query.proofs.laws.one_feeding_of_a_trial.Goals as goal

pub returns-clause-text : goal.returns-clause-text
returns-clause-text c = one_feeding

pub returns-clause-never_both : goal.returns-clause-never_both
returns-clause-never_both c = not_lacking
