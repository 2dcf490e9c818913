use Rattle.trial_value.proofs.OneValue.{one_value, not_lacking}
use Rattle.trial_value.proofs.laws.one_value_of_a_trial.Goals as goal

pub returns-clause-value : goal.returns-clause-value
returns-clause-value c = one_value

pub returns-clause-never_both : goal.returns-clause-never_both
returns-clause-never_both c = not_lacking
