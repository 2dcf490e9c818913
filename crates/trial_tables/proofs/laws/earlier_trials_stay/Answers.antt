use Rattle.trial_tables.proofs.Staying.{all_stays, new_is_current}
use Rattle.trial_tables.proofs.laws.earlier_trials_stay.Goals as goal

pub returns-clause-stays : goal.returns-clause-stays
returns-clause-stays c = all_stays

pub returns-clause-current : goal.returns-clause-current
returns-clause-current c = new_is_current
