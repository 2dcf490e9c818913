use Rattle.trial_slice.proofs.OneSlice.{one_slice, not_lacking}
use Rattle.trial_slice.proofs.laws.one_slice_of_a_trial.Goals as goal

pub returns-clause-slice : goal.returns-clause-slice
returns-clause-slice c = one_slice

pub returns-clause-never_both : goal.returns-clause-never_both
returns-clause-never_both c = not_lacking
