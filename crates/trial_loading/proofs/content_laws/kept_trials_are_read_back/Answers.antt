use Rattle.trial_loading.proofs.ReadingBack.{kept_and_read}
use Rattle.trial_loading.proofs.content_laws.kept_trials_are_read_back.Goals as goal

pub returns : goal.returns
returns c = kept_and_read
