use Rattle.trial_replay.proofs.OneReplay.{one_replay_at, not_lacking_replay}
use Rattle.trial_replay.proofs.laws.one_replay_of_a_trial.Goals as goal

pub returns-clause-replay : goal.returns-clause-replay
returns-clause-replay c = one_replay_at c.one_replay.ensures.text c.one_replay.ensures.never_both

pub returns-clause-never_both : goal.returns-clause-never_both
returns-clause-never_both c = not_lacking_replay
