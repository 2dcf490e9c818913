use Rattle.replays.proofs.OneReplay.{one_text, not_lacking}
use Rattle.replays.proofs.laws.one_replay.Goals as goal

pub returns-clause-text : goal.returns-clause-text
returns-clause-text c = one_text

pub returns-clause-never_both : goal.returns-clause-never_both
returns-clause-never_both c = not_lacking
