use Rattle.std.proofs.Common.{refl}
use Rattle.std.specs.Fmt.{digits}
use Rattle.trial_history.specs.History.{lines_from, marks_from}
use Rattle.trial_history.proofs.text.history_is_written.Goals as goal

pub returns : goal.returns
unfolding lines_from marks_from digits
returns c = refl
