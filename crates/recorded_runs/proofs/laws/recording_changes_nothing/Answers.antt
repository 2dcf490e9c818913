use Rattle.recorded_runs.proofs.Alike.{alike}
use Rattle.recorded_runs.proofs.laws.recording_changes_nothing.Goals as goal

pub returns : goal.returns
returns c = alike
