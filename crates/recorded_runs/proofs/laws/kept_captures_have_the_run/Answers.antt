use Rattle.recorded_runs.proofs.Alike.{has_run}
use Rattle.recorded_runs.proofs.laws.kept_captures_have_the_run.Goals as goal

pub returns : goal.returns
returns c = has_run
