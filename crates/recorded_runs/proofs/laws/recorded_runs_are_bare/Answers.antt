use Rattle.recorded_runs.proofs.Alike.{bare_of}
use Rattle.recorded_runs.proofs.laws.recorded_runs_are_bare.Goals as goal

pub returns : goal.returns
returns c = bare_of
