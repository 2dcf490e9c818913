use Rattle.py_model.proofs.Levels.{run_nests}
use Rattle.py_model.proofs.laws.moments_nest.Goals as goal

pub returns : goal.returns
returns c = run_nests
