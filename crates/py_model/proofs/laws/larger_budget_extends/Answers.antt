use Rattle.py_model.proofs.Levels.{run_goes_on}
use Rattle.py_model.proofs.laws.larger_budget_extends.Goals as goal

pub returns : goal.returns
returns c = run_goes_on
