use Rattle.py_model.proofs.Histories.{agreed}
use Rattle.py_model.proofs.Payments.{run_agreed}
use Rattle.py_model.proofs.laws.states_agree_with_moments.Goals as goal

pub returns-clause-step : goal.returns-clause-step
returns-clause-step c = agreed

pub returns-clause-runs : goal.returns-clause-runs
returns-clause-runs c = run_agreed
