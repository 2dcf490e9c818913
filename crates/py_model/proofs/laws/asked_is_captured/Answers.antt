use Rattle.py_model.proofs.Askings.{asked_is_kept}
use Rattle.py_model.proofs.Payments.{run_asked}
use Rattle.py_model.proofs.laws.asked_is_captured.Goals as goal

pub returns-clause-step : goal.returns-clause-step
returns-clause-step c = asked_is_kept

pub returns-clause-runs : goal.returns-clause-runs
returns-clause-runs c = run_asked
