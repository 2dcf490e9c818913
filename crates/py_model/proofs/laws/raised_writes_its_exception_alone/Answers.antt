use Rattle.py_model.proofs.Effects.{any_alone}
use Rattle.py_model.proofs.RaisedAgain.{there}
use Rattle.py_model.proofs.laws.raised_writes_its_exception_alone.Goals as goal

pub returns-clause-alone : goal.returns-clause-alone
returns-clause-alone c = any_alone

pub returns-clause-there : goal.returns-clause-there
returns-clause-there c = there
