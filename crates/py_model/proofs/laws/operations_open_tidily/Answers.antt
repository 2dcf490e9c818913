use Rattle.py_model.proofs.Agreements.{every_tidy}
use Rattle.py_model.proofs.laws.operations_open_tidily.Goals as goal

pub returns : goal.returns
returns c = every_tidy
