use Rattle.py_model.proofs.Agreements.{every_orderly}
use Rattle.py_model.proofs.laws.operations_are_orderly.Goals as goal

pub returns : goal.returns
returns c = every_orderly
