use Rattle.py_model.proofs.Agreements.{every_alike}
use Rattle.py_model.proofs.laws.corresponding_operands_have_alike_plans.Goals as goal

pub returns : goal.returns
returns c = λ r op values. (every_alike r op values).same
