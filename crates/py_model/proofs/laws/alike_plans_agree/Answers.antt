use Rattle.py_model.proofs.Agreeing.{alike_agree}
use Rattle.py_model.proofs.laws.alike_plans_agree.Goals as goal

pub returns : goal.returns
returns c = alike_agree
