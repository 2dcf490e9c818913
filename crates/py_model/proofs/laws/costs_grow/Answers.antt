use Rattle.py_model.proofs.Joins.{cost_grows}
use Rattle.py_model.proofs.laws.costs_grow.Goals as goal

pub returns : goal.returns
returns c = cost_grows
