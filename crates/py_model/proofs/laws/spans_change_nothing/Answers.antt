use Rattle.py_model.proofs.Levels.{spans_change_nothing}
use Rattle.py_model.proofs.laws.spans_change_nothing.Goals as goal

pub returns : goal.returns
returns c = spans_change_nothing
