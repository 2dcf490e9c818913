use Rattle.py_model.proofs.Levels.{own_unfolding}
use Rattle.py_model.proofs.laws.meaning_unfolds.Goals as goal

pub returns : goal.returns
returns c = own_unfolding
