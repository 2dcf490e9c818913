use Rattle.py_model.proofs.Effects.{changes}
use Rattle.py_model.proofs.laws.map_changes_by_accesses.Goals as goal

pub returns : goal.returns
returns c = changes
