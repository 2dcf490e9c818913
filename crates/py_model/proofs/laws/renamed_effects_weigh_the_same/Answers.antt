use Rattle.py_model.proofs.RenamedEffects.{weighs_same}
use Rattle.py_model.proofs.laws.renamed_effects_weigh_the_same.Goals as goal

pub returns : goal.returns
returns c = weighs_same
