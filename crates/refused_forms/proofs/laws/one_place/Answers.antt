use Rattle.refused_forms.proofs.OnePlace.{one_named}
use Rattle.refused_forms.proofs.laws.one_place.Goals as goal

pub returns : goal.returns
returns c s front rest a b p q = one_named c.one_expression.ensures s front rest a b p q
