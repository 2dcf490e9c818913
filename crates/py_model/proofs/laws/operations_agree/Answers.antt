use Rattle.std.proofs.Common.{ap, ◌∙◌}
use Rattle.py_model.proofs.Agreeing.{alike_agree}
use Rattle.py_model.proofs.Agreements.{every_alike}
use Rattle.py_model.proofs.RenamedEffects.{weighs_same}
use Rattle.py_model.specs.Effect.{effect, weight, cost}
use Rattle.py_model.specs.Operations.{plan}
use Rattle.py_model.proofs.laws.operations_agree.Goals as goal

pub returns : goal.returns
returns c = λ r store other answers others op values agrees.
    let same = alike_agree r store other answers others _ _ (every_alike r op values).same agrees in
    let weighs = weighs_same r (effect store answers (plan op values)) in
    (same, ap weight same ∙ weighs.0, ap cost same ∙ weighs.1)
