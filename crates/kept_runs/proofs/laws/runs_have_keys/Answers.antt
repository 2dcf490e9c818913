use Rattle.kept_runs.proofs.Runs.{run_kept}
use Rattle.kept_runs.proofs.laws.runs_have_keys.Goals as goal

pub returns : goal.returns
returns c script capture path arguments steps numbered news before moment is =
    (run_kept c.corresponding_operands_have_alike_plans.ensures script capture path arguments steps numbered news before moment is).1
