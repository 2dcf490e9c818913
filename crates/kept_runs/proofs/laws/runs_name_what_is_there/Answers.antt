use Rattle.kept_runs.proofs.Runs.{run_named, run_kept}
use Rattle.kept_runs.proofs.laws.runs_name_what_is_there.Goals as goal

pub returns-clause-statements : goal.returns-clause-statements
returns-clause-statements c script capture path arguments steps numbered news before moment is =
    (run_named c.corresponding_operands_have_alike_plans.ensures script capture path arguments steps numbered news before moment is).0

pub returns-clause-objects : goal.returns-clause-objects
returns-clause-objects c script capture path arguments steps numbered news before moment is =
    (run_named c.corresponding_operands_have_alike_plans.ensures script capture path arguments steps numbered news before moment is).1

pub returns-clause-values : goal.returns-clause-values
returns-clause-values c script capture path arguments steps numbered news before moment is =
    (run_kept c.corresponding_operands_have_alike_plans.ensures script capture path arguments steps numbered news before moment is).0
