use Rattle.kept_runs.proofs.RunPaths.{one_of, paths_in}
use Rattle.kept_runs.proofs.laws.runs_open_paths_alone.Goals as goal

pub returns-clause-fetched : goal.returns-clause-fetched
returns-clause-fetched c script capture path arguments steps numbered one among =
    one_of _ one (paths_in c.corresponding_operands_have_alike_plans.ensures script capture path arguments steps numbered).0 among

pub returns-clause-opened : goal.returns-clause-opened
returns-clause-opened c script capture path arguments steps numbered one among =
    one_of _ one (paths_in c.corresponding_operands_have_alike_plans.ensures script capture path arguments steps numbered).1 among
