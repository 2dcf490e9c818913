use Rattle.kept_runs.proofs.KeptRun.{kept, nested_end}
use Rattle.kept_runs.proofs.laws.rows_of_runs_are_kept.Goals as goal

pub returns : goal.returns
returns c script capture path arguments steps numbered =
    kept script.count _ (c.runs_name_what_is_there.ensures.statements script capture path arguments steps numbered) (c.runs_name_what_is_there.ensures.objects script capture path arguments steps numbered)
    (c.runs_name_what_is_there.ensures.values script capture path arguments steps numbered) (c.runs_have_keys.ensures script capture path arguments steps numbered) c.rows_nest_as_moments.ensures
    (nested_end _ (c.moments_nest.ensures capture script path arguments steps))
