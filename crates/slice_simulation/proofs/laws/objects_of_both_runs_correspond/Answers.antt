use Rattle.slice_simulation.proofs.Ranks.{rank_one, shifted_fits, same_object, same_scope}
use Rattle.slice_simulation.proofs.laws.objects_of_both_runs_correspond.Goals as goal

pub returns-clause-fits : goal.returns-clause-fits
returns-clause-fits c = shifted_fits

pub returns-clause-one : goal.returns-clause-one
returns-clause-one c = rank_one

pub returns-clause-named : goal.returns-clause-named
returns-clause-named c = same_object

pub returns-clause-entered : goal.returns-clause-entered
returns-clause-entered c = same_scope
