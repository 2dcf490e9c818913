use Rattle.slice_law.proofs.ClosedSets.{asked_inside, asked_least, least_same}
use Rattle.slice_law.proofs.laws.least_is_asked.Goals as goal

pub returns-clause-one : goal.returns-clause-one
returns-clause-one c = asked_least

pub returns-clause-same : goal.returns-clause-same
returns-clause-same c = least_same

pub returns-clause-asked : goal.returns-clause-asked
returns-clause-asked c = asked_inside
