use Rattle.slice_simulation.proofs.Renamings.{value_test, location_test, has_key_test, changed_renamed}
use Rattle.slice_simulation.proofs.laws.renaming_keeps_equality.Goals as goal

pub returns-clause-values : goal.returns-clause-values
returns-clause-values c = value_test

pub returns-clause-locations : goal.returns-clause-locations
returns-clause-locations c = location_test

pub returns-clause-keys : goal.returns-clause-keys
returns-clause-keys c = has_key_test

pub returns-clause-changes : goal.returns-clause-changes
returns-clause-changes c = changed_renamed
