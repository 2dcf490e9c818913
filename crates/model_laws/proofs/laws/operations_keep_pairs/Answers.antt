use Rattle.py_model.specs.Effect.{effect}
use Rattle.py_model.specs.Operations.{plan}
use Rattle.py_model.specs.Orderly.{other_read}
use Rattle.model_laws.proofs.laws.operations_keep_pairs.Goals as goal
use Rattle.model_laws.proofs.Keeping.{begins_with_pairs, plan_kept, effect_kept, dicts_there}

pub returns-clause-begins : goal.returns-clause-begins
returns-clause-begins c = begins_with_pairs

pub returns-clause-keeps : goal.returns-clause-keeps
returns-clause-keeps c = λ store answers op values all fresh. effect_kept store answers (plan op values) (c.map_changes_by_accesses.ensures (effect store answers (plan op values)) store)
    (plan_kept c.tests_are_equality.ensures.values store all fresh answers (plan op values) other_read tt (c.operations_are_orderly.ensures op values))

pub returns-clause-dicts : goal.returns-clause-dicts
returns-clause-dicts c = λ store all. dicts_there c.tests_are_equality.ensures.values store all
