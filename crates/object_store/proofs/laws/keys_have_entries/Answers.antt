use Rattle.object_store.proofs.Keyed.{only, entry_set, key_put_keyed, key_taken_keyed, begun_keyed, plan_plain, opening_keyed}
use Rattle.object_store.proofs.laws.keys_have_entries.Goals as goal

pub returns-clause-only : goal.returns-clause-only
returns-clause-only c = λ map o key keyed has. only c.tests_are_equality.ensures.values map o key keyed has

pub returns-clause-entry_set : goal.returns-clause-entry_set
returns-clause-entry_set c = λ map o key value keyed has. entry_set c.tests_are_equality.ensures.values map o key value keyed has

pub returns-clause-inserted : goal.returns-clause-inserted
returns-clause-inserted c = λ map o key keyed there. key_put_keyed c.tests_are_equality.ensures.values map o key keyed there

pub returns-clause-deleted : goal.returns-clause-deleted
returns-clause-deleted c = λ map o key keyed. key_taken_keyed c.tests_are_equality.ensures.values map o key keyed

pub returns-clause-begun : goal.returns-clause-begun
returns-clause-begun c = λ map o pairs keyed apart. begun_keyed c.tests_are_equality.ensures.values map o pairs keyed apart

pub returns-clause-plain : goal.returns-clause-plain
returns-clause-plain c = λ map plan keyed plain. plan_plain plan map plain keyed

pub returns-clause-opening : goal.returns-clause-opening
returns-clause-opening c = λ values table words store opening. opening_keyed values table words store opening
