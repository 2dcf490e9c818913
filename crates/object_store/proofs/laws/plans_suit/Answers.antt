use Rattle.object_store.proofs.Keyed.{plan_suits, entries_suit, suit_joined, after_joined}
use Rattle.object_store.proofs.laws.plans_suit.Goals as goal

pub returns-clause-plain : goal.returns-clause-plain
returns-clause-plain c = λ map plan plain. plan_suits plan map plain

pub returns-clause-entries : goal.returns-clause-entries
returns-clause-entries c = λ map o pairs. entries_suit pairs o map

pub returns-clause-joined : goal.returns-clause-joined
returns-clause-joined c = λ map plan more suits rest. suit_joined plan more map suits rest

pub returns-clause-after : goal.returns-clause-after
returns-clause-after c = λ map plan more. after_joined plan more map
