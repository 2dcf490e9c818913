use Rattle.object_store.proofs.Below.{plan_below, map_more, opening_below}
use Rattle.object_store.proofs.laws.objects_stay_below.Goals as goal

pub returns-clause-done : goal.returns-clause-done
returns-clause-done c = λ count map plan below all. plan_below count c.tests_are_equality.ensures.locations plan map all below

pub returns-clause-grown : goal.returns-clause-grown
returns-clause-grown c = λ count more map fits below. map_more count more fits map below

pub returns-clause-opening : goal.returns-clause-opening
returns-clause-opening c = λ values table words store opening. opening_below values table words store opening
