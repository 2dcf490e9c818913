use Rattle.object_store.proofs.Growing.{store_grown, accesses_grown, texts_named, named_noted, opening_named}
use Rattle.object_store.proofs.Naming.{named_does, named_written, named_made}
use Rattle.object_store.proofs.laws.named_stays.Goals as goal

pub returns-clause-done : goal.returns-clause-done
returns-clause-done c = λ values table access old new at named does. named_does table c.equality_is_same.ensures.locations values access old new at named does

pub returns-clause-written : goal.returns-clause-written
returns-clause-written c = λ table old new l w named at what writes. named_written table c.equality_is_same.ensures.locations old new l w named at what writes

pub returns-clause-made : goal.returns-clause-made
returns-clause-made c = λ table old new made named kind held kinds_are names_stay. named_made table old new made named kind held kinds_are names_stay

pub returns-clause-noted : goal.returns-clause-noted
returns-clause-noted c = λ table old new place name named within same notes. named_noted table old new place name named within same notes

pub returns-clause-grown : goal.returns-clause-grown
returns-clause-grown c = λ values table store texts tuples named. store_grown values table texts tuples store named

pub returns-clause-plans : goal.returns-clause-plans
returns-clause-plans c = λ values table plan texts tuples named. accesses_grown values table texts tuples plan named

pub returns-clause-opening : goal.returns-clause-opening
returns-clause-opening c = λ values words store opening. opening_named values words store opening

pub returns-clause-texts : goal.returns-clause-texts
returns-clause-texts c = λ values plan named. texts_named values plan named
