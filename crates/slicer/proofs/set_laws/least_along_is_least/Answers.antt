use Rattle.slicer.proofs.ParentPairs.{least_is, parents_fit}
use Rattle.slicer.proofs.set_laws.least_along_is_least.Goals as goal

pub returns-clause-least : goal.returns-clause-least
returns-clause-least c = least_is

pub returns-clause-below : goal.returns-clause-below
returns-clause-below c = parents_fit
