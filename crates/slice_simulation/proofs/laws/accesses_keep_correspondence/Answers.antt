use Rattle.slice_simulation.proofs.Renamings.{accesses_match}
use Rattle.slice_simulation.proofs.laws.accesses_keep_correspondence.Goals as goal

pub returns : goal.returns
returns c = λ r l accesses here there known. accesses_match r c.tests_are_equality.ensures.locations l accesses here there known
