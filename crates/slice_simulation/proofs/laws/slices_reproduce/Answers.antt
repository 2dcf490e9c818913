use Rattle.py_model.specs.History.{spent_on}
use Rattle.slice_law.specs.Slices.{told_by}
use Rattle.slice_simulation.proofs.Values.{spent_within}
use Rattle.slice_simulation.proofs.laws.slices_reproduce.Goals as goal

pub returns : goal.returns
returns c = λ script well classes capture path arguments steps at k upto keep is least.
    c.values_are_reproduced.ensures script capture path arguments steps (spent_on (told_by script capture path arguments steps)) at k keep upto well classes is least.closed
    (spent_within at k (told_by script capture path arguments steps) upto is)
