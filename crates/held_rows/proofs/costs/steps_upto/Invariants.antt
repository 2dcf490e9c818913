use Rattle.std.proofs.Common.{◌≡◌, min, take, reverse}
use Rattle.py_value.specs.Values.{ValuesView}
use Rattle.py_model.specs.History.{spent_on}
use Rattle.row_moments.specs.Moments.{moments_by}
use Rattle.held_rows.proofs.costs.steps_upto.Given as goal

abbrev pub invariant-loop-row : goal.invariant-loop-row
invariant-loop-row l = (view : ValuesView) → l.total ≡ min 4294967295 (spent_on (moments_by view (reverse (take l.row-index l.rows))))
