-- The least closed set of statements for an evaluation in the rows of a trial.
use Rattle.std.specs.Prelude.{◌≡◌, ℕ, Bool, List, Some}
use Rattle.prov_base.specs.declared.place.Pos.{Pos}
use Rattle.py_tree.specs.Tree.{ScriptTree}
use Rattle.py_model.specs.Moment.{Moment}
use Rattle.py_model.specs.Occurrences.{up_to_evaluation}
use Rattle.py_model.specs.Store.{RunStore}
use Rattle.row_moments.specs.Moments.{moments_in}
use Rattle.slice_law.specs.Closed.{IsLeast}
use Rattle.trace_rows.specs.declared.row.Row.{Row}

-- The rows have a k-th evaluation at the place, and the set is the least that is closed along the moments up to it.
pub record IsSliceSet (script : ScriptTree) (opening : RunStore) (at : Pos) (k : ℕ) (rows : List Row) (keep : ℕ → Bool) : Type 0 where
  pub upto : List Moment
  pub reached : up_to_evaluation at k (moments_in rows) ≡ Some upto
  pub least : IsLeast script opening upto keep
