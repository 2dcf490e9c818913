-- The text of the value of an evaluation in the rows of a trial, and the steps up to it.
use Rattle.std.specs.Prelude.{◌≡◌, ℕ, List, Some, min}
use Rattle.prov_base.specs.declared.place.Pos.{Pos}
use Rattle.py_tree.specs.Tree.{ScriptTree}
use Rattle.py_model.specs.History.{spent_on}
use Rattle.py_model.specs.Moment.{Moment}
use Rattle.py_model.specs.Occurrences.{up_to_evaluation}
use Rattle.py_model.specs.Store.{RunStore}
use Rattle.row_moments.specs.Moments.{moments_in}
use Rattle.slice_law.specs.Slices.{last_value}
use Rattle.trace_rows.specs.declared.row.Row.{Row}

-- The rows have a k-th evaluation at the place. The text is the graph text of its value in the store just after it, and the steps are the
-- lesser of 4294967295 and what the moments up to it cost.
pub record IsValueText (script : ScriptTree) (opening : RunStore) (at : Pos) (k : ℕ) (rows : List Row) (text : List ℕ) (steps : ℕ) : Type 0 where
  pub upto : List Moment
  pub reached : up_to_evaluation at k (moments_in rows) ≡ Some upto
  pub text_is : last_value script opening upto ≡ Some text
  pub steps_are : steps ≡ min 4294967295 (spent_on upto)
