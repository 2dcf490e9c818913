-- No public clause cites this file.
-- Evaluations among rows.
use Rattle.std.specs.Prelude.{◌≡◌, ℕ, ◌≤◌, ◌&&◌, List, length, take, reverse, Option, Some, None, if◌then◌else◌}
use Rattle.prov_base.specs.declared.place.Pos.{Pos}
use Rattle.prov_base.specs.contracts.place.PosPartialEq.TheImpl.{ghosts as places}
use Rattle.py_value.specs.declared.value.Value.{Value}
use Rattle.py_value.specs.Contents.{contents}
use Rattle.py_value.specs.Values.{ValuesView}
use Rattle.py_model.specs.declared.moment.Answer.TheVariants.{Value as ValueAnswer, Raised, End as EndAnswer}
use Rattle.py_model.specs.Occurrences.{evaluates, up_to_evaluation}
use Rattle.row_moments.specs.Moments.{moments_by}
use Rattle.trace_rows.specs.declared.row.Row.{Row}
use Rattle.trace_rows.specs.declared.row.Row.TheVariants.{Text, Tuple, Begin, Do, Enter, Leave, End}
use Rattle.slicer.specs.declared.finding.Evaluation.{Evaluation}
use Rattle.slicer.specs.Roots.{IsEvaluation}

-- the value that a row gives by an evaluation at a place
abbrev pub given_at : Pos → Row → Option Value
given_at at (Do place op values (ValueAnswer v) made accesses weight) = if places.eq place at && evaluates op then Some v else None
given_at at (Do place op values (Raised o) made accesses weight) = None
given_at at (Do place op values EndAnswer made accesses weight) = None
given_at at (Text text) = None
given_at at (Tuple parts) = None
given_at at (Begin statement) = None
given_at at (Enter call def values accesses) = None
given_at at (Leave v) = None
given_at at (End how) = None

-- with so many rows the k-th evaluation at a place is reached, and it gives this value
pub record IsFound (at : Pos) (k : ℕ) (rows : List Row) (found : Evaluation) : Type 0 where
  pub within : found.rows ≤ length rows
  pub last : (view : ValuesView) → IsEvaluation (contents view found.value) (moments_by view (reverse (take found.rows rows)))
  pub reached : (view : ValuesView) → up_to_evaluation at k (moments_by view (reverse rows)) ≡ Some (moments_by view (reverse (take found.rows rows)))

-- it is found exactly where there is one
abbrev pub Finds : Pos → ℕ → List Row → Option Evaluation → Type 0
Finds at k rows None = (view : ValuesView) → up_to_evaluation at k (moments_by view (reverse rows)) ≡ None
Finds at k rows (Some found) = IsFound at k rows found
