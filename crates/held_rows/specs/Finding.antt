-- No public clause cites this file.
-- Evaluations among rows, and what their values come to.
use Rattle.std.specs.Prelude.{◌≡◌, ℕ, List, slice_get, Option, Some, None}
use Rattle.prov_base.specs.declared.place.Pos.{Pos}
use Rattle.py_value.specs.declared.value.Value.{Value}
use Rattle.py_value.specs.Values.{ValuesView}
use Rattle.py_model.specs.Occurrences.{up_to_evaluation}
use Rattle.row_moments.specs.Moments.{moments_by}
use Rattle.slicer.specs.Finding.{given_at, IsFound}
use Rattle.trace_rows.specs.declared.row.Row.{Row}
use Rattle.std.specs.Prelude.{reverse}

-- with so many rows the evaluation is reached, and one of the rows gives its value
pub record IsFoundAt (at : Pos) (k : ℕ) (rows : List Row) (n : ℕ) (v : Value) : Type 0 where
  pub found : IsFound at k rows (record { rows = n; value = v })
  pub i : ℕ
  pub row : Row
  pub there : slice_get rows i ≡ Some row
  pub given : given_at at row ≡ Some v

-- it is found exactly where there is one
abbrev pub Finds : Pos → ℕ → List Row → Option (ℕ × Value) → Type 0
Finds at k rows None = (view : ValuesView) → up_to_evaluation at k (moments_by view (reverse rows)) ≡ None
Finds at k rows (Some found) = IsFoundAt at k rows found.0 found.1
