-- What one row more tells.
use Rattle.std.proofs.Common.{◌≡◌, ℕ, ◌+◌, List, take, reverse, slice_get, Some, ap, ◌∙◌}
use Rattle.py_value.specs.Values.{ValuesView}
use Rattle.row_checks.proofs.RowSteps.{front_more}
use Rattle.row_moments.specs.Moments.{told_with, moments_by}
use Rattle.row_moments.proofs.Interned.{turned}
use Rattle.trace_rows.specs.declared.row.Row.{Row}

pub told_after : (view : ValuesView) (rows : List Row) (n : ℕ) (row : Row) → slice_get rows n ≡ Some row
    → moments_by view (reverse (take (n + 1) rows)) ≡ told_with view row (moments_by view (reverse (take n rows)))
told_after view rows n row at = ap (λ front. moments_by view (reverse front)) (front_more rows n row at) ∙ ap (moments_by view) (turned (take n rows) row)
