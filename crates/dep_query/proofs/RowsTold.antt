-- What one row more tells, and the texts and tuples of rows.
use Rattle.std.proofs.Common.{◌≡◌, ℕ, ◌+◌, List, take, reverse, slice_get, Some, sym, ap, subst, ◌∙◌}
use Rattle.py_value.specs.Values.{ValuesView}
use Rattle.row_checks.proofs.RowSteps.{front_more}
use Rattle.py_value.specs.declared.value.Value.{Value}
use Rattle.row_checks.specs.KeptRows.{view_in, texts_in, tuples_in}
use Rattle.row_moments.specs.Moments.{told_with, moments_by}
use Rattle.row_moments.proofs.Interned.{turned}
use Rattle.trace_rows.specs.declared.row.Row.{Row}

pub told_after : (view : ValuesView) (rows : List Row) (n : ℕ) (row : Row) → slice_get rows n ≡ Some row
    → moments_by view (reverse (take (n + 1) rows)) ≡ told_with view row (moments_by view (reverse (take n rows)))
told_after view rows n row at = ap (λ front. moments_by view (reverse front)) (front_more rows n row at) ∙ ap (moments_by view) (turned (take n rows) row)

-- what holds of gathered texts and tuples holds of those of the rows, and the other way round
pub of_rows : (P : ValuesView → Type 0) (texts : List (List ℕ)) (tuples : List (List Value)) (rows : List Row) → texts ≡ texts_in rows → tuples ≡ tuples_in rows
    → P (record { texts = texts; tuples = tuples }) → P (view_in rows)
of_rows P texts tuples rows same also is =
    subst (λ them. P (record { texts = texts_in rows; tuples = them })) also (subst (λ them. P (record { texts = them; tuples = tuples })) same is)

pub to_rows : (P : ValuesView → Type 0) (texts : List (List ℕ)) (tuples : List (List Value)) (rows : List Row) → texts ≡ texts_in rows → tuples ≡ tuples_in rows
    → P (view_in rows) → P (record { texts = texts; tuples = tuples })
to_rows P texts tuples rows same also is =
    subst (λ them. P (record { texts = texts; tuples = them })) (sym also) (subst (λ them. P (record { texts = them; tuples = tuples_in rows })) (sym same) is)
