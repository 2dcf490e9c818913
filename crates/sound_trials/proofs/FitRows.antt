-- Rows whose numbers fit their types tell the moments that they are rows of.
use Rattle.std.proofs.Common.{◌≡◌, List, [], ◌∷◌, reverse, Some, sym, subst}
use Rattle.std.proofs.lemmas.List.{reverse-append, reverse-reverse}
use Rattle.py_model.specs.Going.{Open}
use Rattle.py_model.specs.History.{open_after}
use Rattle.py_model.specs.Moment.{Moment}
use Rattle.py_value.specs.Values.{ValuesView}
use Rattle.recorder.proofs.InRange.{each_more}
use Rattle.recorder.specs.MomentRows.{rows, all_told}
use Rattle.row_checks.specs.KeptRows.{view_in}
use Rattle.row_moments.specs.InOrder.{StandInOrder}
use Rattle.row_moments.specs.Moments.{moments_in}
use Rattle.row_words.specs.Fits.{Each}
use Rattle.sound_trials.proofs.RowsTold.{view_is_of, rows_back}
use Rattle.sound_trials.proofs.ShortNumbers.{AreFew, few_told}
use Rattle.trace_rows.specs.RowBytes.{IsRow, AreRows}
use Rattle.trace_rows.specs.declared.row.Row.{Row}

each_turned : {A : Type 0} (P : A → Type 0) (xs : List A) → Each P xs → Each P (reverse xs)
each_turned P [] each = tt
each_turned P (x ∷ xs) each = subst (Each P) (sym (reverse-append (x ∷ []) xs)) (each_more P (reverse xs) x (each_turned P xs each.1) each.0)

pub fit_rows_tell : (moments : List Moment) (ones : List Open) → open_after (reverse moments) ≡ Some ones → StandInOrder (view_in (rows moments)) → AreRows (rows moments)
    → moments_in (rows moments) ≡ reverse moments
fit_rows_tell moments ones is order fit =
    let turned : Each IsRow (all_told (reverse moments)).rows =
    subst (λ (all : List Row). Each IsRow all) (reverse-reverse (all_told (reverse moments)).rows) (each_turned IsRow (rows moments) fit) in
    let few : AreFew (view_in (rows moments)) = subst (λ (view : ValuesView). AreFew view) (sym (view_is_of moments)) (few_told (reverse moments) turned) in
    rows_back moments ones is (record { texts_once = order.texts_once; tuples_once = order.tuples_once; texts_few = few.texts; tuples_few = few.tuples; parts = order.parts })
