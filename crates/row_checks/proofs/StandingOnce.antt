-- Where each row is new, no text and no tuple stands twice.
use Rattle.std.proofs.Common.{◌≡◌, ℕ, zero, suc, ◌+◌, ◌<◌, ◌≤◌, List, [], ◌∷◌, ◌++◌, length, slice_get, take, Option, Some, None, Contains, refl, sym, ap, subst, ◌∙◌, arith}
use Rattle.std.proofs.Math.Seq.{take-length}
use Rattle.std.proofs.lemmas.List.{append-nil}
use Rattle.py_value.specs.Values.{StandOnce}
use Rattle.py_value.proofs.Interning.{contains_at, once_behind}
use Rattle.trace_rows.specs.declared.row.Row.{Row}
use Rattle.trace_rows.specs.declared.row.Row.TheVariants.{Text, Tuple, Begin, Do, Enter, Leave, End}
use Rattle.row_checks.specs.KeptRows.{IsNew, all_in, text_of, tuple_of, texts_in, tuples_in, view_in}
use Rattle.row_checks.proofs.RowSteps.{all_more, front_more}

none_once : {A : Type 0} → StandOnce {A = A} []
none_once zero j x at other = absurd (cc)
none_once (suc i) j x at other = absurd (cc)

same_once : {A : Type 0} (xs : List A) → StandOnce xs → StandOnce (xs ++ [])
same_once xs once = subst StandOnce (sym (append-nil xs)) once

one_once : {A : Type 0} (xs : List A) (x : A) → StandOnce xs → (Contains xs x → ⊥) → StandOnce (xs ++ x ∷ [])
one_once xs x once new = once_behind xs x once (λ i at. new (contains_at xs x i at))

texts_more : (before : List Row) (row : Row) → StandOnce (texts_in before) → IsNew (view_in before) row → StandOnce (texts_in before ++ text_of row)
texts_more before (Text bytes) once new = one_once (texts_in before) bytes once new
texts_more before (Tuple parts) once new = same_once (texts_in before) once
texts_more before (Begin n) once new = same_once (texts_in before) once
texts_more before (Do at op values answer made accesses weight) once new = same_once (texts_in before) once
texts_more before (Enter call def values accesses) once new = same_once (texts_in before) once
texts_more before (Leave v) once new = same_once (texts_in before) once
texts_more before (End how) once new = same_once (texts_in before) once

tuples_more : (before : List Row) (row : Row) → StandOnce (tuples_in before) → IsNew (view_in before) row → StandOnce (tuples_in before ++ tuple_of row)
tuples_more before (Text bytes) once new = same_once (tuples_in before) once
tuples_more before (Tuple parts) once new = one_once (tuples_in before) parts once new
tuples_more before (Begin n) once new = same_once (tuples_in before) once
tuples_more before (Do at op values answer made accesses weight) once new = same_once (tuples_in before) once
tuples_more before (Enter call def values accesses) once new = same_once (tuples_in before) once
tuples_more before (Leave v) once new = same_once (tuples_in before) once
tuples_more before (End how) once new = same_once (tuples_in before) once

module _ (rows : List Row) (each : (i : ℕ) (row : Row) → slice_get rows i ≡ Some row → IsNew (view_in (take i rows)) row) where
  to_place : (n : ℕ) → n ≤ length rows → StandOnce (texts_in (take n rows)) × StandOnce (tuples_in (take n rows))
  to_place zero few = (none_once, none_once)
  to_place (suc n) few = by (slice_get rows n) refl (to_place n (omega (arith, few)))
    where
      by : (found : Option Row) → slice_get rows n ≡ found → StandOnce (texts_in (take n rows)) × StandOnce (tuples_in (take n rows))
          → StandOnce (texts_in (take (suc n) rows)) × StandOnce (tuples_in (take (suc n) rows))
      by None at once = absurd (not_past rows n (omega (arith, few)) at)
        where
          not_past : (xs : List Row) (n : ℕ) → n < length xs → slice_get xs n ≡ None → ⊥
          not_past [] n below at = omega (arith, below)
          not_past (x ∷ xs) zero below at = cc
          not_past (x ∷ xs) (suc n) below at = not_past xs n (omega (arith, below)) at
      by (Some row) at once =
          let step : suc n ≡ n + 1 = omega arith in
          let new = each n row at in
          let front : take (suc n) rows ≡ take n rows ++ row ∷ [] = ap (λ k. take k rows) step ∙ front_more rows n row at in (
            subst StandOnce (sym (ap (all_in text_of) front ∙ all_more text_of (take n rows) row)) (texts_more (take n rows) row once.0 new),
            subst StandOnce (sym (ap (all_in tuple_of) front ∙ all_more tuple_of (take n rows) row)) (tuples_more (take n rows) row once.1 new),
          )

  pub stand_once : StandOnce (texts_in rows) × StandOnce (tuples_in rows)
  stand_once = subst (λ front. StandOnce (texts_in front) × StandOnce (tuples_in front)) (take-length rows) (to_place (length rows) (omega arith))
