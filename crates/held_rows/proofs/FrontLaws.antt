-- The rows of a kept trial over a table with more texts: what they name is there, their keys are normal, and they tell the same moments.
use Rattle.std.proofs.Common.{◌≡◌, ℕ, zero, suc, ◌≤◌, List, [], ◌∷◌, take, reverse, length, slice_get, true, Some, refl, sym, ap, subst, ◌∙◌, arith}
use Rattle.py_value.specs.Values.{ValuesView, AreInterned, StandOnce, Keeps}
use Rattle.py_value.proofs.Interning.{below_more}
use Rattle.py_value.proofs.SameContents.{keeps_length}
use Rattle.row_checks.specs.Keys.{is_key}
use Rattle.row_checks.specs.KeptRows.{AreKeptRows, texts_in, tuples_in, view_in}
use Rattle.row_checks.specs.NamedRows.{NamesRow}
use Rattle.row_checks.specs.RowTests.{has_keys}
use Rattle.row_checks.proofs.NamedBelow.{kept_in_order}
use Rattle.row_moments.specs.InOrder.{StandInOrder}
use Rattle.row_moments.specs.Moments.{told_with, moments_by}
use Rattle.row_moments.proofs.Interned.{order_in, named_in}
use Rattle.trace_rows.specs.declared.row.Row.{Row}
use Rattle.slicer.specs.Passing.{AreReadable}
use Rattle.slicer.proofs.FrontRows.{by_fronts, told_more}
use Rattle.slicer.proofs.KeyMore.{keys_of_all}
use Rattle.slicer.proofs.PlainKeys.{normal_row}
use Rattle.held_rows.proofs.MoreTexts.{row_stays, same_told}

front_back : {A : Type 0} (n i : ℕ) (xs : List A) (x : A) → slice_get (take n xs) i ≡ Some x → slice_get xs i ≡ Some x
front_back zero zero xs x at = absurd (cc)
front_back zero (suc i) xs x at = absurd (cc)
front_back (suc n) i [] x at = at
front_back (suc n) zero (y ∷ xs) x at = at
front_back (suc n) (suc i) (y ∷ xs) x at = front_back n i xs x at

module _ (statements : ℕ) (rows : List Row) (kept : AreKeptRows statements rows) (all : ValuesView) (texts : Keeps (texts_in rows) all.texts) (tuples : all.tuples ≡ tuples_in rows) where
  few : length (texts_in rows) ≤ length all.texts
  few = keeps_length (texts_in rows) all.texts texts

  same_tuples : Keeps (tuples_in rows) all.tuples
  same_tuples i x at = ap (λ these. slice_get these i) tuples ∙ at

  pub order_more : StandOnce all.texts → StandInOrder all
  order_more once =
      let order = order_in rows (kept_in_order statements rows kept) in
      record {
        texts_once = once;
        tuples_once = subst StandOnce (sym tuples) order.tuples_once;
        parts = λ tuple items at i item there.
            below_more (length (texts_in rows)) tuple (length all.texts) tuple item few (omega arith) (order.parts tuple items (sym (ap (λ these. slice_get these tuple) tuples) ∙ at) i item there);
      }

  pub interned_less : AreInterned all → AreInterned (view_in rows)
  interned_less interned =
      let order = order_in rows (kept_in_order statements rows kept) in
      let most = interned.texts_few in
      let many = interned.tuples_few in
      let same = ap length tuples in
      let less = few in
      record { texts_once = order.texts_once; tuples_once = order.tuples_once; texts_few = omega (arith, most, less); tuples_few = omega (arith, many, same); parts = order.parts }

  pub named_more : (i : ℕ) (row : Row) → slice_get rows i ≡ Some row → NamesRow all row
  named_more i row at = row_stays (view_in rows) all few (let same = ap length tuples in omega (arith, same)) row (named_in rows (kept_in_order statements rows kept) i row at)

  pub readable_more : (n : ℕ) → AreInterned all → AreReadable all (take n rows)
  readable_more n interned i row at =
      let there = front_back n i rows row at in
      let named = named_more i row there in
      record { named = named; normal = normal_row all interned row named (subst (λ these. has_keys (is_key these) row ≡ true) (sym tuples) (keys_of_all rows i row (kept i row there).keys)) }

  pub same_moments : AreInterned (view_in rows) → (n : ℕ) → n ≤ length rows → moments_by all (reverse (take n rows)) ≡ moments_by (view_in rows) (reverse (take n rows))
  same_moments interned n within = by_fronts rows (λ front. moments_by all (reverse front) ≡ moments_by (view_in rows) (reverse front)) refl
      (λ j row at before. told_more all (take j rows) row ∙ ap (told_with all row) before
      ∙ same_told (view_in rows) all interned texts same_tuples row (moments_by (view_in rows) (reverse (take j rows))) (named_in rows (kept_in_order statements rows kept) j row at)
      ∙ sym (told_more (view_in rows) (take j rows) row)) n within
