-- The rows of moments are in order.
use Rattle.std.proofs.Common.{◌≡◌, ℕ, ⊎_elim, zero, suc, List, [], ◌∷◌, ◌++◌, reverse, take, slice_get, Some, refl, sym, ap, subst, ◌∙◌, arith}
use Rattle.std.proofs.Math.Seq.{take-append_seam}
use Rattle.std.proofs.lemmas.List.{append-nil, reverse-append, take-append-le}
use Rattle.std.proofs.lemmas.Option.{slice_get_within}
use Rattle.py_value.specs.declared.value.Value.{Value}
use Rattle.py_value.specs.Values.{ValuesView}
use Rattle.py_value.proofs.Interning.{which}
use Rattle.py_model.specs.Moment.{Moment, begins, does, enters, leaves, ends}
use Rattle.trace_rows.specs.declared.row.Row.{Row}
use Rattle.trace_rows.specs.declared.row.Row.TheVariants.{Text, Tuple, Begin, Do, Enter, Leave, End}
use Rattle.recorder.specs.MomentRows.{row_of, tell, all_told, rows}
use Rattle.recorder.specs.Naming.{Naming, named_in_moment, name_all}
use Rattle.recorder.specs.Telling.{view_of}
use Rattle.row_checks.specs.KeptRows.{IsNew, all_in, text_of, tuple_of, view_in}
use Rattle.row_checks.proofs.RowSteps.{all_more}
use Rattle.row_checks.proofs.StandingOnce.{stand_once}
use Rattle.row_checks.specs.NamedRows.{NamesRow, NamesInOrder}
use Rattle.row_moments.proofs.InOrder.{IsOrdered, Ordered, no_rows, row_more}
use Rattle.row_moments.proofs.RowsNamed.{orderly_moment, row_named}

-- ---- moments

row_new : (view : ValuesView) (own : ValuesView) (moment : Moment) → IsNew own (row_of view moment)
row_new view own (begins statement) = tt
row_new view own (does at op values answer made accesses weight) = tt
row_new view own (enters call def values accesses) = tt
row_new view own (leaves v) = tt
row_new view own (ends statement ending) = tt

view_behind : (view : ValuesView) (earlier : List Row) (moment : Moment) → view_of (row_of view moment ∷ earlier) ≡ view_of earlier
view_behind view earlier (begins statement) = refl
view_behind view earlier (does at op values answer made accesses weight) = refl
view_behind view earlier (enters call def values accesses) = refl
view_behind view earlier (leaves v) = refl
view_behind view earlier (ends statement ending) = refl

told_ordered : (moment : Moment) (before : Naming) → IsOrdered before → IsOrdered (tell moment before)
told_ordered moment before ordered =
    let now = name_all (named_in_moment moment) before in
    let after = orderly_moment moment before ordered in
    let there = after.follows.ordered in
    record {
      view_is = view_behind now.view now.rows moment ∙ there.view_is;
      ordered = row_more (row_new now.view (view_of now.rows) moment) (subst (λ view. NamesRow view (row_of now.view moment)) (sym there.view_is) (row_named now.view moment after.found)) there.ordered;
    }

all_ordered : (moments : List Moment) → IsOrdered (all_told moments)
all_ordered [] = record { view_is = refl; ordered = no_rows }
all_ordered (moment ∷ earlier) = told_ordered moment (all_told earlier) (all_ordered earlier)

-- ---- from the latest first to the order of the rows

turned : (row : Row) (earlier : List Row) → reverse (row ∷ earlier) ≡ reverse earlier ++ row ∷ []
turned row earlier = reverse-append (row ∷ []) earlier

same_view : {a b : List (List ℕ)} {c d : List (List Value)} → a ≡ b → c ≡ d → ◌≡◌ {A = ValuesView} (record { texts = a; tuples = c }) (record { texts = b; tuples = d })
same_view first rest = cc

-- the texts and tuples of a row behind those of others
behind : (row : Row) (earlier : List Row) → ◌≡◌ {A = ValuesView} (record { texts = (view_of earlier).texts ++ text_of row; tuples = (view_of earlier).tuples ++ tuple_of row }) (view_of (row ∷ earlier))
behind (Text text) earlier = same_view refl (append-nil (view_of earlier).tuples)
behind (Tuple parts) earlier = same_view (append-nil (view_of earlier).texts) refl
behind (Begin n) earlier = same_view (append-nil (view_of earlier).texts) (append-nil (view_of earlier).tuples)
behind (Do at op values answer made accesses weight) earlier = same_view (append-nil (view_of earlier).texts) (append-nil (view_of earlier).tuples)
behind (Enter call def values accesses) earlier = same_view (append-nil (view_of earlier).texts) (append-nil (view_of earlier).tuples)
behind (Leave v) earlier = same_view (append-nil (view_of earlier).texts) (append-nil (view_of earlier).tuples)
behind (End how) earlier = same_view (append-nil (view_of earlier).texts) (append-nil (view_of earlier).tuples)

view_turned : (earlier : List Row) → view_in (reverse earlier) ≡ view_of earlier
view_turned [] = refl
view_turned (row ∷ earlier) =
    same_view (ap (all_in text_of) (turned row earlier) ∙ all_more text_of (reverse earlier) row) (ap (all_in tuple_of) (turned row earlier) ∙ all_more tuple_of (reverse earlier) row)
    ∙ ap (λ (view : ValuesView). record { texts = view.texts ++ text_of row; tuples = view.tuples ++ tuple_of row }) (view_turned earlier)
    ∙ behind row earlier

-- each row may stand
pub record Stands (rows : List Row) : Type 0 where
  pub each : (i : ℕ) (row : Row) → slice_get rows i ≡ Some row → IsNew (view_in (take i rows)) row × NamesRow (view_in (take i rows)) row

one_stands : (rows : List Row) (row : Row) → Stands rows → IsNew (view_in rows) row → NamesRow (view_in rows) row → Stands (rows ++ row ∷ [])
one_stands rows row stands new names = record {
  each = λ i other at. ⊎_elim
      (λ before.
      let below = slice_get_within rows i other before in
      let front = take-append-le i rows (row ∷ []) (omega (arith, below)) in
      subst (λ xs. IsNew (view_in xs) other × NamesRow (view_in xs) other) (sym front) (stands.each i other before))
      (λ last.
      subst (λ j. IsNew (view_in (take j (rows ++ row ∷ []))) other × NamesRow (view_in (take j (rows ++ row ∷ []))) other) (sym last.0)
      (subst (λ xs. IsNew (view_in xs) other × NamesRow (view_in xs) other) (sym (take-append_seam rows (row ∷ [])))
      (subst (λ r. IsNew (view_in rows) r × NamesRow (view_in rows) r) (sym last.1) (new, names))))
      (which rows row other i at);
}

none_stands : Stands []
none_stands = record { each = λ i row at. absurd (nothing_at i row at) }
  where
    nothing_at : (i : ℕ) (row : Row) → slice_get [] i ≡ Some row → ⊥
    nothing_at zero row at = cc
    nothing_at (suc i) row at = cc

stands : (earlier : List Row) → Ordered earlier → Stands (reverse earlier)
stands [] no_rows = none_stands
stands (row ∷ earlier) (row_more new names rest) =
    subst Stands (sym (turned row earlier))
    (one_stands (reverse earlier) row (stands earlier rest) (subst (λ view. IsNew view row) (sym (view_turned earlier)) new) (subst (λ view. NamesRow view row) (sym (view_turned earlier)) names))

pub rows_ordered : (moments : List Moment) → NamesInOrder (rows moments)
rows_ordered moments =
    let once = stand_once (rows moments) (λ i row at. (all_stand.each i row at).0) in
    record { texts_once = once.0; tuples_once = once.1; named = λ i row at. (all_stand.each i row at).1 }
  where
    all_stand : Stands (rows moments)
    all_stand = stands (all_told (reverse moments)).rows (all_ordered (reverse moments)).ordered
