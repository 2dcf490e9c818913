-- The index once one more row is passed.
use Rattle.std.proofs.Common.{◌≡◌, ◌<◌, ℕ, zero, suc, ◌==◌, ◌&&◌, Bool, true, false, List, [], ◌∷◌, ◌++◌, length, slice_get, slice_index_or, get_or, Option, Some, None, is_some, refl, sym, ap, subst, ◌∙◌, arith, eqb-true}
use Rattle.std.specs.Prelude.{Result, Ok, Err, OnOk}
use Rattle.std.proofs.lemmas.Bool.{eqb-false}
use Rattle.trace_rows.specs.declared.row.Row.{Row}
use Rattle.row_moments.specs.declared.index.Index.{Index}
use Rattle.row_moments.specs.declared.places.Place.{Place}
use Rattle.row_moments.specs.IndexKnows.{list_at, has_parent, HasGone, KnowsRows}
use Rattle.row_moments.specs.IndexPlaces.{inner_row, places_before, after_row, owner_by}
use Rattle.row_moments.specs.RowOccurrences.{begun, is_number, with_row, rows_where, IsIndexOf}
use Rattle.row_moments.proofs.IndexFrames.{no_children, children_are, owners_are}

pub on_ok : {T E : Type 0} {P Q : Type 0} (r : Result T E) → OnOk r P → (P → Q) → OnOk r Q
on_ok (Ok done) holds follows = follows holds
on_ok (Err want) holds follows = tt

-- ---- lists

pub longer : {A : Type 0} (xs : List A) (x : A) → length (xs ++ x ∷ []) ≡ suc (length xs)
longer [] x = refl
longer (first ∷ xs) x = ap suc (longer xs x)

front_at : {A : Type 0} (xs : List A) (x none : A) (i : ℕ) → i < length xs → slice_index_or (xs ++ x ∷ []) i none ≡ slice_index_or xs i none
front_at [] x none i less = absurd (omega (arith, less))
front_at (first ∷ xs) x none zero less = refl
front_at (first ∷ xs) x none (suc i) less = front_at xs x none i (omega (arith, less))

last_at : {A : Type 0} (xs : List A) (x none : A) (i : ℕ) → length xs ≡ i → slice_index_or (xs ++ x ∷ []) i none ≡ x
last_at [] x none zero is = refl
last_at [] x none (suc i) is = absurd (omega (arith, is))
last_at (first ∷ xs) x none zero is = absurd (omega (arith, is))
last_at (first ∷ xs) x none (suc i) is = last_at xs x none i (omega (arith, is))

pub none_behind : (lists : List (List ℕ)) → ((i : ℕ) → list_at lists i ≡ []) → (i : ℕ) → list_at (lists ++ [] ∷ []) i ≡ []
none_behind [] none zero = refl
none_behind [] none (suc i) = refl
none_behind (first ∷ lists) none zero = none zero
none_behind (first ∷ lists) none (suc i) = none_behind lists (λ j. none (suc j)) i

pub item_at : {A : Type 0} (xs : List A) (i : ℕ) (x : A) → i < length xs → x ≡ get_or xs i x → slice_get xs i ≡ Some x
item_at [] i x less is = absurd (omega (arith, less))
item_at {A} (first ∷ xs) zero x less is = ap (λ (y : A). Some y) (sym is)
item_at (first ∷ xs) (suc i) x less is = item_at xs i x (omega (arith, less)) is

-- ---- one row

module _ (statements : ℕ) (rows : List Row) (i : ℕ) (row : Row) (at : slice_get rows i ≡ Some row) (old mid new : Index) (places next : List (Option Place)) (before : KnowsRows statements rows i old places) where
  pub row_step : mid.occurrences ≡ old.occurrences → mid.children.items ≡ old.children.items ++ [] ∷ [] → mid.owners.items ≡ old.owners.items ++ owner_by (Some row) places ∷ []
      → HasGone mid places row i new next → KnowsRows statements rows (suc i) new next
  row_step same_occurrences more_children more_owners gone = record {
    places_are = gone.places_are ∙ ap (λ found. after_row found i places) (sym at) ∙ ap (after_row (slice_get rows i) i) before.places_are;
    many = gone.many ∙ ap (λ lists. length lists.items) same_occurrences ∙ before.many;
    passed = gone.passed ∙ ap length more_children ∙ longer old.children.items [] ∙ ap suc before.passed;
    owned = ap length (gone.owners ∙ more_owners) ∙ longer old.owners.items (owner_by (Some row) places) ∙ ap suc before.owned;
    occurrences = λ s less.
        gone.occurrences s (subst (λ n. s < n) (sym (ap (λ lists. length lists.items) same_occurrences ∙ before.many)) less)
        ∙ ap (λ lists. with_row (is_number s (begun (Some row))) i (list_at lists.items s)) same_occurrences
        ∙ ap (with_row (is_number s (begun (Some row))) i) (before.occurrences s less)
        ∙ ap (λ found. with_row (is_number s (begun found)) i (rows_where (λ j. is_number s (begun (slice_get rows j))) i)) (sym at);
    children = λ b less.
        gone.children b (subst (λ n. b < n) (sym (ap length more_children ∙ longer old.children.items [] ∙ ap suc before.passed)) less)
        ∙ ap (λ lists. with_row (is_some (begun (Some row)) && is_number b (inner_row places)) i (list_at lists b)) more_children
        ∙ ap (with_row (is_some (begun (Some row)) && is_number b (inner_row places)) i) (so_far b less)
        ∙ ap (λ (now : List (Option Place)). with_row (is_some (begun (Some row)) && is_number b (inner_row now)) i (rows_where (has_parent rows b) i)) before.places_are
        ∙ ap (λ found. with_row (is_some (begun found) && is_number b (inner_row (places_before rows i))) i (rows_where (has_parent rows b) i)) (sym at);
    owners = λ j less. ap (λ items. slice_index_or items j None) (gone.owners ∙ more_owners) ∙ owned j less (j == i) refl;
  }
    where
      not_last : (m n : ℕ) → m < suc n → (m == n) ≡ false → m < n
      not_last m n less is = omega (arith, less, eqb-false m n is)

      so_far : (b : ℕ) → b < suc i → list_at (old.children.items ++ [] ∷ []) b ≡ rows_where (has_parent rows b) i
      so_far b less = by (b == i) refl
        where
          by : (here : Bool) → (b == i) ≡ here → list_at (old.children.items ++ [] ∷ []) b ≡ rows_where (has_parent rows b) i
          by true is =
              let same : b ≡ i = eqb-true b i is in
              last_at old.children.items [] [] b (before.passed ∙ sym same) ∙ sym (ap (rows_where (has_parent rows b)) (sym same) ∙ no_children rows b)
          by false is =
              let less_than : b < i = not_last b i less is in
              front_at old.children.items [] [] b (subst (λ n. b < n) (sym before.passed) less_than) ∙ before.children b less_than

      owned : (j : ℕ) → j < suc i → (here : Bool) → (j == i) ≡ here → slice_index_or (old.owners.items ++ owner_by (Some row) places ∷ []) j None ≡ owner_by (slice_get rows j) (places_before rows j)
      owned j less true is =
          let same : j ≡ i = eqb-true j i is in
          last_at old.owners.items (owner_by (Some row) places) None j (before.owned ∙ sym same)
          ∙ ap (owner_by (Some row)) before.places_are ∙ ap (λ found. owner_by found (places_before rows i)) (sym at) ∙ ap (λ k. owner_by (slice_get rows k) (places_before rows k)) (sym same)
      owned j less false is =
          let less_than : j < i = not_last j i less is in
          front_at old.owners.items (owner_by (Some row) places) None j (subst (λ n. j < n) (sym before.owned) less_than) ∙ before.owners j less_than

-- ---- all rows

pub index_is : (statements : ℕ) (rows : List Row) (index : Index) (places : List (Option Place)) → KnowsRows statements rows (length rows) index places → IsIndexOf statements rows index
index_is statements rows index places known = record {
  occurrences = known.occurrences;
  children = λ b s begins. known.children b (within rows b s begins) ∙ children_are rows b s begins;
  owners = λ i less. known.owners i less ∙ owners_are rows i less;
}
  where
    within : (xs : List Row) (b s : ℕ) → begun (slice_get xs b) ≡ Some s → b < length xs
    within [] b s begins = absurd cc
    within (x ∷ xs) zero s begins = omega arith
    within (x ∷ xs) (suc b) s begins = let rest = within xs b s begins in omega (arith, rest)
