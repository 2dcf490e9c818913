-- Rows one behind the other: what they tell, how many moments, and which pass a test.
use Rattle.std.proofs.Common.{◌≡◌, ◌<◌, ◌≤◌, ℕ, zero, suc, ◌==◌, Bool, true, false, ◌⊎◌, inl, inr, List, [], ◌∷◌, ◌++◌, length, reverse, take, slice_get, Option, Some, None, refl, sym, ap, ◌∙◌, arith, eqb-true, eq-eqb}
use Rattle.std.proofs.lemmas.Bool.{eqb-false}
use Rattle.std.proofs.lemmas.Option.{same_Some}
use Rattle.py_model.specs.Moment.{Moment}
use Rattle.row_checks.specs.KeptRows.{view_in}
use Rattle.row_moments.specs.Moments.{told_with, moments_by}
use Rattle.row_moments.proofs.Interned.{turned}
use Rattle.trace_rows.specs.declared.row.Row.{Row}
use Rattle.trace_rows.specs.declared.row.Row.TheVariants.{Text, Tuple, Begin, Do, Enter, Leave, End}
use Rattle.row_moments.specs.RowOccurrences.{told_before, begun, with_row, rows_where}

take_next : (rows : List Row) (i : ℕ) (row : Row) → slice_get rows i ≡ Some row → take (suc i) rows ≡ take i rows ++ row ∷ []
take_next [] i row at = absurd cc
take_next (first ∷ rows) zero row at = ap (λ (x : Row). x ∷ []) (same_Some first row at)
take_next (first ∷ rows) (suc i) row at = ap (λ more. first ∷ more) (take_next rows i row at)

pub told_next : (rows : List Row) (i : ℕ) (row : Row) → slice_get rows i ≡ Some row → told_before rows (suc i) ≡ told_with (view_in rows) row (told_before rows i)
told_next rows i row at = ap (λ front. moments_by (view_in rows) (reverse front)) (take_next rows i row at) ∙ ap (moments_by (view_in rows)) (turned (take i rows) row)

-- how many moments are before a row
abbrev pub time_at : List Row → ℕ → ℕ
time_at rows i = length (told_before rows i)

begin_counts : (rows : List Row) (i s : ℕ) (found : Option Row) → slice_get rows i ≡ found → begun found ≡ Some s → time_at rows (suc i) ≡ suc (time_at rows i)
begin_counts rows i s None at is = absurd cc
begin_counts rows i s (Some (Begin n)) at is = ap length (told_next rows i (Begin n) at)
begin_counts rows i s (Some (Text text)) at is = absurd cc
begin_counts rows i s (Some (Tuple parts)) at is = absurd cc
begin_counts rows i s (Some (Do place op values answer made accesses weight)) at is = absurd cc
begin_counts rows i s (Some (Enter call def values accesses)) at is = absurd cc
begin_counts rows i s (Some (Leave v)) at is = absurd cc
begin_counts rows i s (Some (End how)) at is = absurd cc

none_fewer : (rows : List Row) (row : Row) (told : List Moment) → length told ≤ length (told_with (view_in rows) row told)
none_fewer rows (Text text) told = omega arith
none_fewer rows (Tuple parts) told = omega arith
none_fewer rows (Begin n) told = omega arith
none_fewer rows (Do place op values answer made accesses weight) told = omega arith
none_fewer rows (Enter call def values accesses) told = omega arith
none_fewer rows (Leave v) told = omega arith
none_fewer rows (End how) told = omega arith

take_more : (rows : List Row) (i : ℕ) → slice_get rows i ≡ None → take (suc i) rows ≡ take i rows
take_more [] zero none = refl
take_more [] (suc i) none = refl
take_more (first ∷ rows) zero none = absurd cc
take_more (first ∷ rows) (suc i) none = ap (λ more. first ∷ more) (take_more rows i none)

time_up : (rows : List Row) (i : ℕ) (found : Option Row) → slice_get rows i ≡ found → time_at rows i ≤ time_at rows (suc i)
time_up rows i None at = let same = ap (λ front. length (moments_by (view_in rows) (reverse front))) (take_more rows i at) in omega (arith, same)
time_up rows i (Some row) at =
    let more = none_fewer rows row (told_before rows i) in
    let same = ap length (told_next rows i row at) in omega (arith, more, same)

-- a row that begins a statement is before every later row
pub time_less : (rows : List Row) (p s : ℕ) → begun (slice_get rows p) ≡ Some s → (b : ℕ) → p < b → time_at rows p < time_at rows b
time_less rows p s is zero less = absurd (omega (arith, less))
time_less rows p s is (suc b) less = by_test (p == b) refl (λ before. time_less rows p s is b before)
  where
    by_test : (test : Bool) → (p == b) ≡ test → (p < b → time_at rows p < time_at rows b) → time_at rows p < time_at rows (suc b)
    by_test true same more =
        let one = begin_counts rows p s (slice_get rows p) refl is in
        let here = ap (λ k. time_at rows (suc k)) (eqb-true p b same) in omega (arith, one, here)
    by_test false other more =
        let before = more (omega (arith, less, eqb-false p b other)) in
        let up = time_up rows b (slice_get rows b) refl in omega (arith, before, up)

order_of : (i j : ℕ) → (i < j) ⊎ ((j < i) ⊎ (i ≡ j))
order_of zero zero = inr (inr refl)
order_of zero (suc j) = inl (omega arith)
order_of (suc i) zero = inr (inl (omega arith))
order_of (suc i) (suc j) = by (order_of i j)
  where
    by : (i < j) ⊎ ((j < i) ⊎ (i ≡ j)) → (suc i < suc j) ⊎ ((suc j < suc i) ⊎ (suc i ≡ suc j))
    by (inl less) = inl (omega (arith, less))
    by (inr (inl more)) = inr (inl (omega (arith, more)))
    by (inr (inr same)) = inr (inr (ap suc same))

differs : (m n : ℕ) → ((m ≡ n) → ⊥) → (m == n) ≡ false
differs m n refuted = by (m == n) refl
  where
    by : (b : Bool) → (m == n) ≡ b → (m == n) ≡ false
    by true is = absurd (refuted (eqb-true m n is))
    by false is = is

-- two rows that begin statements are one where as many moments are before them
pub same_time : (rows : List Row) (p s b t : ℕ) → begun (slice_get rows p) ≡ Some s → begun (slice_get rows b) ≡ Some t → (time_at rows p == time_at rows b) ≡ (p == b)
same_time rows p s b t is there = by (order_of p b)
  where
    by : (p < b) ⊎ ((b < p) ⊎ (p ≡ b)) → (time_at rows p == time_at rows b) ≡ (p == b)
    by (inl less) =
        let before = time_less rows p s is b less in
        differs (time_at rows p) (time_at rows b) (λ same. absurd (omega (arith, before, same))) ∙ sym (differs p b (λ same. absurd (omega (arith, less, same))))
    by (inr (inl more)) =
        let before = time_less rows b t there p more in
        differs (time_at rows p) (time_at rows b) (λ same. absurd (omega (arith, before, same))) ∙ sym (differs p b (λ same. absurd (omega (arith, more, same))))
    by (inr (inr same)) = eq-eqb (time_at rows p) (time_at rows b) (ap (time_at rows) same) ∙ sym (eq-eqb p b same)

-- ---- rows that pass a test

pub rows_same : (one other : ℕ → Bool) (n : ℕ) → ((i : ℕ) → i < n → one i ≡ other i) → rows_where one n ≡ rows_where other n
rows_same one other zero same = refl
rows_same one other (suc n) same =
    ap (λ b. with_row b n (rows_where one n)) (same n (omega arith)) ∙ ap (with_row (other n) n) (rows_same one other n (λ i less. same i (omega (arith, less))))

pub no_rows : (test : ℕ → Bool) (n : ℕ) → ((i : ℕ) → i < n → test i ≡ false) → rows_where test n ≡ []
no_rows test zero none = refl
no_rows test (suc n) none = ap (λ b. with_row b n (rows_where test n)) (none n (omega arith)) ∙ no_rows test n (λ i less. none i (omega (arith, less)))
