-- The row with a number, on its page.
use Rattle.std.proofs.Common.{◌≡◌, ℕ, zero, suc, ◌+◌, ◌-◌, ◌<◌, Bool, true, false, ltb, List, [], ◌∷◌, ◌++◌, length, map, take, drop, Option, Some, None, if◌then◌else◌, refl, sym, ap, subst, ◌∙◌, append_assoc, length-append, arith}
use Rattle.std.proofs.Math.Seq.{take-append_seam, drop-append_seam}
use Rattle.std.proofs.lemmas.Bool.{ltb-true, ltb-false}
use Rattle.std.proofs.lemmas.Option.{same_Some}
use Rattle.trace_rows.specs.declared.row.Row.{Row}
use Rattle.trace_rows.specs.RowBytes.{rows_bytes}
use Rattle.row_checks.specs.KeptRows.{AreKeptRows, IsFirstUnkept}
use Rattle.trial_tables.specs.declared.damage.Damage.{Damage}
use Rattle.trial_tables.specs.declared.damage.Damage.TheVariants.{RowAt}
use Rattle.trial_loading.specs.Placing.{place_from, IsDamageAt, IsBadOf}
use Rattle.trial_loading.specs.TrialPages.{rows_on}
use Rattle.trial_loading.proofs.Fronts.{around_row}

-- ---- a list at a place

record Split (rows : List Row) (i : ℕ) : Type 0 where
  front : List Row
  row : Row
  behind : List Row
  is : rows ≡ front ++ row ∷ behind
  long : length front ≡ i

split_at : (rows : List Row) (i : ℕ) → i < length rows → Split rows i
split_at [] i below = absurd (omega (arith, below))
split_at (r ∷ rows) zero below = record { front = []; row = r; behind = rows; is = refl; long = refl }
split_at (r ∷ rows) (suc i) below =
    let rest = split_at rows i (omega (arith, below)) in
    let long = rest.long in
    record { front = r ∷ rest.front; row = rest.row; behind = rest.behind; is = ap (λ (l : List Row). r ∷ l) rest.is; long = omega (arith, long) }

-- ---- pages at a place

record At (each : List (List Row)) (i first page left : ℕ) : Type 0 where
  before : List (List Row)
  front : List Row
  row : Row
  behind : List Row
  after : List (List Row)
  pages_are : each ≡ before ++ (front ++ row ∷ behind) ∷ after
  page_is : first + length before ≡ page
  left_is : length front ≡ left
  number_is : length (rows_on before) + left ≡ i

none_some : (place : ℕ × ℕ) → None ≡ Some place → ⊥
none_some place is = cc

abbrev here_or : Bool → ℕ × ℕ → Option (ℕ × ℕ) → Option (ℕ × ℕ)
here_or b here there = if b then Some here else there

at_place : (each : List (List Row)) (first i page left : ℕ) → place_from first (map length each) i ≡ Some (page, left) → At each i first page left
at_place [] first i page left is = absurd (none_some (page, left) is)
at_place (rows ∷ each) first i page left is = by_test (ltb i (length rows)) refl is (at_place each (first + 1) (i - length rows) page left)
  where
    by_test : (b : Bool) → ltb i (length rows) ≡ b
        → here_or b (first, i) (place_from (first + 1) (map length each) (i - length rows)) ≡ Some (page, left)
        → (place_from (first + 1) (map length each) (i - length rows) ≡ Some (page, left) → At each (i - length rows) (first + 1) page left)
        → At (rows ∷ each) i first page left
    by_test true test is rest =
        let here = split_at rows i (ltb-true i (length rows) test) in
        let same = same_Some (first, i) (page, left) is in
        let long = here.long in
        let lefts : i ≡ left = ap (λ (p : ℕ × ℕ). p.1) same in
        let pages : first ≡ page = ap (λ (p : ℕ × ℕ). p.0) same in
        record {
          before = [];
          front = here.front;
          row = here.row;
          behind = here.behind;
          after = each;
          pages_are = ap (λ (l : List Row). l ∷ each) here.is;
          page_is = omega (arith, pages);
          left_is = omega (arith, long, lefts);
          number_is = omega (arith, lefts);
        }
    by_test false test is rest =
        let there = rest is in
        let above = ltb-false i (length rows) test in
        let page_is = there.page_is in
        let number_is = there.number_is in
        record {
          before = rows ∷ there.before;
          front = there.front;
          row = there.row;
          behind = there.behind;
          after = there.after;
          pages_are = ap (λ (l : List (List Row)). rows ∷ l) there.pages_are;
          page_is = omega (arith, page_is);
          left_is = there.left_is;
          number_is = omega (arith, number_is, above, length-append rows (rows_on there.before));
        }

-- ---- the row that may not stand

take_front : (n : ℕ) (rows front behind : List Row) → rows ≡ front ++ behind → length front ≡ n → take n rows ≡ front
take_front n rows front behind is long = ap (λ m. take m rows) (sym long) ∙ (ap (take (length front)) is ∙ take-append_seam front behind)

drop_front : (n : ℕ) (front behind : List Row) → length front ≡ n → drop n (front ++ behind) ≡ behind
drop_front n front behind long = ap (λ m. drop m (front ++ behind)) (sym long) ∙ drop-append_seam front behind

around : (each : List (List Row)) (i page left : ℕ) (at : At each i 0 page left) → rows_on each ≡ (rows_on at.before ++ at.front) ++ at.row ∷ (at.behind ++ rows_on at.after)
around each i page left at =
    ap rows_on at.pages_are
    ∙ (around_row at.before at.front at.row at.behind at.after ∙ append_assoc (rows_on at.before ++ at.front) (at.row ∷ []) (at.behind ++ rows_on at.after))

bad_at : (statements : ℕ) (each : List (List Row)) (i page left : ℕ) (damage : Damage) → At each i 0 page left
    → damage ≡ RowAt page (length (rows_bytes (drop (i - left) (take i (rows_on each))))) → IsFirstUnkept statements (rows_on each) i → IsBadOf statements each damage
bad_at statements each i page left damage at is first =
    let all = around each i page left at in
    let ahead = rows_on at.before ++ at.front in
    let left_is = at.left_is in
    let page_is = at.page_is in
    let number_is = at.number_is in
    let long : length ahead ≡ i = omega (arith, length-append (rows_on at.before) at.front, left_is, number_is) in
    let taken : take i (rows_on each) ≡ ahead = take_front i (rows_on each) ahead (at.row ∷ (at.behind ++ rows_on at.after)) all long in
    let longer : length (ahead ++ at.row ∷ []) ≡ i + 1 = omega (arith, length-append ahead (at.row ∷ []), long) in
    let more : take (i + 1) (rows_on each) ≡ ahead ++ at.row ∷ [] =
    take_front (i + 1) (rows_on each) (ahead ++ at.row ∷ []) (at.behind ++ rows_on at.after)
    (all ∙ sym (append_assoc ahead (at.row ∷ []) (at.behind ++ rows_on at.after))) longer in
    let starts : length (rows_on at.before) ≡ i - left = omega (arith, number_is) in
    let fronts : drop (i - left) (take i (rows_on each)) ≡ at.front =
    ap (drop (i - left)) taken ∙ drop_front (i - left) (rows_on at.before) at.front starts in
    let pages : page ≡ length at.before = omega (arith, page_is) in
    record {
      before = at.before;
      front = at.front;
      row = at.row;
      behind = at.behind;
      after = at.after;
      pages_are = at.pages_are;
      kept = subst (AreKeptRows statements) taken first.kept;
      unkept = λ kept. first.unkept (subst (AreKeptRows statements) (sym more) kept);
      is_there = is ∙ (ap (λ (l : List Row). RowAt page (length (rows_bytes l))) fronts ∙ ap (λ n. RowAt n (length (rows_bytes at.front))) pages);
    }

pub bad_of : (statements : ℕ) (each : List (List Row)) (rows : List Row) (cuts : List ℕ) (i : ℕ) (damage : Damage) → rows ≡ rows_on each → cuts ≡ map length each
    → IsDamageAt rows cuts i damage → IsFirstUnkept statements rows i → IsBadOf statements each damage
bad_of statements each rows cuts i damage rows_are cuts_are at first =
    let page = at.0 in
    let left = at.1 in
    bad_at statements each i page left damage
    (at_place each 0 i page left (subst (λ (l : List ℕ). place_from 0 l i ≡ Some (page, left)) cuts_are at.2))
    (subst (λ (l : List Row). damage ≡ RowAt page (length (rows_bytes (drop (i - left) (take i l))))) rows_are at.4)
    (subst (λ (l : List Row). IsFirstUnkept statements l i) rows_are first)
