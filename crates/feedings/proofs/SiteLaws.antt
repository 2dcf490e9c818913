-- The evaluations at chosen moments, row by row.
use Rattle.std.proofs.Common.{◌≡◌, ℕ, suc, ◌≤◌, ◌+◌, ◌&&◌, Bool, true, false, List, [], ◌∷◌, ◌++◌, take, reverse, length, slice_get, Option, Some, None, unwrap_or, refl, sym, ap, subst, ◌∙◌, arith, if◌then◌else◌}
use Rattle.std.proofs.lemmas.Bool.Decides.{nat_tests}
use Rattle.std.proofs.lemmas.List.{append-nil}
use Rattle.prov_base.specs.declared.place.Pos.{Pos}
use Rattle.prov_base.specs.contracts.place.PosPartialEq.TheImpl.{ghosts as places}
use Rattle.py_value.specs.Values.{ValuesView}
use Rattle.py_model.specs.declared.moment.Answer.TheVariants.{Value as ValueAnswer, Raised, End as EndAnswer}
use Rattle.py_model.specs.Moment.{Moment}
use Rattle.py_model.specs.Occurrences.{evaluates, evaluations_at, is_evaluation_at}
use Rattle.row_checks.proofs.RowSteps.{front_more}
use Rattle.row_moments.specs.Moments.{told_with, moments_by}
use Rattle.row_moments.proofs.Interned.{turned}
use Rattle.trace_rows.specs.declared.row.Row.{Row}
use Rattle.trace_rows.specs.declared.row.Row.TheVariants.{Text, Tuple, Begin, Do, Enter, Leave, End}
use Rattle.feedings.specs.declared.site.Site.{Site}
use Rattle.feedings.specs.Sites.{sites}
use Rattle.feedings.specs.Marks.{mark_at}
use Rattle.feedings.specs.RowSites.{evaluated, tells, count_in, AreCounted, site_at}
use Rattle.std.specs.Map.{lookup}

place_itself : (a : Pos) → places.eq a a ≡ true
place_itself a = grind (arith, nat_tests)

-- one row more tells this
pub told_after : (view : ValuesView) (rows : List Row) (n : ℕ) (row : Row) → slice_get rows n ≡ Some row
    → moments_by view (reverse (take (n + 1) rows)) ≡ told_with view row (moments_by view (reverse (take n rows)))
told_after view rows n row at = ap (λ front. moments_by view (reverse front)) (front_more rows n row at) ∙ ap (moments_by view) (turned (take n rows) row)

pub one_longer : (view : ValuesView) (row : Row) (told : List Moment) → length (told_with view row told) ≡ (if tells row then suc (length told) else length told)
one_longer view (Text text) told = refl
one_longer view (Tuple parts) told = refl
one_longer view (Begin statement) told = refl
one_longer view (Do at op values answer made accesses weight) told = refl
one_longer view (Enter call def values accesses) told = refl
one_longer view (Leave v) told = refl
one_longer view (End how) told = refl

-- there are no more evaluations than moments
pub few_at : (at : Pos) (told : List Moment) → evaluations_at at told ≤ length told
few_at at [] = omega arith
few_at at (moment ∷ before) = by (few_at at before) (is_evaluation_at at moment) refl
  where
    by : evaluations_at at before ≤ length before → (b : Bool) → is_evaluation_at at moment ≡ b → evaluations_at at (moment ∷ before) ≤ suc (length before)
    by few true is =
        let same : evaluations_at at (moment ∷ before) ≡ suc (evaluations_at at before) = ap (λ b. if b then suc (evaluations_at at before) else evaluations_at at before) is in omega (arith, few, same)
    by few false is =
        let same : evaluations_at at (moment ∷ before) ≡ evaluations_at at before = ap (λ b. if b then suc (evaluations_at at before) else evaluations_at at before) is in omega (arith, few, same)

-- how many there are at a place after one more row
abbrev counted_with : Option Pos → Pos → ℕ → ℕ
counted_with None at count = count
counted_with (Some place) at count = if places.eq place at then suc count else count

and_true : (a b : Bool) → (a && (b && true)) ≡ (if b then a else false)
and_true true true = refl
and_true true false = refl
and_true false true = refl
and_true false false = refl

and_false : (a b : Bool) → (a && (b && false)) ≡ false
and_false true true = refl
and_false true false = refl
and_false false b = refl

abbrev no_site : List Site
no_site = []

nothing_more : (b : Bool) → (if b then no_site else no_site) ≡ no_site
nothing_more true = refl
nothing_more false = refl

module _ (view : ValuesView) (told : List Moment) where
  pub count_next : (row : Row) (at : Pos) → evaluations_at at (told_with view row told) ≡ counted_with (evaluated row) at (evaluations_at at told)
  count_next (Do place op values (ValueAnswer v) made accesses weight) at =
      ap (λ b. if b then suc (evaluations_at at told) else evaluations_at at told) (and_true (places.eq place at) (evaluates op)) ∙ by (evaluates op)
    where
      by : (e : Bool) → (if (if e then places.eq place at else false) then suc (evaluations_at at told) else evaluations_at at told) ≡ counted_with (if e then Some place else None) at (evaluations_at at told)
      by true = refl
      by false = refl
  count_next (Do place op values (Raised o) made accesses weight) at = ap (λ b. if b then suc (evaluations_at at told) else evaluations_at at told) (and_false (places.eq place at) (evaluates op))
  count_next (Do place op values EndAnswer made accesses weight) at = ap (λ b. if b then suc (evaluations_at at told) else evaluations_at at told) (and_false (places.eq place at) (evaluates op))
  count_next (Text text) at = refl
  count_next (Tuple parts) at = refl
  count_next (Begin statement) at = refl
  count_next (Enter call def values accesses) at = refl
  count_next (Leave v) at = refl
  count_next (End how) at = refl

  module _ (chosen : ℕ → Bool) (entries : List (Pos × ℕ)) (counted : AreCounted entries told) where
    pub site_next : (row : Row) → sites chosen (told_with view row told) ≡ sites chosen told ++ site_at (evaluated row) entries (chosen (length told))
    site_next (Do place op values (ValueAnswer v) made accesses weight) = ap (λ more. sites chosen told ++ more) (by_choice (chosen (length told)))
      where
        one : (e : Bool) → evaluates op ≡ e → (if places.eq place place && (evaluates op && true) then record { at = place; k = suc (evaluations_at place told) } ∷ [] else no_site) ≡ site_at (if evaluates op then Some place else None) entries true
        one true is = ap (λ b. if b then record { at = place; k = suc (evaluations_at place told) } ∷ [] else no_site) (and_true (places.eq place place) (evaluates op) ∙ ap (λ e. if e then places.eq place place else false) is ∙ place_itself place)
            ∙ ap (λ k. record { at = place; k = suc k } ∷ []) (sym (counted place)) ∙ sym (ap (λ e. site_at (if e then Some place else None) entries true) is)
        one false is = ap (λ b. if b then record { at = place; k = suc (evaluations_at place told) } ∷ [] else no_site) (and_true (places.eq place place) (evaluates op) ∙ ap (λ e. if e then places.eq place place else false) is)
            ∙ sym (ap (λ e. site_at (if e then Some place else None) entries true) is)

        none : (e : Bool) → no_site ≡ site_at (if e then Some place else None) entries false
        none true = refl
        none false = refl

        by_choice : (b : Bool) → (if b then (if places.eq place place && (evaluates op && true) then record { at = place; k = suc (evaluations_at place told) } ∷ [] else no_site) else no_site) ≡ site_at (if evaluates op then Some place else None) entries b
        by_choice true = one (evaluates op) refl
        by_choice false = none (evaluates op)
    site_next (Do place op values (Raised o) made accesses weight) =
        ap (λ more. sites chosen told ++ more) (by_choice (chosen (length told)))
      where
        by_choice : (b : Bool) → (if b then (if places.eq place place && (evaluates op && false) then record { at = place; k = suc (evaluations_at place told) } ∷ [] else no_site) else no_site) ≡ no_site
        by_choice true = ap (λ test. if test then record { at = place; k = suc (evaluations_at place told) } ∷ [] else no_site) (and_false (places.eq place place) (evaluates op))
        by_choice false = refl
    site_next (Do place op values EndAnswer made accesses weight) =
        ap (λ more. sites chosen told ++ more) (by_choice (chosen (length told)))
      where
        by_choice : (b : Bool) → (if b then (if places.eq place place && (evaluates op && false) then record { at = place; k = suc (evaluations_at place told) } ∷ [] else no_site) else no_site) ≡ no_site
        by_choice true = ap (λ test. if test then record { at = place; k = suc (evaluations_at place told) } ∷ [] else no_site) (and_false (places.eq place place) (evaluates op))
        by_choice false = refl
    site_next (Text text) = sym (append-nil (sites chosen told))
    site_next (Tuple parts) = sym (append-nil (sites chosen told))
    site_next (Begin statement) = ap (λ more. sites chosen told ++ more) (nothing_more (chosen (length told)))
    site_next (Enter call def values accesses) = ap (λ more. sites chosen told ++ more) (nothing_more (chosen (length told)))
    site_next (Leave v) = ap (λ more. sites chosen told ++ more) (nothing_more (chosen (length told)))
    site_next (End how) = ap (λ more. sites chosen told ++ more) (nothing_more (chosen (length told)))

same_place : (a b : Pos) → places.eq a b ≡ true → a ≡ b
same_place a b is = grind (arith, nat_tests)

-- the count at one place is put in
module _ (old new : List (Pos × ℕ)) (at : Pos) (k : ℕ) (next : k ≡ suc (count_in old at))
    (put : (place : Pos) → lookup (places.eq place) new ≡ (if places.eq at place then Some k else lookup (places.eq place) old)) where
  count_put : (place : Pos) → count_in new place ≡ counted_with (Some at) place (count_in old place)
  count_put place = ap (λ found. unwrap_or found 0) (put place) ∙ by (places.eq at place) refl
    where
      by : (b : Bool) → places.eq at place ≡ b → unwrap_or (if b then Some k else lookup (places.eq place) old) 0 ≡ (if b then suc (count_in old place) else count_in old place)
      by true is = next ∙ ap (λ p. suc (count_in old p)) (same_place at place is)
      by false is = refl

  pub counted_more : (row : Row) → evaluated row ≡ Some at → (view : ValuesView) (told : List Moment) → AreCounted old told → AreCounted new (told_with view row told)
  counted_more row is view told counted place =
      count_put place ∙ ap (counted_with (Some at) place) (counted place) ∙ sym (ap (λ o. counted_with o place (evaluations_at place told)) is) ∙ sym (count_next view told row place)

pub counted_same : (entries : List (Pos × ℕ)) (row : Row) → evaluated row ≡ None → (view : ValuesView) (told : List Moment) → AreCounted entries told → AreCounted entries (told_with view row told)
counted_same entries row is view told counted place = counted place ∙ sym (ap (λ o. counted_with o place (evaluations_at place told)) is) ∙ sym (count_next view told row place)

-- ---- row by row

module _ (marks : List Bool) (rows : List Row) where
  -- the first rows tell moments up to a time, with so many evaluations at each place, and these are chosen
  pub record IsSiting (n time : ℕ) (entries : List (Pos × ℕ)) (list : List Site) : Type 0 where
    pub few : time ≤ n
    pub time_is : (view : ValuesView) → length (moments_by view (reverse (take n rows))) ≡ time
    pub counted : (view : ValuesView) → AreCounted entries (moments_by view (reverse (take n rows)))
    pub are : (view : ValuesView) → list ≡ sites (mark_at marks) (moments_by view (reverse (take n rows)))

  pub at_first : IsSiting 0 0 [] []
  at_first = record { few = omega arith; time_is = λ view. refl; counted = λ view at. refl; are = λ view. refl }

  module _ (n time : ℕ) (entries : List (Pos × ℕ)) (list : List Site) (siting : IsSiting n time entries list) where
    pub few_counted : (at : Pos) → count_in entries at ≤ n
    few_counted at = let view : ValuesView = record { texts = []; tuples = [] } in
        let same = siting.counted view at in let long = siting.time_is view in let few = siting.few in
        let at_most = few_at at (moments_by view (reverse (take n rows))) in omega (arith, same, long, few, at_most)

    module _ (row : Row) (there : slice_get rows n ≡ Some row) (entries' : List (Pos × ℕ)) (list' : List Site)
        (listed : list' ≡ list ++ site_at (evaluated row) entries (mark_at marks time))
        (counted' : (view : ValuesView) (told : List Moment) → AreCounted entries told → AreCounted entries' (told_with view row told)) where
      times : (b : Bool) → tells row ≡ b → (next : ℕ) → next ≡ (if b then suc time else time) → IsSiting (n + 1) next entries' list'
      times b is next next_is = record {
        few = few_next b next_is;
        time_is = λ view. ap length (told_after view rows n row there) ∙ one_longer view row (moments_by view (reverse (take n rows)))
            ∙ ap (λ t. if t then suc (length (moments_by view (reverse (take n rows)))) else length (moments_by view (reverse (take n rows)))) is
            ∙ ap (λ m. if b then suc m else m) (siting.time_is view) ∙ sym next_is;
        counted = λ view. subst (AreCounted entries') (sym (told_after view rows n row there)) (counted' view (moments_by view (reverse (take n rows))) (siting.counted view));
        are = λ view. listed ∙ ap (λ front. front ++ site_at (evaluated row) entries (mark_at marks time)) (siting.are view)
            ∙ ap (λ t. sites (mark_at marks) (moments_by view (reverse (take n rows))) ++ site_at (evaluated row) entries (mark_at marks t)) (sym (siting.time_is view))
            ∙ sym (site_next view (moments_by view (reverse (take n rows))) (mark_at marks) entries (siting.counted view) row)
            ∙ ap (sites (mark_at marks)) (sym (told_after view rows n row there));
      }
        where
          few_next : (b : Bool) → next ≡ (if b then suc time else time) → next ≤ n + 1
          few_next true is = let few = siting.few in omega (arith, few, is)
          few_next false is = let few = siting.few in omega (arith, few, is)

      pub one_told : tells row ≡ true → IsSiting (n + 1) (time + 1) entries' list'
      one_told is = times true is (time + 1) (omega arith)

      pub none_told : tells row ≡ false → IsSiting (n + 1) time entries' list'
      none_told is = times false is time refl
