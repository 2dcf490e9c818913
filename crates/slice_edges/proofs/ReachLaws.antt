-- The statements of a reach once one more moment was told.
use Rattle.std.proofs.Common.{◌≡◌, ◌<◌, ℕ, suc, ◌==◌, ◌||◌, Bool, true, false, if◌then◌else◌, List, [], ◌∷◌, ◌++◌, map, length, refl, sym, ap, ◌∙◌, arith, eqb-true, eq-eqb}
use Rattle.std.specs.Prelude.{⊤}
use Rattle.std.proofs.lemmas.Bool.{false≢true}
use Rattle.std.proofs.lemmas.Option.{same_Some}
use Rattle.py_value.specs.declared.access.Access.{Access}
use Rattle.py_value.specs.declared.access.Access.TheVariants.{Read, Set, Update}
use Rattle.py_value.specs.declared.access.Location.{Location}
use Rattle.py_value.specs.contracts.access.LocationPartialEq.TheImpl.{ghosts as locations}
use Rattle.py_value.specs.Same.{same_location}
use Rattle.py_value.specs.Seen.{SeenLocation, location_seen, location_at, access_seen, IsNamedLocation}
use Rattle.py_value.specs.Values.{ValuesView, AreInterned}
use Rattle.py_value.proofs.Equality.{location_same as number_same, location_own as number_own}
use Rattle.py_value.proofs.SameTests.{location_same as seen_same, location_own as seen_own}
use Rattle.py_value.proofs.SeenLocations.{location_back}
use Rattle.py_model.specs.History.{accesses_by}
use Rattle.py_model.specs.Moment.{Moment}
use Rattle.py_model.specs.Occurrences.{reach, sets_at, updates_at, owner_stmt}
use Rattle.row_words.specs.Fits.{Each}
use Rattle.row_checks.specs.NamedRows.{NamesAccess}
use Rattle.slice_law.specs.Closed.{has}
use Rattle.slice_law.specs.Edges.{from_option, stmt_at, stmts_at, reach_stmts}
use Rattle.slice_edges.specs.HasAsked.{is_filled}
use Rattle.slice_edges.specs.Writers.{sets_in, updates_in}

-- ---- times of a reach are times before

abbrev AllBelow : ℕ → List ℕ → Type 0
AllBelow n [] = ⊤
AllBelow n (time ∷ times) = (time < n) × AllBelow n times

one_more : (n : ℕ) (times : List ℕ) → AllBelow n times → AllBelow (suc n) times
one_more n [] below = tt
one_more n (time ∷ times) below = (omega (arith, below.0), one_more n times below.1)

reach_below : (l : SeenLocation) (told : List Moment) → AllBelow (length told) (reach l told)
reach_below l [] = tt
reach_below l (moment ∷ before) = by_tests (sets_at l (accesses_by moment)) (updates_at l (accesses_by moment)) (reach_below l before)
  where
    by_tests : (a b : Bool) → AllBelow (length before) (reach l before)
        → AllBelow (suc (length before)) (if a then length before ∷ [] else if b then length before ∷ reach l before else reach l before)
    by_tests true b below = (omega arith, tt)
    by_tests false true below = (omega arith, one_more (length before) (reach l before) below)
    by_tests false false below = one_more (length before) (reach l before) below

not_same : (m n : ℕ) → n < m → (m == n) ≡ false
not_same m n less = by_test (m == n) refl
  where
    by_test : (test : Bool) → (m == n) ≡ test → (m == n) ≡ false
    by_test true is = absurd (omega (arith, less, eqb-true m n is))
    by_test false is = is

later : (moment : Moment) (before : List Moment) (times : List ℕ) → AllBelow (length before) times → stmts_at times (moment ∷ before) ≡ stmts_at times before
later moment before [] below = refl
later moment before (time ∷ times) below =
    ap (λ test. from_option (if test then owner_stmt before else stmt_at time before) ++ stmts_at times (moment ∷ before)) (not_same (length before) time below.0)
    ∙ ap (λ (more : List ℕ). from_option (stmt_at time before) ++ more) (later moment before times below.1)

has_both : (s : ℕ) (xs ys : List ℕ) → has s (xs ++ ys) ≡ (has s xs || has s ys)
has_both s [] ys = refl
has_both s (x ∷ xs) ys = ap (λ b. (x == s) || b) (has_both s xs ys) ∙ assoc (x == s) (has s xs) (has s ys)
  where
    assoc : (a b c : Bool) → (a || (b || c)) ≡ ((a || b) || c)
    assoc true b c = refl
    assoc false b c = refl

-- what a moment that sets a location, changes it, or does neither leaves of the statements of its reach
abbrev pub now_reached : Bool → Bool → Bool → Bool → Bool
now_reached set update own old = if set then own else (if update then own || old else old)

own_stmts : (moment : Moment) (before : List Moment) (times : List ℕ) → stmts_at (length before ∷ times) (moment ∷ before) ≡ from_option (owner_stmt before) ++ stmts_at times (moment ∷ before)
own_stmts moment before times = ap (λ test. from_option (if test then owner_stmt before else stmt_at (length before) before) ++ stmts_at times (moment ∷ before)) (eq-eqb (length before) (length before) refl)

pub reach_next : (l : SeenLocation) (moment : Moment) (before : List Moment) (s : ℕ)
    → has s (reach_stmts l (moment ∷ before)) ≡ now_reached (sets_at l (accesses_by moment)) (updates_at l (accesses_by moment)) (has s (from_option (owner_stmt before))) (has s (reach_stmts l before))
reach_next l moment before s = by (sets_at l (accesses_by moment)) (updates_at l (accesses_by moment))
  where
    none : (b : Bool) → (b || false) ≡ b
    none true = refl
    none false = refl

    old : stmts_at (reach l before) (moment ∷ before) ≡ reach_stmts l before
    old = later moment before (reach l before) (reach_below l before)

    by : (set update : Bool) → has s (stmts_at (if set then length before ∷ [] else if update then length before ∷ reach l before else reach l before) (moment ∷ before))
        ≡ now_reached set update (has s (from_option (owner_stmt before))) (has s (reach_stmts l before))
    by true update = ap (has s) (own_stmts moment before []) ∙ has_both s (from_option (owner_stmt before)) [] ∙ none (has s (from_option (owner_stmt before)))
    by false true = ap (has s) (own_stmts moment before (reach l before)) ∙ has_both s (from_option (owner_stmt before)) (stmts_at (reach l before) (moment ∷ before))
        ∙ ap (λ stmts. has s (from_option (owner_stmt before)) || has s stmts) old
    by false false = ap (has s) old

-- a moment that sets a location or changes it fills its reach
pub filled_next : (l : SeenLocation) (moment : Moment) (before : List Moment)
    → is_filled (reach l (moment ∷ before)) ≡ ((sets_at l (accesses_by moment) || updates_at l (accesses_by moment)) || is_filled (reach l before))
filled_next l moment before = by (sets_at l (accesses_by moment)) (updates_at l (accesses_by moment))
  where
    by : (set update : Bool) → is_filled (if set then length before ∷ [] else if update then length before ∷ reach l before else reach l before) ≡ ((set || update) || is_filled (reach l before))
    by true update = refl
    by false true = refl
    by false false = refl

-- ---- locations with and without numbers

module _ (view : ValuesView) (interned : AreInterned view) where
  tell : (l m : Location) → IsNamedLocation view l → IsNamedLocation view m → location_seen view l ≡ location_seen view m → l ≡ m
  tell l m a b same = same_Some l m (sym (location_back view interned l a) ∙ ap (location_at view) same ∙ location_back view interned m b)

  same_place : (m l : Location) → IsNamedLocation view m → IsNamedLocation view l → locations.eq m l ≡ same_location (location_seen view m) (location_seen view l)
  same_place m l a b = by (locations.eq m l) refl (same_location (location_seen view m) (location_seen view l)) refl
    where
      by : (x : Bool) → locations.eq m l ≡ x → (y : Bool) → same_location (location_seen view m) (location_seen view l) ≡ y → x ≡ y
      by true is true other = refl
      by false is false other = refl
      by true is false other =
          absurd (false≢true (sym other ∙ ap (λ n. same_location (location_seen view m) (location_seen view n)) (sym (number_same m l is)) ∙ seen_own (location_seen view m)))
      by false is true other =
          absurd (false≢true (sym is ∙ ap (locations.eq m) (sym (tell m l a b (seen_same (location_seen view m) (location_seen view l) other))) ∙ number_own m))

  module _ (l : Location) (named : IsNamedLocation view l) where
    pub sets_seen : (accesses : List Access) → Each (NamesAccess view) accesses → sets_in l accesses ≡ sets_at (location_seen view l) (map (access_seen view) accesses)
    sets_seen [] each = refl
    sets_seen (Read m ∷ accesses) each = sets_seen accesses each.1
    sets_seen (Update m change ∷ accesses) each = sets_seen accesses each.1
    sets_seen (Set m content ∷ accesses) each =
        ap (λ b. b || sets_in l accesses) (same_place m l each.0.0 named) ∙ ap (λ b. same_location (location_seen view m) (location_seen view l) || b) (sets_seen accesses each.1)

    pub updates_seen : (accesses : List Access) → Each (NamesAccess view) accesses → updates_in l accesses ≡ updates_at (location_seen view l) (map (access_seen view) accesses)
    updates_seen [] each = refl
    updates_seen (Read m ∷ accesses) each = updates_seen accesses each.1
    updates_seen (Set m content ∷ accesses) each = updates_seen accesses each.1
    updates_seen (Update m change ∷ accesses) each =
        ap (λ b. b || updates_in l accesses) (same_place m l each.0.0 named) ∙ ap (λ b. same_location (location_seen view m) (location_seen view l) || b) (updates_seen accesses each.1)
