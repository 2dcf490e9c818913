-- What accesses in numbers do to flags, and what their moments set, change and read.
use Rattle.std.proofs.Common.{◌≡◌, ℕ, ◌==◌, ◌||◌, Bool, true, false, if◌then◌else◌, List, [], ◌∷◌, ◌++◌, map, refl, sym, ap, subst, ◌∙◌, inl, inr}
use Rattle.std.specs.Prelude.{◌⊎◌}
use Rattle.std.proofs.lemmas.Bool.{false≢true}
use Rattle.std.proofs.lemmas.Option.{same_Some}
use Rattle.py_value.specs.declared.access.Access.{Access}
use Rattle.py_value.specs.declared.access.Access.TheVariants.{Read, Set, Update}
use Rattle.py_value.specs.declared.access.Location.{Location}
use Rattle.py_value.specs.contracts.access.LocationPartialEq.TheImpl.{ghosts as locations}
use Rattle.py_value.specs.Same.{same_location}
use Rattle.py_value.specs.Seen.{location_seen, location_at, access_seen, IsNamedLocation}
use Rattle.py_value.specs.Values.{ValuesView, AreInterned}
use Rattle.py_value.proofs.Equality.{location_same as number_same, location_own as number_own}
use Rattle.py_value.proofs.SameTests.{location_same as seen_same, location_own as seen_own}
use Rattle.py_value.proofs.SeenLocations.{location_back}
use Rattle.py_model.specs.Moment.{Moment}
use Rattle.py_model.specs.Occurrences.{reach, sets_at, updates_at}
use Rattle.row_words.specs.Fits.{Each}
use Rattle.row_checks.specs.NamedRows.{NamesAccess}
use Rattle.slice_law.specs.Closed.{has}
use Rattle.feedings.specs.Feeding.{reached}
use Rattle.feedings.specs.Marks.{writes_some, after_all, reads_in}

abbrev sets_in : Location → List Access → Bool
sets_in l [] = false
sets_in l (Read m ∷ accesses) = sets_in l accesses
sets_in l (Set m content ∷ accesses) = locations.eq m l || sets_in l accesses
sets_in l (Update m change ∷ accesses) = sets_in l accesses

abbrev updates_in : Location → List Access → Bool
updates_in l [] = false
updates_in l (Read m ∷ accesses) = updates_in l accesses
updates_in l (Set m content ∷ accesses) = updates_in l accesses
updates_in l (Update m change ∷ accesses) = locations.eq m l || updates_in l accesses

-- what is left of a flag where a location is set, changed, or neither
abbrev pub kept_flag : Bool → Bool → Bool → Bool → Bool
kept_flag flag set update old = if set then flag else (if update then flag || old else old)

after_is : (flag : Bool) (l : Location) (accesses : List Access) (old : Bool) → after_all flag l accesses old ≡ kept_flag flag (sets_in l accesses) (updates_in l accesses) old
after_is flag l [] old = refl
after_is flag l (Read m ∷ accesses) old = after_is flag l accesses old
after_is flag l (Set m content ∷ accesses) old =
    after_is flag l accesses (if locations.eq m l then flag else old) ∙ by (locations.eq m l) (sets_in l accesses) (updates_in l accesses) flag
  where
    by : (here set update f : Bool) → kept_flag f set update (if here then f else old) ≡ kept_flag f (here || set) update old
    by true true update f = refl
    by true false true true = refl
    by true false true false = refl
    by true false false f = refl
    by false set update f = refl
after_is flag l (Update m change ∷ accesses) old =
    after_is flag l accesses (if locations.eq m l then flag || old else old) ∙ by (locations.eq m l) (sets_in l accesses) (updates_in l accesses) flag
  where
    by : (here set update f : Bool) → kept_flag f set update (if here then f || old else old) ≡ kept_flag f set (here || update) old
    by true true update f = refl
    by true false true true = refl
    by true false true false = refl
    by true false false f = refl
    by false set update f = refl

-- a flag comes from nowhere else
pub none_after : (l : Location) (accesses : List Access) → after_all false l accesses false ≡ false
none_after l accesses = after_is false l accesses false ∙ by (sets_in l accesses) (updates_in l accesses)
  where
    by : (set update : Bool) → kept_flag false set update false ≡ false
    by true update = refl
    by false true = refl
    by false false = refl

module _ (view : ValuesView) (interned : AreInterned view) where
  tell : (l m : Location) → IsNamedLocation view l → IsNamedLocation view m → location_seen view l ≡ location_seen view m → l ≡ m
  tell l m a b same = same_Some l m (sym (location_back view interned l a) ∙ ap (location_at view) same ∙ location_back view interned m b)

  same_place : (m l : Location) → IsNamedLocation view m → IsNamedLocation view l → locations.eq m l ≡ same_location (location_seen view m) (location_seen view l)
  same_place m l a b = by (locations.eq m l) refl (same_location (location_seen view m) (location_seen view l)) refl
    where
      by : (x : Bool) → locations.eq m l ≡ x → (y : Bool) → same_location (location_seen view m) (location_seen view l) ≡ y → x ≡ y
      by true is true other = refl
      by false is false other = refl
      by true is false other =
          absurd (false≢true (sym other ∙ ap (λ n. same_location (location_seen view m) (location_seen view n)) (sym (number_same m l is)) ∙ seen_own (location_seen view m)))
      by false is true other =
          absurd (false≢true (sym is ∙ ap (locations.eq m) (sym (tell m l a b (seen_same (location_seen view m) (location_seen view l) other))) ∙ number_own m))

  module _ (l : Location) (named : IsNamedLocation view l) where
    sets_seen : (accesses : List Access) → Each (NamesAccess view) accesses → sets_in l accesses ≡ sets_at (location_seen view l) (map (access_seen view) accesses)
    sets_seen [] each = refl
    sets_seen (Read m ∷ accesses) each = sets_seen accesses each.1
    sets_seen (Update m change ∷ accesses) each = sets_seen accesses each.1
    sets_seen (Set m content ∷ accesses) each =
        ap (λ b. b || sets_in l accesses) (same_place m l each.0.0 named) ∙ ap (λ b. same_location (location_seen view m) (location_seen view l) || b) (sets_seen accesses each.1)

    updates_seen : (accesses : List Access) → Each (NamesAccess view) accesses → updates_in l accesses ≡ updates_at (location_seen view l) (map (access_seen view) accesses)
    updates_seen [] each = refl
    updates_seen (Read m ∷ accesses) each = updates_seen accesses each.1
    updates_seen (Set m content ∷ accesses) each = updates_seen accesses each.1
    updates_seen (Update m change ∷ accesses) each =
        ap (λ b. b || updates_in l accesses) (same_place m l each.0.0 named) ∙ ap (λ b. same_location (location_seen view m) (location_seen view l) || b) (updates_seen accesses each.1)

    pub after_seen : (flag : Bool) (accesses : List Access) (old : Bool) → Each (NamesAccess view) accesses
        → after_all flag l accesses old ≡ kept_flag flag (sets_at (location_seen view l) (map (access_seen view) accesses)) (updates_at (location_seen view l) (map (access_seen view) accesses)) old
    after_seen flag accesses old each =
        after_is flag l accesses old ∙ ap (λ set. kept_flag flag set (updates_in l accesses) old) (sets_seen accesses each)
        ∙ ap (λ update. kept_flag flag (sets_at (location_seen view l) (map (access_seen view) accesses)) update old) (updates_seen accesses each)

    -- a location with a flag is written
    writes_set : (test : Location → Bool) → test l ≡ true → (accesses : List Access) → sets_in l accesses ≡ true → writes_some test accesses ≡ true
    writes_set test flagged [] is = is
    writes_set test flagged (Read m ∷ accesses) is = writes_set test flagged accesses is
    writes_set test flagged (Update m change ∷ accesses) is = by (test m) (writes_set test flagged accesses is)
      where
        by : (b : Bool) → writes_some test accesses ≡ true → (b || writes_some test accesses) ≡ true
        by true rest = refl
        by false rest = rest
    writes_set test flagged (Set m content ∷ accesses) is = by (locations.eq m l) refl (test m) refl is (writes_set test flagged accesses)
      where
        by : (b : Bool) → locations.eq m l ≡ b → (t : Bool) → test m ≡ t → (b || sets_in l accesses) ≡ true → (sets_in l accesses ≡ true → writes_some test accesses ≡ true)
            → (t || writes_some test accesses) ≡ true
        by b here true at set rest = refl
        by true here false at set rest = absurd (false≢true (sym at ∙ ap test (number_same m l here) ∙ flagged))
        by false here false at set rest = rest set

    writes_update : (test : Location → Bool) → test l ≡ true → (accesses : List Access) → updates_in l accesses ≡ true → writes_some test accesses ≡ true
    writes_update test flagged [] is = is
    writes_update test flagged (Read m ∷ accesses) is = writes_update test flagged accesses is
    writes_update test flagged (Set m content ∷ accesses) is = by (test m) (writes_update test flagged accesses is)
      where
        by : (b : Bool) → writes_some test accesses ≡ true → (b || writes_some test accesses) ≡ true
        by true rest = refl
        by false rest = rest
    writes_update test flagged (Update m change ∷ accesses) is = by (locations.eq m l) refl (test m) refl is (writes_update test flagged accesses)
      where
        by : (b : Bool) → locations.eq m l ≡ b → (t : Bool) → test m ≡ t → (b || updates_in l accesses) ≡ true → (updates_in l accesses ≡ true → writes_some test accesses ≡ true)
            → (t || writes_some test accesses) ≡ true
        by b here true at set rest = refl
        by true here false at set rest = absurd (false≢true (sym at ∙ ap test (number_same m l here) ∙ flagged))
        by false here false at set rest = rest set

    pub writes_seen : (test : Location → Bool) → test l ≡ true → (accesses : List Access) → Each (NamesAccess view) accesses
        → (sets_at (location_seen view l) (map (access_seen view) accesses) || updates_at (location_seen view l) (map (access_seen view) accesses)) ≡ true → writes_some test accesses ≡ true
    writes_seen test flagged accesses each is = by (sets_in l accesses) refl (updates_in l accesses) refl
        (ap (λ b. b || updates_in l accesses) (sets_seen accesses each)
        ∙ ap (λ b. sets_at (location_seen view l) (map (access_seen view) accesses) || b) (updates_seen accesses each) ∙ is)
      where
        by : (a : Bool) → sets_in l accesses ≡ a → (b : Bool) → updates_in l accesses ≡ b → (sets_in l accesses || updates_in l accesses) ≡ true → writes_some test accesses ≡ true
        by true set b update one = writes_set test flagged accesses set
        by false set true update one = writes_update test flagged accesses update
        by false set false update one = absurd (false≢true (ap (λ x. x || false) (sym set) ∙ ap (λ y. sets_in l accesses || y) (sym update) ∙ one))

  -- what is written is a location with a flag
  pub record Written (test : Location → Bool) (accesses : List Access) : Type 0 where
    pub at : Location
    pub flagged : test at ≡ true
    pub named : IsNamedLocation view at
    pub writes : (sets_at (location_seen view at) (map (access_seen view) accesses) || updates_at (location_seen view at) (map (access_seen view) accesses)) ≡ true

  pub written_at : (test : Location → Bool) (accesses : List Access) → Each (NamesAccess view) accesses → writes_some test accesses ≡ true → Written test accesses
  written_at test [] each is = absurd (false≢true is)
  written_at test (Read m ∷ accesses) each is =
      let rest = written_at test accesses each.1 is in record { at = rest.at; flagged = rest.flagged; named = rest.named; writes = rest.writes }
  written_at test (Set m content ∷ accesses) each is = by (test m) refl is (written_at test accesses each.1)
    where
      widen : (b c d : Bool) → (c || d) ≡ true → ((b || c) || d) ≡ true
      widen true c d one = refl
      widen false c d one = one

      by : (b : Bool) → test m ≡ b → (b || writes_some test accesses) ≡ true → (writes_some test accesses ≡ true → Written test accesses) → Written test (Set m content ∷ accesses)
      by true flagged one rest = record {
        at = m;
        flagged = flagged;
        named = each.0.0;
        writes = ap (λ b. (b || sets_at (location_seen view m) (map (access_seen view) accesses)) || updates_at (location_seen view m) (map (access_seen view) accesses)) (seen_own (location_seen view m));
      }
      by false flagged one rest =
          let found = rest one in
          record {
            at = found.at;
            flagged = found.flagged;
            named = found.named;
            writes = widen (same_location (location_seen view m) (location_seen view found.at)) (sets_at (location_seen view found.at) (map (access_seen view) accesses))
                (updates_at (location_seen view found.at) (map (access_seen view) accesses)) found.writes;
          }
  written_at test (Update m change ∷ accesses) each is = by (test m) refl is (written_at test accesses each.1)
    where
      widen : (b c d : Bool) → (c || d) ≡ true → (c || (b || d)) ≡ true
      widen true true d one = refl
      widen true false d one = refl
      widen false c d one = one

      own : (c d : Bool) → (c || (true || d)) ≡ true
      own true d = refl
      own false d = refl

      by : (b : Bool) → test m ≡ b → (b || writes_some test accesses) ≡ true → (writes_some test accesses ≡ true → Written test accesses) → Written test (Update m change ∷ accesses)
      by true flagged one rest = record {
        at = m;
        flagged = flagged;
        named = each.0.0;
        writes = ap (λ b. sets_at (location_seen view m) (map (access_seen view) accesses) || (b || updates_at (location_seen view m) (map (access_seen view) accesses))) (seen_own (location_seen view m))
            ∙ own (sets_at (location_seen view m) (map (access_seen view) accesses)) (updates_at (location_seen view m) (map (access_seen view) accesses));
      }
      by false flagged one rest =
          let found = rest one in
          record {
            at = found.at;
            flagged = found.flagged;
            named = found.named;
            writes = widen (same_location (location_seen view m) (location_seen view found.at)) (sets_at (location_seen view found.at) (map (access_seen view) accesses))
                (updates_at (location_seen view found.at) (map (access_seen view) accesses)) found.writes;
          }

  -- ---- reads

  pub read_named : (l : Location) (accesses : List Access) → Each (NamesAccess view) accesses → reads_in l accesses ≡ true → IsNamedLocation view l
  read_named l [] each is = absurd (false≢true is)
  read_named l (Set m content ∷ accesses) each is = read_named l accesses each.1 is
  read_named l (Update m change ∷ accesses) each is = read_named l accesses each.1 is
  read_named l (Read m ∷ accesses) each is = by (locations.eq m l) refl is (read_named l accesses each.1)
    where
      by : (b : Bool) → locations.eq m l ≡ b → (b || reads_in l accesses) ≡ true → (reads_in l accesses ≡ true → IsNamedLocation view l) → IsNamedLocation view l
      by true here one rest = subst (IsNamedLocation view) (number_same m l here) each.0
      by false here one rest = rest one

has_both : (s : ℕ) (xs ys : List ℕ) → has s (xs ++ ys) ≡ (has s xs || has s ys)
has_both s [] ys = refl
has_both s (x ∷ xs) ys = ap (λ b. (x == s) || b) (has_both s xs ys) ∙ assoc (x == s) (has s xs) (has s ys)
  where
    assoc : (a b c : Bool) → (a || (b || c)) ≡ ((a || b) || c)
    assoc true b c = refl
    assoc false b c = refl

pub in_both : (s : ℕ) (xs ys : List ℕ) → has s (xs ++ ys) ≡ true → (has s xs ≡ true) ⊎ (has s ys ≡ true)
in_both s xs ys is = by (has s xs) refl (sym (has_both s xs ys) ∙ is)
  where
    by : (b : Bool) → has s xs ≡ b → (b || has s ys) ≡ true → (has s xs ≡ true) ⊎ (has s ys ≡ true)
    by true first one = inl first
    by false first one = inr one

pub in_first : (s : ℕ) (xs ys : List ℕ) → has s xs ≡ true → has s (xs ++ ys) ≡ true
in_first s xs ys is = has_both s xs ys ∙ ap (λ b. b || has s ys) is

pub in_second : (s : ℕ) (xs ys : List ℕ) → has s ys ≡ true → has s (xs ++ ys) ≡ true
in_second s xs ys is = has_both s xs ys ∙ by (has s xs)
  where
    by : (b : Bool) → (b || has s ys) ≡ true
    by true = refl
    by false = is

module _ (view : ValuesView) (before : List Moment) (x : ℕ) where
  -- what reads reach is in the reach of a location that is read
  pub record ReadAt (accesses : List Access) : Type 0 where
    pub at : Location
    pub reads : reads_in at accesses ≡ true
    pub there : has x (reach (location_seen view at) before) ≡ true

  pub read_at : (accesses : List Access) → has x (reached (map (access_seen view) accesses) before) ≡ true → ReadAt accesses
  read_at [] is = absurd (false≢true is)
  read_at (Set m content ∷ accesses) is = let rest = read_at accesses is in record { at = rest.at; reads = rest.reads; there = rest.there }
  read_at (Update m change ∷ accesses) is = let rest = read_at accesses is in record { at = rest.at; reads = rest.reads; there = rest.there }
  read_at (Read m ∷ accesses) is = by (in_both x (reach (location_seen view m) before) (reached (map (access_seen view) accesses) before) is) (read_at accesses)
    where
      widen : (b c : Bool) → c ≡ true → (b || c) ≡ true
      widen true c one = refl
      widen false c one = one

      by : (has x (reach (location_seen view m) before) ≡ true) ⊎ (has x (reached (map (access_seen view) accesses) before) ≡ true)
          → (has x (reached (map (access_seen view) accesses) before) ≡ true → ReadAt accesses) → ReadAt (Read m ∷ accesses)
      by (inl here) rest = record { at = m; reads = ap (λ b. b || reads_in m accesses) (number_own m); there = here }
      by (inr behind) rest =
          let found = rest behind in
          record { at = found.at; reads = widen (locations.eq m found.at) (reads_in found.at accesses) found.reads; there = found.there }

  pub at_read : (l : Location) (accesses : List Access) → reads_in l accesses ≡ true → has x (reach (location_seen view l) before) ≡ true
      → has x (reached (map (access_seen view) accesses) before) ≡ true
  at_read l [] is there = is
  at_read l (Set m content ∷ accesses) is there = at_read l accesses is there
  at_read l (Update m change ∷ accesses) is there = at_read l accesses is there
  at_read l (Read m ∷ accesses) is there = by (locations.eq m l) refl is (λ rest. at_read l accesses rest there)
    where
      by : (b : Bool) → locations.eq m l ≡ b → (b || reads_in l accesses) ≡ true
          → (reads_in l accesses ≡ true → has x (reached (map (access_seen view) accesses) before) ≡ true)
          → has x (reach (location_seen view m) before ++ reached (map (access_seen view) accesses) before) ≡ true
      by true here one rest =
          in_first x (reach (location_seen view m) before) (reached (map (access_seen view) accesses) before)
          (ap (λ k. has x (reach (location_seen view k) before)) (number_same m l here) ∙ there)
      by false here one rest = in_second x (reach (location_seen view m) before) (reached (map (access_seen view) accesses) before) (rest one)
