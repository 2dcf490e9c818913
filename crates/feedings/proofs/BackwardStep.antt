-- The marks of what feeds a moment, before one moment more.
use Rattle.std.proofs.Common.{◌≡◌, ◌<◌, ◌≤◌, ℕ, suc, ◌==◌, ◌||◌, ◌&&◌, Bool, true, false, if◌then◌else◌, List, [], ◌∷◌, map, length, refl, sym, ap, subst, ◌∙◌, inl, inr, arith, eqb-true, eq-eqb}
use Rattle.std.specs.Prelude.{◌⊎◌}
use Rattle.std.proofs.lemmas.Bool.{false≢true}
use Rattle.py_tree.specs.Tree.{ScriptTree}
use Rattle.py_value.specs.declared.access.Access.{Access}
use Rattle.py_value.specs.declared.access.Location.{Location}
use Rattle.py_value.specs.Seen.{location_seen, access_seen, IsNamedLocation}
use Rattle.py_value.specs.Values.{ValuesView, AreInterned}
use Rattle.py_model.specs.History.{accesses_by}
use Rattle.py_model.specs.Moment.{Moment}
use Rattle.py_model.specs.Occurrences.{reach, sets_at, updates_at}
use Rattle.row_words.specs.Fits.{Each}
use Rattle.row_checks.specs.NamedRows.{NamesAccess}
use Rattle.slice_law.specs.Closed.{has}
use Rattle.feedings.specs.Feeding.{reached, passed, read_by, feeders, feeds, IsChain}
use Rattle.feedings.specs.Marks.{mark_at, writes_some, reads_in, after_all}
use Rattle.feedings.specs.Sweeps.{AreBackward, Owed, by_mark, by_reach, Because, itself, feeding, HasSought}
use Rattle.feedings.proofs.PassedBelow.{below_has, passed_below}
use Rattle.feedings.proofs.Chains.{feeds_below, backward_chain, chain_backward, chain_below}
use Rattle.feedings.proofs.FlagLaws.{kept_flag, none_after, after_seen, writes_seen, written_at, read_named, in_both, in_first, in_second, read_at, at_read}

-- either of two tests
either : (a b : Bool) → (a || b) ≡ true → (a ≡ true) ⊎ (b ≡ true)
either true b is = inl refl
either false b is = inr is

both : (a b : Bool) → (a && b) ≡ true → (a ≡ true) × (b ≡ true)
both true b is = (refl, is)
both false b is = absurd (false≢true is)

first : (a b : Bool) → a ≡ true → (a || b) ≡ true
first a b is = ap (λ c. c || b) is

second : (a b : Bool) → b ≡ true → (a || b) ≡ true
second true b is = refl
second false b is = is

also : (a b : Bool) → a ≡ true → b ≡ true → (a && b) ≡ true
also a b one two = ap (λ c. c && b) one ∙ two

module _ (view : ValuesView) (interned : AreInterned view) (script : ScriptTree) (time : ℕ) (all : List Moment) (moment : Moment) (before : List Moment)
    (fed_at : (x : ℕ) → feeds script all x (length before) ≡ has x (feeders script moment before)) (inside : length before < length all)
    (accesses : List Access) (each : Each (NamesAccess view) accesses)
    (done : accesses_by moment ≡ map (access_seen view) accesses) (read : read_by moment ≡ map (access_seen view) accesses)
    (marks : ℕ → Bool) (flags : Location → Bool) (old : HasSought view script time all (moment ∷ before) marks flags)
    (wanted : Bool) (wanted_is : wanted ≡ (marks (length before) || writes_some flags accesses))
    (new : ℕ → Bool) (new_below : (x : ℕ) → new x ≡ true → x < length all)
    (new_is : (x : ℕ) → x < length all → new x ≡ ((wanted && ((x == length before) || has x (passed script moment before))) || marks x))
    (next : Location → Bool) (next_is : (l : Location) → next l ≡ ((wanted && reads_in l accesses) || after_all false l accesses (flags l))) where
  abbrev n : ℕ
  n = length before

  abbrev Was : ℕ → Type 0
  Was x = Owed view marks flags (moment ∷ before) x

  abbrev Is : ℕ → Type 0
  Is x = Owed view new next before x

  abbrev Why : ℕ → Type 0
  Why x = Because script all time n new x

  keep : (x : ℕ) → marks x ≡ true → new x ≡ true
  keep x is = new_is x (old.below x is) ∙ second (wanted && ((x == n) || has x (passed script moment before))) (marks x) is

  mark_here : wanted ≡ true → new n ≡ true
  mark_here is = new_is n inside ∙ first (wanted && ((n == n) || has n (passed script moment before))) (marks n)
      (also wanted ((n == n) || has n (passed script moment before)) is (first (n == n) (has n (passed script moment before)) (eq-eqb n n refl)))

  mark_passed : (x : ℕ) → wanted ≡ true → has x (passed script moment before) ≡ true → new x ≡ true
  mark_passed x is fed =
      let less = below_has n x (passed script moment before) (passed_below script moment before) fed in
      new_is x (omega (arith, less, inside)) ∙ first (wanted && ((x == n) || has x (passed script moment before))) (marks x)
      (also wanted ((x == n) || has x (passed script moment before)) is (second (x == n) (has x (passed script moment before)) fed))

  flag_read : (l : Location) → wanted ≡ true → reads_in l accesses ≡ true → next l ≡ true
  flag_read l is reads = next_is l ∙ first (wanted && reads_in l accesses) (after_all false l accesses (flags l)) (also wanted (reads_in l accesses) is reads)

  abbrev sets_it : Location → Bool
  sets_it l = sets_at (location_seen view l) (map (access_seen view) accesses)

  abbrev updates_it : Location → Bool
  updates_it l = updates_at (location_seen view l) (map (access_seen view) accesses)

  reach_is : (l : Location) → reach (location_seen view l) (moment ∷ before)
      ≡ (if sets_it l then n ∷ [] else if updates_it l then n ∷ reach (location_seen view l) before else reach (location_seen view l) before)
  reach_is l = ap (λ some. if sets_at (location_seen view l) some then n ∷ [] else if updates_at (location_seen view l) some then n ∷ reach (location_seen view l) before else reach (location_seen view l) before) done

  after_clear : (l : Location) → IsNamedLocation view l → after_all false l accesses (flags l) ≡ kept_flag false (sets_it l) (updates_it l) (flags l)
  after_clear l named = after_seen view interned l named false accesses (flags l) each

  -- a flag that is not cleared stays
  flag_kept : (l : Location) → flags l ≡ true → sets_it l ≡ false → next l ≡ true
  flag_kept l is clear =
      next_is l ∙ second (wanted && reads_in l accesses) (after_all false l accesses (flags l))
      (after_clear l (old.named l is) ∙ ap (λ set. kept_flag false set (updates_it l) (flags l)) clear ∙ by (updates_it l))
    where
      by : (update : Bool) → kept_flag false false update (flags l) ≡ true
      by true = is
      by false = is

  wanted_marked : marks n ≡ true → wanted ≡ true
  wanted_marked is = wanted_is ∙ first (marks n) (writes_some flags accesses) is

  wanted_written : (l : Location) → flags l ≡ true → (sets_it l || updates_it l) ≡ true → wanted ≡ true
  wanted_written l is writes = wanted_is ∙ second (marks n) (writes_some flags accesses) (writes_seen view interned l (old.named l is) flags is accesses each writes)

  here : (x : ℕ) → n ≡ x → wanted ≡ true → Is x
  here x same is = by_mark (ap new (sym same) ∙ mark_here is)

  lift : (x : ℕ) → Was x → Is x
  lift x (by_mark is) = by_mark (keep x is)
  lift x (by_reach l flagged there) = by (sets_it l) refl (updates_it l) refl (ap (has x) (sym (reach_is l)) ∙ there)
    where
      here_or : (b : Bool) → (n == x) ≡ b → (b || has x (reach (location_seen view l) before)) ≡ true → wanted ≡ true → sets_it l ≡ false → Is x
      here_or true same one is clear = here x (eqb-true n x same) is
      here_or false same one is clear = by_reach l (flag_kept l flagged clear) one

      alone : (b : Bool) → (n == x) ≡ b → (b || false) ≡ true → wanted ≡ true → Is x
      alone true same one is = here x (eqb-true n x same) is
      alone false same one is = absurd (false≢true one)

      by : (a : Bool) → sets_it l ≡ a → (b : Bool) → updates_it l ≡ b
          → has x (if a then n ∷ [] else if b then n ∷ reach (location_seen view l) before else reach (location_seen view l) before) ≡ true → Is x
      by true set b update one = alone (n == x) refl one (wanted_written l flagged (first (sets_it l) (updates_it l) set))
      by false set true update one = here_or (n == x) refl one (wanted_written l flagged (second (sets_it l) (updates_it l) update)) set
      by false set false update one = by_reach l (flag_kept l flagged set) one

  own : time < length all → Is time
  own within = lift time (old.own within)

  -- why a time has its mark
  abbrev Marked : ℕ → Type 0
  Marked x = (marks x ≡ true) ⊎ ((wanted ≡ true) × ((x ≡ n) ⊎ (has x (passed script moment before) ≡ true)))

  marked : (x : ℕ) → new x ≡ true → Marked x
  marked x is = by (either (wanted && ((x == n) || has x (passed script moment before))) (marks x) (sym (new_is x (new_below x is)) ∙ is))
    where
      which : ((x == n) ≡ true) ⊎ (has x (passed script moment before) ≡ true) → (x ≡ n) ⊎ (has x (passed script moment before) ≡ true)
      which (inl same) = inl (eqb-true x n same)
      which (inr fed) = inr fed

      by : ((wanted && ((x == n) || has x (passed script moment before))) ≡ true) ⊎ (marks x ≡ true) → Marked x
      by (inl one) =
          let two = both wanted ((x == n) || has x (passed script moment before)) one in
          inr (two.0, which (either (x == n) (has x (passed script moment before)) two.1))
      by (inr one) = inl one

  still_wanted : new n ≡ true → wanted ≡ true
  still_wanted is = by (marked n is)
    where
      by : Marked n → wanted ≡ true
      by (inl one) = wanted_marked one
      by (inr one) = one.0

  later_marked : (y : ℕ) → n < y → new y ≡ true → marks y ≡ true
  later_marked y past is = by (marked y is)
    where
      by : Marked y → marks y ≡ true
      by (inl one) = one
      by (inr (one, inl same)) = absurd (omega (arith, past, same))
      by (inr (one, inr fed)) = absurd (omega (arith, past, below_has n y (passed script moment before) (passed_below script moment before) fed))

  spread : (x y : ℕ) → n ≤ y → new y ≡ true → feeds script all x y ≡ true → Is x
  spread x y from is fed = by (y == n) refl
    where
      fed_here : wanted ≡ true → (has x (passed script moment before) ≡ true) ⊎ (has x (reached (read_by moment) before) ≡ true) → Is x
      fed_here wants (inl one) = by_mark (mark_passed x wants one)
      fed_here wants (inr one) =
          let found = read_at view before x accesses (ap (λ some. has x (reached some before)) (sym read) ∙ one) in
          by_reach found.at (flag_read found.at wants found.reads) found.there

      later : (a b : ℕ) → a ≤ b → (b == a) ≡ false → a < b
      later a b less other = grind (arith, eq-eqb, false≢true)

      by : (b : Bool) → (y == n) ≡ b → Is x
      by true same =
          let at : y ≡ n = eqb-true y n same in
          fed_here (still_wanted (ap new (sym at) ∙ is))
          (in_both x (passed script moment before) (reached (read_by moment) before) (sym (fed_at x) ∙ ap (feeds script all x) (sym at) ∙ fed))
      by false same =
          let past : n < y = later n y from same in
          lift x (old.spread x y past (later_marked y past is) fed)

  -- a reason from before is one now
  shift : (x : ℕ) → Because script all time (suc n) marks x → Why x
  shift x (itself same) = itself same
  shift x (feeding y from is fed) = feeding y (omega (arith, from)) (keep y is) fed

  only : (x : ℕ) → Is x → Why x
  only x (by_mark is) = by (marked x is)
    where
      here_why : wanted ≡ true → Why n
      here_why wants = why (either (marks n) (writes_some flags accesses) (sym wanted_is ∙ wants))
        where
          in_reach : (l : Location) → (sets_it l || updates_it l) ≡ true → has n (reach (location_seen view l) (moment ∷ before)) ≡ true
          in_reach l writes = ap (has n) (reach_is l) ∙ cases (sets_it l) (updates_it l) writes
            where
              cases : (a b : Bool) → (a || b) ≡ true → has n (if a then n ∷ [] else if b then n ∷ reach (location_seen view l) before else reach (location_seen view l) before) ≡ true
              cases true b one = first (n == n) false (eq-eqb n n refl)
              cases false true one = first (n == n) (has n (reach (location_seen view l) before)) (eq-eqb n n refl)
              cases false false one = absurd (false≢true one)

          why : (marks n ≡ true) ⊎ (writes_some flags accesses ≡ true) → Why n
          why (inl one) = shift n (old.only n (by_mark one))
          why (inr one) =
              let found = written_at view interned flags accesses each one in
              shift n (old.only n (by_reach found.at found.flagged (in_reach found.at found.writes)))

      by : Marked x → Why x
      by (inl one) = shift x (old.only x (by_mark one))
      by (inr (wants, inl same)) = subst Why (sym same) (here_why wants)
      by (inr (wants, inr fed)) =
          feeding n (omega arith) (mark_here wants) (fed_at x ∙ in_first x (passed script moment before) (reached (read_by moment) before) fed)
  only x (by_reach l flagged there) = by (either (wanted && reads_in l accesses) (after_all false l accesses (flags l)) (sym (next_is l) ∙ flagged))
    where
      read_why : (wanted ≡ true) × (reads_in l accesses ≡ true) → Why x
      read_why two =
          feeding n (omega arith) (mark_here two.0)
          (fed_at x ∙ in_second x (passed script moment before) (reached (read_by moment) before)
          (ap (λ some. has x (reached some before)) read ∙ at_read view before x l accesses two.1 there))

      kept : (a b : Bool) → sets_it l ≡ a → updates_it l ≡ b → flags l ≡ true → kept_flag false a b (flags l) ≡ true → has x (reach (location_seen view l) (moment ∷ before)) ≡ true
      kept a b set update is one =
          ap (has x) (reach_is l) ∙ ap (λ c. has x (if c then n ∷ [] else if updates_it l then n ∷ reach (location_seen view l) before else reach (location_seen view l) before)) set
          ∙ ap (λ c. has x (if a then n ∷ [] else if c then n ∷ reach (location_seen view l) before else reach (location_seen view l) before)) update ∙ cases a b one
        where
          cases : (a b : Bool) → kept_flag false a b (flags l) ≡ true
              → has x (if a then n ∷ [] else if b then n ∷ reach (location_seen view l) before else reach (location_seen view l) before) ≡ true
          cases true b one = absurd (false≢true one)
          cases false true one = second (n == x) (has x (reach (location_seen view l) before)) there
          cases false false one = there

      flag_was : (b : Bool) → flags l ≡ b → after_all false l accesses (flags l) ≡ true → flags l ≡ true
      flag_was true is one = is
      flag_was false is one = absurd (false≢true (sym (none_after l accesses) ∙ ap (after_all false l accesses) (sym is) ∙ one))

      by : ((wanted && reads_in l accesses) ≡ true) ⊎ (after_all false l accesses (flags l) ≡ true) → Why x
      by (inl one) = read_why (both wanted (reads_in l accesses) one)
      by (inr one) =
          let was = flag_was (flags l) refl one in
          shift x (old.only x (by_reach l was (kept (sets_it l) (updates_it l) refl refl was (sym (after_clear l (old.named l was)) ∙ one))))

  pub backward_step : HasSought view script time all before new next
  backward_step = record {
    below = new_below;
    named = λ l flagged. named l (either (wanted && reads_in l accesses) (after_all false l accesses (flags l)) (sym (next_is l) ∙ flagged));
    own = own;
    spread = spread;
    only = only;
  }
    where
      was : (l : Location) (b : Bool) → flags l ≡ b → after_all false l accesses (flags l) ≡ true → IsNamedLocation view l
      was l true is one = old.named l is
      was l false is one = absurd (false≢true (sym (none_after l accesses) ∙ ap (after_all false l accesses) (sym is) ∙ one))

      named : (l : Location) → ((wanted && reads_in l accesses) ≡ true) ⊎ (after_all false l accesses (flags l) ≡ true) → IsNamedLocation view l
      named l (inl one) = read_named view interned l accesses each (both wanted (reads_in l accesses) one).1
      named l (inr one) = was l (flags l) refl one

module _ (view : ValuesView) (script : ScriptTree) (time : ℕ) (all : List Moment) (marks : ℕ → Bool) (flags : Location → Bool) where
  -- behind all moments
  pub none_sought : time < length all → ((x : ℕ) → marks x ≡ (x == time)) → ((l : Location) → flags l ≡ false) → HasSought view script time all all marks flags
  none_sought within is nothing = record {
    below = λ x marked. let same = eqb-true x time (sym (is x) ∙ marked) in omega (arith, same, within);
    named = λ l flagged. absurd (false≢true (sym (nothing l) ∙ flagged));
    own = λ less. by_mark (is time ∙ eq-eqb time time refl);
    spread = λ x y from marked fed. absurd (let bounds = feeds_below script all x y fed in omega (arith, bounds.1, from));
    only = only;
  }
    where
      only : (x : ℕ) → Owed view marks flags all x → Because script all time (length all) marks x
      only x (by_mark marked) = itself (eqb-true x time (sym (is x) ∙ marked))
      only x (by_reach l flagged there) = absurd (false≢true (sym (nothing l) ∙ flagged))

  -- before all moments
  backward : HasSought view script time all [] marks flags → AreBackward script all time marks
  backward sought = record {
    own = λ within. marked time (sought.own within);
    spread = λ x y fed is. marked x (sought.spread x y (omega arith) is fed);
    only = λ x is. why x (sought.only x (by_mark is));
  }
    where
      marked : (x : ℕ) → Owed view marks flags [] x → marks x ≡ true
      marked x (by_mark is) = is
      marked x (by_reach l flagged there) = absurd (false≢true there)

      why : (x : ℕ) → Because script all time 0 marks x → (x ≡ time) ⊎ ((y : ℕ) × (marks y ≡ true) × (feeds script all x y ≡ true))
      why x (itself same) = inl same
      why x (feeding y from is fed) = inr (y, is, fed)

  -- the marks without that of the time itself
  pub sources_are : (cleared : List Bool) → HasSought view script time all [] marks flags → time < length all → ((t : ℕ) → mark_at cleared t ≡ (if t == time then false else marks t))
      → (t : ℕ) → ((mark_at cleared t ≡ true) → IsChain script all t time) × (IsChain script all t time → mark_at cleared t ≡ true)
  sources_are cleared sought within is t = (only (t == time) refl, every)
    where
      only : (b : Bool) → (t == time) ≡ b → mark_at cleared t ≡ true → IsChain script all t time
      only true same marked = absurd (false≢true (sym (is t ∙ ap (λ b. if b then false else marks t) same) ∙ marked))
      only false same marked = chain_backward script all time marks (backward sought) t same (sym (is t ∙ ap (λ b. if b then false else marks t) same) ∙ marked)

      apart : (a b : ℕ) → a < b → (a == b) ≡ false
      apart a b less = by (a == b) refl
        where
          by : (c : Bool) → (a == b) ≡ c → (a == b) ≡ false
          by true same = absurd (omega (arith, less, eqb-true a b same))
          by false same = same

      every : IsChain script all t time → mark_at cleared t ≡ true
      every chain =
          is t ∙ ap (λ b. if b then false else marks t) (apart t time (chain_below script all time t time chain).0)
          ∙ backward_chain script all time marks (backward sought) t within chain
