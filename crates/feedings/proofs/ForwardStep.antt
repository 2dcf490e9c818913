-- The marks of what a moment feeds, after one moment more.
use Rattle.std.proofs.Common.{◌≡◌, ◌<◌, ◌+◌, ℕ, suc, ◌==◌, ◌||◌, Bool, true, false, if◌then◌else◌, List, [], ◌∷◌, ◌++◌, map, length, refl, sym, ap, subst, ◌∙◌, inl, inr, arith, eqb-true, eq-eqb, length-append}
use Rattle.std.specs.Prelude.{◌⊎◌}
use Rattle.std.proofs.lemmas.Bool.{false≢true}
use Rattle.std.proofs.lemmas.List.{get_or_append_left, get_or_push, get_or_past}
use Rattle.py_tree.specs.Tree.{ScriptTree}
use Rattle.py_value.specs.declared.access.Access.{Access}
use Rattle.py_value.specs.declared.access.Access.TheVariants.{Read, Set, Update}
use Rattle.py_value.specs.declared.access.Location.{Location}
use Rattle.py_value.specs.Seen.{location_seen, access_seen, IsNamedLocation}
use Rattle.py_value.specs.Values.{ValuesView, AreInterned}
use Rattle.py_model.specs.History.{accesses_by}
use Rattle.py_model.specs.Moment.{Moment}
use Rattle.py_model.specs.Occurrences.{reach, sets_at, updates_at}
use Rattle.row_words.specs.Fits.{Each}
use Rattle.row_checks.specs.NamedRows.{NamesAccess}
use Rattle.slice_law.specs.Closed.{has}
use Rattle.feedings.specs.Feeding.{reached, passed, read_by, feeders, feeds, IsChain}
use Rattle.feedings.specs.Marks.{mark_at, some_marked, flag_at, reads_some, after_all, next_mark}
use Rattle.feedings.specs.Sweeps.{HasMarked}
use Rattle.feedings.proofs.PassedBelow.{AllBelow, below_has, reach_below, feeders_below}
use Rattle.feedings.proofs.Chains.{feeds_below, feeds_here, feeds_past, not_same, forward_chain, chain_forward, chain_below}
use Rattle.feedings.proofs.FlagLaws.{kept_flag, after_seen}

some_both : (marks : ℕ → Bool) (xs ys : List ℕ) → some_marked marks (xs ++ ys) ≡ (some_marked marks xs || some_marked marks ys)
some_both marks [] ys = refl
some_both marks (x ∷ xs) ys = ap (λ b. marks x || b) (some_both marks xs ys) ∙ assoc (marks x) (some_marked marks xs) (some_marked marks ys)
  where
    assoc : (a b c : Bool) → (a || (b || c)) ≡ ((a || b) || c)
    assoc true b c = refl
    assoc false b c = refl

some_same : (new marks : ℕ → Bool) (n : ℕ) (times : List ℕ) → AllBelow n times → ((t : ℕ) → t < n → new t ≡ marks t) → some_marked new times ≡ some_marked marks times
some_same new marks n [] below same = refl
some_same new marks n (time ∷ times) below same = ap (λ b. b || some_marked new times) (same time below.0) ∙ ap (λ b. marks time || b) (some_same new marks n times below.1 same)

marked_has : (marks : ℕ → Bool) (x : ℕ) (times : List ℕ) → has x times ≡ true → marks x ≡ true → some_marked marks times ≡ true
marked_has marks x [] is marked = is
marked_has marks x (time ∷ times) is marked = by (time == x) refl (marks time) refl is (λ rest. marked_has marks x times rest marked)
  where
    by : (b : Bool) → (time == x) ≡ b → (c : Bool) → marks time ≡ c → (b || has x times) ≡ true → (has x times ≡ true → some_marked marks times ≡ true) → (c || some_marked marks times) ≡ true
    by b same true at one rest = refl
    by true same false at one rest = absurd (false≢true (sym at ∙ ap marks (eqb-true time x same) ∙ marked))
    by false same false at one rest = rest one

has_marked : (marks : ℕ → Bool) (times : List ℕ) → some_marked marks times ≡ true → (x : ℕ) × (has x times ≡ true) × (marks x ≡ true)
has_marked marks [] is = absurd (false≢true is)
has_marked marks (time ∷ times) is = by (marks time) refl is (has_marked marks times)
  where
    behind : (b : Bool) (x : ℕ) → has x times ≡ true → (b || has x times) ≡ true
    behind true x is = refl
    behind false x is = is

    by : (b : Bool) → marks time ≡ b → (b || some_marked marks times) ≡ true → (some_marked marks times ≡ true → (x : ℕ) × (has x times ≡ true) × (marks x ≡ true))
        → (x : ℕ) × (has x (time ∷ times) ≡ true) × (marks x ≡ true)
    by true at one rest = (time, ap (λ b. b || has time times) (eq-eqb time time refl), at)
    by false at one rest = let found = rest one in (found.0, behind (time == found.0) found.0 found.1, found.2)

module _ (view : ValuesView) (interned : AreInterned view) (script : ScriptTree) (time : ℕ) (moment : Moment) (before : List Moment) (accesses : List Access)
    (each : Each (NamesAccess view) accesses) (done : accesses_by moment ≡ map (access_seen view) accesses) (read : read_by moment ≡ map (access_seen view) accesses)
    (times : List ℕ) (these : times ≡ passed script moment before)
    (marks : List Bool) (entries : List (Location × Bool)) (old : HasMarked view script time before marks entries) where
  abbrev n : ℕ
  n = length before

  abbrev mark : Bool
  mark = next_mark time marks entries times accesses

  reads_flagged : (some : List Access) → Each (NamesAccess view) some → reads_some (flag_at entries) some ≡ some_marked (mark_at marks) (reached (map (access_seen view) some) before)
  reads_flagged [] named = refl
  reads_flagged (Set m content ∷ some) named = reads_flagged some named.1
  reads_flagged (Update m change ∷ some) named = reads_flagged some named.1
  reads_flagged (Read m ∷ some) named =
      ap (λ b. b || reads_some (flag_at entries) some) (old.flags m named.0)
      ∙ ap (λ b. some_marked (mark_at marks) (reach (location_seen view m) before) || b) (reads_flagged some named.1)
      ∙ sym (some_both (mark_at marks) (reach (location_seen view m) before) (reached (map (access_seen view) some) before))

  mark_is : mark ≡ ((n == time) || some_marked (mark_at marks) (feeders script moment before))
  mark_is =
      ap (λ (k : ℕ). (k == time) || (some_marked (mark_at marks) times || reads_some (flag_at entries) accesses)) old.many
      ∙ ap (λ (b : Bool). (n == time) || b)
      (ap (λ (ts : List ℕ). some_marked (mark_at marks) ts || reads_some (flag_at entries) accesses) these
      ∙ ap (λ (b : Bool). some_marked (mark_at marks) (passed script moment before) || b)
      (reads_flagged accesses each ∙ ap (λ some. some_marked (mark_at marks) (reached some before)) (sym read))
      ∙ sym (some_both (mark_at marks) (passed script moment before) (reached (read_by moment) before)))

  abbrev new : ℕ → Bool
  new = mark_at (marks ++ mark ∷ [])

  new_old : (t : ℕ) → t < n → new t ≡ mark_at marks t
  new_old t less = get_or_append_left marks (mark ∷ []) false t (omega (arith, less, old.many))

  new_here : new n ≡ mark
  new_here = get_or_push marks mark false n old.many

  new_past : (t : ℕ) → n < t → new t ≡ false
  new_past t less =
      let many : length (marks ++ mark ∷ []) ≡ length marks + 1 = length-append marks (mark ∷ []) in
      get_or_past (marks ++ mark ∷ []) t false (omega (arith, many, less, old.many))

  own : time < suc n → new time ≡ true
  own within = by (n == time) refl
    where
      by : (b : Bool) → (n == time) ≡ b → new time ≡ true
      by true same = ap new (sym (eqb-true n time same)) ∙ new_here ∙ mark_is ∙ ap (λ b. b || some_marked (mark_at marks) (feeders script moment before)) same
      by false same =
          let less : time < n = below time n within same in
          new_old time less ∙ old.forward.own less
        where
          below : (t m : ℕ) → t < suc m → (m == t) ≡ false → t < m
          below t m within other = grind (arith, eq-eqb, false≢true)

  fed_here : (x : ℕ) → has x (feeders script moment before) ≡ true → new x ≡ true → new n ≡ true
  fed_here x is marked =
      let less = below_has n x (feeders script moment before) (feeders_below script moment before) is in
      new_here ∙ mark_is ∙ ap (λ b. (n == time) || b) (marked_has (mark_at marks) x (feeders script moment before) is (sym (new_old x less) ∙ marked)) ∙ by (n == time)
    where
      by : (b : Bool) → (b || true) ≡ true
      by true = refl
      by false = refl

  spread : (x y : ℕ) → feeds script (moment ∷ before) x y ≡ true → new x ≡ true → new y ≡ true
  spread x y is marked = by (n == y) refl is
    where
      by : (b : Bool) → (n == y) ≡ b → (if b then has x (feeders script moment before) else feeds script before x y) ≡ true → new y ≡ true
      by true same fed = ap new (sym (eqb-true n y same)) ∙ fed_here x fed marked
      by false same fed =
          let bounds = feeds_below script before x y fed in
          let first : x < n = omega (arith, bounds.0, bounds.1) in
          new_old y bounds.1 ∙ old.forward.spread x y fed (sym (new_old x first) ∙ marked)

  abbrev Whence : ℕ → Type 0
  Whence y = (y ≡ time) ⊎ ((x : ℕ) × (new x ≡ true) × (feeds script (moment ∷ before) x y ≡ true))

  only : (y : ℕ) → new y ≡ true → Whence y
  only y marked = by (n == y) refl
    where
      from : (b : Bool) → (n == time) ≡ b → (b || some_marked (mark_at marks) (feeders script moment before)) ≡ true → Whence n
      from true same one = inl (eqb-true n time same)
      from false same one =
          let found = has_marked (mark_at marks) (feeders script moment before) one in
          let less = below_has n found.0 (feeders script moment before) (feeders_below script moment before) found.1 in
          inr (found.0, new_old found.0 less ∙ found.2, feeds_here script moment before found.0 ∙ found.1)

      earlier : y < n → (y ≡ time) ⊎ ((x : ℕ) × (mark_at marks x ≡ true) × (feeds script before x y ≡ true)) → Whence y
      earlier less (inl same) = inl same
      earlier less (inr fed) =
          let bounds = feeds_below script before fed.0 y fed.2 in
          inr (fed.0, new_old fed.0 (omega (arith, bounds.0, bounds.1)) ∙ fed.1, feeds_past script moment before fed.0 y less ∙ fed.2)

      apart : (y < n) ⊎ (n < y) → Whence y
      apart (inl less) = earlier less (old.forward.only y (sym (new_old y less) ∙ marked))
      apart (inr past) = absurd (false≢true (sym (new_past y past) ∙ marked))

      split : (a b : ℕ) → (a == b) ≡ false → (b < a) ⊎ (a < b)
      split a b other = grind (arith, eq-eqb, false≢true)

      by : (b : Bool) → (n == y) ≡ b → Whence y
      by true same = subst Whence (eqb-true n y same) (from (n == time) refl (sym mark_is ∙ sym new_here ∙ ap new (eqb-true n y same) ∙ marked))
      by false same = apart (split n y same)

  flags : (next : List (Location × Bool)) → ((l : Location) → flag_at next l ≡ after_all mark l accesses (flag_at entries l))
      → (l : Location) → IsNamedLocation view l → flag_at next l ≡ some_marked new (reach (location_seen view l) (moment ∷ before))
  flags next noted l named =
      noted l ∙ after_seen view interned l named mark accesses (flag_at entries l) each
      ∙ ap (λ some. kept_flag mark (sets_at (location_seen view l) some) (updates_at (location_seen view l) some) (flag_at entries l)) (sym done)
      ∙ sym (by (sets_at (location_seen view l) (accesses_by moment)) (updates_at (location_seen view l) (accesses_by moment)))
    where
      earlier : some_marked new (reach (location_seen view l) before) ≡ flag_at entries l
      earlier = some_same new (mark_at marks) n (reach (location_seen view l) before) (reach_below (location_seen view l) before) new_old ∙ sym (old.flags l named)

      none : (b : Bool) → (b || false) ≡ b
      none true = refl
      none false = refl

      by : (set update : Bool) → some_marked new (if set then n ∷ [] else if update then n ∷ reach (location_seen view l) before else reach (location_seen view l) before)
          ≡ kept_flag mark set update (flag_at entries l)
      by true update = none (new n) ∙ new_here
      by false true = ap (λ b. b || some_marked new (reach (location_seen view l) before)) new_here ∙ ap (λ b. mark || b) earlier
      by false false = earlier

  pub forward_step : (after : List Bool) (next : List (Location × Bool)) → after ≡ marks ++ mark ∷ [] → ((l : Location) → flag_at next l ≡ after_all mark l accesses (flag_at entries l))
      → HasMarked view script time (moment ∷ before) after next
  forward_step after next same noted =
      let many : length (marks ++ mark ∷ []) ≡ length marks + 1 = length-append marks (mark ∷ []) in
      subst (λ some. HasMarked view script time (moment ∷ before) some next) (sym same)
      (record { many = omega (arith, many, old.many); forward = record { own = own; spread = spread; only = only }; flags = flags next noted })

-- before all moments
pub none_marked : (view : ValuesView) (script : ScriptTree) (time : ℕ) (marks : List Bool) (entries : List (Location × Bool)) → marks ≡ [] → ((l : Location) → flag_at entries l ≡ false)
    → HasMarked view script time [] marks entries
none_marked view script time marks entries none nothing =
    subst (λ some. HasMarked view script time [] some entries) (sym none) (record {
      many = refl;
      forward = record { own = λ less. absurd (omega (arith, less)); spread = λ x y is marked. absurd (false≢true is); only = λ y is. absurd (false≢true is) };
      flags = λ l named. nothing l;
    })

-- the marks without that of the time itself
pub effects_are : (view : ValuesView) (script : ScriptTree) (time : ℕ) (told : List Moment) (marks : List Bool) (entries : List (Location × Bool)) (cleared : List Bool)
    → HasMarked view script time told marks entries → time < length told → ((t : ℕ) → mark_at cleared t ≡ (if t == time then false else mark_at marks t))
    → (t : ℕ) → ((mark_at cleared t ≡ true) → IsChain script told time t) × (IsChain script told time t → mark_at cleared t ≡ true)
effects_are view script time told marks entries cleared known within is t = (only (t == time) refl, all)
  where
    only : (b : Bool) → (t == time) ≡ b → mark_at cleared t ≡ true → IsChain script told time t
    only true same marked = absurd (false≢true (sym (is t ∙ ap (λ b. if b then false else mark_at marks t) same) ∙ marked))
    only false same marked = chain_forward script told time (mark_at marks) known.forward t same (sym (is t ∙ ap (λ b. if b then false else mark_at marks t) same) ∙ marked)

    all : IsChain script told time t → mark_at cleared t ≡ true
    all chain =
        is t ∙ ap (λ b. if b then false else mark_at marks t) (not_same t time (chain_below script told time time t chain).0)
        ∙ forward_chain script told time (mark_at marks) known.forward t within chain
