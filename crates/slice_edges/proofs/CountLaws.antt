-- What is noted of those who asked for the statements at a location.
use Rattle.std.proofs.Common.{◌≡◌, ℕ, ◌==◌, ◌&&◌, ◌||◌, ◌≤◌, Bool, true, false, List, [], ◌∷◌, ◌++◌, length, take, drop, unwrap_or, Option, Some, None, IsSome, HashMap, refl, sym, ap, subst, ◌∙◌, if◌then◌else◌, arith, eqb-true}
use Rattle.std.specs.Map.{lookup}
use Rattle.std.specs.HashMap.{WritesThrough, get_by}
use Rattle.std.proofs.lemmas.Bool.{false≢true}
use Rattle.std.proofs.lemmas.List.{take-append-drop, take-append-le, length-append}
use Rattle.std.proofs.Math.Seq.{take-length}
use Rattle.py_value.specs.declared.access.Access.{Access}
use Rattle.py_value.specs.declared.access.Location.{Location}
use Rattle.py_value.specs.contracts.access.LocationPartialEq.TheImpl.{ghosts as locations}
use Rattle.py_value.proofs.Equality.{location_same}
use Rattle.slice_law.specs.Closed.{has}
use Rattle.slice_law.specs.Edges.{Reason, by_data}
use Rattle.slice_edges.specs.declared.ask.Ask.{Ask}
use Rattle.slice_edges.specs.Asks.{among_by, is_by, same_reason}
use Rattle.slice_edges.proofs.ReasonLaws.{reason_same}
use Rattle.slice_edges.specs.Counts.{count_in, count_at, AreCounted}
use Rattle.slice_edges.specs.Writers.{found_at, noted_at, with_owner, after_set, after_change, sets_in, updates_in}

pub put_by : (b : Bool) (count : ℕ) (found : Option ℕ) → unwrap_or (if b then Some count else found) 0 ≡ (if b then count else unwrap_or found 0)
put_by true count found = refl
put_by false count found = refl

-- ---- one place of a map is written

module _ {V S : Type 0} (old new : HashMap Location V S) (at : Location) where
  some : (here : V) (found : Option V) → Some here ≡ found → IsSome found
  some here None is = absurd cc
  some here (Some x) is = refl

  pub written_there : (here written : V) → Some here ≡ get_by (locations.eq at) old → WritesThrough locations.eq (locations.eq at) old written new
      → (l : Location) → lookup (locations.eq l) new.entries ≡ (if locations.eq at l then Some written else lookup (locations.eq l) old.entries)
  written_there here written there through l = (through.3 (some here (get_by (locations.eq at) old) there)).0 l

module _ (old : List (Location × List (ℕ × ℕ))) (at : Location) where
  -- what stands at a place is what was found at the same place
  pub counts_here : (here : List (ℕ × ℕ)) → Some here ≡ lookup (locations.eq at) old → (l : Location) → locations.eq at l ≡ true → (a : ℕ) → count_in here a ≡ count_at old l a
  counts_here here there l same a = ap (λ found. count_in (unwrap_or found []) a) (there ∙ ap (λ k. lookup (locations.eq k) old) (location_same at l same))

  pub no_count : None ≡ lookup (locations.eq at) old → (l : Location) → locations.eq at l ≡ true → (a : ℕ) → count_at old l a ≡ 0
  no_count none l same a = sym (ap (λ found. count_in (unwrap_or found []) a) (none ∙ ap (λ k. lookup (locations.eq k) old) (location_same at l same)))

  pub counts_put : (here written : List (ℕ × ℕ)) (asker count : ℕ) → Some here ≡ lookup (locations.eq at) old → ((a : ℕ) → count_in written a ≡ (if asker == a then count else count_in here a))
      → (l : Location) (a : ℕ) → count_in (unwrap_or (if locations.eq at l then Some written else lookup (locations.eq l) old) []) a ≡ (if locations.eq at l && (asker == a) then count else count_at old l a)
  counts_put here written asker count there put l a = by (locations.eq at l) refl (asker == a) (put a)
    where
      by : (p : Bool) → locations.eq at l ≡ p → (q : Bool) → count_in written a ≡ (if q then count else count_in here a)
          → count_in (unwrap_or (if p then Some written else lookup (locations.eq l) old) []) a ≡ (if p && q then count else count_at old l a)
      by true same true is = is
      by true same false is = is ∙ counts_here here there l same a
      by false apart q is = refl

  pub counts_first : None ≡ lookup (locations.eq at) old → (asker count : ℕ) (l : Location) (a : ℕ)
      → (if locations.eq at l then (if asker == a then count else 0) else count_at old l a) ≡ (if locations.eq at l && (asker == a) then count else count_at old l a)
  counts_first none asker count l a = by (locations.eq at l) refl (asker == a)
    where
      by : (p : Bool) → locations.eq at l ≡ p → (q : Bool) → (if p then (if q then count else 0) else count_at old l a) ≡ (if p && q then count else count_at old l a)
      by true same true = refl
      by true same false = sym (no_count none l same a)
      by false apart q = refl

  pub counts_gone : (written : List (ℕ × ℕ)) → written ≡ [] → (l : Location) (a : ℕ)
      → count_in (unwrap_or (if locations.eq at l then Some written else lookup (locations.eq l) old) []) a ≡ (if locations.eq at l then 0 else count_at old l a)
  counts_gone written is l a = by (locations.eq at l)
    where
      by : (p : Bool) → count_in (unwrap_or (if p then Some written else lookup (locations.eq l) old) []) a ≡ (if p then 0 else count_at old l a)
      by true = ap (λ counts. count_in counts a) is
      by false = refl

  pub counts_none : None ≡ lookup (locations.eq at) old → (l : Location) (a : ℕ) → count_at old l a ≡ (if locations.eq at l then 0 else count_at old l a)
  counts_none none l a = by (locations.eq at l) refl
    where
      by : (p : Bool) → locations.eq at l ≡ p → count_at old l a ≡ (if p then 0 else count_at old l a)
      by true same = no_count none l same a
      by false apart = refl

  pub counts_new : (written : List (ℕ × ℕ)) (asker count : ℕ) → ((a : ℕ) → count_in written a ≡ (if asker == a then count else 0)) → (l : Location) (a : ℕ)
      → count_in (unwrap_or (if locations.eq at l then Some written else lookup (locations.eq l) old) []) a ≡ (if locations.eq at l then (if asker == a then count else 0) else count_at old l a)
  counts_new written asker count put l a = by (locations.eq at l)
    where
      by : (p : Bool) → count_in (unwrap_or (if p then Some written else lookup (locations.eq l) old) []) a ≡ (if p then (if asker == a then count else 0) else count_at old l a)
      by true = put a
      by false = refl

-- ---- accesses, one after the other

pub forget_turn : (p rest all : Bool) (before now next : ℕ) → (if (p || rest) then 0 else now) ≡ (if all then 0 else before) → next ≡ (if p then 0 else now) → (if rest then 0 else next) ≡ (if all then 0 else before)
forget_turn true true all before now next is turn = is
forget_turn true false all before now next is turn = turn ∙ is
forget_turn false true all before now next is turn = is
forget_turn false false all before now next is turn = turn ∙ is

-- ---- the statements behind the first ones

has_both : (r : ℕ) (xs ys : List ℕ) → has r (xs ++ ys) ≡ (has r xs || has r ys)
has_both r [] ys = refl
has_both r (x ∷ xs) ys = ap (λ b. (x == r) || b) (has_both r xs ys) ∙ assoc (x == r) (has r xs) (has r ys)
  where
    assoc : (a b c : Bool) → (a || (b || c)) ≡ ((a || b) || c)
    assoc true b c = refl
    assoc false b c = refl

-- the rest is asked for, and the first ones were
pub rest_asked : (own : Bool) (n r : ℕ) (stmts : List ℕ) (old new : Bool) → (own ≡ true → has r (take n stmts) ≡ true → old ≡ true) → new ≡ ((own && has r (drop n stmts)) || old)
    → new ≡ ((own && has r stmts) || old)
rest_asked own n r stmts old new first is =
    is ∙ by own refl (has r (take n stmts)) refl ∙ ap (λ b. (own && b) || old) (sym (has_both r (take n stmts) (drop n stmts)) ∙ ap (has r) (take-append-drop n stmts))
  where
    or_true : (a b : Bool) → b ≡ true → (a || b) ≡ true
    or_true true b there = refl
    or_true false b there = there

    by : (a : Bool) → own ≡ a → (t : Bool) → has r (take n stmts) ≡ t → ((a && has r (drop n stmts)) || old) ≡ ((a && (t || has r (drop n stmts))) || old)
    by false other t front = refl
    by true same false front = refl
    by true same true front = or_true (has r (drop n stmts)) old (first same front)

both_true : (a b : Bool) → (a && b) ≡ true → (a ≡ true) × (b ≡ true)
both_true true b is = (refl, is)
both_true false b is = absurd (false≢true is)

pub asked_here : (old new : List Ask) (entries : List (Location × List ℕ)) (counts : List (Location × List (ℕ × ℕ))) (at : Location) (asker n : ℕ) (stmts rest : List ℕ) → n ≡ count_at counts at asker
    → (n ≤ length stmts → rest ≡ drop n stmts) → ((reason : Reason) (s r : ℕ) → among_by new reason s r ≡ ((is_by by_data asker reason s && has r rest) || among_by old reason s r)) → AreCounted old entries counts → noted_at entries at ≡ stmts
    → (reason : Reason) (s r : ℕ) → among_by new reason s r ≡ ((is_by by_data asker reason s && has r stmts) || among_by old reason s r)
asked_here old new entries counts at asker n stmts rest counted behind asked right here reason s r =
    let all : length (noted_at entries at) ≡ length stmts = ap length here in
    let within = (right at asker).0 in
    rest_asked (is_by by_data asker reason s) n r stmts (among_by old reason s r) (among_by new reason s r)
    (λ mine front.
    let own = both_true (asker == s) (same_reason by_data reason) mine in
    let who : s ≡ asker = let same = eqb-true asker s own.0 in omega (arith, same) in
    let why : reason ≡ by_data = sym (reason_same by_data reason own.1) in
    ap (λ (known : Reason). among_by old known s r) why ∙ ap (λ (n : ℕ). among_by old by_data n r) who ∙ (right at asker).1 r (ap (λ k. has r (take k (noted_at entries at))) (sym counted) ∙ ap (λ xs. has r (take n xs)) here ∙ front))
    (asked reason s r ∙ ap (λ xs. (is_by by_data asker reason s && has r xs) || among_by old reason s r) (behind (omega (arith, counted, all, within))))

-- ---- what is counted stays right

pub monotone : (here old new : Bool) → new ≡ (here || old) → old ≡ true → new ≡ true
monotone true old new is there = is
monotone false old new is there = is ∙ there

pub more_asked : (old new : List Ask) (entries : List (Location × List ℕ)) (counts : List (Location × List (ℕ × ℕ))) → ((s r : ℕ) → among_by old by_data s r ≡ true → among_by new by_data s r ≡ true)
    → AreCounted old entries counts → AreCounted new entries counts
more_asked old new entries counts more right l asker = ((right l asker).0, λ r there. more asker r ((right l asker).1 r there))

-- so many of the statements were asked for
abbrev Asked : List Ask → ℕ → ℕ → List ℕ → Type 0
Asked asks a n numbers = (n ≤ length numbers) × ((r : ℕ) → has r (take n numbers) ≡ true → among_by asks by_data a r ≡ true)

-- all statements at a location were asked for
pub counted_all : (old new : List Ask) (entries : List (Location × List ℕ)) (before after : List (Location × List (ℕ × ℕ))) (at : Location) (asker : ℕ) (stmts : List ℕ)
    → noted_at entries at ≡ stmts → ((reason : Reason) (s r : ℕ) → among_by new reason s r ≡ ((is_by by_data asker reason s && has r stmts) || among_by old reason s r))
    → ((l : Location) (a : ℕ) → count_at after l a ≡ (if locations.eq at l && (asker == a) then length stmts else count_at before l a))
    → AreCounted old entries before → AreCounted new entries after
counted_all old new entries before after at asker stmts here asked noted right l a = by (locations.eq at l) refl (asker == a) refl (noted l a)
  where
    kept : Asked new a (count_at before l a) (noted_at entries l)
    kept = ((right l a).0, λ r there. monotone (is_by by_data asker by_data a && has r stmts) (among_by old by_data a r) (among_by new by_data a r) (asked by_data a r) ((right l a).1 r there))

    whole : (xs : List ℕ) → xs ≡ stmts → (asker == a) ≡ true → Asked new a (length stmts) xs
    whole xs is mine = (
      (let same : length stmts ≡ length xs = ap length (sym is) in omega (arith, same)),
      λ r there. asked by_data a r ∙ ap (λ b. ((b && true) && has r stmts) || among_by old by_data a r) mine
          ∙ ap (λ b. b || among_by old by_data a r) (sym (ap (has r) (ap (take (length stmts)) is ∙ take-length stmts)) ∙ there),
    )

    by : (p : Bool) → locations.eq at l ≡ p → (q : Bool) → (asker == a) ≡ q → count_at after l a ≡ (if p && q then length stmts else count_at before l a) → Asked new a (count_at after l a) (noted_at entries l)
    by true same true mine is = subst (λ n. Asked new a n (noted_at entries l)) (sym is) (whole (noted_at entries l) (sym (ap (noted_at entries) (location_same at l same)) ∙ here) mine)
    by true same false other is = subst (λ n. Asked new a n (noted_at entries l)) (sym is) kept
    by false apart q mine is = subst (λ n. Asked new a n (noted_at entries l)) (sym is) kept

-- after writes that are noted, where what is set is forgotten
pub counted_still : (asks : List Ask) (old new : List (Location × List ℕ)) (before after : List (Location × List (ℕ × ℕ))) (accesses : List Access) (owner : Option ℕ)
    → ((l : Location) → found_at new l ≡ after_change (updates_in l accesses) owner (after_set (sets_in l accesses) owner (found_at old l)))
    → ((l : Location) (a : ℕ) → count_at after l a ≡ (if sets_in l accesses then 0 else count_at before l a))
    → AreCounted asks old before → AreCounted asks new after
counted_still asks old new before after accesses owner written forgotten right l a = by (sets_in l accesses) refl (updates_in l accesses) (written l) (forgotten l a)
  where
    longer : (n : ℕ) (xs ys : List ℕ) → n ≤ length xs → n ≤ length (xs ++ ys)
    longer n xs ys below = let all = length-append xs ys in omega (arith, all, below)

    behind : (n : ℕ) (xs ys : List ℕ) → Asked asks a n xs → Asked asks a n (xs ++ ys)
    behind n xs ys fits = (longer n xs ys fits.0, λ r there. fits.1 r (sym (ap (has r) (take-append-le n xs ys fits.0)) ∙ there))

    one_more : (n s : ℕ) (xs : List ℕ) (b : Bool) → Asked asks a n xs → Asked asks a n (if b then xs else xs ++ s ∷ [])
    one_more n s xs true fits = fits
    one_more n s xs false fits = behind n xs (s ∷ []) fits

    more : (n : ℕ) (xs : List ℕ) (own : Option ℕ) → Asked asks a n xs → Asked asks a n (with_owner own xs)
    more n xs None fits = fits
    more n xs (Some s) fits = one_more n s xs (has s xs) fits

    none : (numbers : List ℕ) → Asked asks a 0 numbers
    none numbers = (omega arith, λ r there. absurd (false≢true there))

    by : (set : Bool) → sets_in l accesses ≡ set → (changed : Bool) → found_at new l ≡ after_change changed owner (after_set set owner (found_at old l))
        → count_at after l a ≡ (if set then 0 else count_at before l a) → Asked asks a (count_at after l a) (noted_at new l)
    by true is changed found count = subst (λ n. Asked asks a n (noted_at new l)) (sym count) (none (noted_at new l))
    by false is false found count = subst (λ n. Asked asks a n (noted_at new l)) (sym count) (subst (λ numbers. Asked asks a (count_at before l a) numbers) (sym (ap (λ f. unwrap_or f []) found)) (right l a))
    by false is true found count = subst (λ n. Asked asks a n (noted_at new l)) (sym count)
        (subst (λ numbers. Asked asks a (count_at before l a) numbers) (sym (ap (λ f. unwrap_or f []) found)) (more (count_at before l a) (noted_at old l) owner (right l a)))
