-- The statements of the reach of places, as roots.
use Rattle.std.proofs.Common.{◌≡◌, ◌↔◌, ℕ, ◌+◌, ◌<◌, ◌==◌, ◌||◌, ◌⊎◌, inl, inr, Bool, true, false, List, [], ◌∷◌, ◌++◌, take, length, slice_index_or, refl, sym, ap, subst, ◌∙◌, true≢false, arith, eqb-true, slice_get}
use Rattle.std.proofs.lemmas.Bool.{eq-eqb}
use Rattle.std.proofs.lemmas.List.{take_more}
use Rattle.std.proofs.lemmas.Option.{same_Some}
use Rattle.py_value.specs.declared.access.Location.{Location}
use Rattle.py_value.specs.declared.value.Value.{Value}
use Rattle.py_value.specs.Seen.{SeenLocation, location_seen, location_at, IsNamedLocation}
use Rattle.py_value.specs.Values.{ValuesView, AreInterned}
use Rattle.py_value.proofs.SeenLocations.{location_back}
use Rattle.py_model.specs.Moment.{Moment, does}
use Rattle.py_model.specs.Plan.{value}
use Rattle.py_model.specs.Store.{RunStore}
use Rattle.slice_law.specs.Closed.{IsIn, has}
use Rattle.slice_law.specs.Edges.{from_option, reach_stmts, reaches_stmts, reachable, asked_by_value}
use Rattle.py_model.specs.Occurrences.{owner_stmt}
use Rattle.slice_law.specs.Reached.{ReachesPlace, IsOwn}
use Rattle.py_value.specs.Contents.{Contents, contents}
use Rattle.slice_things.specs.Things.{IsNormalLocation}
use Rattle.slicer.specs.Places.{IsReachedPlace}
use Rattle.slicer.specs.Roots.{HasNumbers, AsksAt, AsksAmong, IsEvaluation}
use Rattle.slicer.proofs.WalkLaws.{in_left, in_right, in_either}

has_both : (s : ℕ) (xs ys : List ℕ) → has s (xs ++ ys) ≡ (has s xs || has s ys)
has_both s [] ys = refl
has_both s (x ∷ xs) ys = ap (λ b. (x == s) || b) (has_both s xs ys) ∙ assoc (x == s) (has s xs) (has s ys)
  where
    assoc : (a b c : Bool) → (a || (b || c)) ≡ ((a || b) || c)
    assoc true b c = refl
    assoc false b c = refl

either_true : (a b : Bool) → (a || b) ≡ true → (a ≡ true) ⊎ (b ≡ true)
either_true true b is = inl refl
either_true false b is = inr is

left_true : (a b : Bool) → a ≡ true → (a || b) ≡ true
left_true true b is = refl
left_true false b is = absurd (true≢false (sym is))

right_true : (a b : Bool) → b ≡ true → (a || b) ≡ true
right_true true b is = refl
right_true false b is = is

module _ (view : ValuesView) (interned : AreInterned view) (store : RunStore) (told : List Moment) (numbers : HasNumbers view told) (v : Value) (at : Location) (s : ℕ) where
  normal_at : IsNamedLocation view at → has s (reach_stmts (location_seen view at) told) ≡ true → IsNormalLocation view at
  normal_at named is =
      let numbered = numbers (location_seen view at) s is in
      subst (IsNormalLocation view) (same_Some numbered.at at (sym (location_back view interned numbered.at numbered.named) ∙ ap (location_at view) numbered.is ∙ location_back view interned at named)) numbered.normal

  module _ (here : Bool) (reached : IsNormalLocation view at → (here ≡ true) ↔ IsReachedPlace view store v at) where
    -- the place is reached: its statements come behind the others
    pub with_place : (old writers new : List ℕ) → here ≡ true → IsNamedLocation view at → has s writers ≡ has s (reach_stmts (location_seen view at) told) → new ≡ old ++ writers
        → (has s new ≡ true) ↔ (AsksAt view store told v s at ⊎ (has s old ≡ true))
    with_place old writers new is named same items = (
      λ found. by (either_true (has s old) (has s writers) (sym (ap (has s) items ∙ has_both s old writers) ∙ found)),
      λ asked. ap (has s) items ∙ has_both s old writers ∙ back asked,
    )
      where
        by : (has s old ≡ true) ⊎ (has s writers ≡ true) → AsksAt view store told v s at ⊎ (has s old ≡ true)
        by (inl earlier) = inr earlier
        by (inr now) = let stmt = sym same ∙ now in inl ((reached (normal_at named stmt)).0 is, stmt)

        back : AsksAt view store told v s at ⊎ (has s old ≡ true) → (has s old || has s writers) ≡ true
        back (inl asks) = right_true (has s old) (has s writers) (same ∙ asks.1)
        back (inr earlier) = left_true (has s old) (has s writers) earlier

    -- or it is not
    pub without_place : (old : List ℕ) → here ≡ false → (has s old ≡ true) ↔ (AsksAt view store told v s at ⊎ (has s old ≡ true))
    without_place old is = (λ found. inr found, λ asked. by asked)
      where
        by : AsksAt view store told v s at ⊎ (has s old ≡ true) → has s old ≡ true
        by (inl asks) = absurd (true≢false (sym ((reached (normal_at asks.0.named asks.1)).1 asks.0) ∙ is))
        by (inr earlier) = earlier

-- ---- one place after the other

module _ (view : ValuesView) (store : RunStore) (told : List Moment) (v : Value) (s : ℕ) where
  pub none_asks : (first : List ℕ) → (has s first ≡ true) ↔ (AsksAmong view store told v [] s ⊎ (has s first ≡ true))
  none_asks first = (λ is. inr is, λ asked. by asked)
    where
      by : AsksAmong view store told v [] s ⊎ (has s first ≡ true) → has s first ≡ true
      by (inl asks) = absurd asks.among
      by (inr is) = is

  pub next_asks : (ats : List Location) (i : ℕ) (d : Location) (first now next : List ℕ) → i < length ats
      → (has s now ≡ true) ↔ (AsksAmong view store told v (take i ats) s ⊎ (has s first ≡ true)) → (has s next ≡ true) ↔ (AsksAt view store told v s (slice_index_or ats i d) ⊎ (has s now ≡ true))
      → (has s next ≡ true) ↔ (AsksAmong view store told v (take (i + 1) ats) s ⊎ (has s first ≡ true))
  next_asks ats i d first now next below before step =
      subst (λ these. (has s next ≡ true) ↔ (AsksAmong view store told v these s ⊎ (has s first ≡ true))) (sym (take_more ats i d below))
      (λ found. forth (step.0 found), λ asked. step.1 (back asked))
    where
      at : Location
      at = slice_index_or ats i d

      earlier : AsksAmong view store told v (take i ats) s ⊎ (has s first ≡ true) → AsksAmong view store told v (take i ats ++ at ∷ []) s ⊎ (has s first ≡ true)
      earlier (inl asks) = inl (record { at = asks.at; among = in_left (take i ats) (at ∷ []) asks.at asks.among; asks = asks.asks })
      earlier (inr there) = inr there

      forth : AsksAt view store told v s at ⊎ (has s now ≡ true) → AsksAmong view store told v (take i ats ++ at ∷ []) s ⊎ (has s first ≡ true)
      forth (inl asks) = inl (record { at = at; among = in_right (take i ats) (at ∷ []) at (inl refl); asks = asks })
      forth (inr there) = earlier (before.0 there)

      which : (place : Location) → AsksAt view store told v s place → IsIn (take i ats) place ⊎ IsIn (at ∷ []) place → AsksAt view store told v s at ⊎ (has s now ≡ true)
      which place asks (inl among) = inr (before.1 (inl (record { at = place; among = among; asks = asks })))
      which place asks (inr (inl same)) = inl (subst (AsksAt view store told v s) (sym same) asks)
      which place asks (inr (inr none)) = absurd none

      back : AsksAmong view store told v (take i ats ++ at ∷ []) s ⊎ (has s first ≡ true) → AsksAt view store told v s at ⊎ (has s now ≡ true)
      back (inl asks) = which asks.at asks.asks (in_either (take i ats) (at ∷ []) asks.at asks.among)
      back (inr there) = inr (before.1 (inr there))

-- ---- what the value asks for

pub has_in : (s : ℕ) (numbers : List ℕ) → has s numbers ≡ true → IsIn numbers s
has_in s [] is = absurd (true≢false (sym is))
has_in s (first ∷ numbers) is = by (first == s) refl is (λ more. has_in s numbers more)
  where
    by : (b : Bool) → (first == s) ≡ b → (b || has s numbers) ≡ true → (has s numbers ≡ true → IsIn numbers s) → (first ≡ s) ⊎ IsIn numbers s
    by true same is more = inl (omega (arith, eqb-true first s same))
    by false same is more = inr (more is)

pub in_has : (s : ℕ) (numbers : List ℕ) → IsIn numbers s → has s numbers ≡ true
in_has s [] is = absurd is
in_has s (first ∷ numbers) (inl is) = left_true (first == s) (has s numbers) (eq-eqb first s is)
in_has s (first ∷ numbers) (inr later) = right_true (first == s) (has s numbers) (in_has s numbers later)

record ReachedBy (ls : List SeenLocation) (told : List Moment) (s : ℕ) : Type 0 where
  pub l : SeenLocation
  pub among : IsIn ls l
  pub stmt : has s (reach_stmts l told) ≡ true

reached_by : (ls : List SeenLocation) (told : List Moment) (s : ℕ) → has s (reaches_stmts ls told) ≡ true → ReachedBy ls told s
reached_by [] told s is = absurd (true≢false (sym is))
reached_by (l ∷ ls) told s is = by (either_true (has s (reach_stmts l told)) (has s (reaches_stmts ls told)) (sym (has_both s (reach_stmts l told) (reaches_stmts ls told)) ∙ is)) (λ more. reached_by ls told s more)
  where
    by : (has s (reach_stmts l told) ≡ true) ⊎ (has s (reaches_stmts ls told) ≡ true) → (has s (reaches_stmts ls told) ≡ true → ReachedBy ls told s) → ReachedBy (l ∷ ls) told s
    by (inl here) more = record { l = l; among = inl refl; stmt = here }
    by (inr later) more = let found = more later in record { l = found.l; among = inr found.among; stmt = found.stmt }

by_reach : (ls : List SeenLocation) (told : List Moment) (s : ℕ) (l : SeenLocation) → IsIn ls l → has s (reach_stmts l told) ≡ true → has s (reaches_stmts ls told) ≡ true
by_reach [] told s l is stmt = absurd is
by_reach (first ∷ ls) told s l (inl is) stmt =
    has_both s (reach_stmts first told) (reaches_stmts ls told) ∙ left_true (has s (reach_stmts first told)) (has s (reaches_stmts ls told)) (ap (λ place. has s (reach_stmts place told)) is ∙ stmt)
by_reach (first ∷ ls) told s l (inr later) stmt =
    has_both s (reach_stmts first told) (reaches_stmts ls told) ∙ right_true (has s (reach_stmts first told)) (has s (reaches_stmts ls told)) (by_reach ls told s l later stmt)

module _ (view : ValuesView) (store : RunStore) (told : List Moment) (v : Value) (numbers : HasNumbers view told) (ats : List Location)
    (listed : (l : Location) → IsNamedLocation view l → (s : ℕ) → has s (reach_stmts (location_seen view l) told) ≡ true → IsIn ats l)
    (reach : (l : SeenLocation) → IsIn (reachable store (contents view v)) l ↔ ReachesPlace store (contents view v) l) (s : ℕ) where
  asked_there : AsksAmong view store told v ats s → has s (reaches_stmts (reachable store (contents view v)) told) ≡ true
  asked_there asked =
      let place = asked.asks.0 in
      by_reach (reachable store (contents view v)) told s (location_seen view asked.at)
      ((reach (location_seen view asked.at)).1 (record { o = place.o; reached = place.reached; own = place.own })) asked.asks.1

  asked_back : has s (reaches_stmts (reachable store (contents view v)) told) ≡ true → AsksAmong view store told v ats s
  asked_back is =
      let found = reached_by (reachable store (contents view v)) told s is in
      let place = (reach found.l).0 found.among in
      let numbered = numbers found.l s found.stmt in
      let stmt : has s (reach_stmts (location_seen view numbered.at) told) ≡ true = ap (λ l. has s (reach_stmts l told)) numbered.is ∙ found.stmt in
      record {
        at = numbered.at;
        among = listed numbered.at numbered.named s stmt;
        asks = (record { named = numbered.named; o = place.o; reached = place.reached; own = subst (IsOwn store place.o (slice_get store.kinds place.o)) (sym numbered.is) place.own }, stmt);
      }

  pub all_asked : (first roots : List ℕ) → (has s roots ≡ true) ↔ (AsksAmong view store told v ats s ⊎ (has s first ≡ true))
      → IsIn roots s ↔ IsIn (first ++ reaches_stmts (reachable store (contents view v)) told) s
  all_asked first roots same = (
    λ is. has_in s (first ++ places) (has_both s first places ∙ forth (same.0 (in_has s roots is))),
    λ is. has_in s roots (same.1 (back (either_true (has s first) (has s places) (sym (has_both s first places) ∙ in_has s (first ++ places) is)))),
  )
    where
      places : List ℕ
      places = reaches_stmts (reachable store (contents view v)) told

      forth : AsksAmong view store told v ats s ⊎ (has s first ≡ true) → (has s first || has s places) ≡ true
      forth (inl asks) = right_true (has s first) (has s places) (asked_there asks)
      forth (inr is) = left_true (has s first) (has s places) is

      back : (has s first ≡ true) ⊎ (has s places ≡ true) → AsksAmong view store told v ats s ⊎ (has s first ≡ true)
      back (inl is) = inr is
      back (inr is) = inl (asked_back is)

pub asked_is : (store : RunStore) (told : List Moment) (c : Contents) (first : List ℕ) → IsEvaluation c told → first ≡ from_option (owner_stmt told) → first ++ reaches_stmts (reachable store c) told ≡ asked_by_value store told
asked_is store told c first evaluation is =
    subst (λ t. first ≡ from_option (owner_stmt t) → first ++ reaches_stmts (reachable store c) t ≡ asked_by_value store t) (sym evaluation.is)
    (λ same. ap (λ (front : List ℕ). front ++ reaches_stmts (reachable store c) (does evaluation.at evaluation.number evaluation.values (value c) evaluation.made evaluation.accesses evaluation.weight ∷ evaluation.before)) same) is
