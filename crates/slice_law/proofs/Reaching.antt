-- The locations that the traversal from a value meets are those that are reached from it.
use Rattle.std.proofs.Common.{◌≡◌, ℕ, zero, suc, ◌+◌, ◌≤◌, ◌<◌, if◌then◌else◌, Bool, true, false, ◌==◌, List, [], ◌∷◌, ◌++◌, length, slice_get, Option, Some, None, is_some, inl, inr, refl, sym, subst, ap, ◌∙◌, arith, eqb-true}
use Rattle.std.specs.Prelude.{◌⊎◌, ◌↔◌}
use Rattle.std.proofs.lemmas.Bool.{and_parts, false≢true, eqb-false}
use Rattle.py_value.specs.Contents.{Contents, Parts, nothing, truth, int, text, tuple, range, function, class, exception_class, builtin, object, no_parts, part}
use Rattle.py_value.specs.KeyOf.{normal}
use Rattle.py_value.specs.Seen.{SeenLocation, SeenKind, a_list, a_dict, an_instance, a_file, len_at, item_at, entry_at, order_at, offset_at, closed_at}
use Rattle.py_model.specs.Store.{RunStore, len_of, item_of, entry_of, order_of}
use Rattle.slice_law.specs.Closed.{IsIn}
use Rattle.slice_law.specs.Edges.{has_object, Reachable, with_places, from_value, from_parts, from_items, from_entries, from_content, from_object_to, reachable}
use Rattle.slice_law.specs.Reached.{StandsIn, StandsInParts, StandsInItem, StandsInEntry, AllBefore, IsEntry, IsOwn, InEntry, Holds, IsReached, in_value, in_object, ReachesPlace}
use Rattle.slice_law.proofs.Reachables.{within, parts_within, item_within, met, KeyCovered, KeysCovered, Covered, traversed, all_met, all_covered}

-- what is in one list behind another is in one of them
in_either : {A : Type 0} (xs ys : List A) (x : A) → IsIn (xs ++ ys) x → IsIn xs x ⊎ IsIn ys x
in_either [] ys x there = inr there
in_either (y ∷ xs) ys x (inl is) = inl (inl is)
in_either (y ∷ xs) ys x (inr there) = by_side (in_either xs ys x there)
  where
    by_side : IsIn xs x ⊎ IsIn ys x → IsIn (y ∷ xs) x ⊎ IsIn ys x
    by_side (inl is) = inl (inr is)
    by_side (inr is) = inr is

-- ---- What stands in a value was met.

module _ (p : ℕ → Bool) (o : ℕ) where
  mutual
    stands_passes : (v : Contents) → within p v ≡ true → StandsIn o v → p o ≡ true
    stands_passes (tuple parts) is stands = parts_passes parts is stands
    stands_passes (object q) is stands = subst (λ n. p n ≡ true) stands is
    stands_passes nothing is stands = absurd stands
    stands_passes (truth b) is stands = absurd stands
    stands_passes (int i) is stands = absurd stands
    stands_passes (text bytes) is stands = absurd stands
    stands_passes (range a b c) is stands = absurd stands
    stands_passes (function place) is stands = absurd stands
    stands_passes (class place) is stands = absurd stands
    stands_passes (exception_class number) is stands = absurd stands
    stands_passes (builtin number) is stands = absurd stands

    parts_passes : (ps : Parts) → parts_within p ps ≡ true → StandsInParts o ps → p o ≡ true
    parts_passes no_parts is stands = absurd stands
    parts_passes (part first rest) is (inl stands) = stands_passes first (and_parts (within p first) (parts_within p rest) is).0 stands
    parts_passes (part first rest) is (inr stands) = parts_passes rest (and_parts (within p first) (parts_within p rest) is).1 stands

  item_passes : (v : Option Contents) → item_within p v ≡ true → StandsInItem o v → p o ≡ true
  item_passes None is stands = absurd stands
  item_passes (Some v) is stands = stands_passes v is stands

module _ (store : RunStore) where
  -- ---- What is reached was met.

  place_covered : (r : Reachable) (o : ℕ) (key : Contents) (found : Option (Contents × Contents)) → KeyCovered store r o key found → is_some found ≡ true → IsIn r.places (entry_at o (normal key))
  place_covered r o key None is present = absurd (false≢true present)
  place_covered r o key (Some entry) is present = is.0

  stands_covered : (r : Reachable) (o p : ℕ) (key : Contents) (found : Option (Contents × Contents)) → KeyCovered store r o key found → is_some found ≡ true
      → StandsIn p key ⊎ StandsInEntry p found → met r p ≡ true
  stands_covered r o p key None is present stands = absurd (false≢true present)
  stands_covered r o p key (Some entry) is present (inl stands) = stands_passes (met r) p key is.1 stands
  stands_covered r o p key (Some entry) is present (inr stands) = stands_passes (met r) p entry.1 is.2 stands

  key_covered : (r : Reachable) (o : ℕ) (keys : List Contents) (key : Contents) → KeysCovered store r o keys → IsIn keys key → KeyCovered store r o key (entry_of store o key)
  key_covered r o [] key all there = absurd there
  key_covered r o (first ∷ keys) key all (inl same) = subst (λ k. KeyCovered store r o k (entry_of store o k)) same all.0
  key_covered r o (first ∷ keys) key all (inr there) = key_covered r o keys key all.1 there

  key_place : (r : Reachable) (o : ℕ) (l : SeenLocation) → KeysCovered store r o (order_of store o) → IsEntry store o l → IsIn r.places l
  key_place r o l all entry = subst (IsIn r.places) (sym entry.place)
      (place_covered r o entry.key (entry_of store o entry.key) (key_covered r o (order_of store o) entry.key all entry.ordered) entry.present)

  key_met : (r : Reachable) (o p : ℕ) → KeysCovered store r o (order_of store o) → InEntry store o p → met r p ≡ true
  key_met r o p all held = stands_covered r o p held.key (entry_of store o held.key) (key_covered r o (order_of store o) held.key all held.ordered) held.present held.stands

  own_there : (r : Reachable) (o : ℕ) (kind : Option SeenKind) (l : SeenLocation) → Covered store r o kind → IsOwn store o kind l → IsIn r.places l
  own_there r o None l covered own = absurd own
  own_there r o (Some a_list) l covered (inl is) = subst (IsIn r.places) (sym is) covered.0
  own_there r o (Some a_list) l covered (inr item) = subst (IsIn r.places) (sym item.place) (covered.1 item.i item.below item.earlier).place
  own_there r o (Some a_dict) l covered (inl is) = subst (IsIn r.places) (sym is) covered.0
  own_there r o (Some a_dict) l covered (inr entry) = key_place r o l covered.1 entry
  own_there r o (Some (an_instance of)) l covered (inl is) = subst (IsIn r.places) (sym is) covered.0
  own_there r o (Some (an_instance of)) l covered (inr entry) = key_place r o l covered.1 entry
  own_there r o (Some (a_file path mode)) l covered (inl is) = subst (IsIn r.places) (sym is) covered.0
  own_there r o (Some (a_file path mode)) l covered (inr is) = subst (IsIn r.places) (sym is) covered.1

  held_met : (r : Reachable) (o p : ℕ) (kind : Option SeenKind) → Covered store r o kind → Holds store o kind p → met r p ≡ true
  held_met r o p None covered holds = absurd holds
  held_met r o p (Some a_list) covered holds = item_passes (met r) p (item_of store o holds.i) (covered.1 holds.i holds.below holds.earlier).item holds.stands
  held_met r o p (Some a_dict) covered holds = key_met r o p covered.1 holds
  held_met r o p (Some (an_instance of)) covered holds = key_met r o p covered.1 holds
  held_met r o p (Some (a_file path mode)) covered holds = absurd holds

  module _ (v : Contents) where
    reached_met : (o : ℕ) → IsReached store v o → met (traversed store v) o ≡ true
    reached_met o (in_value stands) = stands_passes (met (traversed store v)) o v (all_met store v) stands
    reached_met o (in_object from reached holds) =
        held_met (traversed store v) from o (slice_get store.kinds from) (all_covered store v from (reached_met from reached)) holds

    reached_there : (l : SeenLocation) → ReachesPlace store v l → IsIn (reachable store v) l
    reached_there l reaches =
        own_there (traversed store v) reaches.o (slice_get store.kinds reaches.o) l (all_covered store v reaches.o (reached_met reaches.o reaches.reached)) reaches.own

    -- ---- What the traversal meets is reached.

    abbrev AllReached : Reachable → Type 0
    AllReached r = (l : SeenLocation) → IsIn r.places l → ReachesPlace store v l

    own_reached : (o : ℕ) (l : SeenLocation) (kind : Option SeenKind) → slice_get store.kinds o ≡ kind → IsReached store v o → IsOwn store o kind l → ReachesPlace store v l
    own_reached o l kind is reached own = record { o = o; reached = reached; own = subst (λ k. IsOwn store o k l) (sym is) own }

    one_placed : (r : Reachable) (l : SeenLocation) → AllReached r → ReachesPlace store v l → AllReached (with_places (l ∷ []) r)
    one_placed r l all reaches m there = by_side (in_either r.places (l ∷ []) m there)
      where
        by_side : IsIn r.places m ⊎ IsIn (l ∷ []) m → ReachesPlace store v m
        by_side (inl before) = all m before
        by_side (inr (inl same)) = subst (ReachesPlace store v) same reaches
        by_side (inr (inr none)) = absurd none

    module _ (from : ℕ → Reachable → Reachable) (each : (o : ℕ) (r : Reachable) → IsReached store v o → AllReached r → AllReached (from o r)) where
      mutual
        value_reached : (w : Contents) (r : Reachable) → ((p : ℕ) → StandsIn p w → IsReached store v p) → AllReached r → AllReached (from_value store from w r)
        value_reached (tuple parts) r stands all = parts_reached parts r stands all
        value_reached (object o) r stands all = each o r (stands o refl) all
        value_reached nothing r stands all = all
        value_reached (truth b) r stands all = all
        value_reached (int i) r stands all = all
        value_reached (text bytes) r stands all = all
        value_reached (range a b c) r stands all = all
        value_reached (function place) r stands all = all
        value_reached (class place) r stands all = all
        value_reached (exception_class number) r stands all = all
        value_reached (builtin number) r stands all = all

        parts_reached : (ps : Parts) (r : Reachable) → ((p : ℕ) → StandsInParts p ps → IsReached store v p) → AllReached r → AllReached (from_parts store from ps r)
        parts_reached no_parts r stands all = all
        parts_reached (part first rest) r stands all =
            parts_reached rest (from_value store from first r) (λ p is. stands p (inr is)) (value_reached first r (λ p is. stands p (inl is)) all)

      module _ (o : ℕ) (reached : IsReached store v o) where
        abbrev after_item : ℕ → ℕ → Option Contents → Reachable → Reachable
        after_item m i found r = elim found [ None ↦ with_places (item_at o i ∷ []) r | Some w ↦ from_items store from m o (suc i) (from_value store from w (with_places (item_at o i ∷ []) r)) ]

        one_later : (i : ℕ) (found : Contents) → item_of store o i ≡ Some found → AllBefore store o i → AllBefore store o (suc i)
        one_later i found at earlier j less = by_test (j == i) refl
          where
            by_test : (b : Bool) → (j == i) ≡ b → is_some (item_of store o j) ≡ true
            by_test true is = ap (λ k. is_some (item_of store o k)) (eqb-true j i is) ∙ ap (λ (w : Option Contents). is_some w) at
            by_test false is = earlier j (omega (arith, less, eqb-false j i is))

        items_reached : (m i : ℕ) (r : Reachable) → slice_get store.kinds o ≡ Some a_list → i + m ≤ len_of store o → AllBefore store o i → AllReached r → AllReached (from_items store from m o i r)
        items_reached zero i r is below earlier all = all
        items_reached (suc m) i r is below earlier all =
            by_item (item_of store o i) refl (λ s later more. items_reached m (suc i) s is (omega (arith, below)) later more)
          where
            less : i < len_of store o
            less = omega (arith, below)

            here : AllReached (with_places (item_at o i ∷ []) r)
            here = one_placed r (item_at o i) all (own_reached o (item_at o i) (Some a_list) is reached (inr (record { i = i; below = less; earlier = earlier; place = refl })))

            held : (found : Option Contents) → item_of store o i ≡ found → (p : ℕ) → StandsInItem p found → Holds store o (slice_get store.kinds o) p
            held found at p stands = subst (λ k. Holds store o k p) (sym is) (record { i = i; below = less; earlier = earlier; stands = subst (StandsInItem p) (sym at) stands })

            by_item : (found : Option Contents) → item_of store o i ≡ found → ((s : Reachable) → AllBefore store o (suc i) → AllReached s → AllReached (from_items store from m o (suc i) s))
                → AllReached (after_item m i found r)
            by_item None at rest = here
            by_item (Some w) at rest = rest (from_value store from w (with_places (item_at o i ∷ []) r)) (one_later i w at earlier)
                (value_reached w (with_places (item_at o i ∷ []) r) (λ p stands. in_object o reached (held (Some w) at p stands)) here)

        module _ (kind : SeenKind) (is : slice_get store.kinds o ≡ Some kind)
            (owns : (l : SeenLocation) → IsEntry store o l → IsOwn store o (Some kind) l) (holds : (p : ℕ) → InEntry store o p → Holds store o (Some kind) p) where
          abbrev after_key : Contents → List Contents → Option (Contents × Contents) → Reachable → Reachable
          after_key key keys found r = elim found [
            | None ↦ from_entries store from o keys r
            | Some entry ↦ from_entries store from o keys (from_value store from entry.1 (from_value store from key (with_places (entry_at o (normal key) ∷ []) r)))
          ]

          keys_reached : (keys : List Contents) (r : Reachable) → ((key : Contents) → IsIn keys key → IsIn (order_of store o) key) → AllReached r → AllReached (from_entries store from o keys r)
          keys_reached [] r ordered all = all
          keys_reached (key ∷ keys) r ordered all = by_entry (entry_of store o key) refl (λ s more. keys_reached keys s (λ other there. ordered other (inr there)) more)
            where
              own : is_some (entry_of store o key) ≡ true → ReachesPlace store v (entry_at o (normal key))
              own present = own_reached o (entry_at o (normal key)) (Some kind) is reached
                  (owns (entry_at o (normal key)) (record { key = key; ordered = ordered key (inl refl); present = present; place = refl }))

              held : (p : ℕ) → is_some (entry_of store o key) ≡ true → StandsIn p key ⊎ StandsInEntry p (entry_of store o key) → Holds store o (slice_get store.kinds o) p
              held p present stands = subst (λ k. Holds store o k p) (sym is) (holds p (record { key = key; ordered = ordered key (inl refl); present = present; stands = stands }))

              by_entry : (found : Option (Contents × Contents)) → entry_of store o key ≡ found → ((s : Reachable) → AllReached s → AllReached (from_entries store from o keys s))
                  → AllReached (after_key key keys found r)
              by_entry None at rest = rest r all
              by_entry (Some entry) at rest =
                  let present : is_some (entry_of store o key) ≡ true = ap (λ (found : Option (Contents × Contents)). is_some found) at in
                  let a = with_places (entry_at o (normal key) ∷ []) r in
                  rest (from_value store from entry.1 (from_value store from key a))
                  (value_reached entry.1 (from_value store from key a) (λ p stands. in_object o reached (held p present (inr (subst (StandsInEntry p) (sym at) stands))))
                  (value_reached key a (λ p stands. in_object o reached (held p present (inl stands))) (one_placed r (entry_at o (normal key)) all (own present))))

        content_reached : (kind : Option SeenKind) (r : Reachable) → slice_get store.kinds o ≡ kind → AllReached r → AllReached (from_content store from o kind r)
        content_reached None r is all = all
        content_reached (Some a_list) r is all =
            items_reached (len_of store o) 0 (with_places (len_at o ∷ []) r) is (omega arith) (λ j less. absurd (omega (arith, less))) (one_placed r (len_at o) all (own_reached o (len_at o) (Some a_list) is reached (inl refl)))
        content_reached (Some a_dict) r is all =
            keys_reached a_dict is (λ l own. inr own) (λ p held. held) (order_of store o) (with_places (order_at o ∷ []) r) (λ key there. there)
            (one_placed r (order_at o) all (own_reached o (order_at o) (Some a_dict) is reached (inl refl)))
        content_reached (Some (an_instance of)) r is all =
            keys_reached (an_instance of) is (λ l own. inr own) (λ p held. held) (order_of store o) (with_places (order_at o ∷ []) r) (λ key there. there)
            (one_placed r (order_at o) all (own_reached o (order_at o) (Some (an_instance of)) is reached (inl refl)))
        content_reached (Some (a_file path mode)) r is all = λ l there. by_side l (in_either r.places (offset_at o ∷ closed_at o ∷ []) l there)
          where
            by_side : (l : SeenLocation) → IsIn r.places l ⊎ IsIn (offset_at o ∷ closed_at o ∷ []) l → ReachesPlace store v l
            by_side l (inl before) = all l before
            by_side l (inr (inl same)) = own_reached o l (Some (a_file path mode)) is reached (inl (sym same))
            by_side l (inr (inr (inl same))) = own_reached o l (Some (a_file path mode)) is reached (inr (sym same))
            by_side l (inr (inr (inr none))) = absurd none

    object_reached : (n o : ℕ) (r : Reachable) → IsReached store v o → AllReached r → AllReached (from_object_to store n o r)
    object_reached zero o r reached all = all
    object_reached (suc n) o r reached all = by_test (has_object o r.objects) (object_reached n)
      where
        by_test : (b : Bool) → ((p : ℕ) (q : Reachable) → IsReached store v p → AllReached q → AllReached (from_object_to store n p q))
            → AllReached (if b then r else from_content store (from_object_to store n) o (slice_get store.kinds o) (record r { objects = o ∷ r.objects }))
        by_test true each = all
        by_test false each = content_reached (from_object_to store n) each o reached (slice_get store.kinds o) (record r { objects = o ∷ r.objects }) refl all

    all_reached : (l : SeenLocation) → IsIn (reachable store v) l → ReachesPlace store v l
    all_reached l there =
        value_reached (from_object_to store (suc (length store.kinds))) (object_reached (suc (length store.kinds))) v (record { places = []; objects = [] }) (λ p stands. in_value stands) (λ m none. absurd none) l there

    pub reachable_reached : (l : SeenLocation) → IsIn (reachable store v) l ↔ ReachesPlace store v l
    reachable_reached l = (all_reached l, reached_there l)
