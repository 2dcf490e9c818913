-- The traversal from a value is complete: it meets each object of the value, and of what stands at the locations of an object that it met.
use Rattle.std.proofs.Common.{◌≡◌, ℕ, zero, suc, ◌+◌, ◌≤◌, ◌<◌, if◌then◌else◌, Bool, true, false, ◌&&◌, ◌||◌, ◌==◌, List, [], ◌∷◌, ◌++◌, length, slice_get, Option, Some, None, is_some, inl, inr, refl, sym, ap, subst, ◌∙◌, arith, eqb-true, eq-eqb}
use Rattle.std.specs.Prelude.{⊤, ◌⊎◌}
use Rattle.std.proofs.lemmas.Bool.{false≢true, and_parts, and_from, eqb-false}
use Rattle.std.proofs.lemmas.Option.{slice_get_within}
use Rattle.py_value.specs.Contents.{Contents, Parts, nothing, truth, int, text, tuple, range, function, class, exception_class, builtin, object, no_parts, part}
use Rattle.py_value.specs.KeyOf.{normal}
use Rattle.py_value.specs.Seen.{SeenLocation, SeenKind, a_list, a_dict, an_instance, a_file, len_at, item_at, entry_at, order_at, offset_at, closed_at}
use Rattle.py_model.specs.Store.{RunStore, len_of, item_of, entry_of, order_of}
use Rattle.slice_law.specs.Closed.{IsIn}
use Rattle.slice_law.specs.Edges.{has_object, Reachable, with_places, from_value, from_parts, from_items, from_entries, from_content, from_object_to}
use Rattle.slice_law.specs.Reached.{AllBefore}

pub in_front : {A : Type 0} (xs ys : List A) (x : A) → IsIn xs x → IsIn (xs ++ ys) x
in_front [] ys x there = absurd there
in_front (y ∷ xs) ys x (inl is) = inl is
in_front (y ∷ xs) ys x (inr there) = inr (in_front xs ys x there)

pub in_behind : {A : Type 0} (xs ys : List A) (x : A) → IsIn ys x → IsIn (xs ++ ys) x
in_behind [] ys x there = there
in_behind (y ∷ xs) ys x there = inr (in_behind xs ys x there)

-- all objects in a value pass a test
abbrev mutual
  pub within : (ℕ → Bool) → Contents → Bool
  within p (tuple parts) = parts_within p parts
  within p (object o) = p o
  within p other = true

  pub parts_within : (ℕ → Bool) → Parts → Bool
  parts_within p no_parts = true
  parts_within p (part first rest) = within p first && parts_within p rest

abbrev pub item_within : (ℕ → Bool) → Option Contents → Bool
item_within p None = true
item_within p (Some v) = within p v

abbrev pub entry_within : (ℕ → Bool) → Option (Contents × Contents) → Bool
entry_within p None = true
entry_within p (Some entry) = within p entry.1

module _ (p q : ℕ → Bool) where
  module _ (more : (o : ℕ) → p o ≡ true → q o ≡ true) where
    mutual
      pub within_more : (v : Contents) → within p v ≡ true → within q v ≡ true
      within_more (tuple parts) is = parts_more parts is
      within_more (object o) is = more o is
      within_more nothing is = refl
      within_more (truth b) is = refl
      within_more (int i) is = refl
      within_more (text bytes) is = refl
      within_more (range a b c) is = refl
      within_more (function place) is = refl
      within_more (class place) is = refl
      within_more (exception_class number) is = refl
      within_more (builtin number) is = refl

      parts_more : (ps : Parts) → parts_within p ps ≡ true → parts_within q ps ≡ true
      parts_more no_parts is = refl
      parts_more (part first rest) is =
          let both : (within p first ≡ true) × (parts_within p rest ≡ true) = and_parts (within p first) (parts_within p rest) is in
          and_from (within q first) (parts_within q rest) (within_more first both.0) (parts_more rest both.1)

    pub item_more : (v : Option Contents) → item_within p v ≡ true → item_within q v ≡ true
    item_more None is = refl
    item_more (Some v) is = within_more v is

  mutual
    pub within_both : (v : Contents) → within p v ≡ true → within q v ≡ true → within (λ o. p o && q o) v ≡ true
    within_both (tuple parts) one other = parts_both parts one other
    within_both (object o) one other = and_from (p o) (q o) one other
    within_both nothing one other = refl
    within_both (truth b) one other = refl
    within_both (int i) one other = refl
    within_both (text bytes) one other = refl
    within_both (range a b c) one other = refl
    within_both (function place) one other = refl
    within_both (class place) one other = refl
    within_both (exception_class number) one other = refl
    within_both (builtin number) one other = refl

    parts_both : (ps : Parts) → parts_within p ps ≡ true → parts_within q ps ≡ true → parts_within (λ o. p o && q o) ps ≡ true
    parts_both no_parts one other = refl
    parts_both (part first rest) one other =
        let left : (within p first ≡ true) × (parts_within p rest ≡ true) = and_parts (within p first) (parts_within p rest) one in
        let right : (within q first ≡ true) × (parts_within q rest ≡ true) = and_parts (within q first) (parts_within q rest) other in
        and_from (within (λ o. p o && q o) first) (parts_within (λ o. p o && q o) rest) (within_both first left.0 right.0) (parts_both rest left.1 right.1)

  pub item_both : (v : Option Contents) → item_within p v ≡ true → item_within q v ≡ true → item_within (λ o. p o && q o) v ≡ true
  item_both None one other = refl
  item_both (Some v) one other = within_both v one other

  pub entry_both : (entry : Option (Contents × Contents)) → entry_within p entry ≡ true → entry_within q entry ≡ true → entry_within (λ o. p o && q o) entry ≡ true
  entry_both None one other = refl
  entry_both (Some entry) one other = within_both entry.1 one other

-- how many objects below a number were not met
abbrev unless : Bool → ℕ
unless true = 0
unless false = 1

abbrev fresh : List ℕ → ℕ → ℕ
fresh seen zero = 0
fresh seen (suc i) = unless (has_object i seen) + fresh seen i

unless_less : (a b : Bool) → (a ≡ true → b ≡ true) → unless b ≤ unless a
unless_less a true more = omega arith
unless_less true false more = absurd (false≢true (more refl))
unless_less false false more = omega arith

module _ (seen again : List ℕ) (more : (o : ℕ) → has_object o seen ≡ true → has_object o again ≡ true) where
  fresh_more : (n : ℕ) → fresh again n ≤ fresh seen n
  fresh_more zero = omega arith
  fresh_more (suc i) = omega (arith, unless_less (has_object i seen) (has_object i again) (more i), fresh_more i)

  fresh_less : (o n : ℕ) → o < n → has_object o seen ≡ false → has_object o again ≡ true → fresh again n < fresh seen n
  fresh_less o zero below new met = absurd (omega (arith, below))
  fresh_less o (suc i) below new met = by_test (i == o) refl (λ less. fresh_less o i less new met)
    where
      by_test : (b : Bool) → (i == o) ≡ b → (o < i → fresh again i < fresh seen i) → fresh again (suc i) < fresh seen (suc i)
      by_test true is less =
          let same : o ≡ i = omega (arith, eqb-true i o is) in
          let before : unless (has_object i seen) ≡ 1 = ap unless (subst (λ k. has_object k seen ≡ false) same new) in
          let behind : unless (has_object i again) ≡ 0 = ap unless (subst (λ k. has_object k again ≡ true) same met) in
          omega (arith, before, behind, fresh_more i)
      by_test false is less = omega (arith, unless_less (has_object i seen) (has_object i again) (more i), less (omega (arith, below, eqb-false i o is)))

from_start : (i n : ℕ) → i < n → i < 0 + n
from_start i n less = omega (arith, less)

all_fresh : (n : ℕ) → fresh [] n ≤ n
all_fresh zero = omega arith
all_fresh (suc i) = omega (arith, all_fresh i)

abbrev pub met : Reachable → ℕ → Bool
met r o = has_object o r.objects

module _ (store : RunStore) where
  -- of an object all locations that are its own, and all that stands there
  abbrev pub KeyCovered : Reachable → ℕ → Contents → Option (Contents × Contents) → Type 0
  KeyCovered r o key None = ⊤
  KeyCovered r o key (Some entry) = IsIn r.places (entry_at o (normal key)) × (within (met r) key ≡ true) × (within (met r) entry.1 ≡ true)

  abbrev pub KeysCovered : Reachable → ℕ → List Contents → Type 0
  KeysCovered r o [] = ⊤
  KeysCovered r o (key ∷ keys) = KeyCovered r o key (entry_of store o key) × KeysCovered r o keys

  pub record ItemCovered (r : Reachable) (o i : ℕ) : Type 0 where
    pub place : IsIn r.places (item_at o i)
    pub item : item_within (met r) (item_of store o i) ≡ true

  abbrev pub Covered : Reachable → ℕ → Option SeenKind → Type 0
  Covered r o None = ⊤
  Covered r o (Some a_list) = IsIn r.places (len_at o) × ((i : ℕ) → i < len_of store o → AllBefore store o i → ItemCovered r o i)
  Covered r o (Some a_dict) = IsIn r.places (order_at o) × KeysCovered r o (order_of store o)
  Covered r o (Some (an_instance of)) = IsIn r.places (order_at o) × KeysCovered r o (order_of store o)
  Covered r o (Some (a_file path mode)) = IsIn r.places (offset_at o) × IsIn r.places (closed_at o)

  -- more was met
  pub record Grows (r s : Reachable) : Type 0 where
    pub places : (l : SeenLocation) → IsIn r.places l → IsIn s.places l
    pub objects : (o : ℕ) → met r o ≡ true → met s o ≡ true

  key_grows : (r s : Reachable) → Grows r s → (o : ℕ) (key : Contents) (entry : Option (Contents × Contents)) → KeyCovered r o key entry → KeyCovered s o key entry
  key_grows r s grows o key None is = tt
  key_grows r s grows o key (Some entry) is =
      (grows.places (entry_at o (normal key)) is.0, within_more (met r) (met s) grows.objects key is.1, within_more (met r) (met s) grows.objects entry.1 is.2)

  keys_grow : (r s : Reachable) → Grows r s → (o : ℕ) (keys : List Contents) → KeysCovered r o keys → KeysCovered s o keys
  keys_grow r s grows o [] all = tt
  keys_grow r s grows o (key ∷ keys) all = (key_grows r s grows o key (entry_of store o key) all.0, keys_grow r s grows o keys all.1)

  item_grows : (r s : Reachable) → Grows r s → (o i : ℕ) → ItemCovered r o i → ItemCovered s o i
  item_grows r s grows o i is = record { place = grows.places (item_at o i) is.place; item = item_more (met r) (met s) grows.objects (item_of store o i) is.item }

  covered_grows : (r s : Reachable) → Grows r s → (o : ℕ) (kind : Option SeenKind) → Covered r o kind → Covered s o kind
  covered_grows r s grows o None is = tt
  covered_grows r s grows o (Some a_list) is = (grows.places (len_at o) is.0, λ i less earlier. item_grows r s grows o i (is.1 i less earlier))
  covered_grows r s grows o (Some a_dict) is = (grows.places (order_at o) is.0, keys_grow r s grows o (order_of store o) is.1)
  covered_grows r s grows o (Some (an_instance of)) is = (grows.places (order_at o) is.0, keys_grow r s grows o (order_of store o) is.1)
  covered_grows r s grows o (Some (a_file path mode)) is = (grows.places (offset_at o) is.0, grows.places (closed_at o) is.1)

  -- and each object that was met since is covered
  pub record Step (r s : Reachable) : Type 0 where
    pub grows : Grows r s
    pub covers : (o : ℕ) → met s o ≡ true → (met r o ≡ true) ⊎ Covered s o (slice_get store.kinds o)

  still : (r : Reachable) → Step r r
  still r = record { grows = record { places = λ l there. there; objects = λ o is. is }; covers = λ o is. inl is }

  grows_then : (r s t : Reachable) → Grows r s → Grows s t → Grows r t
  grows_then r s t one other = record { places = λ l there. other.places l (one.places l there); objects = λ o is. other.objects o (one.objects o is) }

  step_then : (r s t : Reachable) → Step r s → Step s t → Step r t
  step_then r s t one other = record { grows = grows_then r s t one.grows other.grows; covers = λ o is. by_new o (other.covers o is) }
    where
      by_old : (o : ℕ) → (met r o ≡ true) ⊎ Covered s o (slice_get store.kinds o) → (met r o ≡ true) ⊎ Covered t o (slice_get store.kinds o)
      by_old o (inl is) = inl is
      by_old o (inr covered) = inr (covered_grows s t other.grows o (slice_get store.kinds o) covered)

      by_new : (o : ℕ) → (met s o ≡ true) ⊎ Covered t o (slice_get store.kinds o) → (met r o ≡ true) ⊎ Covered t o (slice_get store.kinds o)
      by_new o (inl is) = by_old o (one.covers o is)
      by_new o (inr covered) = inr covered

  placed : (more : List SeenLocation) (r : Reachable) → Step r (with_places more r)
  placed more r = record { grows = record { places = λ l there. in_front r.places more l there; objects = λ o is. is }; covers = λ o is. inl is }

  -- so many items from a place on are covered, up to the first that is missing and with it
  abbrev AllFrom : ℕ → ℕ → ℕ → Type 0
  AllFrom o i j = (k : ℕ) → i ≤ k → k < j → is_some (item_of store o k) ≡ true

  abbrev ItemsFrom : Reachable → ℕ → ℕ → ℕ → Type 0
  ItemsFrom u o i m = (j : ℕ) → i ≤ j → j < i + m → AllFrom o i j → ItemCovered u o j

  one_more : (u : Reachable) (o i m : ℕ) → ItemCovered u o i → ItemsFrom u o (suc i) m → ItemsFrom u o i (suc m)
  one_more u o i m here later j from_here less earlier = by_test (i == j) refl
    where
      by_test : (b : Bool) → (i == j) ≡ b → ItemCovered u o j
      by_test true is = subst (ItemCovered u o) (eqb-true i j is) here
      by_test false is = later j (omega (arith, from_here, eqb-false i j is)) (omega (arith, less)) (λ k after below. earlier k (omega (arith, after)) below)

  only_here : (u : Reachable) (o i m : ℕ) → item_of store o i ≡ None → ItemCovered u o i → ItemsFrom u o i (suc m)
  only_here u o i m none here j from_here less earlier = by_test (i == j) refl
    where
      by_test : (b : Bool) → (i == j) ≡ b → ItemCovered u o j
      by_test true is = subst (ItemCovered u o) (eqb-true i j is) here
      by_test false is = absurd (false≢true (sym (ap (λ (v : Option Contents). is_some v) none) ∙ earlier i (omega arith) (omega (arith, from_here, eqb-false i j is))))

  -- so many of the store's objects may be met still
  abbrev HasRoom : ℕ → Reachable → Type 0
  HasRoom n r = fresh r.objects (length store.kinds) < n

  room_stays : (n : ℕ) (r s : Reachable) → Step r s → HasRoom n r → HasRoom n s
  room_stays n r s step room = omega (arith, room, fresh_more r.objects s.objects step.grows.objects (length store.kinds))

  module _ (n : ℕ) (from : ℕ → Reachable → Reachable) (each : (o : ℕ) (r : Reachable) → HasRoom n r → Step r (from o r) × (met (from o r) o ≡ true)) where
    mutual
      value_met : (v : Contents) (r : Reachable) → HasRoom n r → Step r (from_value store from v r) × (within (met (from_value store from v r)) v ≡ true)
      value_met (tuple parts) r room = parts_met parts r room
      value_met (object o) r room = each o r room
      value_met nothing r room = (still r, refl)
      value_met (truth b) r room = (still r, refl)
      value_met (int i) r room = (still r, refl)
      value_met (text bytes) r room = (still r, refl)
      value_met (range a b c) r room = (still r, refl)
      value_met (function place) r room = (still r, refl)
      value_met (class place) r room = (still r, refl)
      value_met (exception_class number) r room = (still r, refl)
      value_met (builtin number) r room = (still r, refl)

      parts_met : (ps : Parts) (r : Reachable) → HasRoom n r → Step r (from_parts store from ps r) × (parts_within (met (from_parts store from ps r)) ps ≡ true)
      parts_met no_parts r room = (still r, refl)
      parts_met (part first rest) r room =
          let s = from_value store from first r in
          let t = from_parts store from rest s in
          let one = value_met first r room in
          let other = parts_met rest s (room_stays n r s one.0 room) in
          (step_then r s t one.0 other.0, and_from (within (met t) first) (parts_within (met t) rest) (within_more (met s) (met t) other.0.grows.objects first one.1) other.1)

    abbrev after_item : ℕ → ℕ → ℕ → Option Contents → Reachable → Reachable
    after_item m o i v r = elim v [ None ↦ with_places (item_at o i ∷ []) r | Some x ↦ from_items store from m o (suc i) (from_value store from x (with_places (item_at o i ∷ []) r)) ]

    item_here : (m o i : ℕ) (v : Option Contents) (r : Reachable) → item_of store o i ≡ v → HasRoom n r
        → ((s : Reachable) → HasRoom n s → Step s (from_items store from m o (suc i) s) × ItemsFrom (from_items store from m o (suc i) s) o (suc i) m)
        → Step r (after_item m o i v r) × ItemsFrom (after_item m o i v r) o i (suc m)
    item_here m o i None r is room rest =
        let a = with_places (item_at o i ∷ []) r in (
          placed (item_at o i ∷ []) r,
          only_here a o i m is (record { place = in_behind r.places (item_at o i ∷ []) (item_at o i) (inl refl); item = ap (item_within (met a)) is }),
        )
    item_here m o i (Some v) r is room rest =
        let a = with_places (item_at o i ∷ []) r in
        let s = from_value store from v a in
        let u = from_items store from m o (suc i) s in
        let there = value_met v a room in
        let later = rest s (room_stays n a s there.0 room) in (
          step_then r s u (step_then r a s (placed (item_at o i ∷ []) r) there.0) later.0,
          one_more u o i m (item_grows s u later.0.grows o i (record {
            place = there.0.grows.places (item_at o i) (in_behind r.places (item_at o i ∷ []) (item_at o i) (inl refl));
            item = ap (item_within (met s)) is ∙ there.1;
          })) later.1,
        )

    items_met : (m o i : ℕ) (r : Reachable) → HasRoom n r → Step r (from_items store from m o i r) × ItemsFrom (from_items store from m o i r) o i m
    items_met zero o i r room = (still r, λ j from_here less earlier. absurd (omega (arith, from_here, less)))
    items_met (suc m) o i r room = item_here m o i (item_of store o i) r refl room (λ s space. items_met m o (suc i) s space)

    abbrev after_key : ℕ → Contents → List Contents → Option (Contents × Contents) → Reachable → Reachable
    after_key o key keys found r = elim found [
      | None ↦ from_entries store from o keys r
      | Some entry ↦ from_entries store from o keys (from_value store from entry.1 (from_value store from key (with_places (entry_at o (normal key) ∷ []) r)))
    ]

    key_here : (o : ℕ) (key : Contents) (keys : List Contents) (found : Option (Contents × Contents)) (r : Reachable) → HasRoom n r
        → ((s : Reachable) → HasRoom n s → Step s (from_entries store from o keys s) × KeysCovered (from_entries store from o keys s) o keys)
        → Step r (after_key o key keys found r) × (KeyCovered (after_key o key keys found r) o key found × KeysCovered (after_key o key keys found r) o keys)
    key_here o key keys None r room rest = let later = rest r room in (later.0, (tt, later.1))
    key_here o key keys (Some entry) r room rest =
        let a = with_places (entry_at o (normal key) ∷ []) r in
        let k = from_value store from key a in
        let s = from_value store from entry.1 k in
        let u = from_entries store from o keys s in
        let by_key = value_met key a room in
        let there = value_met entry.1 k (room_stays n a k by_key.0 room) in
        let from_a = step_then a k s by_key.0 there.0 in
        let later = rest s (room_stays n a s from_a room) in (
          step_then r a u (placed (entry_at o (normal key) ∷ []) r) (step_then a s u from_a later.0),
          (
            (
              later.0.grows.places (entry_at o (normal key)) (from_a.grows.places (entry_at o (normal key)) (in_behind r.places (entry_at o (normal key) ∷ []) (entry_at o (normal key)) (inl refl))),
              within_more (met k) (met u) (grows_then k s u there.0.grows later.0.grows).objects key by_key.1,
              within_more (met s) (met u) later.0.grows.objects entry.1 there.1,
            ),
            later.1,
          ),
        )

    keys_met : (o : ℕ) (keys : List Contents) (r : Reachable) → HasRoom n r → Step r (from_entries store from o keys r) × KeysCovered (from_entries store from o keys r) o keys
    keys_met o [] r room = (still r, tt)
    keys_met o (key ∷ keys) r room = key_here o key keys (entry_of store o key) r room (λ s space. keys_met o keys s space)

    ordered_met : (o : ℕ) (r : Reachable) → HasRoom n r
        → Step r (from_entries store from o (order_of store o) (with_places (order_at o ∷ []) r))
        × (IsIn (from_entries store from o (order_of store o) (with_places (order_at o ∷ []) r)).places (order_at o) × KeysCovered (from_entries store from o (order_of store o) (with_places (order_at o ∷ []) r)) o (order_of store o))
    ordered_met o r room =
        let a = with_places (order_at o ∷ []) r in
        let rest = keys_met o (order_of store o) a room in (
          step_then r a (from_entries store from o (order_of store o) a) (placed (order_at o ∷ []) r) rest.0,
          (rest.0.grows.places (order_at o) (in_behind r.places (order_at o ∷ []) (order_at o) (inl refl)), rest.1),
        )

    content_met : (o : ℕ) (kind : Option SeenKind) (r : Reachable) → HasRoom n r → Step r (from_content store from o kind r) × Covered (from_content store from o kind r) o kind
    content_met o None r room = (still r, tt)
    content_met o (Some a_list) r room =
        let a = with_places (len_at o ∷ []) r in
        let rest = items_met (len_of store o) o 0 a room in (
          step_then r a (from_items store from (len_of store o) o 0 a) (placed (len_at o ∷ []) r) rest.0,
          (rest.0.grows.places (len_at o) (in_behind r.places (len_at o ∷ []) (len_at o) (inl refl)), λ i less earlier. rest.1 i (omega arith) (from_start i (len_of store o) less) (λ k after below. earlier k below)),
        )
    content_met o (Some a_dict) r room = ordered_met o r room
    content_met o (Some (an_instance of)) r room = ordered_met o r room
    content_met o (Some (a_file path mode)) r room = (
      placed (offset_at o ∷ closed_at o ∷ []) r,
      (in_behind r.places (offset_at o ∷ closed_at o ∷ []) (offset_at o) (inl refl), in_behind r.places (offset_at o ∷ closed_at o ∷ []) (closed_at o) (inr (inl refl))),
    )

  kind_covered : (s : Reachable) (o : ℕ) (kind : Option SeenKind) → slice_get store.kinds o ≡ kind → Covered s o kind → Covered s o (slice_get store.kinds o)
  kind_covered s o kind is covered = subst (Covered s o) (sym is) covered

  abbrev EachMet : ℕ → Type 0
  EachMet n = (o : ℕ) (r : Reachable) → HasRoom n r → Step r (from_object_to store n o r) × (met (from_object_to store n o r) o ≡ true)

  object_met : (n o : ℕ) (r : Reachable) → HasRoom n r → Step r (from_object_to store n o r) × (met (from_object_to store n o r) o ≡ true)
  object_met zero o r room = absurd (omega (arith, room))
  object_met (suc n) o r room = by_test (has_object o r.objects) refl (object_met n)
    where
      begun : Reachable
      begun = record r { objects = o ∷ r.objects }

      now_met : (p : ℕ) → met begun p ≡ true → (o ≡ p) ⊎ (met r p ≡ true)
      now_met p is = by_same (o == p) refl is
        where
          by_same : (b : Bool) → (o == p) ≡ b → (b || met r p) ≡ true → (o ≡ p) ⊎ (met r p ≡ true)
          by_same true same is = inl (eqb-true o p same)
          by_same false same is = inr is

      own_met : met begun o ≡ true
      own_met = ap (λ b. b || met r o) (eq-eqb o o refl)

      old_met : (p : ℕ) → met r p ≡ true → met begun p ≡ true
      old_met p is = ap (λ b. (o == p) || b) is ∙ either (o == p)
        where
          either : (b : Bool) → (b || true) ≡ true
          either true = refl
          either false = refl

      begins : Grows r begun
      begins = record { places = λ l there. there; objects = old_met }

      with_own : (s : Reachable) → Step begun s → Covered s o (slice_get store.kinds o) → Step r s × (met s o ≡ true)
      with_own s step covered = (record { grows = grows_then r begun s begins step.grows; covers = λ p is. by_new p (step.covers p is) }, step.grows.objects o own_met)
        where
          by_own : (p : ℕ) → (o ≡ p) ⊎ (met r p ≡ true) → (met r p ≡ true) ⊎ Covered s p (slice_get store.kinds p)
          by_own p (inl same) = inr (subst (λ q. Covered s q (slice_get store.kinds q)) same covered)
          by_own p (inr is) = inl is

          by_new : (p : ℕ) → (met begun p ≡ true) ⊎ Covered s p (slice_get store.kinds p) → (met r p ≡ true) ⊎ Covered s p (slice_get store.kinds p)
          by_new p (inl is) = by_own p (now_met p is)
          by_new p (inr covered) = inr covered

      by_kind : (kind : Option SeenKind) → slice_get store.kinds o ≡ kind → has_object o r.objects ≡ false → EachMet n
          → Step r (from_content store (from_object_to store n) o kind begun) × (met (from_content store (from_object_to store n) o kind begun) o ≡ true)
      by_kind None is new each = with_own begun (still begun) (kind_covered begun o None is tt)
      by_kind (Some kind) is new each =
          let less : fresh (o ∷ r.objects) (length store.kinds) < fresh r.objects (length store.kinds) = fresh_less r.objects (o ∷ r.objects) old_met o (length store.kinds) (slice_get_within store.kinds o kind is) new own_met in
          let content = content_met n (from_object_to store n) each o (Some kind) begun (omega (arith, less, room)) in
          with_own (from_content store (from_object_to store n) o (Some kind) begun) content.0 (kind_covered (from_content store (from_object_to store n) o (Some kind) begun) o (Some kind) is content.1)

      by_test : (b : Bool) → has_object o r.objects ≡ b → EachMet n
          → Step r (if b then r else from_content store (from_object_to store n) o (slice_get store.kinds o) begun) × (met (if b then r else from_content store (from_object_to store n) o (slice_get store.kinds o) begun) o ≡ true)
      by_test true is each = (still r, is)
      by_test false is each = by_kind (slice_get store.kinds o) refl is each

  -- the whole traversal from a value
  abbrev pub traversed : Contents → Reachable
  traversed v = from_value store (from_object_to store (suc (length store.kinds))) v (record { places = []; objects = [] })

  pub all_met : (v : Contents) → within (met (traversed v)) v ≡ true
  all_met v = (value_met (suc (length store.kinds)) (from_object_to store (suc (length store.kinds))) (object_met (suc (length store.kinds))) v (record { places = []; objects = [] }) (omega (arith, all_fresh (length store.kinds)))).1

  pub all_covered : (v : Contents) (o : ℕ) → met (traversed v) o ≡ true → Covered (traversed v) o (slice_get store.kinds o)
  all_covered v o is = by_new ((value_met (suc (length store.kinds)) (from_object_to store (suc (length store.kinds))) (object_met (suc (length store.kinds))) v (record { places = []; objects = [] }) (omega (arith, all_fresh (length store.kinds)))).0.covers o is)
    where
      by_new : (false ≡ true) ⊎ Covered (traversed v) o (slice_get store.kinds o) → Covered (traversed v) o (slice_get store.kinds o)
      by_new (inl not) = absurd (false≢true not)
      by_new (inr covered) = covered
