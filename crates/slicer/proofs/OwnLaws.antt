-- Whose own place a location is.
use Rattle.std.proofs.Common.{◌≡◌, ℕ, ◌⊎◌, inl, inr, Bool, true, false, nat_lt, slice_get, Option, Some, None, is_some, ◌&&◌, refl, sym, ap, subst, ◌∙◌, arith, true≢false}
use Rattle.std.specs.Option.{option_map}
use Rattle.std.proofs.lemmas.Bool.{lt-ltb, ltb-true}
use Rattle.std.proofs.lemmas.Option.{same_Some}
use Rattle.py_value.specs.declared.key.Key.{Key}
use Rattle.py_value.specs.declared.access.Location.{Location}
use Rattle.py_value.specs.declared.access.Location.TheVariants.{Var, Len, Item, Entry, Order, File, Offset, Closed, Method, Base}
use Rattle.py_value.specs.Contents.{Contents, contents}
use Rattle.py_value.specs.KeyOf.{normal}
use Rattle.py_value.specs.Seen.{SeenLocation, SeenKind, a_list, a_dict, an_instance, a_file, len_at, item_at, entry_at, order_at, offset_at, closed_at, location_seen, location_at, IsNamedLocation}
use Rattle.py_value.specs.Values.{ValuesView, AreInterned, IsNamed}
use Rattle.py_value.proofs.SeenLocations.{location_back}
use Rattle.py_model.specs.Store.{RunStore, entry_of, order_of}
use Rattle.slice_law.specs.Closed.{IsIn}
use Rattle.slice_law.specs.Reached.{IsItem, IsEntry, IsOwn}
use Rattle.slice_things.specs.declared.forms.Forms.{Forms}
use Rattle.slice_things.specs.declared.things.Things.{Things}
use Rattle.slice_things.specs.Children.{is_list, is_keyed, length_of, entry_there, all_before, has_item, has_entry}
use Rattle.slicer.specs.Own.{is_file, own_if, owner_in}
use Rattle.slice_things.specs.Counts.{often}
use Rattle.slice_things.specs.Forms.{form_in, AreForms}
use Rattle.slice_things.specs.Orders.{order_in}
use Rattle.slice_things.specs.Things.{HoldsStore, shape_seen, IsNormalLocation}
use Rattle.slice_things.proofs.ChildLaws.{both_true, first_true, shape_is, length_is, entry_is_there, there_before, before_there, often_there, key_there}

module _ (b : Bool) (q o : ℕ) where
  own_true : own_if b q ≡ Some o → b ≡ true
  own_true is = by b is
    where
      by : (b : Bool) → own_if b q ≡ Some o → b ≡ true
      by true is = refl
      by false is = absurd cc

  own_same : own_if b q ≡ Some o → q ≡ o
  own_same is = by b is
    where
      by : (b : Bool) → own_if b q ≡ Some o → q ≡ o
      by true is = same_Some q o is
      by false is = absurd cc

  own_is : b ≡ true → q ≡ o → own_if b q ≡ Some o
  own_is holds same = ap (λ b. own_if b q) holds ∙ ap Some same

module _ (view : ValuesView) (forms : Forms) (things : Things) (store : RunStore) (interned : AreInterned view) (are : AreForms view forms) (known : HoldsStore view forms things store) where
  -- what kinds tell
  list_own : (o : ℕ) (l : SeenLocation) → is_list (slice_get things.kinds.items o) ≡ true → (l ≡ len_at o) ⊎ IsItem store o l → IsOwn store o (slice_get store.kinds o) l
  list_own o l list own = by (slice_get store.kinds o) (sym (ap is_list (shape_is view forms things store are known o)) ∙ list)
    where
      by : (kind : Option SeenKind) → is_list (option_map shape_seen kind) ≡ true → IsOwn store o kind l
      by None is = absurd (true≢false (sym is))
      by (Some a_list) is = own
      by (Some a_dict) is = absurd (true≢false (sym is))
      by (Some (an_instance of)) is = absurd (true≢false (sym is))
      by (Some (a_file path mode)) is = absurd (true≢false (sym is))

  keyed_own : (o : ℕ) (l : SeenLocation) → is_keyed (slice_get things.kinds.items o) ≡ true → (l ≡ order_at o) ⊎ IsEntry store o l → IsOwn store o (slice_get store.kinds o) l
  keyed_own o l keyed own = by (slice_get store.kinds o) (sym (ap is_keyed (shape_is view forms things store are known o)) ∙ keyed)
    where
      by : (kind : Option SeenKind) → is_keyed (option_map shape_seen kind) ≡ true → IsOwn store o kind l
      by None is = absurd (true≢false (sym is))
      by (Some a_list) is = absurd (true≢false (sym is))
      by (Some a_dict) is = own
      by (Some (an_instance of)) is = own
      by (Some (a_file path mode)) is = absurd (true≢false (sym is))

  file_own : (o : ℕ) (l : SeenLocation) → is_file (slice_get things.kinds.items o) ≡ true → (l ≡ offset_at o) ⊎ (l ≡ closed_at o) → IsOwn store o (slice_get store.kinds o) l
  file_own o l file own = by (slice_get store.kinds o) (sym (ap is_file (shape_is view forms things store are known o)) ∙ file)
    where
      by : (kind : Option SeenKind) → is_file (option_map shape_seen kind) ≡ true → IsOwn store o kind l
      by None is = absurd (true≢false (sym is))
      by (Some a_list) is = absurd (true≢false (sym is))
      by (Some a_dict) is = absurd (true≢false (sym is))
      by (Some (an_instance of)) is = absurd (true≢false (sym is))
      by (Some (a_file path mode)) is = own

  entry_own : (q : ℕ) (key : Key) → IsNamed view key.value → normal (contents view key.value) ≡ contents view key.value → has_entry things q (form_in forms.numbers.items key.value) ≡ true
      → IsOwn store q (slice_get store.kinds q) (entry_at q (contents view key.value))
  entry_own q key named plain own =
      let form = form_in forms.numbers.items key.value in
      let all = first_true (is_keyed (slice_get things.kinds.items q) && nat_lt 0 (often form (order_in things.orders.entries q))) (entry_there things q form) own in
      let both = first_true (is_keyed (slice_get things.kinds.items q)) (nat_lt 0 (often form (order_in things.orders.entries q))) all.0 in
      let formed = are.each key.value named in
      let there = key_there (contents forms.values form) (order_of store q) (sym (ap (nat_lt 0) ((known.orders q).counted form formed.named)) ∙ both.1) in
      keyed_own q (entry_at q (contents view key.value)) both.0 (inr (record {
        key = there.key;
        ordered = there.ordered;
        present = sym (entry_is_there view forms things store are known q form there.key formed.named there.is) ∙ all.1;
        place = ap (entry_at q) (sym plain ∙ sym formed.form_is ∙ there.is);
      }))

  item_own : (q i : ℕ) → has_item things q i ≡ true → IsOwn store q (slice_get store.kinds q) (item_at q i)
  item_own q i own =
      let all = first_true (is_list (slice_get things.kinds.items q) && nat_lt i (length_of things q)) (all_before things q i) own in
      let both = first_true (is_list (slice_get things.kinds.items q)) (nat_lt i (length_of things q)) all.0 in
      let length = length_is view forms things store are known q in
      list_own q (item_at q i) both.0 (inr (record { i = i; below = omega (arith, length, ltb-true i (length_of things q) both.1); earlier = before_there view forms things store are known q i all.1; place = refl }))

  pub owner_own : (at : Location) (o : ℕ) → IsNamedLocation view at → IsNormalLocation view at → owner_in things forms.numbers.items at ≡ Some o → IsOwn store o (slice_get store.kinds o) (location_seen view at)
  owner_own (Len q) o named plain is =
      subst (λ r. IsOwn store r (slice_get store.kinds r) (len_at q)) (own_same (is_list (slice_get things.kinds.items q)) q o is) (list_own q (len_at q) (own_true (is_list (slice_get things.kinds.items q)) q o is) (inl refl))
  owner_own (Item q i) o named plain is =
      subst (λ r. IsOwn store r (slice_get store.kinds r) (item_at q i)) (own_same (has_item things q i) q o is) (item_own q i (own_true (has_item things q i) q o is))
  owner_own (Entry q key) o named plain is =
      let own = has_entry things q (form_in forms.numbers.items key.value) in
      subst (λ r. IsOwn store r (slice_get store.kinds r) (entry_at q (contents view key.value))) (own_same own q o is) (entry_own q key named plain (own_true own q o is))
  owner_own (Order q) o named plain is =
      subst (λ r. IsOwn store r (slice_get store.kinds r) (order_at q)) (own_same (is_keyed (slice_get things.kinds.items q)) q o is) (keyed_own q (order_at q) (own_true (is_keyed (slice_get things.kinds.items q)) q o is) (inl refl))
  owner_own (Offset q) o named plain is =
      subst (λ r. IsOwn store r (slice_get store.kinds r) (offset_at q)) (own_same (is_file (slice_get things.kinds.items q)) q o is) (file_own q (offset_at q) (own_true (is_file (slice_get things.kinds.items q)) q o is) (inl refl))
  owner_own (Closed q) o named plain is =
      subst (λ r. IsOwn store r (slice_get store.kinds r) (closed_at q)) (own_same (is_file (slice_get things.kinds.items q)) q o is) (file_own q (closed_at q) (own_true (is_file (slice_get things.kinds.items q)) q o is) (inr refl))
  owner_own (Var scope name) o named plain is = absurd cc
  owner_own (File path) o named plain is = absurd cc
  owner_own (Method at name) o named plain is = absurd cc
  owner_own (Base at) o named plain is = absurd cc

  -- ---- and back

  abbrev owner : Location → Option ℕ
  owner at = owner_in things forms.numbers.items at

  from_seen : (at : Location) (l : SeenLocation) (other : Location) → IsNamedLocation view at → location_seen view at ≡ l → location_at view l ≡ Some other → other ≡ at
  from_seen at l other named seen found = same_Some other at (sym found ∙ ap (location_at view) (sym seen) ∙ location_back view interned at named)

  list_owner : (at : Location) (o : ℕ) → IsNamedLocation view at → is_list (slice_get things.kinds.items o) ≡ true → (location_seen view at ≡ len_at o) ⊎ IsItem store o (location_seen view at) → owner at ≡ Some o
  list_owner at o named list (inl is) = subst (λ l. owner l ≡ Some o) (from_seen at (len_at o) (Len o) named is refl) (own_is (is_list (slice_get things.kinds.items o)) o o list refl)
  list_owner at o named list (inr item) =
      let length = length_is view forms things store are known o in
      subst (λ l. owner l ≡ Some o) (from_seen at (item_at o item.i) (Item o item.i) named item.place refl)
      (own_is (has_item things o item.i) o o (both_true (is_list (slice_get things.kinds.items o) && nat_lt item.i (length_of things o)) (all_before things o item.i)
      (both_true (is_list (slice_get things.kinds.items o)) (nat_lt item.i (length_of things o)) list (lt-ltb item.i (length_of things o) (omega (arith, item.below, length))))
      (there_before view forms things store are known o item.i item.earlier)) refl)

  entry_owner : (q o : ℕ) (key : Key) (c : Contents) → IsNamed view key.value → normal (contents view key.value) ≡ contents view key.value → is_keyed (slice_get things.kinds.items o) ≡ true
      → IsIn (order_of store o) c → is_some (entry_of store o c) ≡ true → entry_at q (contents view key.value) ≡ entry_at o (normal c) → owner (Entry q key) ≡ Some o
  entry_owner q o key c named plain keyed ordered present place =
      let form = form_in forms.numbers.items key.value in
      let formed = are.each key.value named in
      let same : q ≡ o = ap number place in
      let form_is : contents forms.values form ≡ normal c = formed.form_is ∙ plain ∙ ap under place in
      own_is (has_entry things q form) q o (subst (λ r. has_entry things r form ≡ true) (sym same)
      (both_true (is_keyed (slice_get things.kinds.items o) && nat_lt 0 (often form (order_in things.orders.entries o))) (entry_there things o form)
      (both_true (is_keyed (slice_get things.kinds.items o)) (nat_lt 0 (often form (order_in things.orders.entries o))) keyed
      (ap (nat_lt 0) ((known.orders o).counted form formed.named) ∙ often_there (contents forms.values form) c (order_of store o) ordered form_is))
      (entry_is_there view forms things store are known o form c formed.named form_is ∙ present))) same
    where
      number : SeenLocation → ℕ
      number (entry_at r k) = r
      number other = 0

      under : SeenLocation → Contents
      under (entry_at r k) = k
      under other = c

  keyed_owner : (at : Location) (o : ℕ) → IsNamedLocation view at → IsNormalLocation view at → is_keyed (slice_get things.kinds.items o) ≡ true
      → (location_seen view at ≡ order_at o) ⊎ IsEntry store o (location_seen view at) → owner at ≡ Some o
  keyed_owner at o named plain keyed (inl is) = subst (λ l. owner l ≡ Some o) (from_seen at (order_at o) (Order o) named is refl) (own_is (is_keyed (slice_get things.kinds.items o)) o o keyed refl)
  keyed_owner (Entry q key) o named plain keyed (inr entry) = entry_owner q o key entry.key named plain keyed entry.ordered entry.present entry.place
  keyed_owner (Var scope name) o named plain keyed (inr entry) = absurd (no_entry entry.place)
    where
      no_entry : location_seen view (Var scope name) ≡ entry_at o (normal entry.key) → ⊥
      no_entry is = cc
  keyed_owner (Len q) o named plain keyed (inr entry) = absurd (no_entry entry.place)
    where
      no_entry : location_seen view (Len q) ≡ entry_at o (normal entry.key) → ⊥
      no_entry is = cc
  keyed_owner (Item q i) o named plain keyed (inr entry) = absurd (no_entry entry.place)
    where
      no_entry : location_seen view (Item q i) ≡ entry_at o (normal entry.key) → ⊥
      no_entry is = cc
  keyed_owner (Order q) o named plain keyed (inr entry) = absurd (no_entry entry.place)
    where
      no_entry : location_seen view (Order q) ≡ entry_at o (normal entry.key) → ⊥
      no_entry is = cc
  keyed_owner (File path) o named plain keyed (inr entry) = absurd (no_entry entry.place)
    where
      no_entry : location_seen view (File path) ≡ entry_at o (normal entry.key) → ⊥
      no_entry is = cc
  keyed_owner (Offset q) o named plain keyed (inr entry) = absurd (no_entry entry.place)
    where
      no_entry : location_seen view (Offset q) ≡ entry_at o (normal entry.key) → ⊥
      no_entry is = cc
  keyed_owner (Closed q) o named plain keyed (inr entry) = absurd (no_entry entry.place)
    where
      no_entry : location_seen view (Closed q) ≡ entry_at o (normal entry.key) → ⊥
      no_entry is = cc
  keyed_owner (Method place name) o named plain keyed (inr entry) = absurd (no_entry entry.place)
    where
      no_entry : location_seen view (Method place name) ≡ entry_at o (normal entry.key) → ⊥
      no_entry is = cc
  keyed_owner (Base place) o named plain keyed (inr entry) = absurd (no_entry entry.place)
    where
      no_entry : location_seen view (Base place) ≡ entry_at o (normal entry.key) → ⊥
      no_entry is = cc

  file_owner : (at : Location) (o : ℕ) → IsNamedLocation view at → is_file (slice_get things.kinds.items o) ≡ true → (location_seen view at ≡ offset_at o) ⊎ (location_seen view at ≡ closed_at o) → owner at ≡ Some o
  file_owner at o named file (inl is) = subst (λ l. owner l ≡ Some o) (from_seen at (offset_at o) (Offset o) named is refl) (own_is (is_file (slice_get things.kinds.items o)) o o file refl)
  file_owner at o named file (inr is) = subst (λ l. owner l ≡ Some o) (from_seen at (closed_at o) (Closed o) named is refl) (own_is (is_file (slice_get things.kinds.items o)) o o file refl)

  pub own_owner : (at : Location) (o : ℕ) → IsNamedLocation view at → IsNormalLocation view at → IsOwn store o (slice_get store.kinds o) (location_seen view at) → owner_in things forms.numbers.items at ≡ Some o
  own_owner at o named plain own = by (slice_get store.kinds o) (shape_is view forms things store are known o) own
    where
      by : (kind : Option SeenKind) → slice_get things.kinds.items o ≡ option_map shape_seen kind → IsOwn store o kind (location_seen view at) → owner_in things forms.numbers.items at ≡ Some o
      by None shape own = absurd own
      by (Some a_list) shape own = list_owner at o named (ap is_list shape) own
      by (Some a_dict) shape own = keyed_owner at o named plain (ap is_keyed shape) own
      by (Some (an_instance of)) shape own = keyed_owner at o named plain (ap is_keyed shape) own
      by (Some (a_file path mode)) shape own = file_owner at o named (ap is_file shape) own
