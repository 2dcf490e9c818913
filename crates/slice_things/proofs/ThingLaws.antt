-- What is known of a store once an access is passed.
use Rattle.std.proofs.Common.{◌≡◌, ℕ, zero, suc, ◌+◌, ◌<◌, ◌≤◌, ◌≢◌, ◌==◌, ◌&&◌, nat_lt, ◌⊎◌, inl, inr, Bool, true, false, List, [], ◌∷◌, ◌++◌, map, take, length, slice_get, get_or, unwrap_or, codes, eqb-true, ltb-true, true≢false, Option, Some, None, refl, sym, ap, subst, ◌∙◌, arith, if◌then◌else◌}
use Rattle.std.proofs.lemmas.Bool.{eq-eqb, lt-ltb, and_parts, and_from}
use Rattle.std.proofs.lemmas.Option.{same_Some}
use Rattle.std.proofs.lemmas.List.{map-append, take_more}
use Rattle.py_value.specs.declared.access.Access.{Access}
use Rattle.py_value.specs.declared.access.Access.TheVariants.{Read, Set, Update}
use Rattle.py_value.specs.declared.access.Change.{Change}
use Rattle.py_value.specs.declared.access.Change.TheVariants.{Insert, Delete, Append}
use Rattle.py_value.specs.declared.access.Content.{Content}
use Rattle.py_value.specs.declared.access.Content.TheVariants.{Var as VarContent, Len as LenContent, Item as ItemContent, Entry as EntryContent, Order as OrderContent, File as FileContent, Offset as OffsetContent, Closed as ClosedContent, Method as MethodContent, Base as BaseContent}
use Rattle.py_value.specs.declared.access.Location.{Location}
use Rattle.py_value.specs.declared.access.Location.TheVariants.{Var, Len, Item, Entry, Order, File, Offset, Closed, Method, Base}
use Rattle.py_value.specs.declared.value.Value.{Value}
use Rattle.py_value.specs.declared.value.Value.TheVariants.{None as NoneValue}
use Rattle.py_value.specs.contracts.access.LocationPartialEq.TheImpl.{ghosts as locations}
use Rattle.py_value.specs.Changes.{with_key, without_key, changed, after_access, after_accesses}
use Rattle.py_value.specs.Contents.{Contents, text, contents}
use Rattle.py_value.specs.Named.{IsNamedContent, IsNamedChange}
use Rattle.py_value.specs.Same.{same_location}
use Rattle.py_value.specs.Seen.{SeenLocation, SeenContent, SeenChange, SeenAccess, SeenKind, var_at, len_at, item_at, entry_at, order_at, file_at, offset_at, closed_at, method_at, base_at, var_is, len_is, item_is, order_is, file_is, key_inserted, key_deleted, bytes_appended, location_seen, location_at, content_seen, change_seen, access_seen, IsNamedLocation}
use Rattle.py_value.specs.Values.{ValuesView, AreInterned}
use Rattle.py_value.proofs.Equality.{location_same as number_same, location_own as number_own}
use Rattle.py_value.proofs.SameTests.{location_same as seen_same, location_own as seen_own}
use Rattle.py_value.proofs.SeenLocations.{location_back}
use Rattle.py_model.specs.Store.{RunStore, empty, order_of, opening, unset, with_files, with_items}
use Rattle.row_words.specs.Fits.{Each}
use Rattle.row_checks.specs.NamedRows.{NamesAccess}
use Rattle.slice_things.specs.declared.forms.Forms.{Forms}
use Rattle.slice_things.specs.declared.held.Held.{Held}
use Rattle.slice_things.specs.declared.held.Held.TheVariants.{Nothing, Length, Item as HeldItem}
use Rattle.slice_things.specs.declared.things.Shape.{Shape}
use Rattle.slice_things.specs.declared.things.Shape.TheVariants.{List as ListShape}
use Rattle.slice_things.specs.declared.things.Things.{Things}
use Rattle.slice_things.specs.Counts.{often, count_of, inserted, deleted}
use Rattle.slice_things.specs.Forms.{form_in, AreForms}
use Rattle.slice_things.specs.Held.{held_in, placed, noted_at, noted_after, held_seen, holds_nothing, holds_length, what_stands, IsTextItem, Agrees, with_words}
use Rattle.slice_things.specs.Orders.{order_in, order_object, keys_in, at_object, changed_often, often_after, AreCounts, IsPlain, IsPlainChange}
use Rattle.slice_things.specs.Things.{HoldsStore, shape_seen, after_one, after_all, IsNormalLocation, IsNormalAccess}
use Rattle.slice_things.proofs.OrderLaws.{same_tests, none_counted, key_inserted as key_in, key_deleted as key_out, keys_counted}

-- ---- what contents and changes leave

content_stands : (view : ValuesView) (content : Content) → held_seen view (held_in content) ≡ what_stands (Some (content_seen view content))
content_stands view (VarContent v) = refl
content_stands view (LenContent n) = refl
content_stands view (ItemContent v) = refl
content_stands view (EntryContent None) = refl
content_stands view (EntryContent (Some entry)) = refl
content_stands view (OrderContent keys) = refl
content_stands view (FileContent bytes) = refl
content_stands view (OffsetContent n) = refl
content_stands view (ClosedContent b) = refl
content_stands view (MethodContent at) = refl
content_stands view (BaseContent v) = refl

change_stands : (change : SeenChange) (before : Option SeenContent) → what_stands (Some (changed change before)) ≡ holds_nothing
change_stands (key_inserted key) (Some (order_is keys)) = refl
change_stands (key_inserted key) None = refl
change_stands (key_inserted key) (Some other) = refl
change_stands (key_deleted key) (Some (order_is keys)) = refl
change_stands (key_deleted key) None = refl
change_stands (key_deleted key) (Some other) = refl
change_stands (bytes_appended more) (Some (file_is bytes)) = refl
change_stands (bytes_appended more) None = refl
change_stands (bytes_appended more) (Some other) = refl

-- the keys that stand in a content
abbrev holding : Option SeenContent → RunStore
holding content = record empty { at = λ l. content }

abbrev standing : Option SeenContent → List Contents
standing content = order_of (holding content) 0

content_keys : (view : ValuesView) (content : Content) → standing (Some (content_seen view content)) ≡ map (contents view) (keys_in content)
content_keys view (VarContent v) = refl
content_keys view (LenContent n) = refl
content_keys view (ItemContent v) = refl
content_keys view (EntryContent entry) = refl
content_keys view (OrderContent keys) = refl
content_keys view (FileContent bytes) = refl
content_keys view (OffsetContent n) = refl
content_keys view (ClosedContent b) = refl
content_keys view (MethodContent at) = refl
content_keys view (BaseContent v) = refl

inserted_keys : (key : Contents) (before : Option SeenContent) → standing (Some (changed (key_inserted key) before)) ≡ with_key key (standing before)
inserted_keys key (Some (order_is keys)) = refl
inserted_keys key None = refl
inserted_keys key (Some other) = refl

deleted_keys : (key : Contents) (before : Option SeenContent) → standing (Some (changed (key_deleted key) before)) ≡ without_key key (standing before)
deleted_keys key (Some (order_is keys)) = refl
deleted_keys key None = refl
deleted_keys key (Some other) = refl

appended_keys : (more : List ℕ) (before : Option SeenContent) → standing (Some (changed (bytes_appended more) before)) ≡ []
appended_keys more (Some (file_is bytes)) = refl
appended_keys more None = refl
appended_keys more (Some other) = refl

-- ---- places

module _ (view : ValuesView) (forms : Forms) (interned : AreInterned view) (are : AreForms view forms) where
  same_bytes : (f : List ℕ → SeenLocation) (name : ℕ) → f (unwrap_or (slice_get forms.values.texts name) []) ≡ f (unwrap_or (slice_get view.texts name) [])
  same_bytes f name = ap (λ texts. f (unwrap_or (slice_get texts name) [])) are.texts

  same_few : (name : ℕ) → name < length view.texts → name < length forms.values.texts
  same_few name few = subst (λ n. name < n) (sym (ap length are.texts)) few

  placed_seen : (m : Location) → IsNamedLocation view m → IsNormalLocation view m → location_seen forms.values (placed forms.numbers.items m) ≡ location_seen view m
  placed_seen (Var scope name) named is = same_bytes (var_at scope) name
  placed_seen (Entry o key) named is = ap (entry_at o) ((are.each key.value named).form_is ∙ is)
  placed_seen (File path) named is = same_bytes file_at path
  placed_seen (Method class name) named is = same_bytes (method_at class) name
  placed_seen (Len o) named is = refl
  placed_seen (Item o i) named is = refl
  placed_seen (Order o) named is = refl
  placed_seen (Offset o) named is = refl
  placed_seen (Closed o) named is = refl
  placed_seen (Base class) named is = refl

  placed_named : (m : Location) → IsNamedLocation view m → IsNamedLocation forms.values (placed forms.numbers.items m)
  placed_named (Var scope name) named = same_few name named
  placed_named (Entry o key) named = (are.each key.value named).named
  placed_named (File path) named = same_few path named
  placed_named (Method class name) named = same_few name named
  placed_named (Len o) named = named
  placed_named (Item o i) named = named
  placed_named (Order o) named = named
  placed_named (Offset o) named = named
  placed_named (Closed o) named = named
  placed_named (Base class) named = named

  form_places : (m l : Location) → IsNamedLocation forms.values m → IsNamedLocation forms.values l
      → locations.eq m l ≡ same_location (location_seen forms.values m) (location_seen forms.values l)
  form_places m l named also = same_tests (locations.eq m l) (same_location (location_seen forms.values m) (location_seen forms.values l))
      (λ is. ap (λ k. same_location (location_seen forms.values m) (location_seen forms.values k)) (sym (number_same m l is)) ∙ seen_own (location_seen forms.values m))
      (λ is. ap (locations.eq m) (sym (same_Some m l
      (sym (location_back forms.values are.interned m named) ∙ ap (location_at forms.values) (seen_same (location_seen forms.values m) (location_seen forms.values l) is) ∙ location_back forms.values are.interned l also))) ∙ number_own m)

  place_test : (m l : Location) → IsNamedLocation view m → IsNormalLocation view m → IsNamedLocation forms.values l
      → locations.eq (placed forms.numbers.items m) l ≡ same_location (location_seen view m) (location_seen forms.values l)
  place_test m l named is also = form_places (placed forms.numbers.items m) l (placed_named m named) also
      ∙ ap (λ seen. same_location seen (location_seen forms.values l)) (placed_seen m named is)

  agrees_if : (a b : Bool) (held old : Held) (content : SeenContent) (before : Option SeenContent) → a ≡ b → held_seen view held ≡ what_stands (Some content)
      → Agrees (held_seen view old) (what_stands before) → Agrees (held_seen view (if a then held else old)) (what_stands (if b then Some content else before))
  agrees_if true true held old content before same now earlier = inl now
  agrees_if false false held old content before same now earlier = earlier
  agrees_if true false held old content before same now earlier = absurd cc
  agrees_if false true held old content before same now earlier = absurd cc

  next_place : (access : Access) (at : SeenLocation → Option SeenContent) (l : Location) (old : Held) → NamesAccess view access → IsNormalAccess view access → IsNamedLocation forms.values l
      → Agrees (held_seen view old) (what_stands (at (location_seen forms.values l)))
      → Agrees (held_seen view (noted_after forms.numbers.items access l old)) (what_stands (after_access (access_seen view access) at (location_seen forms.values l)))
  next_place (Read m) at l old named is also before = before
  next_place (Set m content) at l old named is also before =
      agrees_if (locations.eq (placed forms.numbers.items m) l) (same_location (location_seen view m) (location_seen forms.values l)) (held_in content) old (content_seen view content) (at (location_seen forms.values l))
      (place_test m l named.0 is.0 also) (content_stands view content) before
  next_place (Update m change) at l old named is also before =
      agrees_if (locations.eq (placed forms.numbers.items m) l) (same_location (location_seen view m) (location_seen forms.values l)) Nothing old
      (changed (change_seen view change) (at (location_seen view m))) (at (location_seen forms.values l))
      (place_test m l named.0 is.0 also) (sym (change_stands (change_seen view change) (at (location_seen view m)))) before

  known_if : (m l : Location) (held old : Held) → IsNamedLocation view m → IsNamedLocation forms.values l ⊎ (old ≡ Nothing)
      → IsNamedLocation forms.values l ⊎ ((if locations.eq (placed forms.numbers.items m) l then held else old) ≡ Nothing)
  known_if m l held old named before = by (locations.eq (placed forms.numbers.items m) l) refl
    where
      by : (b : Bool) → locations.eq (placed forms.numbers.items m) l ≡ b → IsNamedLocation forms.values l ⊎ ((if b then held else old) ≡ Nothing)
      by true is = inl (subst (IsNamedLocation forms.values) (number_same (placed forms.numbers.items m) l is) (placed_named m named))
      by false is = before

  next_known : (access : Access) (l : Location) (old : Held) → NamesAccess view access → IsNamedLocation forms.values l ⊎ (old ≡ Nothing)
      → IsNamedLocation forms.values l ⊎ (noted_after forms.numbers.items access l old ≡ Nothing)
  next_known (Read m) l old named before = before
  next_known (Set m content) l old named before = known_if m l (held_in content) old named.0 before
  next_known (Update m change) l old named before = known_if m l Nothing old named.0 before

  -- ---- orders

  abbrev is_object : Option ℕ → ℕ → Bool
  is_object None o = false
  is_object (Some p) o = p == o

  object_test : (m : Location) (o : ℕ) → same_location (location_seen view m) (order_at o) ≡ is_object (order_object m) o
  object_test (Var scope name) o = refl
  object_test (Len p) o = refl
  object_test (Item p i) o = refl
  object_test (Entry p key) o = refl
  object_test (Order p) o = refl
  object_test (File path) o = refl
  object_test (Offset p) o = refl
  object_test (Closed p) o = refl
  object_test (Method class name) o = refl
  object_test (Base class) o = refl

  at_object_is : (found : Option ℕ) (o now before : ℕ) → at_object found o now before ≡ (if is_object found o then now else before)
  at_object_is None o now before = refl
  at_object_is (Some p) o now before = refl

  counts_same : (F G : Value → ℕ) (keys : List Contents) → ((f : Value) → G f ≡ F f) → AreCounts forms F keys → AreCounts forms G keys
  counts_same F G keys same counts = record { counted = λ f named. same f ∙ counts.counted f named; formed = counts.formed }

  counts_if : (b : Bool) (now old : Value → ℕ) (content : SeenContent) (before : Option SeenContent) → AreCounts forms now (standing (Some content)) → AreCounts forms old (standing before)
      → AreCounts forms (λ f. if b then now f else old f) (standing (if b then Some content else before))
  counts_if true now old content before here earlier = here
  counts_if false now old content before here earlier = earlier

  counts_put : (m : Location) (o : ℕ) (now old : Value → ℕ) (content : SeenContent) (before : Option SeenContent) → AreCounts forms now (standing (Some content)) → AreCounts forms old (standing before)
      → AreCounts forms (λ f. at_object (order_object m) o (now f) (old f)) (standing (if same_location (location_seen view m) (order_at o) then Some content else before))
  counts_put m o now old content before here earlier =
      subst (λ b. AreCounts forms (λ f. at_object (order_object m) o (now f) (old f)) (standing (if b then Some content else before))) (sym (object_test m o))
      (counts_same (λ f. if is_object (order_object m) o then now f else old f) (λ f. at_object (order_object m) o (now f) (old f)) (standing (if is_object (order_object m) o then Some content else before))
      (λ f. at_object_is (order_object m) o (now f) (old f)) (counts_if (is_object (order_object m) o) now old content before here earlier))

  content_counts : (content : Content) → IsNamedContent view content → Each (IsPlain view) (keys_in content) → AreCounts forms (λ f. count_of forms.numbers.items f (keys_in content)) (standing (Some (content_seen view content)))
  content_counts content named plain = subst (AreCounts forms (λ f. count_of forms.numbers.items f (keys_in content))) (sym (content_keys view content)) (by content named plain)
    where
      by : (content : Content) → IsNamedContent view content → Each (IsPlain view) (keys_in content) → AreCounts forms (λ f. count_of forms.numbers.items f (keys_in content)) (map (contents view) (keys_in content))
      by (OrderContent keys) named plain = keys_counted view forms are keys named plain
      by (VarContent v) named plain = none_counted view forms are
      by (LenContent n) named plain = none_counted view forms are
      by (ItemContent v) named plain = none_counted view forms are
      by (EntryContent entry) named plain = none_counted view forms are
      by (FileContent bytes) named plain = none_counted view forms are
      by (OffsetContent n) named plain = none_counted view forms are
      by (ClosedContent b) named plain = none_counted view forms are
      by (MethodContent at) named plain = none_counted view forms are
      by (BaseContent v) named plain = none_counted view forms are

  -- the change is made at the order, or elsewhere
  change_counts : (change : Change) → IsNamedChange view change → IsPlainChange view change → (old : Value → ℕ) (before : Option SeenContent) → AreCounts forms old (standing before)
      → AreCounts forms (λ f. changed_often forms.numbers.items change f (old f)) (standing (Some (changed (change_seen view change) before)))
  change_counts (Insert key) named plain old before earlier =
      subst (AreCounts forms (λ f. inserted (form_in forms.numbers.items key) f (old f))) (sym (inserted_keys (contents view key) before)) (key_in view forms are old (standing before) key named plain earlier)
  change_counts (Delete key) named plain old before earlier =
      subst (AreCounts forms (λ f. deleted (form_in forms.numbers.items key) f (old f))) (sym (deleted_keys (contents view key) before)) (key_out view forms are old (standing before) key named earlier)
  change_counts (Append bytes) named plain old before earlier =
      subst (AreCounts forms (λ f. 0)) (sym (appended_keys _ before)) (none_counted view forms are)

  order_changed : (p o : ℕ) (at : SeenLocation → Option SeenContent) (old : Value → ℕ) (change : Change) → IsNamedChange view change → IsPlainChange view change → AreCounts forms old (standing (at (order_at o)))
      → AreCounts forms (λ f. if p == o then changed_often forms.numbers.items change f (old f) else old f) (standing (if p == o then Some (changed (change_seen view change) (at (order_at p))) else at (order_at o)))
  order_changed p o at old change named plain earlier = by (p == o) refl
    where
      by : (b : Bool) → (p == o) ≡ b
          → AreCounts forms (λ f. if b then changed_often forms.numbers.items change f (old f) else old f) (standing (if b then Some (changed (change_seen view change) (at (order_at p))) else at (order_at o)))
      by true same =
          let is : o ≡ p = omega (arith, eqb-true p o same) in
          subst (λ q. AreCounts forms (λ f. changed_often forms.numbers.items change f (old f)) (standing (Some (changed (change_seen view change) (at (order_at q)))))) is
          (change_counts change named plain old (at (order_at o)) earlier)
      by false same = earlier

  next_order : (access : Access) (at : SeenLocation → Option SeenContent) (o : ℕ) (old : Value → ℕ) → NamesAccess view access → IsNormalAccess view access → AreCounts forms old (standing (at (order_at o)))
      → AreCounts forms (λ f. often_after forms.numbers.items access o f (old f)) (standing (after_access (access_seen view access) at (order_at o)))
  next_order (Read m) at o old named is earlier = earlier
  next_order (Set m content) at o old named is earlier =
      counts_put m o (λ f. count_of forms.numbers.items f (keys_in content)) old (content_seen view content) (at (order_at o)) (content_counts content named.1 is.1) earlier
  next_order (Update (Order p) change) at o old named is earlier = order_changed p o at old change named.1 is.1 earlier
  next_order (Update (Var scope name) change) at o old named is earlier = earlier
  next_order (Update (Len p) change) at o old named is earlier = earlier
  next_order (Update (Item p i) change) at o old named is earlier = earlier
  next_order (Update (Entry p key) change) at o old named is earlier = earlier
  next_order (Update (File path) change) at o old named is earlier = earlier
  next_order (Update (Offset p) change) at o old named is earlier = earlier
  next_order (Update (Closed p) change) at o old named is earlier = earlier
  next_order (Update (Method class name) change) at o old named is earlier = earlier
  next_order (Update (Base class) change) at o old named is earlier = earlier

  -- ---- all of it

  pub note_step : (old new : Things) (access : Access) (store : RunStore) → NamesAccess view access → IsNormalAccess view access → HoldsStore view forms old store → new.kinds ≡ old.kinds
      → ((l : Location) → noted_at new.places.entries l ≡ noted_after forms.numbers.items access l (noted_at old.places.entries l))
      → ((o : ℕ) (f : Value) → often f (order_in new.orders.entries o) ≡ often_after forms.numbers.items access o f (often f (order_in old.orders.entries o)))
      → HoldsStore view forms new (after_one (access_seen view access) store)
  note_step old new access store named is before kinds noted counted = record {
    kinds = ap (λ k. k.items) kinds ∙ before.kinds;
    places = λ l also. subst (λ held. Agrees (held_seen view held) (what_stands (after_access (access_seen view access) store.at (location_seen forms.values l)))) (sym (noted l))
        (next_place access store.at l (noted_at old.places.entries l) named is also (before.places l also));
    known = λ l. subst (λ held. IsNamedLocation forms.values l ⊎ (held ≡ Nothing)) (sym (noted l)) (next_known access l (noted_at old.places.entries l) named (before.known l));
    orders = λ o. counts_same (λ f. often_after forms.numbers.items access o f (often f (order_in old.orders.entries o))) (λ f. often f (order_in new.orders.entries o))
        (standing (after_access (access_seen view access) store.at (order_at o))) (λ f. counted o f)
        (next_order access store.at o (λ f. often f (order_in old.orders.entries o)) named is (before.orders o));
  }

-- ---- one access after the other

after_behind : (accesses : List SeenAccess) (access : SeenAccess) (at : SeenLocation → Option SeenContent) → after_accesses (accesses ++ access ∷ []) at ≡ after_access access (after_accesses accesses at)
after_behind [] access at = refl
after_behind (first ∷ accesses) access at = after_behind accesses access (after_access first at)

pub after_next : (view : ValuesView) (accesses : List Access) (i : ℕ) (access : Access) (store : RunStore) → i < length accesses → access ≡ get_or accesses i access
    → after_one (access_seen view access) (after_all (map (access_seen view) (take i accesses)) store) ≡ after_all (map (access_seen view) (take (i + 1) accesses)) store
after_next view accesses i access store below is =
    ap (λ (at : SeenLocation → Option SeenContent). record store { at = at })
    (sym (ap (λ these. after_accesses (map (access_seen view) these) store.at) (take_more accesses i access below ∙ ap (λ x. take i accesses ++ x ∷ []) (sym is))
    ∙ ap (λ these. after_accesses these store.at) (map-append (access_seen view) (take i accesses) (access ∷ []))
    ∙ after_behind (map (access_seen view) (take i accesses)) (access_seen view access) store.at))

pub each_at : {A : Type 0} (P : A → Type 0) (items : List A) (i : ℕ) (item : A) → Each P items → i < length items → item ≡ get_or items i item → P item
each_at P items i item all below is = subst P (sym is) (at items i all below)
  where
    at : (items : List _) (i : ℕ) → Each P items → i < length items → P (get_or items i item)
    at [] i all below = absurd (omega (arith, below))
    at (first ∷ items) zero all below = all.0
    at (first ∷ items) (suc i) all below = at items i all.1 (omega (arith, below))

-- ---- an object more

pub made_step : (view : ValuesView) (forms : Forms) (old new : Things) (store : RunStore) (kind : SeenKind) (shape : Shape) → HoldsStore view forms old store → shape ≡ shape_seen kind
    → new.kinds.items ≡ old.kinds.items ++ shape ∷ [] → new.places ≡ old.places → new.orders ≡ old.orders → HoldsStore view forms new (record store { kinds = store.kinds ++ kind ∷ [] })
made_step view forms old new store kind shape before is kinds places orders = record {
  kinds = kinds ∙ ap (λ these. these ++ shape ∷ []) before.kinds ∙ ap (λ one. map shape_seen store.kinds ++ one ∷ []) is ∙ sym (map-append shape_seen store.kinds (kind ∷ []));
  places = λ l named. subst (λ map. Agrees (held_seen view (noted_at map.entries l)) (what_stands (store.at (location_seen forms.values l)))) (sym places) (before.places l named);
  known = λ l. subst (λ map. IsNamedLocation forms.values l ⊎ (noted_at map.entries l ≡ Nothing)) (sym places) (before.known l);
  orders = λ o. subst (λ map. AreCounts forms (λ f. often f (order_in map.entries o)) (order_of store o)) (sym orders) (before.orders o);
}

-- ---- before all moments

module _ (forms : Forms) (view : ValuesView) (files : List (List ℕ × List ℕ)) where
  unset_plain : (l : SeenLocation) → what_stands (unset l) ≡ holds_nothing
  unset_plain (var_at scope name) = refl
  unset_plain (len_at o) = refl
  unset_plain (item_at o i) = refl
  unset_plain (entry_at o key) = refl
  unset_plain (order_at o) = refl
  unset_plain (file_at path) = refl
  unset_plain (offset_at o) = refl
  unset_plain (closed_at o) = refl
  unset_plain (method_at class name) = refl
  unset_plain (base_at class) = refl

  files_plain : (files : List (List ℕ × List ℕ)) (l : SeenLocation) → what_stands (with_files files unset l) ≡ holds_nothing
  files_plain [] l = unset_plain l
  files_plain (file ∷ files) l = by (same_location (file_at file.0) l) (files_plain files l)
    where
      by : (b : Bool) → what_stands (with_files files unset l) ≡ holds_nothing → what_stands (if b then Some (file_is file.1) else with_files files unset l) ≡ holds_nothing
      by true more = refl
      by false more = more

  abbrev worded : ℕ → List (List ℕ) → SeenLocation → Option SeenContent
  worded i words = with_items 0 i words (with_files files unset)

  items_plain : (i : ℕ) (words : List (List ℕ)) (l : SeenLocation) → ((j : ℕ) → same_location (item_at 0 j) l ≡ false) → what_stands (worded i words l) ≡ holds_nothing
  items_plain i [] l apart = files_plain files l
  items_plain i (word ∷ words) l apart =
      ap (λ b. what_stands (if b then Some (item_is (text word)) else worded (i + 1) words l)) (apart i) ∙ items_plain (i + 1) words l apart

  words_stand : (i : ℕ) (words : List (List ℕ)) (j : ℕ) → i ≤ j → j < i + length words → IsTextItem (what_stands (worded i words (item_at 0 j)))
  words_stand i [] j from_here less = absurd (omega (arith, from_here, less))
  words_stand i (word ∷ words) j from_here less = by (same_location (item_at 0 i) (item_at 0 j)) refl (λ later. words_stand (i + 1) words j later (omega (arith, less)))
    where
      by : (b : Bool) → same_location (item_at 0 i) (item_at 0 j) ≡ b → (i + 1 ≤ j → IsTextItem (what_stands (worded (i + 1) words (item_at 0 j))))
          → IsTextItem (what_stands (if b then Some (item_is (text word)) else worded (i + 1) words (item_at 0 j)))
      by true is more = tt
      by false is more = more (omega (arith, from_here, apart))
        where
          apart : i ≢ j
          apart same = true≢false (sym (seen_own (item_at 0 j)) ∙ (ap (λ k. same_location (item_at 0 k) (item_at 0 j)) (sym same) ∙ is))

  words_end : (i : ℕ) (words : List (List ℕ)) (o j : ℕ) → (o ≡ 0 → i ≤ j → j < i + length words → ⊥) → what_stands (worded i words (item_at o j)) ≡ holds_nothing
  words_end i [] o j none = files_plain files (item_at o j)
  words_end i (word ∷ words) o j none = by (same_location (item_at 0 i) (item_at o j)) refl (words_end (i + 1) words o j (λ is from_here less. none is (omega (arith, from_here)) (omega (arith, less))))
    where
      number : SeenLocation → ℕ
      number (item_at p k) = p
      number other = 0

      place : SeenLocation → ℕ
      place (item_at p k) = k
      place other = 0

      by : (b : Bool) → same_location (item_at 0 i) (item_at o j) ≡ b → what_stands (worded (i + 1) words (item_at o j)) ≡ holds_nothing
          → what_stands (if b then Some (item_is (text word)) else worded (i + 1) words (item_at o j)) ≡ holds_nothing
      by true is more =
          let same : item_at 0 i ≡ item_at o j = seen_same (item_at 0 i) (item_at o j) is in
          let first : 0 ≡ o = ap number same in
          let second : i ≡ j = ap place same in
          absurd (none (sym first) (omega (arith, second)) (omega (arith, second)))
      by false is more = more

  files_order : (files : List (List ℕ × List ℕ)) (o : ℕ) → with_files files unset (order_at o) ≡ Some (order_is [])
  files_order [] o = refl
  files_order (file ∷ files) o = files_order files o

  items_order : (i : ℕ) (words : List (List ℕ)) (o : ℕ) → with_items 0 i words (with_files files unset) (order_at o) ≡ Some (order_is [])
  items_order i [] o = files_order files o
  items_order i (word ∷ words) o = items_order (i + 1) words o

  module _ (path : List ℕ) (arguments : List (List ℕ)) (n : ℕ) (many : n ≡ length arguments + 1) where
    abbrev first_places : List (Location × Held)
    first_places = (Len 0, Length n) ∷ []

    opening_item : (o i : ℕ) → Agrees (held_seen view (with_words n (Item o i) Nothing)) (what_stands (worded 0 (path ∷ arguments) (item_at o i)))
    opening_item o i = by ((o == 0) && nat_lt i n) refl
      where
        by : (b : Bool) → ((o == 0) && nat_lt i n) ≡ b → Agrees (held_seen view (if b then HeldItem NoneValue else Nothing)) (what_stands (worded 0 (path ∷ arguments) (item_at o i)))
        by true is =
            let both = and_parts (o == 0) (nat_lt i n) is in
            let first : 0 ≡ o = omega (arith, eqb-true o 0 both.0) in
            let less : i < 0 + length (path ∷ arguments) = omega (arith, ltb-true i n both.1, many) in
            inr (refl, subst (λ p. IsTextItem (what_stands (worded 0 (path ∷ arguments) (item_at p i)))) first (words_stand 0 (path ∷ arguments) i (omega arith) less))
        by false is = inl (sym (words_end 0 (path ∷ arguments) o i (λ first from_here less.
            true≢false (sym (and_from (o == 0) (nat_lt i n) (eq-eqb o 0 first) (lt-ltb i n (omega (arith, less, many)))) ∙ is))))

    opening_place : (l : Location) → Agrees (held_seen view (with_words n l (noted_at first_places l))) (what_stands ((opening path arguments files).at (location_seen forms.values l)))
    opening_place (Var scope name) = by (same_location (var_at 0 (codes "__name__")) (location_seen forms.values (Var scope name)))
      where
        by : (b : Bool) → Agrees holds_nothing (what_stands (if b then Some (var_is (Some (text (codes "__main__")))) else worded 0 (path ∷ arguments) (location_seen forms.values (Var scope name))))
        by true = inl refl
        by false = inl (sym (items_plain 0 (path ∷ arguments) (location_seen forms.values (Var scope name)) (λ j. refl)))
    opening_place (Len o) = by (o == 0) (0 == o) refl refl
      where
        by : (a b : Bool) → (o == 0) ≡ a → (0 == o) ≡ b → Agrees (held_seen view (unwrap_or (if a then Some (Length n) else None) Nothing))
            (what_stands (if b then Some (len_is (length arguments + 1)) else worded 0 (path ∷ arguments) (len_at o)))
        by true true here there = inl (ap holds_length many)
        by false false here there = inl (sym (items_plain 0 (path ∷ arguments) (len_at o) (λ j. refl)))
        by true false here there = absurd (true≢false (sym (eq-eqb 0 o (omega (arith, eqb-true o 0 here))) ∙ there))
        by false true here there = absurd (true≢false (sym (eq-eqb o 0 (omega (arith, eqb-true 0 o there))) ∙ here))
    opening_place (Item o i) = opening_item o i
    opening_place (Entry o key) = inl (sym (items_plain 0 (path ∷ arguments) (location_seen forms.values (Entry o key)) (λ j. refl)))
    opening_place (Order o) = inl (sym (items_plain 0 (path ∷ arguments) (order_at o) (λ j. refl)))
    opening_place (File name) = inl (sym (items_plain 0 (path ∷ arguments) (location_seen forms.values (File name)) (λ j. refl)))
    opening_place (Offset o) = inl (sym (items_plain 0 (path ∷ arguments) (offset_at o) (λ j. refl)))
    opening_place (Closed o) = inl (sym (items_plain 0 (path ∷ arguments) (closed_at o) (λ j. refl)))
    opening_place (Method class name) = inl (sym (items_plain 0 (path ∷ arguments) (location_seen forms.values (Method class name)) (λ j. refl)))
    opening_place (Base class) = inl (sym (items_plain 0 (path ∷ arguments) (base_at class) (λ j. refl)))

    opening_known : (l : Location) → IsNamedLocation forms.values l ⊎ (with_words n l (noted_at first_places l) ≡ Nothing)
    opening_known (Var scope name) = inr refl
    opening_known (Len o) = inl tt
    opening_known (Item o i) = inl tt
    opening_known (Entry o key) = inr refl
    opening_known (Order o) = inl tt
    opening_known (File name) = inr refl
    opening_known (Offset o) = inl tt
    opening_known (Closed o) = inl tt
    opening_known (Method class name) = inr refl
    opening_known (Base class) = inl tt

    pub opening_holds : (things : Things) → things.kinds.items ≡ ListShape ∷ [] → ((l : Location) → noted_at things.places.entries l ≡ with_words n l (noted_at first_places l)) → things.orders.entries ≡ []
        → HoldsStore view forms things (opening path arguments files)
    opening_holds things kinds noted orders = record {
      kinds = kinds;
      places = λ l named. subst (λ held. Agrees (held_seen view held) (what_stands ((opening path arguments files).at (location_seen forms.values l)))) (sym (noted l)) (opening_place l);
      known = λ l. subst (λ held. IsNamedLocation forms.values l ⊎ (held ≡ Nothing)) (sym (noted l)) (opening_known l);
      orders = λ o. subst (λ entries. AreCounts forms (λ f. often f (order_in entries o)) (order_of (opening path arguments files) o)) (sym orders)
          (subst (λ content. AreCounts forms (λ f. 0) (standing content)) (sym (items_order 0 (path ∷ arguments) o)) (record { counted = λ f named. refl; formed = λ key is. absurd is }));
    }

-- ---- one text more

pub no_words : (l : Location) (held : Held) → with_words 0 l held ≡ held
no_words (Item o i) held = by ((o == 0) && nat_lt i 0) refl
  where
    by : (b : Bool) → ((o == 0) && nat_lt i 0) ≡ b → (if b then HeldItem NoneValue else held) ≡ held
    by true is = absurd (omega (arith, ltb-true i 0 (and_parts (o == 0) (nat_lt i 0) is).1))
    by false is = refl
no_words (Var scope name) held = refl
no_words (Len o) held = refl
no_words (Entry o key) held = refl
no_words (Order o) held = refl
no_words (File path) held = refl
no_words (Offset o) held = refl
no_words (Closed o) held = refl
no_words (Method class name) held = refl
no_words (Base class) held = refl

next_item : (n o i : ℕ) (held : Held) → (if locations.eq (Item 0 n) (Item o i) then HeldItem NoneValue else with_words n (Item o i) held) ≡ with_words (n + 1) (Item o i) held
next_item n o i held = by (locations.eq (Item 0 n) (Item o i)) refl
  where
    number : Location → ℕ
    number (Item p k) = p
    number other = 0

    place : Location → ℕ
    place (Item p k) = k
    place other = 0

    by : (b : Bool) → locations.eq (Item 0 n) (Item o i) ≡ b → (if b then HeldItem NoneValue else with_words n (Item o i) held) ≡ with_words (n + 1) (Item o i) held
    by true is =
        let same : Item 0 n ≡ Item o i = number_same (Item 0 n) (Item o i) is in
        let first : 0 ≡ o = ap number same in
        let second : n ≡ i = ap place same in
        sym (ap (λ b. if b then HeldItem NoneValue else held) (and_from (o == 0) (nat_lt i (n + 1)) (eq-eqb o 0 (sym first)) (lt-ltb i (n + 1) (omega (arith, second)))))
    by false is = ap (λ b. if b then HeldItem NoneValue else held) (same_tests ((o == 0) && nat_lt i n) ((o == 0) && nat_lt i (n + 1)) forth back)
      where
        forth : ((o == 0) && nat_lt i n) ≡ true → ((o == 0) && nat_lt i (n + 1)) ≡ true
        forth both = let parts = and_parts (o == 0) (nat_lt i n) both in and_from (o == 0) (nat_lt i (n + 1)) parts.0 (lt-ltb i (n + 1) (omega (arith, ltb-true i n parts.1)))

        apart : o ≡ 0 → i ≢ n
        apart first second = true≢false (sym (number_own (Item 0 n)) ∙ (ap (λ p. locations.eq (Item 0 n) (Item p n)) (sym first) ∙ (ap (λ k. locations.eq (Item 0 n) (Item o k)) (sym second) ∙ is)))

        back : ((o == 0) && nat_lt i (n + 1)) ≡ true → ((o == 0) && nat_lt i n) ≡ true
        back both =
            let parts = and_parts (o == 0) (nat_lt i (n + 1)) both in
            let other : i ≢ n = apart (omega (arith, eqb-true o 0 parts.0)) in
            and_from (o == 0) (nat_lt i n) parts.0 (lt-ltb i n (omega (arith, ltb-true i (n + 1) parts.1, other)))

pub next_word : (n : ℕ) (l : Location) (now before : Held) → now ≡ with_words n l before → (if locations.eq (Item 0 n) l then HeldItem NoneValue else now) ≡ with_words (n + 1) l before
next_word n (Item o i) now before is = ap (λ held. if locations.eq (Item 0 n) (Item o i) then HeldItem NoneValue else held) is ∙ next_item n o i before
next_word n (Var scope name) now before is = is
next_word n (Len o) now before is = is
next_word n (Entry o key) now before is = is
next_word n (Order o) now before is = is
next_word n (File path) now before is = is
next_word n (Offset o) now before is = is
next_word n (Closed o) now before is = is
next_word n (Method class name) now before is = is
next_word n (Base class) now before is = is
