-- What is kept of a store once an access is passed.
use Rattle.std.proofs.Common.{◌≡◌, ℕ, suc, ◌<◌, ◌==◌, Bool, true, false, List, [], ◌∷◌, ◌++◌, map, length, slice_get, unwrap_or, eqb-true, Option, Some, None, refl, sym, ap, subst, ◌∙◌, arith, if◌then◌else◌}
use Rattle.std.proofs.lemmas.Option.{same_Some}
use Rattle.std.proofs.lemmas.List.{append_assoc}
use Rattle.py_value.specs.declared.access.Access.{Access}
use Rattle.py_value.specs.declared.access.Access.TheVariants.{Read, Set, Update}
use Rattle.py_value.specs.declared.access.Change.{Change}
use Rattle.py_value.specs.declared.access.Change.TheVariants.{Insert, Delete, Append}
use Rattle.py_value.specs.declared.access.Content.{Content}
use Rattle.py_value.specs.declared.access.Content.TheVariants.{Var as VarContent, Len as LenContent, Item as ItemContent, Entry as EntryContent, Order as OrderContent, File as FileContent, Offset as OffsetContent, Closed as ClosedContent, Method as MethodContent, Base as BaseContent}
use Rattle.py_value.specs.declared.access.Location.{Location}
use Rattle.py_value.specs.declared.access.Location.TheVariants.{Var, Len, Item, Entry, Order, File, Offset, Closed, Method, Base}
use Rattle.py_value.specs.declared.value.Value.{Value}
use Rattle.py_value.specs.contracts.access.LocationPartialEq.TheImpl.{ghosts as locations}
use Rattle.py_value.specs.Changes.{with_key, without_key, changed, after_access}
use Rattle.py_value.specs.Contents.{Contents, contents}
use Rattle.py_value.specs.Named.{IsNamedContent, IsNamedChange}
use Rattle.py_value.specs.Same.{same_location}
use Rattle.py_value.specs.Seen.{SeenLocation, SeenContent, SeenChange, var_at, entry_at, order_at, file_at, method_at, order_is, file_is, key_inserted, key_deleted, bytes_appended, location_seen, location_at, content_seen, change_seen, access_seen, kind_seen, IsNamedLocation}
use Rattle.py_value.specs.Values.{ValuesView, AreInterned, AreNamed}
use Rattle.py_value.proofs.Equality.{location_same as number_same, location_own as number_own}
use Rattle.py_value.proofs.SameTests.{location_same as seen_same, location_own as seen_own}
use Rattle.py_value.proofs.SeenLocations.{location_back}
use Rattle.py_model.specs.Store.{RunStore, empty, order_of}
use Rattle.row_words.specs.Fits.{Each}
use Rattle.row_checks.specs.NamedRows.{NamesAccess}
use Rattle.slice_things.specs.declared.forms.Forms.{Forms}
use Rattle.slice_things.specs.Forms.{AreForms}
use Rattle.slice_things.specs.Held.{placed}
use Rattle.slice_things.specs.Orders.{order_object, keys_in}
use Rattle.slice_things.specs.Things.{after_one, IsNormalLocation, IsNormalAccess}
use Rattle.held_rows.specs.declared.kept.Kept.{Kept}
use Rattle.held_rows.specs.declared.kept.Kept.TheVariants.{Nothing}
use Rattle.held_rows.specs.declared.pass.RowStore.{RowStore}
use Rattle.held_rows.specs.declared.steps.Step.{Step}
use Rattle.held_rows.specs.declared.steps.Step.TheVariants.{Put, Insert as InsertStep, Delete as DeleteStep}
use Rattle.held_rows.specs.Kept.{kept_in, kept_at, kept_after, kept_seen, what_stands, IsNamedKept}
use Rattle.held_rows.specs.Leaves.{HoldsRows}
use Rattle.held_rows.specs.Steps.{steps_in, at_object, steps_changed, steps_after, keys_after, step_done, IsNamedStep}

same_tests : (a b : Bool) → (a ≡ true → b ≡ true) → (b ≡ true → a ≡ true) → a ≡ b
same_tests true b there back = sym (there refl)
same_tests false true there back = back refl
same_tests false false there back = refl

-- ---- what contents and changes leave

content_stands : (view : ValuesView) (content : Content) → kept_seen view (kept_in content) ≡ what_stands (Some (content_seen view content))
content_stands view (VarContent v) = refl
content_stands view (LenContent n) = refl
content_stands view (ItemContent v) = refl
content_stands view (EntryContent None) = refl
content_stands view (EntryContent (Some entry)) = refl
content_stands view (OrderContent keys) = refl
content_stands view (FileContent bytes) = refl
content_stands view (OffsetContent n) = refl
content_stands view (ClosedContent b) = refl
content_stands view (MethodContent at) = refl
content_stands view (BaseContent v) = refl

content_named : (view : ValuesView) (content : Content) → IsNamedContent view content → IsNamedKept view (kept_in content)
content_named view (VarContent v) named = tt
content_named view (LenContent n) named = tt
content_named view (ItemContent v) named = named
content_named view (EntryContent None) named = tt
content_named view (EntryContent (Some entry)) named = named
content_named view (OrderContent keys) named = tt
content_named view (FileContent bytes) named = tt
content_named view (OffsetContent n) named = tt
content_named view (ClosedContent b) named = tt
content_named view (MethodContent at) named = tt
content_named view (BaseContent v) named = tt

change_stands : (change : SeenChange) (before : Option SeenContent) → what_stands (Some (changed change before)) ≡ None
change_stands (key_inserted key) (Some (order_is keys)) = refl
change_stands (key_inserted key) None = refl
change_stands (key_inserted key) (Some other) = refl
change_stands (key_deleted key) (Some (order_is keys)) = refl
change_stands (key_deleted key) None = refl
change_stands (key_deleted key) (Some other) = refl
change_stands (bytes_appended more) (Some (file_is bytes)) = refl
change_stands (bytes_appended more) None = refl
change_stands (bytes_appended more) (Some other) = refl

-- the keys that stand in a content
abbrev holding : Option SeenContent → RunStore
holding content = record empty { at = λ l. content }

abbrev standing : Option SeenContent → List Contents
standing content = order_of (holding content) 0

content_keys : (view : ValuesView) (content : Content) → standing (Some (content_seen view content)) ≡ map (contents view) (keys_in content)
content_keys view (VarContent v) = refl
content_keys view (LenContent n) = refl
content_keys view (ItemContent v) = refl
content_keys view (EntryContent entry) = refl
content_keys view (OrderContent keys) = refl
content_keys view (FileContent bytes) = refl
content_keys view (OffsetContent n) = refl
content_keys view (ClosedContent b) = refl
content_keys view (MethodContent at) = refl
content_keys view (BaseContent v) = refl

inserted_keys : (key : Contents) (before : Option SeenContent) → standing (Some (changed (key_inserted key) before)) ≡ with_key key (standing before)
inserted_keys key (Some (order_is keys)) = refl
inserted_keys key None = refl
inserted_keys key (Some other) = refl

deleted_keys : (key : Contents) (before : Option SeenContent) → standing (Some (changed (key_deleted key) before)) ≡ without_key key (standing before)
deleted_keys key (Some (order_is keys)) = refl
deleted_keys key None = refl
deleted_keys key (Some other) = refl

appended_keys : (more : List ℕ) (before : Option SeenContent) → standing (Some (changed (bytes_appended more) before)) ≡ []
appended_keys more (Some (file_is bytes)) = refl
appended_keys more None = refl
appended_keys more (Some other) = refl

-- ---- steps

step_more : (view : ValuesView) (steps : List Step) (step : Step) (keys : List Contents) → keys_after view (steps ++ step ∷ []) keys ≡ step_done view step (keys_after view steps keys)
step_more view [] step keys = refl
step_more view (first ∷ steps) step keys = step_more view steps step (step_done view first keys)

put_all : (view : ValuesView) (keys : List Value) (front : List Contents) → keys_after view (map Put keys) front ≡ front ++ map (contents view) keys
put_all view [] front = nil front
  where
    nil : (xs : List Contents) → xs ≡ xs ++ []
    nil [] = refl
    nil (x ∷ xs) = ap (λ rest. x ∷ rest) (nil xs)
put_all view (key ∷ keys) front = put_all view keys (front ++ contents view key ∷ []) ∙ append_assoc front (contents view key ∷ []) (map (contents view) keys)

each_more : {A : Type 0} (P : A → Type 0) (items : List A) (item : A) → Each P items → P item → Each P (items ++ item ∷ [])
each_more P [] item all one = (one, tt)
each_more P (first ∷ items) item all one = (all.0, each_more P items item all.1 one)

puts_named : (view : ValuesView) (keys : List Value) → AreNamed view keys → Each (IsNamedStep view) (map Put keys)
puts_named view [] named = tt
puts_named view (key ∷ keys) named = (named 0 key refl, puts_named view keys (λ i item at. named (suc i) item at))

-- ---- places

module _ (view : ValuesView) (forms : Forms) (interned : AreInterned view) (are : AreForms view forms) where
  same_bytes : (f : List ℕ → SeenLocation) (name : ℕ) → f (unwrap_or (slice_get forms.values.texts name) []) ≡ f (unwrap_or (slice_get view.texts name) [])
  same_bytes f name = ap (λ texts. f (unwrap_or (slice_get texts name) [])) are.texts

  same_few : (name : ℕ) → name < length view.texts → name < length forms.values.texts
  same_few name few = subst (λ n. name < n) (sym (ap length are.texts)) few

  placed_seen : (m : Location) → IsNamedLocation view m → IsNormalLocation view m → location_seen forms.values (placed forms.numbers.items m) ≡ location_seen view m
  placed_seen (Var scope name) named is = same_bytes (var_at scope) name
  placed_seen (Entry o key) named is = ap (entry_at o) ((are.each key.value named).form_is ∙ is)
  placed_seen (File path) named is = same_bytes file_at path
  placed_seen (Method class name) named is = same_bytes (method_at class) name
  placed_seen (Len o) named is = refl
  placed_seen (Item o i) named is = refl
  placed_seen (Order o) named is = refl
  placed_seen (Offset o) named is = refl
  placed_seen (Closed o) named is = refl
  placed_seen (Base class) named is = refl

  placed_named : (m : Location) → IsNamedLocation view m → IsNamedLocation forms.values (placed forms.numbers.items m)
  placed_named (Var scope name) named = same_few name named
  placed_named (Entry o key) named = (are.each key.value named).named
  placed_named (File path) named = same_few path named
  placed_named (Method class name) named = same_few name named
  placed_named (Len o) named = named
  placed_named (Item o i) named = named
  placed_named (Order o) named = named
  placed_named (Offset o) named = named
  placed_named (Closed o) named = named
  placed_named (Base class) named = named

  form_places : (m l : Location) → IsNamedLocation forms.values m → IsNamedLocation forms.values l
      → locations.eq m l ≡ same_location (location_seen forms.values m) (location_seen forms.values l)
  form_places m l named also = same_tests (locations.eq m l) (same_location (location_seen forms.values m) (location_seen forms.values l))
      (λ is. ap (λ k. same_location (location_seen forms.values m) (location_seen forms.values k)) (sym (number_same m l is)) ∙ seen_own (location_seen forms.values m))
      (λ is. ap (locations.eq m) (sym (same_Some m l
      (sym (location_back forms.values are.interned m named) ∙ ap (location_at forms.values) (seen_same (location_seen forms.values m) (location_seen forms.values l) is) ∙ location_back forms.values are.interned l also))) ∙ number_own m)

  place_test : (m l : Location) → IsNamedLocation view m → IsNormalLocation view m → IsNamedLocation forms.values l
      → locations.eq (placed forms.numbers.items m) l ≡ same_location (location_seen view m) (location_seen forms.values l)
  place_test m l named is also = form_places (placed forms.numbers.items m) l (placed_named m named) also
      ∙ ap (λ seen. same_location seen (location_seen forms.values l)) (placed_seen m named is)

  agrees_if : (a b : Bool) (kept old : Kept) (content : SeenContent) (before : Option SeenContent) → a ≡ b → kept_seen view kept ≡ what_stands (Some content)
      → kept_seen view old ≡ what_stands before → kept_seen view (if a then kept else old) ≡ what_stands (if b then Some content else before)
  agrees_if true true kept old content before same now earlier = now
  agrees_if false false kept old content before same now earlier = earlier
  agrees_if true false kept old content before same now earlier = absurd cc
  agrees_if false true kept old content before same now earlier = absurd cc

  next_place : (access : Access) (at : SeenLocation → Option SeenContent) (l : Location) (old : Kept) → NamesAccess view access → IsNormalAccess view access → IsNamedLocation forms.values l
      → kept_seen view old ≡ what_stands (at (location_seen forms.values l))
      → kept_seen view (kept_after forms.numbers.items access l old) ≡ what_stands (after_access (access_seen view access) at (location_seen forms.values l))
  next_place (Read m) at l old named is also before = before
  next_place (Set m content) at l old named is also before =
      agrees_if (locations.eq (placed forms.numbers.items m) l) (same_location (location_seen view m) (location_seen forms.values l)) (kept_in content) old (content_seen view content) (at (location_seen forms.values l))
      (place_test m l named.0 is.0 also) (content_stands view content) before
  next_place (Update m change) at l old named is also before =
      agrees_if (locations.eq (placed forms.numbers.items m) l) (same_location (location_seen view m) (location_seen forms.values l)) Nothing old
      (changed (change_seen view change) (at (location_seen view m))) (at (location_seen forms.values l))
      (place_test m l named.0 is.0 also) (sym (change_stands (change_seen view change) (at (location_seen view m)))) before

  named_if : (b : Bool) (kept old : Kept) → IsNamedKept view kept → IsNamedKept view old → IsNamedKept view (if b then kept else old)
  named_if true kept old now before = now
  named_if false kept old now before = before

  next_named : (access : Access) (l : Location) (old : Kept) → NamesAccess view access → IsNamedKept view old → IsNamedKept view (kept_after forms.numbers.items access l old)
  next_named (Read m) l old named before = before
  next_named (Set m content) l old named before = named_if (locations.eq (placed forms.numbers.items m) l) (kept_in content) old (content_named view content named.1) before
  next_named (Update m change) l old named before = named_if (locations.eq (placed forms.numbers.items m) l) Nothing old tt before

  -- ---- orders

  abbrev is_object : Option ℕ → ℕ → Bool
  is_object None o = false
  is_object (Some p) o = p == o

  object_test : (m : Location) (o : ℕ) → same_location (location_seen view m) (order_at o) ≡ is_object (order_object m) o
  object_test (Var scope name) o = refl
  object_test (Len p) o = refl
  object_test (Item p i) o = refl
  object_test (Entry p key) o = refl
  object_test (Order p) o = refl
  object_test (File path) o = refl
  object_test (Offset p) o = refl
  object_test (Closed p) o = refl
  object_test (Method class name) o = refl
  object_test (Base class) o = refl

  -- what the steps of an order come to
  abbrev Comes : List Step → Option SeenContent → Type 0
  Comes steps content = keys_after view steps [] ≡ standing content

  comes_put : (found : Option ℕ) (o : ℕ) (now old : List Step) (content : SeenContent) (before : Option SeenContent) → Comes now (Some content) → Comes old before
      → Comes (at_object found o now old) (if is_object found o then Some content else before)
  comes_put None o now old content before here earlier = earlier
  comes_put (Some p) o now old content before here earlier = by (p == o)
    where
      by : (b : Bool) → Comes (if b then now else old) (if b then Some content else before)
      by true = here
      by false = earlier

  change_comes : (change : Change) (old : List Step) (before : Option SeenContent) → Comes old before → Comes (steps_changed change old) (Some (changed (change_seen view change) before))
  change_comes (Insert key) old before earlier = step_more view old (InsertStep key) [] ∙ ap (with_key (contents view key)) earlier ∙ sym (inserted_keys (contents view key) before)
  change_comes (Delete key) old before earlier = step_more view old (DeleteStep key) [] ∙ ap (without_key (contents view key)) earlier ∙ sym (deleted_keys (contents view key) before)
  change_comes (Append bytes) old before earlier = sym (appended_keys _ before)

  order_changed : (p o : ℕ) (at : SeenLocation → Option SeenContent) (old : List Step) (change : Change) → Comes old (at (order_at o))
      → Comes (if p == o then steps_changed change old else old) (if p == o then Some (changed (change_seen view change) (at (order_at p))) else at (order_at o))
  order_changed p o at old change earlier = by (p == o) refl
    where
      by : (b : Bool) → (p == o) ≡ b → Comes (if b then steps_changed change old else old) (if b then Some (changed (change_seen view change) (at (order_at p))) else at (order_at o))
      by true same =
          let is : o ≡ p = omega (arith, eqb-true p o same) in
          subst (λ q. Comes (steps_changed change old) (Some (changed (change_seen view change) (at (order_at q))))) is (change_comes change old (at (order_at o)) earlier)
      by false same = earlier

  next_order : (access : Access) (at : SeenLocation → Option SeenContent) (o : ℕ) (old : List Step) → Comes old (at (order_at o)) → Comes (steps_after access o old) (after_access (access_seen view access) at (order_at o))
  next_order (Read m) at o old earlier = earlier
  next_order (Set m content) at o old earlier =
      subst (λ b. Comes (at_object (order_object m) o (map Put (keys_in content)) old) (if b then Some (content_seen view content) else at (order_at o))) (sym (object_test m o))
      (comes_put (order_object m) o (map Put (keys_in content)) old (content_seen view content) (at (order_at o)) (put_all view (keys_in content) [] ∙ sym (content_keys view content)) earlier)
  next_order (Update (Order p) change) at o old earlier = order_changed p o at old change earlier
  next_order (Update (Var scope name) change) at o old earlier = earlier
  next_order (Update (Len p) change) at o old earlier = earlier
  next_order (Update (Item p i) change) at o old earlier = earlier
  next_order (Update (Entry p key) change) at o old earlier = earlier
  next_order (Update (File path) change) at o old earlier = earlier
  next_order (Update (Offset p) change) at o old earlier = earlier
  next_order (Update (Closed p) change) at o old earlier = earlier
  next_order (Update (Method class name) change) at o old earlier = earlier
  next_order (Update (Base class) change) at o old earlier = earlier

  abbrev AreNamedSteps : List Step → Type 0
  AreNamedSteps steps = Each (IsNamedStep view) steps

  at_object_named : (found : Option ℕ) (o : ℕ) (now old : List Step) → AreNamedSteps now → AreNamedSteps old → AreNamedSteps (at_object found o now old)
  at_object_named None o now old here earlier = earlier
  at_object_named (Some p) o now old here earlier = by (p == o)
    where
      by : (b : Bool) → AreNamedSteps (if b then now else old)
      by true = here
      by false = earlier

  keys_named : (content : Content) → IsNamedContent view content → AreNamedSteps (map Put (keys_in content))
  keys_named (OrderContent keys) named = puts_named view keys named
  keys_named (VarContent v) named = tt
  keys_named (LenContent n) named = tt
  keys_named (ItemContent v) named = tt
  keys_named (EntryContent entry) named = tt
  keys_named (FileContent bytes) named = tt
  keys_named (OffsetContent n) named = tt
  keys_named (ClosedContent b) named = tt
  keys_named (MethodContent at) named = tt
  keys_named (BaseContent v) named = tt

  change_named : (change : Change) (old : List Step) → IsNamedChange view change → AreNamedSteps old → AreNamedSteps (steps_changed change old)
  change_named (Insert key) old named before = each_more (IsNamedStep view) old (InsertStep key) before named
  change_named (Delete key) old named before = each_more (IsNamedStep view) old (DeleteStep key) before named
  change_named (Append bytes) old named before = tt

  next_steps : (access : Access) (o : ℕ) (old : List Step) → NamesAccess view access → AreNamedSteps old → AreNamedSteps (steps_after access o old)
  next_steps (Read m) o old named before = before
  next_steps (Set m content) o old named before = at_object_named (order_object m) o (map Put (keys_in content)) old (keys_named content named.1) before
  next_steps (Update m change) o old named before = at_object_named (order_object m) o (steps_changed change old) old (change_named change old named.1 before) before

  -- ---- all of it

  pub note_step : (old new : RowStore) (access : Access) (store : RunStore) → NamesAccess view access → IsNormalAccess view access → HoldsRows view forms old store → new.kinds ≡ old.kinds → new.words ≡ old.words
      → ((l : Location) → kept_at old.words.items new.places.entries l ≡ kept_after forms.numbers.items access l (kept_at old.words.items old.places.entries l))
      → ((o : ℕ) → steps_in new.orders.entries o ≡ steps_after access o (steps_in old.orders.entries o))
      → HoldsRows view forms new (after_one (access_seen view access) store)
  note_step old new access store named is before kinds words kept steps = record {
    kinds = ap (λ k. map (kind_seen view) k.items) kinds ∙ before.kinds;
    kinds_named = λ o kind at. before.kinds_named o kind (sym (ap (λ k. slice_get k.items o) kinds) ∙ at);
    places = λ l also. subst (λ one. kept_seen view one ≡ what_stands (after_access (access_seen view access) store.at (location_seen forms.values l))) (sym (now l))
        (next_place access store.at l (kept_at old.words.items old.places.entries l) named is also (before.places l also));
    places_named = λ l. subst (IsNamedKept view) (sym (now l)) (next_named access l (kept_at old.words.items old.places.entries l) named (before.places_named l));
    orders = λ o. subst (λ these. keys_after view these [] ≡ standing (after_access (access_seen view access) store.at (order_at o))) (sym (steps o))
        (next_order access store.at o (steps_in old.orders.entries o) (before.orders o));
    orders_named = λ o. subst AreNamedSteps (sym (steps o)) (next_steps access o (steps_in old.orders.entries o) named (before.orders_named o));
  }
    where
      now : (l : Location) → kept_at new.words.items new.places.entries l ≡ kept_after forms.numbers.items access l (kept_at old.words.items old.places.entries l)
      now l = ap (λ w. kept_at w.items new.places.entries l) words ∙ kept l
