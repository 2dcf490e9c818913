-- What the accesses of a plan do to a store is what they do to its map over contents.
use Rattle.std.proofs.Common.{◌≡◌, ℕ, suc, ◌<◌, ◌||◌, ◌↔◌, Bool, true, false, List, [], ◌∷◌, ◌++◌, map, length, Option, Some, unwrap_or, refl, sym, ap, subst, ◌∙◌, if◌then◌else◌, cond}
use Rattle.std.specs.Prelude.{⊤, None}
use Rattle.std.specs.List.{list_any}
use Rattle.std.specs.Option.{option_map, option_and_then}
use Rattle.std.proofs.lemmas.Bool.{false≢true}
use Rattle.std.proofs.lemmas.List.{append_assoc, append-nil}
use Rattle.std.proofs.lemmas.Option.{slice_get-get_or}
use Rattle.py_value.specs.Changes.{has_key, with_key as key_put, without_key as key_taken, changed as changed_seen, after_access, after_accesses}
use Rattle.py_value.specs.Contents.{Contents, contents}
use Rattle.py_value.specs.KeyOf.{normal}
use Rattle.py_value.specs.Named.{IsNamedChange, IsNamedAccess, AreNamedAccesses, fits, fits_change}
use Rattle.py_value.specs.Same.{same_value, same_location, put}
use Rattle.py_value.specs.Seen.{SeenLocation, SeenContent, order_is, file_is, bytes_appended, sets, updates, IsNamedLocation, location_seen, location_at, content_seen, change_seen, access_seen, bytes_of}
use Rattle.py_value.specs.Values.{ValuesView, IsNamed, AreNamed, Keeps as KeepsNumbers}
use Rattle.py_value.specs.declared.access.Access.{Access}
use Rattle.py_value.specs.declared.access.Access.TheVariants.{Read, Set, Update}
use Rattle.py_value.specs.declared.access.Change.{Change}
use Rattle.py_value.specs.declared.access.Change.TheVariants.{Insert, Delete, Append}
use Rattle.py_value.specs.declared.access.Content.{Content}
use Rattle.py_value.specs.declared.access.Content.TheVariants.{Var as VarContent, Len as LenContent, Item as ItemContent, Entry as EntryContent, Order as OrderContent, File as FileContent, Offset as OffsetContent, Closed as ClosedContent, Method as MethodContent, Base as BaseContent}
use Rattle.py_value.specs.declared.access.Location.{Location}
use Rattle.py_value.specs.declared.access.Location.TheVariants.{Var, Len, Item, Entry, Order, File, Offset, Closed, Method, Base}
use Rattle.py_value.specs.declared.value.Value.{Value}
use Rattle.py_value.specs.contracts.access.LocationPartialEq.TheImpl.{ghosts as locations}
use Rattle.py_value.specs.contracts.value.ValuePartialEq.TheImpl.{ghosts as values_eq}
use Rattle.object_store.specs.Named.{IsNamedStore}
use Rattle.object_store.specs.Object.{with_keys, with_key, without_key}
use Rattle.object_store.specs.Performing.{Does, DoesAll, AreApart, IsOnly, Suits, SuitInTurn}
use Rattle.object_store.specs.Seen.{held_seen, seen_at}
use Rattle.object_store.proofs.Naming.{named_does}
use Rattle.object_store.specs.Store.{StoreView, Held, keys, bytes, held_at, file_at as bytes_at, keys_at, written, changed, Writes}

-- a store in which all stands that stood before is the same map
pub same_over : (table : ValuesView) (old new : StoreView) → ((l : Location) → held_at new l ≡ held_at old l) → seen_at table new ≡ seen_at table old
same_over table old new held = λ i. λ place. at place (location_at table place) i
  where
    at : (place : SeenLocation) (found : Option Location) → option_and_then (λ (m : Location). option_map (held_seen table) (held_at new m)) found ≡ option_and_then (λ (m : Location). option_map (held_seen table) (held_at old m)) found
    at place None = refl
    at place (Some m) = ap (option_map (held_seen table)) (held m)

-- what the laws of values say
pub record ValueLaws (table : ValuesView) : Type 0 where
  pub values_same : (v w : Value) → (values_eq.eq v w ≡ true) ↔ (v ≡ w)
  pub locations_same : (l m : Location) → (locations.eq l m ≡ true) ↔ (l ≡ m)
  pub contents_tested : (v w : Contents) → (same_value v w ≡ true) ↔ (v ≡ w)
  pub places_tested : (l m : SeenLocation) → (same_location l m ≡ true) ↔ (l ≡ m)
  pub back : (l : Location) → IsNamedLocation table l → location_at table (location_seen table l) ≡ Some l
  pub seen : (place : SeenLocation) (l : Location) → location_at table place ≡ Some l → IsNamedLocation table l × (location_seen table l ≡ place)
  pub tell : (v w : Value) → IsNamed table v → IsNamed table w → contents table v ≡ contents table w → v ≡ w

named_first : (table : ValuesView) (v : Value) (vs : List Value) → AreNamed table (v ∷ vs) → IsNamed table v
named_first table v vs named = named 0 v refl

named_rest : (table : ValuesView) (v : Value) (vs : List Value) → AreNamed table (v ∷ vs) → AreNamed table vs
named_rest table v vs named i item at = named (suc i) item at

-- no key of the list is in front
abbrev AreAbsent : List Value → List Value → Type 0
AreAbsent front [] = ⊤
AreAbsent front (key ∷ ks) = (list_any (values_eq.eq key) front ≡ false) × AreAbsent front ks

any_behind : (test : Value → Bool) (front : List Value) (key : Value) → list_any test front ≡ false → test key ≡ false → list_any test (front ++ key ∷ []) ≡ false
any_behind test [] key none fails = ap (λ b. b || false) fails
any_behind test (first ∷ front) key none fails = by (test first) none (λ more. any_behind test front key more fails)
  where
    by : (b : Bool) → (b || list_any test front) ≡ false → (list_any test front ≡ false → list_any test (front ++ key ∷ []) ≡ false) → (b || list_any test (front ++ key ∷ [])) ≡ false
    by true is more = is
    by false is more = more is

absent_all : (ks : List Value) → AreAbsent [] ks
absent_all [] = tt
absent_all (key ∷ ks) = (refl, absent_all ks)

module _ (table : ValuesView) (laws : ValueLaws table) where
  -- the test of a key in a list, by numbers and by contents
  key_found : (key : Value) (ks : List Value) → IsNamed table key → AreNamed table ks → IsOnly (contents table key) (map (contents table) ks)
      → list_any (values_eq.eq key) ks ≡ has_key (contents table key) (map (contents table) ks)
  key_found key [] named all only = refl
  key_found key (first ∷ ks) named all only =
      by (values_eq.eq key first) (same_value (normal (contents table key)) (normal (contents table first))) refl refl (key_found key ks named (named_rest table first ks all) only.1)
    where
      by : (a b : Bool) → values_eq.eq key first ≡ a → same_value (normal (contents table key)) (normal (contents table first)) ≡ b
          → list_any (values_eq.eq key) ks ≡ has_key (contents table key) (map (contents table) ks)
          → (a || list_any (values_eq.eq key) ks) ≡ (if b then true else has_key (contents table key) (map (contents table) ks))
      by true true is tests more = refl
      by false false is tests more = more
      by true false is tests more =
          absurd (false≢true (sym tests ∙ (laws.contents_tested (normal (contents table key)) (normal (contents table first))).1 (ap (λ (v : Value). normal (contents table v)) ((laws.values_same key first).0 is))))
      by false true is tests more =
          absurd (false≢true (sym is ∙ (laws.values_same key first).1 (laws.tell key first named (named_first table first ks all) (sym (only.0 tests)))))

  map_behind : (ks : List Value) (key : Value) → map (contents table) (ks ++ key ∷ []) ≡ map (contents table) ks ++ contents table key ∷ []
  map_behind [] key = refl
  map_behind (first ∷ ks) key = ap (λ cs. contents table first ∷ cs) (map_behind ks key)

  key_put_seen : (key : Value) (ks : List Value) → IsNamed table key → AreNamed table ks → IsOnly (contents table key) (map (contents table) ks)
      → map (contents table) (with_key ks key) ≡ key_put (contents table key) (map (contents table) ks)
  key_put_seen key ks named all only = by (list_any (values_eq.eq key) ks) (key_found key ks named all only)
    where
      by : (b : Bool) → b ≡ has_key (contents table key) (map (contents table) ks)
          → map (contents table) (if b then ks else ks ++ key ∷ []) ≡ (if has_key (contents table key) (map (contents table) ks) then map (contents table) ks else map (contents table) ks ++ contents table key ∷ [])
      by true is = ap (λ b. if b then map (contents table) ks else map (contents table) ks ++ contents table key ∷ []) is
      by false is = map_behind ks key ∙ ap (λ b. if b then map (contents table) ks else map (contents table) ks ++ contents table key ∷ []) is

  key_taken_seen : (key : Value) (ks : List Value) → IsNamed table key → AreNamed table ks → IsOnly (contents table key) (map (contents table) ks)
      → map (contents table) (without_key ks key) ≡ key_taken (contents table key) (map (contents table) ks)
  key_taken_seen key [] named all only = refl
  key_taken_seen key (first ∷ ks) named all only =
      by (values_eq.eq key first) (same_value (normal (contents table key)) (normal (contents table first))) refl refl (key_taken_seen key ks named (named_rest table first ks all) only.1)
    where
      by : (a b : Bool) → values_eq.eq key first ≡ a → same_value (normal (contents table key)) (normal (contents table first)) ≡ b
          → map (contents table) (without_key ks key) ≡ key_taken (contents table key) (map (contents table) ks)
          → map (contents table) (cond a ks (first ∷ without_key ks key)) ≡ (if b then map (contents table) ks else contents table first ∷ key_taken (contents table key) (map (contents table) ks))
      by true true is tests more = refl
      by false false is tests more = ap (λ cs. contents table first ∷ cs) more
      by true false is tests more =
          absurd (false≢true (sym tests ∙ (laws.contents_tested (normal (contents table key)) (normal (contents table first))).1 (ap (λ (v : Value). normal (contents table v)) ((laws.values_same key first).0 is))))
      by false true is tests more =
          absurd (false≢true (sym is ∙ (laws.values_same key first).1 (laws.tell key first named (named_first table first ks all) (sym (only.0 tests)))))

  absent_more : (front : List Value) (key : Value) (ks : List Value) → AreAbsent front ks → has_key (contents table key) (map (contents table) ks) ≡ false → AreAbsent (front ++ key ∷ []) ks
  absent_more front key [] absent apart = tt
  absent_more front key (first ∷ ks) absent apart = by (same_value (normal (contents table key)) (normal (contents table first))) refl apart (λ later. absent_more front key ks absent.1 later)
    where
      other : (b : Bool) → values_eq.eq first key ≡ b → same_value (normal (contents table key)) (normal (contents table first)) ≡ false → b ≡ false
      other true is tests = absurd (false≢true (sym tests ∙ (laws.contents_tested (normal (contents table key)) (normal (contents table first))).1 (ap (λ (v : Value). normal (contents table v)) (sym ((laws.values_same first key).0 is)))))
      other false is tests = refl

      by : (b : Bool) → same_value (normal (contents table key)) (normal (contents table first)) ≡ b → (if b then true else has_key (contents table key) (map (contents table) ks)) ≡ false
          → (has_key (contents table key) (map (contents table) ks) ≡ false → AreAbsent (front ++ key ∷ []) ks) → AreAbsent (front ++ key ∷ []) (first ∷ ks)
      by true tests is more = absurd (false≢true (sym is))
      by false tests is more = (any_behind (values_eq.eq first) front key absent.0 (other (values_eq.eq first key) refl tests), more is)

  -- keys that are apart stay as they are
  keys_stand : (front ks : List Value) → AreAbsent front ks → AreApart (map (contents table) ks) → with_keys front ks ≡ front ++ ks
  keys_stand front [] absent apart = sym (append-nil front)
  keys_stand front (key ∷ ks) absent apart =
      ap (λ b. with_keys (if b then front else front ++ key ∷ []) ks) absent.0
      ∙ keys_stand (front ++ key ∷ []) ks (absent_more front key ks absent.1 apart.0) apart.1
      ∙ append_assoc front (key ∷ []) ks

  written_seen : (map_before : SeenLocation → Option SeenContent) (l : Location) (content : Content) → fits l content ≡ true → Suits map_before (sets (location_seen table l) (content_seen table content))
      → held_seen table (written content) ≡ content_seen table content
  written_seen before (Order o) (OrderContent ks) own suits = ap (λ (all : List Value). order_is (map (contents table) all)) (keys_stand [] ks (absent_all ks) suits)
  written_seen before (File path) (FileContent text) own suits = ap file_is (sym suits)
  written_seen before (Var scope name) (VarContent value) own suits = refl
  written_seen before (Len o) (LenContent len) own suits = refl
  written_seen before (Item o i) (ItemContent item) own suits = refl
  written_seen before (Entry o key) (EntryContent entry) own suits = refl
  written_seen before (Offset o) (OffsetContent offset) own suits = refl
  written_seen before (Closed o) (ClosedContent is_closed) own suits = refl
  written_seen before (Method class name) (MethodContent place) own suits = refl
  written_seen before (Base class) (BaseContent base) own suits = refl
  written_seen before l content own suits = absurd (false≢true own)

  -- at what a location is over contents stands what stands at the location
  there : (store : StoreView) (l : Location) → IsNamedLocation table l → seen_at table store (location_seen table l) ≡ option_map (held_seen table) (held_at store l)
  there store l named = ap (option_and_then (λ (m : Location). option_map (held_seen table) (held_at store m))) (laws.back l named)

  appended : (found : Option (List ℕ)) (more : List ℕ) → file_is (unwrap_or found [] ++ more) ≡ changed_seen (bytes_appended more) (option_map (held_seen table) (option_map bytes found))
  appended None more = refl
  appended (Some bs) more = refl

  module _ (values : ValuesView) (texts : KeepsNumbers values.texts table.texts) where
    bytes_same : (text : ℕ) → text < length values.texts → bytes_of values text ≡ bytes_of table text
    bytes_same text within =
        let at = slice_get-get_or values.texts text [] within in
        ap (λ found. unwrap_or found []) (at ∙ sym (texts text _ at))

    written_change : (store : StoreView) (l : Location) (change : Change) → IsNamedStore table store → fits_change l change ≡ true → IsNamedLocation table l → IsNamedChange values change → IsNamedChange table change
        → Suits (seen_at table store) (updates (location_seen table l) (change_seen table change))
        → held_seen table (changed values store l change) ≡ changed_seen (change_seen table change) (seen_at table store (location_seen table l))
    written_change store (Order o) (Insert key) named own at before after suits = ap order_is (key_put_seen key (keys_at store o) after (named.held (Order o) (keys (keys_at store o)) refl).1 suits)
    written_change store (Order o) (Delete key) named own at before after suits = ap order_is (key_taken_seen key (keys_at store o) after (named.held (Order o) (keys (keys_at store o)) refl).1 suits)
    written_change store (File path) (Append text) named own at before after suits =
        ap (λ more. file_is (unwrap_or (bytes_at store path) [] ++ more)) (bytes_same text before)
        ∙ appended (bytes_at store path) (bytes_of table text)
        ∙ ap (changed_seen (bytes_appended (bytes_of table text))) (sym (there store (File path) at))
    written_change store l change named own at before after suits = absurd (false≢true own)

  module _ (old new : StoreView) (l : Location) (w : Held) (writes : Writes old new l w) (named : IsNamedLocation table l) where
    -- a place of no location, or of another one, is as before
    elsewhere : (place : SeenLocation) → same_location (location_seen table l) place ≡ false → seen_at table new place ≡ seen_at table old place
    elsewhere place apart = by (location_at table place) refl
      where
        other : (m : Location) → location_at table place ≡ Some m → (b : Bool) → locations.eq l m ≡ b → (if b then Some w else held_at old m) ≡ held_at old m
        other m at true is =
            absurd (false≢true (sym apart ∙ (laws.places_tested (location_seen table l) place).1 (ap (location_seen table) ((laws.locations_same l m).0 is) ∙ (laws.seen place m at).1)))
        other m at false is = refl

        by : (found : Option Location) → location_at table place ≡ found
            → option_and_then (λ (m : Location). option_map (held_seen table) (held_at new m)) found ≡ option_and_then (λ (m : Location). option_map (held_seen table) (held_at old m)) found
        by None at = refl
        by (Some m) at = ap (option_map (held_seen table)) (writes.held m ∙ other m at (locations.eq l m) refl)

    pub put_at : (c : SeenContent) → held_seen table w ≡ c → (place : SeenLocation) → seen_at table new place ≡ put (location_seen table l) c (seen_at table old) place
    put_at c is place = by (same_location (location_seen table l) place) refl
      where
        by : (b : Bool) → same_location (location_seen table l) place ≡ b → seen_at table new place ≡ (if b then Some c else seen_at table old place)
        by true same =
            ap (seen_at table new) (sym ((laws.places_tested (location_seen table l) place).0 same))
            ∙ there new l named
            ∙ ap (option_map (held_seen table)) (writes.held l ∙ ap (λ b. if b then Some w else held_at old l) ((laws.locations_same l l).1 refl))
            ∙ ap Some is
        by false apart = elsewhere place apart

  module _ (values : ValuesView) (texts : KeepsNumbers values.texts table.texts) where
    -- one access
    does_over : (access : Access) (old new : StoreView) → IsNamedAccess values access → IsNamedAccess table access → IsNamedStore table old → Does values access old new
        → Suits (seen_at table old) (access_seen table access) → (place : SeenLocation) → seen_at table new place ≡ after_access (access_seen table access) (seen_at table old) place
    does_over (Read l) old new before after named does suits place = ap (λ (s : StoreView). seen_at table s place) does
    does_over (Set l content) old new before after named does suits place =
        put_at old new l (written content) does after.1.0 (content_seen table content) (written_seen (seen_at table old) l content after.0 suits) place
    does_over (Update l change) old new before after named does suits place =
        put_at old new l (changed values old l change) does after.1.0 (changed_seen (change_seen table change) (seen_at table old (location_seen table l)))
        (written_change values texts old l change named after.0 after.1.0 before.1.1 after.1.1 suits) place

    -- a whole plan
    pub does_all_over : (plan : List Access) (old new : StoreView) → AreNamedAccesses values plan → AreNamedAccesses table plan → IsNamedStore table old → DoesAll values plan old new
        → SuitInTurn (seen_at table old) (map (access_seen table) plan) → seen_at table new ≡ after_accesses (map (access_seen table) plan) (seen_at table old)
    does_all_over [] old new before after named does suits = same_over table old new does.held
    does_all_over (access ∷ plan) old new before after named does suits =
        let step : seen_at table does.0 ≡ after_access (access_seen table access) (seen_at table old) = λ i. λ place. does_over access old does.0 before.0 after.0 named does.1.0 suits.0 place i in
        does_all_over plan does.0 new before.1 after.1 (named_does table laws.locations_same values access old does.0 after.0 named does.1.0) does.1.1 (subst (λ before_map. SuitInTurn before_map (map (access_seen table) plan)) (sym step) suits.1)
        ∙ ap (after_accesses (map (access_seen table) plan)) step
