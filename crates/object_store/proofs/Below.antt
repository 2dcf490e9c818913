-- Objects stay below the number of the next one.
use Rattle.std.proofs.Common.{◌≡◌, ℕ, ◌<◌, ◌≤◌, ◌↔◌, ◌==◌, ◌&&◌, Bool, true, false, List, [], ◌∷◌, ◌++◌, length, Option, Some, refl, sym, ap, subst, ◌∙◌, arith, eqb-true, if◌then◌else◌}
use Rattle.std.proofs.lemmas.Option.{same_Some}
use Rattle.py_value.specs.Changes.{has_key, with_key, without_key, changed, after_access, after_accesses}
use Rattle.py_value.specs.Contents.{Contents, Parts, object, tuple, no_parts, part}
use Rattle.py_value.specs.KeyOf.{normal}
use Rattle.py_value.specs.Same.{same_value, same_location, put}
use Rattle.py_value.specs.Seen.{SeenLocation, SeenContent, SeenChange, SeenAccess, len_at, item_at, entry_at, offset_at, closed_at, var_is, item_is, entry_is, order_is, file_is, base_is, key_inserted, key_deleted, bytes_appended, reads, sets, updates}
use Rattle.std.specs.Prelude.{⊤, None}
use Rattle.std.specs.Option.{option_map, option_and_then}
use Rattle.py_value.specs.Contents.{contents}
use Rattle.py_value.specs.Seen.{order_at, len_is, entry_of, value_at, location_at}
use Rattle.py_value.specs.Values.{ValuesView}
use Rattle.py_value.specs.declared.access.Content.TheVariants.{Var as VarContent, Len as LenContent, Item as ItemContent}
use Rattle.py_value.specs.declared.access.Location.{Location}
use Rattle.py_value.specs.declared.access.Location.TheVariants.{Var, Len, Item, Entry, Order, Offset, Closed}
use Rattle.py_value.specs.declared.value.Value.{Value}
use Rattle.py_value.specs.declared.value.Value.TheVariants.{Text}
use Rattle.object_store.specs.Object.{item_in}
use Rattle.object_store.specs.Opening.{IsOpening, opening_at}
use Rattle.object_store.specs.Seen.{held_seen, seen_at}
use Rattle.object_store.specs.Store.{StoreView, held_at, whole}
use Rattle.object_store.proofs.Growing.{none_is, item_text}
use Rattle.object_store.specs.Below.{ObjectsBelow, PartsBelow, AllBelow, PlaceBelow, ContentBelow, ChangeBelow, AccessBelow, AccessesBelow, MapBelow}
use Rattle.object_store.specs.Keyed.{SeenMap}

module _ (count more : ℕ) (fits : count ≤ more) where
  mutual
    value_more : (v : Contents) → ObjectsBelow count v → ObjectsBelow more v
    value_more (object o) below = omega (arith, below, fits)
    value_more (tuple parts) below = parts_more parts below
    value_more v below = tt

    parts_more : (parts : Parts) → PartsBelow count parts → PartsBelow more parts
    parts_more no_parts below = tt
    parts_more (part first rest) below = (value_more first below.0, parts_more rest below.1)

  all_more : (vs : List Contents) → AllBelow count vs → AllBelow more vs
  all_more [] below = tt
  all_more (first ∷ rest) below = (value_more first below.0, all_more rest below.1)

  place_more : (place : SeenLocation) → PlaceBelow count place → PlaceBelow more place
  place_more (len_at o) below = omega (arith, below, fits)
  place_more (item_at o i) below = omega (arith, below, fits)
  place_more (entry_at o form) below = (omega (arith, below.0, fits), value_more form below.1)
  place_more (offset_at o) below = omega (arith, below, fits)
  place_more (closed_at o) below = omega (arith, below, fits)
  place_more place below = tt

  content_more : (content : SeenContent) → ContentBelow count content → ContentBelow more content
  content_more (var_is (Some v)) below = value_more v below
  content_more (item_is v) below = value_more v below
  content_more (entry_is (Some pair)) below = (value_more pair.0 below.0, value_more pair.1 below.1)
  content_more (order_is keys) below = all_more keys below
  content_more (base_is (Some v)) below = value_more v below
  content_more content below = tt

  pub map_more : (map : SeenMap) → MapBelow count map → MapBelow more map
  map_more map below place content at = let both = below place content at in (place_more place both.0, content_more content both.1)

module _ (count : ℕ) (tested : (l m : SeenLocation) → (same_location l m ≡ true) ↔ (l ≡ m)) where
  last_below : (keys : List Contents) (key : Contents) → AllBelow count keys → ObjectsBelow count key → AllBelow count (keys ++ key ∷ [])
  last_below [] key all one = (one, tt)
  last_below (first ∷ keys) key all one = (all.0, last_below keys key all.1 one)

  put_below : (keys : List Contents) (key : Contents) → AllBelow count keys → ObjectsBelow count key → AllBelow count (with_key key keys)
  put_below keys key all one = by (has_key key keys)
    where
      by : (b : Bool) → AllBelow count (if b then keys else keys ++ key ∷ [])
      by true = all
      by false = last_below keys key all one

  taken_below : (keys : List Contents) (key : Contents) → AllBelow count keys → AllBelow count (without_key key keys)
  taken_below [] key all = tt
  taken_below (first ∷ keys) key all = by (same_value (normal key) (normal first)) (taken_below keys key all.1)
    where
      by : (b : Bool) → AllBelow count (without_key key keys) → AllBelow count (if b then keys else first ∷ without_key key keys)
      by true later = all.1
      by false later = (all.0, later)

  -- what stands somewhere is below
  abbrev FoundBelow : Option SeenContent → Type 0
  FoundBelow found = (content : SeenContent) → found ≡ Some content → ContentBelow count content

  changed_below : (change : SeenChange) (found : Option SeenContent) → ChangeBelow count change → FoundBelow found → ContentBelow count (changed change found)
  changed_below (key_inserted key) (Some (order_is keys)) one all = put_below keys key (all (order_is keys) refl) one
  changed_below (key_inserted key) found one all = (one, tt)
  changed_below (key_deleted key) (Some (order_is keys)) one all = taken_below keys key (all (order_is keys) refl)
  changed_below (key_deleted key) found one all = tt
  changed_below (bytes_appended bytes) (Some (file_is before)) one all = tt
  changed_below (bytes_appended bytes) found one all = tt

  map_put : (place : SeenLocation) (content : SeenContent) (map : SeenMap) → PlaceBelow count place → ContentBelow count content → MapBelow count map → MapBelow count (put place content map)
  map_put place content map at what below other found is = by (same_location place other) refl is
    where
      by : (b : Bool) → same_location place other ≡ b → (if b then Some content else map other) ≡ Some found → PlaceBelow count other × ContentBelow count found
      by true same there = (subst (PlaceBelow count) ((tested place other).0 same) at, subst (ContentBelow count) (same_Some content found there) what)
      by false same there = below other found there

  access_below : (access : SeenAccess) (map : SeenMap) → AccessBelow count access → MapBelow count map → MapBelow count (after_access access map)
  access_below (reads place) map one below = below
  access_below (sets place content) map one below = map_put place content map one.0 one.1 below
  access_below (updates place change) map one below = map_put place (changed change (map place)) map one.0 (changed_below change (map place) one.1 (λ content at. (below place content at).1)) below

  pub plan_below : (plan : List SeenAccess) (map : SeenMap) → AccessesBelow count plan → MapBelow count map → MapBelow count (after_accesses plan map)
  plan_below [] map all below = below
  plan_below (access ∷ plan) map all below = plan_below plan (after_access access map) all.1 (access_below access map all.0 below)

-- A store as a run begins has object 0 alone, and its words.
module _ (values table : ValuesView) (words : List (List ℕ)) (store : StoreView) (opening : IsOpening values words store) where
  abbrev LocationBelow : Location → Type 0
  LocationBelow (Len o) = o < 1
  LocationBelow (Item o i) = o < 1
  LocationBelow (Entry o key) = ⊥
  LocationBelow (Offset o) = ⊥
  LocationBelow (Closed o) = ⊥
  LocationBelow l = ⊤

  abbrev Below : Location → SeenContent → Type 0
  Below l content = LocationBelow l × ContentBelow 1 content

  var_case : (scope number : ℕ) (content : SeenContent) (b : Bool)
      → option_map (held_seen table) (if b then Some (whole (VarContent (Some (Text opening.main)))) else None) ≡ Some content → Below (Var scope number) content
  var_case scope number content true at = (tt, subst (ContentBelow 1) (same_Some (var_is (Some (contents table (Text opening.main)))) content at) tt)
  var_case scope number content false at = absurd (none_is at)

  len_case : (o : ℕ) (content : SeenContent) (b : Bool) → (o == 0) ≡ b
      → option_map (held_seen table) (if b then Some (whole (LenContent (length opening.items))) else None) ≡ Some content → Below (Len o) content
  len_case o content true is at = (omega (arith, eqb-true o 0 is), subst (ContentBelow 1) (same_Some (len_is (length opening.items)) content at) tt)
  len_case o content false is at = absurd (none_is at)

  item_case : (o i : ℕ) (content : SeenContent) (b : Bool) (found : Option Value) → (o == 0) ≡ b → item_in opening.items i ≡ found
      → option_map (held_seen table) (if b then option_map (λ (item : Value). whole (ItemContent item)) found else None) ≡ Some content → Below (Item o i) content
  item_case o i content true (Some v) is there at =
      let word = item_text values opening.items words opening.items_are i v there in
      (omega (arith, eqb-true o 0 is), subst (ContentBelow 1) (same_Some (item_is (contents table v)) content at) (subst (λ (u : Value). ObjectsBelow 1 (contents table u)) word.1 tt))
  item_case o i content true None is there at = absurd (none_is at)
  item_case o i content false found is there at = absurd (none_is at)

  opening_case : (l : Location) (content : SeenContent) → option_map (held_seen table) (opening_at opening.items opening.name opening.main l) ≡ Some content → Below l content
  opening_case (Var scope number) content at = var_case scope number content ((scope == 0) && (number == opening.name)) at
  opening_case (Len o) content at = len_case o content (o == 0) refl at
  opening_case (Item o i) content at = item_case o i content (o == 0) (item_in opening.items i) refl refl at
  opening_case (Order o) content at = (tt, subst (ContentBelow 1) (same_Some (order_is []) content at) tt)
  opening_case l content at = absurd (none_is at)

  held_below : (l : Location) (content : SeenContent) → option_map (held_seen table) (held_at store l) ≡ Some content → Below l content
  held_below l content at = opening_case l content (sym (ap (option_map (held_seen table)) (opening.held l)) ∙ at)

  -- what stands at a location that was found
  content_found : (found : Option Location) (content : SeenContent) → option_and_then (λ (l : Location). option_map (held_seen table) (held_at store l)) found ≡ Some content → ContentBelow 1 content
  content_found None content at = absurd (none_is at)
  content_found (Some l) content at = (held_below l content at).1

  entry_found : (o : ℕ) (found : Option Value) (content : SeenContent) → option_and_then (λ (l : Location). option_map (held_seen table) (held_at store l)) (option_map (entry_of o) found) ≡ Some content → ⊥
  entry_found o None content at = none_is at
  entry_found o (Some v) content at = (held_below (entry_of o v) content at).0

  pub opening_below : MapBelow 1 (seen_at table store)
  opening_below (len_at o) content at = held_below (Len o) content at
  opening_below (item_at o i) content at = held_below (Item o i) content at
  opening_below (entry_at o form) content at = absurd (entry_found o (value_at table form) content at)
  opening_below (offset_at o) content at = absurd (held_below (Offset o) content at).0
  opening_below (closed_at o) content at = absurd (held_below (Closed o) content at).0
  opening_below (order_at o) content at = (tt, (held_below (Order o) content at).1)
  opening_below place content at = (tt, content_found (location_at table place) content at)
