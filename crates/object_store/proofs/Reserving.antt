-- More room changes nothing that stands in the store.
use Rattle.std.proofs.Common.{◌≡◌, ℕ, ◌+◌, ◌<◌, ◌≤◌, List, [], length, slice_get, slice_set, Some, unwrap_or, ap, sym, subst, ◌∙◌, arith, below_more}
use Rattle.std.specs.Option.{option_map}
use Rattle.std.proofs.lemmas.Option.{same_Some}
use Rattle.py_value.specs.declared.value.Value.{Value}
use Rattle.py_value.specs.declared.access.Access.{Access}
use Rattle.py_value.specs.declared.access.Access.TheVariants.{Read, Set, Update}
use Rattle.py_value.specs.declared.access.Location.{Location}
use Rattle.py_value.specs.declared.access.Location.TheVariants.{Item, Order, File}
use Rattle.py_value.specs.declared.access.Content.TheVariants.{Item as ItemContent}
use Rattle.object_store.specs.Object.{ObjectView, Grows}
use Rattle.object_store.specs.Room.{Room, Takes, HasPlaceFor}
use Rattle.object_store.specs.Store.{StoreView, Keeps, held_at, content_at, kinds, object_at, whole, keys}
use Rattle.object_store.proofs.Writing.{maps_same, items_same, kinds_same}

module _ (old new : StoreView) (o : ℕ) (object : ObjectView) (within : o < length old.objects) (same : new ≡ record old { objects = slice_set old.objects o object })
    (grows : Grows (object_at old o) object) where
  held_same : (l : Location) → held_at new l ≡ held_at old l
  held_same (Item p j) =
      ap (λ (s : StoreView). held_at s (Item p j)) same
      ∙ ap (option_map (λ (found : Value). whole (ItemContent found))) (items_same j old.objects o object within (grows.items_stay j) p)
  held_same (Order p) =
      ap (λ (s : StoreView). held_at s (Order p)) same
      ∙ ap (λ found. Some (keys (unwrap_or found []))) (maps_same (λ (ob : ObjectView). ob.keys) old.objects o object within grows.keys_stay p)
  held_same (File path) = ap (λ (s : StoreView). held_at s (File path)) same
  held_same m = ap (λ (s : StoreView). option_map whole (content_at s m)) same

  pub object_keeps : Keeps old new
  object_keeps = record {
    held = held_same;
    kinds_stay = ap (λ (s : StoreView). kinds s) same ∙ kinds_same old.objects o object within grows.kind_stays;
    names_stay = ap (λ (s : StoreView). s.names) same;
  }

pub keeps_then : (a b c : StoreView) → Keeps a b → Keeps b c → Keeps a c
keeps_then a b c first second = record {
  held = λ l. second.held l ∙ first.held l;
  kinds_stay = second.kinds_stay ∙ first.kinds_stay;
  names_stay = second.names_stay ∙ first.names_stay;
}

pub takes_then : (a b c : Room) → Takes a b 0 0 0 → Takes b c 0 0 0 → Takes a c 0 0 0
takes_then a b c first second = record {
  objects_stay = second.objects_stay ∙ first.objects_stay;
  cells_left = omega arith;
  items_left = λ o. omega (arith, first.items_left o, second.items_left o);
  keys_left = λ o. omega (arith, first.keys_left o, second.keys_left o);
  slots_left = λ path there. second.slots_left path (first.slots_left path there);
  bytes_left = λ path. omega (arith, first.bytes_left path, second.bytes_left path);
}

-- a place that was there is there after a write, for so much less
pub place_later : (old new : Room) (cells used put : ℕ) → Takes old new cells used put → (count bytes more_keys more_bytes : ℕ) → count + used ≤ more_keys → bytes + put ≤ more_bytes
    → (access : Access) → HasPlaceFor old more_keys more_bytes access → HasPlaceFor new count bytes access
place_later old new cells used put takes count bytes more_keys more_bytes keys_fit bytes_fit (Read l) place = place
place_later old new cells used put takes count bytes more_keys more_bytes keys_fit bytes_fit (Set (Item o i) content) place = omega (arith, takes.items_left o)
place_later old new cells used put takes count bytes more_keys more_bytes keys_fit bytes_fit (Set (Order o) content) place = omega (arith, takes.keys_left o)
place_later old new cells used put takes count bytes more_keys more_bytes keys_fit bytes_fit (Set (File path) content) place = takes.slots_left path place
place_later old new cells used put takes count bytes more_keys more_bytes keys_fit bytes_fit (Set l content) place = place
place_later old new cells used put takes count bytes more_keys more_bytes keys_fit bytes_fit (Update (Order o) change) place = omega (arith, takes.keys_left o)
place_later old new cells used put takes count bytes more_keys more_bytes keys_fit bytes_fit (Update (File path) change) place = (takes.slots_left path place.0, omega (arith, takes.bytes_left path, place.1))
place_later old new cells used put takes count bytes more_keys more_bytes keys_fit bytes_fit (Update l change) place = place

-- what holds of each access before one, and of that one, holds of each up to it
pub up_to : (P : Access → Type 0) (plan : List Access) (i : ℕ) (access : Access) → slice_get plan i ≡ Some access → P access
    → ((k : ℕ) (a : Access) → k < i → slice_get plan k ≡ Some a → P a) → (k : ℕ) (a : Access) → k < i + 1 → slice_get plan k ≡ Some a → P a
up_to P plan i access at here before = λ k a below is.
    below_more (λ j. (b : Access) → slice_get plan j ≡ Some b → P b) i (λ j less b found. before j b less found) (λ b found. subst P (same_Some access b (sym at ∙ found)) here) k below a is
