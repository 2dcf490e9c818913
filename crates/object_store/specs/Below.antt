-- A map over contents that names only objects with numbers below one, which is that of the next object (this project's profile).
use Rattle.std.specs.Prelude.{◌≡◌, ℕ, ◌<◌, ⊤, List, [], ◌∷◌, Some}
use Rattle.py_value.specs.Contents.{Contents, Parts, object, tuple, no_parts, part}
use Rattle.py_value.specs.Seen.{SeenLocation, SeenContent, SeenChange, SeenAccess, len_at, item_at, entry_at, offset_at, closed_at, var_is, item_is, entry_is, order_is, base_is, key_inserted, key_deleted, bytes_appended, reads, sets, updates}
use Rattle.object_store.specs.Keyed.{SeenMap}

-- the objects in a value
abbrev mutual
  pub ObjectsBelow : ℕ → Contents → Type 0
  ObjectsBelow count (object o) = o < count
  ObjectsBelow count (tuple parts) = PartsBelow count parts
  ObjectsBelow count other = ⊤

  pub PartsBelow : ℕ → Parts → Type 0
  PartsBelow count no_parts = ⊤
  PartsBelow count (part first rest) = ObjectsBelow count first × PartsBelow count rest

abbrev pub AllBelow : ℕ → List Contents → Type 0
AllBelow count [] = ⊤
AllBelow count (first ∷ rest) = ObjectsBelow count first × AllBelow count rest

-- the object of a location: an order is there, with no keys, before its object is made
abbrev pub PlaceBelow : ℕ → SeenLocation → Type 0
PlaceBelow count (len_at o) = o < count
PlaceBelow count (item_at o i) = o < count
PlaceBelow count (entry_at o form) = (o < count) × ObjectsBelow count form
PlaceBelow count (offset_at o) = o < count
PlaceBelow count (closed_at o) = o < count
PlaceBelow count place = ⊤

abbrev pub ContentBelow : ℕ → SeenContent → Type 0
ContentBelow count (var_is (Some v)) = ObjectsBelow count v
ContentBelow count (item_is v) = ObjectsBelow count v
ContentBelow count (entry_is (Some pair)) = ObjectsBelow count pair.0 × ObjectsBelow count pair.1
ContentBelow count (order_is keys) = AllBelow count keys
ContentBelow count (base_is (Some v)) = ObjectsBelow count v
ContentBelow count content = ⊤

abbrev pub ChangeBelow : ℕ → SeenChange → Type 0
ChangeBelow count (key_inserted key) = ObjectsBelow count key
ChangeBelow count (key_deleted key) = ⊤
ChangeBelow count (bytes_appended bytes) = ⊤

abbrev pub AccessBelow : ℕ → SeenAccess → Type 0
AccessBelow count (reads place) = ⊤
AccessBelow count (sets place content) = PlaceBelow count place × ContentBelow count content
AccessBelow count (updates place change) = PlaceBelow count place × ChangeBelow count change

abbrev pub AccessesBelow : ℕ → List SeenAccess → Type 0
AccessesBelow count [] = ⊤
AccessesBelow count (access ∷ plan) = AccessBelow count access × AccessesBelow count plan

-- what stands anywhere
abbrev pub MapBelow : ℕ → SeenMap → Type 0
MapBelow count map = (place : SeenLocation) (content : SeenContent) → map place ≡ Some content → PlaceBelow count place × ContentBelow count content
