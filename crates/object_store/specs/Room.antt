-- Room for a plan of writes (this project's profile): what each write needs, and what it leaves for those after it.
use Rattle.std.specs.Prelude.{◌≡◌, ℕ, ◌+◌, ◌^◌, ◌<◌, ◌≤◌, ⊤, List, [], ◌∷◌, length, slice_get, slice_index_or, unwrap_or, nat_eq, Option, Some, IsSome}
use Rattle.std.specs.Option.{option_map}
use Rattle.std.specs.Map.{lookup}
use Rattle.py_value.specs.declared.access.Access.{Access}
use Rattle.py_value.specs.declared.access.Access.TheVariants.{Read, Set, Update}
use Rattle.py_value.specs.declared.access.Change.{Change}
use Rattle.py_value.specs.declared.access.Change.TheVariants.{Insert, Delete, Append}
use Rattle.py_value.specs.declared.access.Content.{Content}
use Rattle.py_value.specs.declared.access.Content.TheVariants.{Order as OrderContent}
use Rattle.py_value.specs.declared.access.Location.{Location}
use Rattle.py_value.specs.declared.access.Location.TheVariants.{Item, Order, File}
use Rattle.py_value.specs.Seen.{bytes_of as bytes_of_text}
use Rattle.py_value.specs.Values.{ValuesView}
use Rattle.object_store.specs.File.{FileView}
use Rattle.object_store.specs.Object.{ObjectView, no_object}

-- the objects and files, with the room in each, and for how many cells there is room: what is no item, order or file
pub record Room : Type 0 where
  pub objects : List ObjectView
  pub files : List (ℕ × FileView)
  pub cells : ℕ

-- the object with this number
abbrev pub object_in : Room → ℕ → ObjectView
object_in room o = slice_index_or room.objects o no_object

-- the place that is kept for a file, also for one that is absent, and the room for bytes in it
abbrev pub slot_in : Room → ℕ → Option FileView
slot_in room path = lookup (nat_eq path) room.files

abbrev pub bytes_in : Room → ℕ → ℕ
bytes_in room path = unwrap_or (option_map (λ (file : FileView). file.spare) (slot_in room path)) 0

-- there is room to set this content
abbrev pub HasRoomToSet : Room → Location → Content → Type 0
HasRoomToSet room (Item o i) content = (o < length room.objects) × (i < length (object_in room o).items)
HasRoomToSet room (Order o) (OrderContent keys) = (o < length room.objects) × (length keys ≤ (object_in room o).spare)
HasRoomToSet room (Order o) content = ⊤
HasRoomToSet room (File path) content = IsSome (slot_in room path)
HasRoomToSet room l content = 0 < room.cells

-- there is room to make this change
abbrev pub HasRoomToUpdate : ValuesView → Room → Location → Change → Type 0
HasRoomToUpdate values room (Order o) (Insert key) = (o < length room.objects) × (0 < (object_in room o).spare)
HasRoomToUpdate values room (Order o) (Delete key) = o < length room.objects
HasRoomToUpdate values room (File path) (Append text) = IsSome (slot_in room path) × (length (bytes_of_text values text) ≤ bytes_in room path)
HasRoomToUpdate values room l change = ⊤

-- how many cells a write takes at most
abbrev pub cells_set : Location → ℕ
cells_set (Item o i) = 0
cells_set (Order o) = 0
cells_set (File path) = 0
cells_set l = 1

abbrev pub cells_of : Access → ℕ
cells_of (Read l) = 0
cells_of (Set l content) = cells_set l
cells_of (Update l change) = 0

-- how many keys it puts into an order
abbrev pub keys_set : Content → ℕ
keys_set (OrderContent keys) = length keys
keys_set content = 0

abbrev pub keys_put : Change → ℕ
keys_put (Insert key) = 1
keys_put (Delete key) = 0
keys_put (Append text) = 0

abbrev pub keys_of : Access → ℕ
keys_of (Read l) = 0
keys_of (Set l content) = keys_set content
keys_of (Update l change) = keys_put change

-- how many bytes it puts into a file
abbrev pub bytes_put : ValuesView → Change → ℕ
bytes_put values (Append text) = length (bytes_of_text values text)
bytes_put values (Insert key) = 0
bytes_put values (Delete key) = 0

abbrev pub bytes_of : ValuesView → Access → ℕ
bytes_of values (Read l) = 0
bytes_of values (Set l content) = 0
bytes_of values (Update l change) = bytes_put values change

-- what the accesses of a plan need together
abbrev pub cells_in : List Access → ℕ
cells_in [] = 0
cells_in (access ∷ plan) = cells_of access + cells_in plan

abbrev pub keys_in : List Access → ℕ
keys_in [] = 0
keys_in (access ∷ plan) = keys_of access + keys_in plan

abbrev pub bytes_in_all : ValuesView → List Access → ℕ
bytes_in_all values [] = 0
bytes_in_all values (access ∷ plan) = bytes_of values access + bytes_in_all values plan

-- the cells, keys and bytes of a plan are counted by a word each
pub record AreCounted (values : ValuesView) (plan : List Access) : Type 0 where
  pub cells : cells_in plan < 2 ^ 64
  pub keys : keys_in plan < 2 ^ 64
  pub bytes : bytes_in_all values plan < 2 ^ 64

-- the text of an append has a number
abbrev pub IsNamedChange : ValuesView → Change → Type 0
IsNamedChange values (Append text) = text < length values.texts
IsNamedChange values change = ⊤

abbrev pub IsNamedAccess : ValuesView → Access → Type 0
IsNamedAccess values (Update l change) = IsNamedChange values change
IsNamedAccess values (Read l) = ⊤
IsNamedAccess values (Set l content) = ⊤

abbrev pub AreNamedAccesses : ValuesView → List Access → Type 0
AreNamedAccesses values plan = (k : ℕ) (access : Access) → slice_get plan k ≡ Some access → IsNamedAccess values access

-- the object of an item or an order is one of so many
abbrev pub IsWithin : ℕ → Location → Type 0
IsWithin count (Item o i) = o < count
IsWithin count (Order o) = o < count
IsWithin count l = ⊤

abbrev pub IsAccessWithin : ℕ → Access → Type 0
IsAccessWithin count (Read l) = ⊤
IsAccessWithin count (Set l content) = IsWithin count l
IsAccessWithin count (Update l change) = IsWithin count l

abbrev pub AreWithin : ℕ → List Access → Type 0
AreWithin count plan = (k : ℕ) (access : Access) → slice_get plan k ≡ Some access → IsAccessWithin count access

-- a write of so many cells, keys and bytes took no more room than that
pub record Takes (old new : Room) (cells keys bytes : ℕ) : Type 0 where
  pub objects_stay : length new.objects ≡ length old.objects
  pub cells_left : old.cells ≤ new.cells + cells
  pub items_left : (o : ℕ) → length (object_in old o).items ≤ length (object_in new o).items
  pub keys_left : (o : ℕ) → (object_in old o).spare ≤ (object_in new o).spare + keys
  pub slots_left : (path : ℕ) → IsSome (slot_in old path) → IsSome (slot_in new path)
  pub bytes_left : (path : ℕ) → bytes_in old path ≤ bytes_in new path + bytes

abbrev pub HasRoomFor : ValuesView → Room → Access → Type 0
HasRoomFor values room (Read l) = ⊤
HasRoomFor values room (Set l content) = HasRoomToSet room l content
HasRoomFor values room (Update l change) = HasRoomToUpdate values room l change

-- there is room for each access of a plan in its turn, whatever the earlier ones leave
abbrev pub IsReserved : ValuesView → Room → List Access → Type 0
IsReserved values room [] = ⊤
IsReserved values room (access ∷ plan) =
    HasRoomFor values room access
    × ((after : Room) → Takes room after (cells_of access) (keys_of access) (bytes_of values access) → IsReserved values after plan)

-- there is the place that an access needs, and room for so many keys and bytes in it
abbrev pub HasPlaceToSet : Room → ℕ → Location → Type 0
HasPlaceToSet room count (Item o i) = i < length (object_in room o).items
HasPlaceToSet room count (Order o) = count ≤ (object_in room o).spare
HasPlaceToSet room count (File path) = IsSome (slot_in room path)
HasPlaceToSet room count l = ⊤

abbrev pub HasPlaceToUpdate : Room → ℕ → ℕ → Location → Type 0
HasPlaceToUpdate room count bytes (Order o) = count ≤ (object_in room o).spare
HasPlaceToUpdate room count bytes (File path) = IsSome (slot_in room path) × (bytes ≤ bytes_in room path)
HasPlaceToUpdate room count bytes l = ⊤

abbrev pub HasPlaceFor : Room → ℕ → ℕ → Access → Type 0
HasPlaceFor room count bytes (Read l) = ⊤
HasPlaceFor room count bytes (Set l content) = HasPlaceToSet room count l
HasPlaceFor room count bytes (Update l change) = HasPlaceToUpdate room count bytes l

-- there is the place that each access of a plan needs
abbrev pub HasPlaces : Room → ℕ → ℕ → List Access → Type 0
HasPlaces room count bytes plan = (k : ℕ) (access : Access) → slice_get plan k ≡ Some access → HasPlaceFor room count bytes access
