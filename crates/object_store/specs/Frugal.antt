-- How much room a plan of writes takes at most (this project's profile): for places of items, for keys and for bytes.
use Rattle.std.specs.Prelude.{◌≡◌, ℕ, suc, ◌+◌, ◌*◌, ◌==◌, ◌≤◌, max, Bool, false, List, [], ◌∷◌, length, unwrap_or, if◌then◌else◌}
use Rattle.std.specs.List.{list_any}
use Rattle.std.specs.Option.{option_and_then}
use Rattle.py_value.specs.declared.access.Access.{Access}
use Rattle.py_value.specs.declared.access.Access.TheVariants.{Set, Update}
use Rattle.py_value.specs.declared.access.Location.TheVariants.{Item, Order, File}
use Rattle.object_store.specs.File.{FileView}
use Rattle.object_store.specs.Room.{Room, object_in, slot_in, bytes_in}

-- one more than the place of the item that an access sets in this object; 0 where it sets none there
abbrev pub place_set : ℕ → Access → ℕ
place_set o (Set (Item p i) content) = if o == p then suc i else 0
place_set o access = 0

-- whether it writes the order of this object
abbrev pub writes_order : ℕ → Access → Bool
writes_order o (Set (Order p) content) = o == p
writes_order o (Update (Order p) change) = o == p
writes_order o access = false

-- whether it writes the file at this path
abbrev pub writes_file : ℕ → Access → Bool
writes_file path (Set (File p) content) = path == p
writes_file path (Update (File p) change) = path == p
writes_file path access = false

-- the places that a plan needs in this object
abbrev pub places_in : ℕ → List Access → ℕ
places_in o [] = 0
places_in o (access ∷ plan) = max (place_set o access) (places_in o plan)

-- how many bytes the file at a path has; none where it is absent
abbrev pub size_in : Room → ℕ → ℕ
size_in room path = length (unwrap_or (option_and_then (λ (file : FileView). file.content) (slot_in room path)) [])

-- the most room that is taken for so many keys of an object, and for so many bytes of a file, where those are written
abbrev pub keys_most : Room → ℕ → ℕ → Bool → ℕ
keys_most room count o written = if written then length (object_in room o).keys + 2 * count + 64 else 0

abbrev pub bytes_most : Room → ℕ → ℕ → Bool → ℕ
bytes_most room count path written = if written then max count (size_in room path) else 0

-- Each object has as many places as before or as it needs, and the room for keys and bytes is as before or at most that. What stands there stays.
pub record TakesUpTo (old new : Room) (places : ℕ → ℕ) (orders files : ℕ → Bool) (keys bytes : ℕ) : Type 0 where
  pub few_places : (o : ℕ) → length (object_in new o).items ≤ max (length (object_in old o).items) (places o)
  pub few_keys : (o : ℕ) → (object_in new o).spare ≤ max (object_in old o).spare (keys_most old keys o (orders o))
  pub few_bytes : (path : ℕ) → bytes_in new path ≤ max (bytes_in old path) (bytes_most old bytes path (files path))
  pub keys_stay : (o : ℕ) → (object_in new o).keys ≡ (object_in old o).keys
  pub sizes_stay : (path : ℕ) → size_in new path ≡ size_in old path

-- so for one access, and for a plan of so many keys and bytes
abbrev pub TakesFewFor : Room → Room → Access → ℕ → ℕ → Type 0
TakesFewFor old new access keys bytes = TakesUpTo old new (λ o. place_set o access) (λ o. writes_order o access) (λ path. writes_file path access) keys bytes

abbrev pub TakesFew : Room → Room → List Access → ℕ → ℕ → Type 0
TakesFew old new plan keys bytes = TakesUpTo old new (λ o. places_in o plan) (λ o. list_any (writes_order o) plan) (λ path. list_any (writes_file path) plan) keys bytes
