-- The store of a run (this project's profile): a finite map from locations to what stands there, with the kinds of the
-- objects and the names of functions and classes.
use Rattle.std.specs.Prelude.{⊤, ◌≡◌, ◌⊎◌, ℕ, ◌+◌, ◌*◌, ◌<◌, ◌≤◌, List, [], ◌∷◌, ◌++◌, map, length, slice_get, unwrap_or, nat_eq, Option, Some, None, IfSome, if◌then◌else◌}
use Rattle.std.specs.Option.{option_map, option_and_then}
use Rattle.std.specs.Map.{lookup}
use Rattle.prov_base.specs.declared.place.Pos.{Pos}
use Rattle.prov_base.specs.contracts.place.PosPartialEq.TheImpl.{ghosts as places}
use Rattle.py_value.specs.declared.value.Value.{Value}
use Rattle.py_value.specs.declared.access.Kind.{Kind}
use Rattle.py_value.specs.declared.access.Location.{Location}
use Rattle.py_value.specs.declared.access.Location.TheVariants.{Var, Len, Item, Entry, Order, File, Offset, Closed, Method, Base}
use Rattle.py_value.specs.declared.access.Access.{Access}
use Rattle.py_value.specs.declared.access.Change.{Change}
use Rattle.py_value.specs.declared.access.Change.TheVariants.{Insert, Delete, Append}
use Rattle.py_value.specs.declared.access.Content.{Content}
use Rattle.py_value.specs.declared.access.Content.TheVariants.{Var as VarContent, Len as LenContent, Item as ItemContent, Entry as EntryContent, Order as OrderContent, File as FileContent, Offset as OffsetContent, Closed as ClosedContent, Method as MethodContent, Base as BaseContent}
use Rattle.py_value.specs.contracts.access.LocationPartialEq.TheImpl.{ghosts as locations}
use Rattle.object_store.specs.declared.cell.Cell.{Cell}
use Rattle.object_store.specs.Cell.{content_of}
use Rattle.py_value.specs.Seen.{bytes_of}
use Rattle.py_value.specs.Values.{ValuesView}
use Rattle.object_store.specs.File.{FileView}
use Rattle.object_store.specs.Object.{ObjectView, item_of, with_keys, with_key, without_key}
use Rattle.object_store.specs.Room.{Room, object_in, cells_in, keys_in, bytes_in_all, AreCounted, HasPlaces, IsReserved}

-- What contracts see: the objects in the order in which they were made, what was set that is no item, order or file, the
-- files by their path's text, the noted names; and the room: the object that is made next, and for how many more objects and cells there is room.
pub record StoreView : Type 0 where
  pub objects : List ObjectView
  pub cells : List (Location × Cell)
  pub files : List (ℕ × FileView)
  pub names : List (Pos × ℕ)
  pub next_object : ObjectView
  pub spare_objects : ℕ
  pub spare_cells : ℕ

-- what stands at a location: a content that is read whole, the keys of an order, or the bytes of a file
pub data Held : Type 0 where
  whole : Content → Held
  keys : List Value → Held
  bytes : List ℕ → Held

-- the keys of an object in their order; there are none until one is put there
abbrev pub keys_at : StoreView → ℕ → List Value
keys_at store o = unwrap_or (option_map (λ (ob : ObjectView). ob.keys) (slice_get store.objects o)) []

-- the item of a list at a place, where one was set
abbrev pub item_at : StoreView → ℕ → ℕ → Option Value
item_at store o i = option_and_then (λ (ob : ObjectView). item_of ob i) (slice_get store.objects o)

-- the bytes of the file at the path with this text, where there is one
abbrev pub file_at : StoreView → ℕ → Option (List ℕ)
file_at store path = option_and_then (λ (file : FileView). file.content) (lookup (nat_eq path) store.files)

-- the content of any other location, where one was set
abbrev pub content_at : StoreView → Location → Option Content
content_at store l = option_map content_of (lookup (locations.eq l) store.cells)

-- what stands at a location
abbrev pub held_at : StoreView → Location → Option Held
held_at store (Item o i) = option_map (λ item. whole (ItemContent item)) (item_at store o i)
held_at store (Order o) = Some (keys (keys_at store o))
held_at store (File path) = option_map bytes (file_at store path)
held_at store l = option_map whole (content_at store l)

-- what each object is, in the order in which they were made
abbrev pub kinds : StoreView → List Kind
kinds store = map (λ (ob : ObjectView). ob.kind) store.objects

-- the name that is noted for the function or class at a place
abbrev pub name_at : StoreView → Pos → Option ℕ
name_at store place = lookup (places.eq place) store.names

-- the location is read whole
abbrev pub IsReadWhole : Location → Type 0
IsReadWhole (Order o) = ⊥
IsReadWhole (File path) = ⊥
IsReadWhole l = Unit {0}

-- w is written at l, and nothing else changes
pub record Writes (old new : StoreView) (l : Location) (w : Held) : Type 0 where
  pub held : (m : Location) → held_at new m ≡ (if locations.eq l m then Some w else held_at old m)
  pub kinds_stay : kinds new ≡ kinds old
  pub names_stay : new.names ≡ old.names

-- the name is noted for the function or class at a place, and each other place keeps its name
abbrev pub Notes : StoreView → StoreView → Pos → ℕ → Type 0
Notes old new place name = (other : Pos) → name_at new other ≡ (if places.eq place other then Some name else name_at old other)

-- what a store has room for
abbrev pub room_of : StoreView → Room
room_of store = record { objects = store.objects; files = store.files; cells = store.spare_cells }

abbrev pub object_at : StoreView → ℕ → ObjectView
object_at store o = object_in (room_of store) o

-- what stands at a location once a content is set
abbrev pub written : Content → Held
written (OrderContent ks) = keys (with_keys [] ks)
written (FileContent text) = bytes []
written content = whole content

-- the text of an append
abbrev pub text_of_change : ValuesView → Change → List ℕ
text_of_change values (Append text) = bytes_of values text
text_of_change values change = []

-- what stands at a location once it is changed
abbrev pub changed : ValuesView → StoreView → Location → Change → Held
changed values store (Order o) (Insert key) = keys (with_key (keys_at store o) key)
changed values store (Order o) (Delete key) = keys (without_key (keys_at store o) key)
changed values store (File path) change = bytes (unwrap_or (file_at store path) [] ++ text_of_change values change)
changed values store l change = keys []

-- the content or change is of the location's own kind
abbrev pub IsOwn : Location → Content → Type 0
IsOwn (Var scope name) (VarContent value) = ⊤
IsOwn (Len o) (LenContent len) = ⊤
IsOwn (Item o i) (ItemContent item) = ⊤
IsOwn (Entry o key) (EntryContent entry) = ⊤
IsOwn (Order o) (OrderContent ks) = ⊤
IsOwn (File path) (FileContent text) = ⊤
IsOwn (Offset o) (OffsetContent offset) = ⊤
IsOwn (Closed o) (ClosedContent is_closed) = ⊤
IsOwn (Method class name) (MethodContent place) = ⊤
IsOwn (Base class) (BaseContent base) = ⊤
IsOwn l content = ⊥

-- each cell is of its location's own kind
abbrev pub AreOwn : List (Location × Cell) → Type 0
AreOwn cells = (l : Location) (cell : Cell) → lookup (locations.eq l) cells ≡ Some cell → IsOwn l (content_of cell)

abbrev pub IsOwnChange : Location → Change → Type 0
IsOwnChange (Order o) (Insert key) = ⊤
IsOwnChange (Order o) (Delete key) = ⊤
IsOwnChange (File path) (Append text) = ⊤
IsOwnChange l change = ⊥

-- everything that stands at a location, each kind and each noted name is as before
pub record Keeps (old new : StoreView) : Type 0 where
  pub held : (l : Location) → held_at new l ≡ held_at old l
  pub kinds_stay : kinds new ≡ kinds old
  pub names_stay : new.names ≡ old.names

-- the object that was ready is there now, and is of this kind; no other room was used
pub record Makes (old new : StoreView) (kind : Kind) : Type 0 where
  pub objects_are : new.objects ≡ old.objects ++ record old.next_object { kind = kind } ∷ []
  pub files_stay : new.files ≡ old.files
  pub cells_stay : new.spare_cells ≡ old.spare_cells

-- There is room for each access of a plan in its turn; where the plan makes an object first, once that is made.
abbrev pub IsReservedFor : ValuesView → StoreView → Option Kind → List Access → Type 0
IsReservedFor values store None plan = IsReserved values (room_of store) plan
IsReservedFor values store (Some kind) plan =
    (0 < store.spare_objects) × ((after : StoreView) → Makes store after kind → IsReserved values (room_of after) plan)

-- what there is room for once the object that is ready is made
abbrev pub room_with_next : StoreView → Room
room_with_next store = record { objects = store.objects ++ store.next_object ∷ []; files = store.files; cells = store.spare_cells }

-- There is all the room that a plan may use: for the object that it makes, for its cells, and at each access the place, with
-- room there for all keys and all bytes of the plan.
pub record HasRoomForAll (values : ValuesView) (store : StoreView) (made : Option Kind) (plan : List Access) : Type 0 where
  pub counted : AreCounted values plan
  pub object : IfSome made (λ kind. 0 < store.spare_objects)
  pub cells : cells_in plan ≤ store.spare_cells
  pub places : HasPlaces (room_with_next store) (keys_in plan) (bytes_in_all values plan) plan

-- The room for objects is as before, or there is less than twice what is needed in all; so for this many cells, up to 64 more.
abbrev pub FewObjects : StoreView → StoreView → Type 0
FewObjects old new = (new.spare_objects ≡ old.spare_objects) ⊎ (length old.objects + new.spare_objects < 2 * (length old.objects + 1))

abbrev pub FewCells : StoreView → StoreView → ℕ → Type 0
FewCells old new count = (new.spare_cells ≡ old.spare_cells) ⊎ (length old.cells + new.spare_cells ≤ 2 * (length old.cells + count) + 64)

-- how many objects a plan may name: those that are there, and the one that it makes
abbrev pub count_with : Option Kind → StoreView → ℕ
count_with None store = length store.objects
count_with (Some kind) store = length store.objects + 1

-- an object that was not given yet: nothing is set of it
pub record IsEmpty (object : ObjectView) : Type 0 where
  pub items : (i : ℕ) → item_of object i ≡ None
  pub keys_none : object.keys ≡ []
