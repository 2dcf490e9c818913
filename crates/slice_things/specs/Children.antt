-- The values that objects hold: items of lists, up to the first that is missing, and entries under keys that stand in an order.
use Rattle.std.specs.Prelude.{◌≡◌, ℕ, zero, suc, ◌<◌, ◌≤◌, Bool, true, false, ◌&&◌, nat_lt, List, [], ◌∷◌, map, slice_get, unwrap_or, Option, Some, None, if◌then◌else◌}
use Rattle.py_value.specs.declared.access.Location.{Location}
use Rattle.py_value.specs.declared.access.Location.TheVariants.{Var, Len, Item, Entry, Order, File, Offset, Closed, Method, Base}
use Rattle.py_value.specs.declared.value.Value.{Value}
use Rattle.py_value.specs.Contents.{contents}
use Rattle.py_value.specs.Values.{ValuesView}
use Rattle.slice_law.specs.Closed.{IsIn}
use Rattle.slice_law.specs.Reached.{StandsIn}
use Rattle.slice_things.specs.declared.held.Held.{Held}
use Rattle.slice_things.specs.declared.held.Held.TheVariants.{Nothing, Length, Item as HeldItem, Entry as HeldEntry}
use Rattle.slice_things.specs.declared.things.Shape.{Shape}
use Rattle.slice_things.specs.declared.things.Shape.TheVariants.{List as ListShape, Keyed, File as FileShape}
use Rattle.slice_things.specs.declared.things.Things.{Things}
use Rattle.slice_things.specs.Counts.{often}
use Rattle.slice_things.specs.Held.{noted_at}
use Rattle.slice_things.specs.Orders.{order_in}

abbrev pub length_in : Held → ℕ
length_in Nothing = 0
length_in (Length n) = n
length_in (HeldItem v) = 0
length_in (HeldEntry v) = 0

-- an item stands there, and an entry
abbrev pub is_item : Held → Bool
is_item Nothing = false
is_item (Length n) = false
is_item (HeldItem v) = true
is_item (HeldEntry v) = false

abbrev pub is_entry : Held → Bool
is_entry Nothing = false
is_entry (Length n) = false
is_entry (HeldItem v) = false
is_entry (HeldEntry v) = true

abbrev pub is_list : Option Shape → Bool
is_list None = false
is_list (Some ListShape) = true
is_list (Some Keyed) = false
is_list (Some FileShape) = false

abbrev pub is_keyed : Option Shape → Bool
is_keyed None = false
is_keyed (Some ListShape) = false
is_keyed (Some Keyed) = true
is_keyed (Some FileShape) = false

-- an object and a value that it holds, if the value stands at one of its own places
abbrev pub child_if : Bool → ℕ → Value → Option (ℕ × Value)
child_if b o v = if b then Some (o, v) else None

abbrev pub item_child : Bool → ℕ → Held → Option (ℕ × Value)
item_child own o Nothing = None
item_child own o (Length n) = None
item_child own o (HeldItem v) = child_if own o v
item_child own o (HeldEntry v) = None

abbrev pub entry_child : Bool → ℕ → Held → Option (ℕ × Value)
entry_child own o Nothing = None
entry_child own o (Length n) = None
entry_child own o (HeldItem v) = None
entry_child own o (HeldEntry v) = child_if own o v

module _ (things : Things) where
  abbrev pub length_of : ℕ → ℕ
  length_of o = length_in (noted_at things.places.entries (Len o))

  abbrev pub item_there : ℕ → ℕ → Bool
  item_there o i = is_item (noted_at things.places.entries (Item o i))

  abbrev pub entry_there : ℕ → Value → Bool
  entry_there o form = is_entry (noted_at things.places.entries (Entry o (record { value = form })))

  -- all items of a list are there that stand before a place
  abbrev pub all_before : ℕ → ℕ → Bool
  all_before o zero = true
  all_before o (suc i) = item_there o i && all_before o i

  -- a list ends at its first missing item: the place of that one is its own still
  abbrev pub has_item : ℕ → ℕ → Bool
  has_item o i = (is_list (slice_get things.kinds.items o) && nat_lt i (length_of o)) && all_before o i

  -- a key without an entry is passed over
  abbrev pub has_entry : ℕ → Value → Bool
  has_entry o form = (is_keyed (slice_get things.kinds.items o) && nat_lt 0 (often form (order_in things.orders.entries o))) && entry_there o form

  abbrev pub child_at : Location → Option (ℕ × Value)
  child_at (Item o i) = item_child (has_item o i) o (noted_at things.places.entries (Item o i))
  child_at (Entry o key) = entry_child (has_entry o key.value) o (noted_at things.places.entries (Entry o key))
  child_at (Var scope name) = None
  child_at (Len o) = None
  child_at (Order o) = None
  child_at (File path) = None
  child_at (Offset o) = None
  child_at (Closed o) = None
  child_at (Method class name) = None
  child_at (Base class) = None

  abbrev pub children_at : List Location → List (ℕ × Value)
  children_at [] = []
  children_at (l ∷ ls) = elim (child_at l) [ None ↦ children_at ls | Some child ↦ child ∷ children_at ls ]

  abbrev pub children_of : List (ℕ × Value)
  children_of = children_at (map (λ entry. entry.0) things.places.entries)

-- a list ends there: at its first missing item, or at its length
pub record IsListEnd (things : Things) (o n : ℕ) : Type 0 where
  pub within : n ≤ length_of things o
  pub all : all_before things o n ≡ true
  pub missing : n < length_of things o → item_there things o n ≡ false

-- the ends of all lists, by the numbers of objects, which have 32 bits
abbrev pub AreListEnds : Things → List ℕ → Type 0
AreListEnds things ends = (o : ℕ) → o < 4294967296 → is_list (slice_get things.kinds.items o) ≡ true → IsListEnd things o (unwrap_or (slice_get ends o) 0)

-- an object holds a value in which another stands
pub record HoldsChild (view : ValuesView) (children : List (ℕ × Value)) (o p : ℕ) : Type 0 where
  pub child : Value
  pub among : IsIn children (o, child)
  pub stands : StandsIn p (contents view child)
