-- No public clause cites this file.
-- Whose own place a location is.
use Rattle.std.specs.Prelude.{ℕ, Bool, true, false, List, slice_get, Option, Some, None, if◌then◌else◌}
use Rattle.py_value.specs.declared.access.Location.{Location}
use Rattle.py_value.specs.declared.access.Location.TheVariants.{Var, Len, Item, Entry, Order, File, Offset, Closed, Method, Base}
use Rattle.slice_things.specs.declared.things.Shape.{Shape}
use Rattle.slice_things.specs.declared.things.Shape.TheVariants.{List as ListShape, Keyed, File as FileShape}
use Rattle.slice_things.specs.declared.things.Things.{Things}
use Rattle.slice_things.specs.Children.{is_list, is_keyed, has_item, has_entry}
use Rattle.slice_things.specs.Forms.{form_in}

abbrev pub is_file : Option Shape → Bool
is_file None = false
is_file (Some ListShape) = false
is_file (Some Keyed) = false
is_file (Some FileShape) = true

abbrev pub own_if : Bool → ℕ → Option ℕ
own_if b o = if b then Some o else None

abbrev pub owner_in : Things → List ℕ → Location → Option ℕ
owner_in things numbers (Len o) = own_if (is_list (slice_get things.kinds.items o)) o
owner_in things numbers (Item o i) = own_if (has_item things o i) o
owner_in things numbers (Entry o key) = own_if (has_entry things o (form_in numbers key.value)) o
owner_in things numbers (Order o) = own_if (is_keyed (slice_get things.kinds.items o)) o
owner_in things numbers (Offset o) = own_if (is_file (slice_get things.kinds.items o)) o
owner_in things numbers (Closed o) = own_if (is_file (slice_get things.kinds.items o)) o
owner_in things numbers (Var scope name) = None
owner_in things numbers (File path) = None
owner_in things numbers (Method class name) = None
owner_in things numbers (Base class) = None
