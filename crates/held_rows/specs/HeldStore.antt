-- The store that rows leave, as far as graph texts read it.
use Rattle.std.specs.Prelude.{◌≡◌, ℕ, ◌==◌, Bool, List, [], map, slice_get, unwrap_or, Option, Some, None}
use Rattle.std.specs.Map.{lookup}
use Rattle.std.specs.Option.{option_map}
use Rattle.py_value.specs.declared.access.Kind.{Kind}
use Rattle.py_value.specs.declared.access.Location.{Location}
use Rattle.py_value.specs.declared.value.Value.{Value}
use Rattle.py_value.specs.Contents.{Contents, nothing, contents}
use Rattle.py_value.specs.Named.{IsNamedKind}
use Rattle.py_value.specs.Seen.{SeenLocation, SeenContent, var_at, len_at, item_at, entry_at, order_at, file_at, offset_at, closed_at, method_at, base_at, order_is, kind_seen, location_at}
use Rattle.py_value.specs.Values.{ValuesView, IsNamed}
use Rattle.py_model.specs.Store.{RunStore, empty, len_of, item_of, entry_of, order_of, offset_of, closed_of}
use Rattle.row_words.specs.Fits.{Each}
use Rattle.slice_things.specs.declared.forms.Forms.{Forms}
use Rattle.slice_things.specs.Forms.{AreForms}
use Rattle.held_rows.specs.declared.kept.Kept.{Kept}
use Rattle.held_rows.specs.declared.pass.RowStore.{RowStore}
use Rattle.held_rows.specs.Kept.{kept_at, kept_seen, IsNamedKept}
use Rattle.held_rows.specs.Steps.{steps_in, IsNamedStep}
use Rattle.held_rows.specs.Settled.{AreKeys}

-- What contracts see of it: the texts and tuples that its values name, the table of the forms of keys, the numbers of the texts of the path and the
-- arguments, the kinds of the objects, what is kept at places, and the keys of orders.
pub record HeldView : Type 0 where
  pub values : ValuesView
  pub forms : ValuesView
  pub words : List ℕ
  pub kinds : List Kind
  pub places : List (Location × Kept)
  pub orders : List (ℕ × List Value)

-- the keys of an object's order
abbrev pub keys_in : List (ℕ × List Value) → ℕ → List Value
keys_in orders o = unwrap_or (lookup (λ p. o == p) orders) []

-- what stands at a place: the keys of an order, and for all else what is kept at the place with this form
module _ (h : HeldView) where
  abbrev pub content_at : Option Location → Option SeenContent
  content_at None = None
  content_at (Some l) = kept_seen h.values (kept_at h.words h.places l)

  abbrev pub held_at : SeenLocation → Option SeenContent
  held_at (order_at o) = Some (order_is (map (contents h.values) (keys_in h.orders o)))
  held_at (len_at o) = content_at (location_at h.forms (len_at o))
  held_at (item_at o i) = content_at (location_at h.forms (item_at o i))
  held_at (entry_at o key) = content_at (location_at h.forms (entry_at o key))
  held_at (offset_at o) = content_at (location_at h.forms (offset_at o))
  held_at (closed_at o) = content_at (location_at h.forms (closed_at o))
  held_at (var_at scope name) = None
  held_at (file_at path) = None
  held_at (method_at class name) = None
  held_at (base_at class) = None

  abbrev pub store_of : RunStore
  store_of = record empty { at = held_at; kinds = map (kind_seen h.values) h.kinds }

abbrev pub view_of : ValuesView → Forms → RowStore → List (ℕ × List Value) → HeldView
view_of view forms rows orders = record { values = view; forms = forms.values; words = rows.words.items; kinds = rows.kinds.items; places = rows.places.entries; orders = orders }

-- the texts and tuples that rows leave are there
pub record IsNamedStore (view : ValuesView) (rows : RowStore) : Type 0 where
  pub kinds_named : (o : ℕ) (kind : Kind) → slice_get rows.kinds.items o ≡ Some kind → IsNamedKind view (Some kind)
  pub places_named : (l : Location) → IsNamedKept view (kept_at rows.words.items rows.places.entries l)
  pub orders_named : (o : ℕ) → Each (IsNamedStep view) (steps_in rows.orders.entries o)

pub record IsHeld (view : ValuesView) (forms : Forms) (rows : RowStore) (orders : List (ℕ × List Value)) : Type 0 where
  pub forms_are : AreForms view forms
  pub kinds_named : (o : ℕ) (kind : Kind) → slice_get rows.kinds.items o ≡ Some kind → IsNamedKind view (Some kind)
  pub places_named : (l : Location) → IsNamedKept view (kept_at rows.words.items rows.places.entries l)
  pub orders_named : (o : ℕ) → Each (IsNamed view) (keys_in orders o)

-- the keys of an order are those of values, which are there
pub record HasKeys (view : ValuesView) (store : RunStore) (o : ℕ) : Type 0 where
  pub keys : List Value
  pub are : AreKeys view keys (order_of store o)

-- Two stores are read alike by graph texts: kinds, lengths, items, entries under keys that are there, orders, offsets, and what was closed.
pub record AreReadAlike (view : ValuesView) (s t : RunStore) : Type 0 where
  pub kinds : s.kinds ≡ t.kinds
  pub lengths : (o : ℕ) → len_of s o ≡ len_of t o
  pub items : (o i : ℕ) → item_of s o i ≡ item_of t o i
  pub entries : (o : ℕ) (key : Value) → IsNamed view key → entry_of s o (contents view key) ≡ entry_of t o (contents view key)
  pub orders : (o : ℕ) → order_of s o ≡ order_of t o
  pub keys : (o : ℕ) → HasKeys view s o
  pub offsets : (o : ℕ) → offset_of s o ≡ offset_of t o
  pub closed : (o : ℕ) → closed_of s o ≡ closed_of t o

-- what is read of a content
abbrev pub holding : Option SeenContent → RunStore
holding content = record empty { at = λ l. content }

abbrev pub length_held : Option SeenContent → ℕ
length_held content = len_of (holding content) 0

abbrev pub item_held : Option SeenContent → Option Contents
item_held content = item_of (holding content) 0 0

abbrev pub entry_held : Option SeenContent → Option (Contents × Contents)
entry_held content = entry_of (holding content) 0 nothing

abbrev pub value_held : Option SeenContent → Option Contents
value_held content = option_map (λ (entry : Contents × Contents). entry.1) (entry_held content)

abbrev pub offset_held : Option SeenContent → ℕ
offset_held content = offset_of (holding content) 0

abbrev pub closed_held : Option SeenContent → Bool
closed_held content = closed_of (holding content) 0
