-- What rows leave in a store, as far as graph texts read it.
use Rattle.std.specs.Prelude.{◌≡◌, ℕ, List, [], map, slice_get, Some}
use Rattle.py_value.specs.declared.access.Kind.{Kind}
use Rattle.py_value.specs.declared.access.Location.{Location}
use Rattle.py_value.specs.Named.{IsNamedKind}
use Rattle.py_value.specs.Seen.{kind_seen, location_seen, IsNamedLocation}
use Rattle.py_value.specs.Values.{ValuesView}
use Rattle.py_model.specs.Moment.{Moment}
use Rattle.py_model.specs.Store.{RunStore, order_of}
use Rattle.row_words.specs.Fits.{Each}
use Rattle.slice_law.specs.Closed.{store_after}
use Rattle.slice_things.specs.declared.forms.Forms.{Forms}
use Rattle.held_rows.specs.declared.pass.RowStore.{RowStore}
use Rattle.held_rows.specs.Kept.{kept_at, kept_seen, what_stands, IsNamedKept}
use Rattle.held_rows.specs.Steps.{steps_in, keys_after, IsNamedStep}

-- The kinds of the objects, what stands at each place, where keys are their forms, and the keys of each order. All that they name is there.
pub record HoldsRows (view : ValuesView) (forms : Forms) (rows : RowStore) (store : RunStore) : Type 0 where
  pub kinds : map (kind_seen view) rows.kinds.items ≡ store.kinds
  pub kinds_named : (o : ℕ) (kind : Kind) → slice_get rows.kinds.items o ≡ Some kind → IsNamedKind view (Some kind)
  pub places : (l : Location) → IsNamedLocation forms.values l → kept_seen view (kept_at rows.words.items rows.places.entries l) ≡ what_stands (store.at (location_seen forms.values l))
  pub places_named : (l : Location) → IsNamedKept view (kept_at rows.words.items rows.places.entries l)
  pub orders : (o : ℕ) → keys_after view (steps_in rows.orders.entries o) [] ≡ order_of store o
  pub orders_named : (o : ℕ) → Each (IsNamedStep view) (steps_in rows.orders.entries o)

-- it is so after moments, in the store with which they begin
abbrev pub HoldsAfter : ValuesView → Forms → RunStore → RowStore → List Moment → Type 0
HoldsAfter view forms opening rows told = HoldsRows view forms rows (store_after opening told)
