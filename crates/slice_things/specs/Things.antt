-- What is known of the objects of a store.
use Rattle.std.specs.Prelude.{◌≡◌, ℕ, ⊤, ◌⊎◌, List, map}
use Rattle.py_value.specs.declared.access.Access.{Access}
use Rattle.py_value.specs.declared.access.Access.TheVariants.{Read, Set, Update}
use Rattle.py_value.specs.declared.access.Location.{Location}
use Rattle.py_value.specs.declared.access.Location.TheVariants.{Entry}
use Rattle.py_value.specs.Changes.{after_access, after_accesses}
use Rattle.py_value.specs.Contents.{contents}
use Rattle.py_value.specs.KeyOf.{normal}
use Rattle.py_value.specs.Seen.{SeenAccess, SeenKind, a_list, a_dict, an_instance, a_file, location_seen, IsNamedLocation}
use Rattle.py_value.specs.Values.{ValuesView}
use Rattle.py_model.specs.Moment.{Moment}
use Rattle.py_model.specs.Store.{RunStore, order_of}
use Rattle.row_words.specs.Fits.{Each}
use Rattle.slice_law.specs.Closed.{store_after}
use Rattle.trace_rows.specs.declared.row.Row.{Row}
use Rattle.trace_rows.specs.declared.row.Row.TheVariants.{Text, Tuple, Begin, Do, Enter, Leave, End}
use Rattle.slice_things.specs.declared.forms.Forms.{Forms}
use Rattle.slice_things.specs.declared.held.Held.TheVariants.{Nothing}
use Rattle.slice_things.specs.declared.things.Shape.{Shape}
use Rattle.slice_things.specs.declared.things.Shape.TheVariants.{List as ListShape, Keyed, File as FileShape}
use Rattle.slice_things.specs.declared.things.Things.{Things}
use Rattle.slice_things.specs.Counts.{often}
use Rattle.slice_things.specs.Held.{Agrees, held_seen, what_stands, noted_at}
use Rattle.slice_things.specs.Orders.{AreCounts, IsPlain, IsPlainChange, keys_in, order_in}

abbrev pub shape_seen : SeenKind → Shape
shape_seen a_list = ListShape
shape_seen a_dict = Keyed
shape_seen (an_instance of) = Keyed
shape_seen (a_file path mode) = FileShape

-- What is known is so in the store: the kind of each object, what stands at each place, where keys are their forms, and how often each key
-- stands in each order.
pub record HoldsStore (view : ValuesView) (forms : Forms) (things : Things) (store : RunStore) : Type 0 where
  pub kinds : things.kinds.items ≡ map shape_seen store.kinds
  pub places : (l : Location) → IsNamedLocation forms.values l → Agrees (held_seen view (noted_at things.places.entries l)) (what_stands (store.at (location_seen forms.values l)))
  pub known : (l : Location) → IsNamedLocation forms.values l ⊎ (noted_at things.places.entries l ≡ Nothing)
  pub orders : (o : ℕ) → AreCounts forms (λ f. often f (order_in things.orders.entries o)) (order_of store o)

-- it is so after moments, in the store with which they begin
abbrev pub HoldsThings : ValuesView → Forms → RunStore → Things → List Moment → Type 0
HoldsThings view forms opening things told = HoldsStore view forms things (store_after opening told)

-- the store after accesses
abbrev pub after_one : SeenAccess → RunStore → RunStore
after_one access store = record store { at = after_access access store.at }

abbrev pub after_all : List SeenAccess → RunStore → RunStore
after_all accesses store = record store { at = after_accesses accesses store.at }

-- The keys of the locations that a row writes are normal, and no object stands in a key that it puts into an order.
abbrev pub IsNormalLocation : ValuesView → Location → Type 0
IsNormalLocation view (Entry o key) = normal (contents view key.value) ≡ contents view key.value
IsNormalLocation view l = ⊤

abbrev pub IsNormalAccess : ValuesView → Access → Type 0
IsNormalAccess view (Read l) = ⊤
IsNormalAccess view (Set l content) = IsNormalLocation view l × Each (IsPlain view) (keys_in content)
IsNormalAccess view (Update l change) = IsNormalLocation view l × IsPlainChange view change

abbrev pub IsNormalRow : ValuesView → Row → Type 0
IsNormalRow view (Do at op values answer made accesses weight) = Each (IsNormalAccess view) accesses
IsNormalRow view (Enter call def values accesses) = Each (IsNormalAccess view) accesses
IsNormalRow view (Text text) = ⊤
IsNormalRow view (Tuple parts) = ⊤
IsNormalRow view (Begin statement) = ⊤
IsNormalRow view (Leave v) = ⊤
IsNormalRow view (End how) = ⊤
