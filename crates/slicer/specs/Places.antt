-- Locations that are reached from a value: own places of objects that are.
use Rattle.std.specs.Prelude.{ℕ, Bool, true, nat_lt, slice_get}
use Rattle.py_value.specs.declared.access.Location.{Location}
use Rattle.py_value.specs.declared.access.Location.TheVariants.{Var, Len, Item, Entry, Order, File, Offset, Closed, Method, Base}
use Rattle.py_value.specs.declared.value.Value.{Value}
use Rattle.py_value.specs.declared.value.Value.TheVariants.{None as Nothing, Bool as Truth, Int, Text, Tuple, Range, Fn, Class, Exc, Builtin, Object}
use Rattle.py_value.specs.Contents.{contents}
use Rattle.py_value.specs.Seen.{location_seen, IsNamedLocation}
use Rattle.py_value.specs.Values.{ValuesView}
use Rattle.py_model.specs.Store.{RunStore}
use Rattle.slice_law.specs.Reached.{IsReached, IsOwn}

-- a location with numbers is an own place of an object that is reached
pub record IsReachedPlace (view : ValuesView) (store : RunStore) (v : Value) (at : Location) : Type 0 where
  pub named : IsNamedLocation view at
  pub o : ℕ
  pub reached : IsReached store (contents view v) o
  pub own : IsOwn store o (slice_get store.kinds o) (location_seen view at)

-- a value is one of so many texts or tuples, and the names of a location are
abbrev pub is_named_value : ℕ → ℕ → Value → Bool
is_named_value texts tuples (Text n) = nat_lt n texts
is_named_value texts tuples (Tuple n) = nat_lt n tuples
is_named_value texts tuples Nothing = true
is_named_value texts tuples (Truth b) = true
is_named_value texts tuples (Int i) = true
is_named_value texts tuples (Range start end step) = true
is_named_value texts tuples (Fn at) = true
is_named_value texts tuples (Class at) = true
is_named_value texts tuples (Exc n) = true
is_named_value texts tuples (Builtin n) = true
is_named_value texts tuples (Object n) = true

abbrev pub is_named_place : ℕ → ℕ → Location → Bool
is_named_place texts tuples (Var scope name) = nat_lt name texts
is_named_place texts tuples (Entry o key) = is_named_value texts tuples key.value
is_named_place texts tuples (File path) = nat_lt path texts
is_named_place texts tuples (Method class name) = nat_lt name texts
is_named_place texts tuples (Len o) = true
is_named_place texts tuples (Item o i) = true
is_named_place texts tuples (Order o) = true
is_named_place texts tuples (Offset o) = true
is_named_place texts tuples (Closed o) = true
is_named_place texts tuples (Base class) = true
