-- A store that names only texts and tuples which have numbers (this project's profile).
use Rattle.std.specs.Prelude.{◌≡◌, ℕ, ◌<◌, ⊤, length, slice_get, Some}
use Rattle.prov_base.specs.declared.place.Pos.{Pos}
use Rattle.py_value.specs.Named.{IsNamedContent, IsNamedKind}
use Rattle.py_value.specs.Seen.{IsNamedLocation}
use Rattle.py_value.specs.Values.{ValuesView, AreNamed}
use Rattle.py_value.specs.declared.access.Kind.{Kind}
use Rattle.py_value.specs.declared.access.Location.{Location}
use Rattle.object_store.specs.Store.{StoreView, Held, whole, keys, bytes, held_at, kinds, name_at}

abbrev pub IsNamedHeld : ValuesView → Held → Type 0
IsNamedHeld values (whole content) = IsNamedContent values content
IsNamedHeld values (keys ks) = AreNamed values ks
IsNamedHeld values (bytes bs) = ⊤

-- The texts and tuples of each location that has something, and of what stands there, have numbers, and so have those of each
-- kind and the noted names.
pub record IsNamedStore (values : ValuesView) (store : StoreView) : Type 0 where
  pub held : (l : Location) (w : Held) → held_at store l ≡ Some w → IsNamedLocation values l × IsNamedHeld values w
  pub kinds_named : (o : ℕ) (kind : Kind) → slice_get (kinds store) o ≡ Some kind → IsNamedKind values (Some kind)
  pub names_named : (place : Pos) (name : ℕ) → name_at store place ≡ Some name → name < length values.texts
