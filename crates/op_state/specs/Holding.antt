-- What is held of the store of a run (this project's profile): a store over numbers of texts and tuples. Files that a device has and that were
-- not fetched yet may stand in the run's store besides.
use Rattle.std.specs.Prelude.{◌≡◌, ℕ, List, map, slice_get, Option, Some, None, IsSome}
use Rattle.std.specs.Option.{option_map}
use Rattle.object_store.specs.Keyed.{SeenMap, IsKeyed}
use Rattle.object_store.specs.Named.{IsNamedStore}
use Rattle.object_store.specs.Seen.{seen_at}
use Rattle.object_store.specs.Store.{StoreView, file_at as held_file, kinds, name_at}
use Rattle.prov_base.specs.declared.place.Pos.{Pos}
use Rattle.py_model.specs.Store.{RunStore}
use Rattle.py_value.specs.Seen.{SeenContent, kind_seen, bytes_of, file_at, file_is}
use Rattle.py_value.specs.Values.{ValuesView, AreInterned}
use Rattle.py_value.specs.declared.access.Kind.TheVariants.{File}
use Rattle.py_value.specs.declared.access.Mode.{Mode}

-- what a device has at a path
abbrev pub Found : Type 0
Found = List ℕ → Option (List ℕ)

abbrev pub or_found : Option SeenContent → Option (List ℕ) → Option SeenContent
or_found (Some content) found = Some content
or_found None (Some bytes) = Some (file_is bytes)
or_found None None = None

-- a map with the files that were not fetched yet
abbrev pub with_found : Found → SeenMap → SeenMap
with_found found held (file_at path) = or_found (held (file_at path)) (found path)
with_found found held place = held place

-- The store of a run is what is held, by a table of texts and tuples and by what the device has. Of each file object the file is held.
pub record Holds (found : Found) (table : ValuesView) (held : StoreView) (run : RunStore) : Type 0 where
  pub interned : AreInterned table
  pub named : IsNamedStore table held
  pub at_is : run.at ≡ with_found found (seen_at table held)
  pub kinds_are : run.kinds ≡ map (kind_seen table) (kinds held)
  pub names_are : (place : Pos) → run.names place ≡ option_map (bytes_of table) (name_at held place)
  pub keyed : IsKeyed (seen_at table held)
  pub files : (o path : ℕ) (mode : Mode) → slice_get (kinds held) o ≡ Some (File path mode) → IsSome (held_file held path)
