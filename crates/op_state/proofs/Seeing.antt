-- The store of a run, where it is what is held, is seen so by the work of an operation.
use Rattle.std.proofs.Common.{◌≡◌, refl, ap, ◌∙◌, ℕ, List, [], Option, Some, None, IsSome}
use Rattle.std.specs.Option.{option_map}
use Rattle.object_store.specs.Keyed.{SeenMap}
use Rattle.object_store.specs.Seen.{held_seen, seen_at, store_seen}
use Rattle.object_store.specs.Store.{StoreView, bytes, held_at, file_at as held_file, IsReadWhole}
use Rattle.py_model.specs.Store.{RunStore, empty, order_of, file_of}
use Rattle.py_value.specs.Seen.{SeenContent, location_seen, bytes_of, order_at, file_at, IsNamedLocation}
use Rattle.py_value.specs.Values.{ValuesView, AreInterned}
use Rattle.py_value.specs.declared.access.Location.{Location}
use Rattle.py_value.specs.declared.access.Location.TheVariants.{Var, Len, Item, Entry, Order, File, Offset, Closed, Method, Base}
use Rattle.op_state.specs.Holding.{Found, or_found, with_found, Holds}
use Rattle.op_work.specs.Work.{IsSeen}

-- the law that a store is one map over contents
abbrev pub OverContents : Type 0
OverContents = (values : ValuesView) (store : StoreView) (l : Location) → AreInterned values → IsNamedLocation values l
    → (store_seen values store).at (location_seen values l) ≡ option_map (held_seen values) (held_at store l)

not_a_file : (found : Found) (held : SeenMap) (table : ValuesView) (l : Location) → IsReadWhole l → with_found found held (location_seen table l) ≡ held (location_seen table l)
not_a_file found held table (Var scope name) whole = refl
not_a_file found held table (Len o) whole = refl
not_a_file found held table (Item o i) whole = refl
not_a_file found held table (Entry o key) whole = refl
not_a_file found held table (Order o) whole = absurd whole
not_a_file found held table (File path) whole = absurd whole
not_a_file found held table (Offset o) whole = refl
not_a_file found held table (Closed o) whole = refl
not_a_file found held table (Method place name) whole = refl
not_a_file found held table (Base place) whole = refl

-- the store in which this stands everywhere
abbrev all : Option SeenContent → RunStore
all content = record empty { at = λ l. content }

pub holds_is_seen : OverContents → (found : Found) (table : ValuesView) (held : StoreView) (run : RunStore) → Holds found table held run → IsSeen table held run
holds_is_seen law found table held run holds = record {
  interned = holds.interned;
  whole = λ l whole named. ap (λ at. at (location_seen table l)) holds.at_is ∙ (not_a_file found (seen_at table held) table l whole ∙ law table held l holds.interned named);
  orders = λ o. ap (λ at. order_of (all (at (order_at o))) 0) holds.at_is;
  files = λ path named there. ap (λ c. file_of (all c) []) (ap (λ at. at (file_at (bytes_of table path))) holds.at_is
      ∙ ap (λ c. or_found c (found (bytes_of table path))) (law table held (File path) holds.interned named)) ∙ off (found (bytes_of table path)) (held_file held path) there;
  opened_files = holds.files;
  kinds_are = holds.kinds_are;
  names_are = holds.names_are;
}
  where
    off : (found : Option (List ℕ)) (file : Option (List ℕ)) → IsSome file → file_of (all (or_found (option_map (held_seen table) (option_map bytes file)) found)) [] ≡ file
    off found (Some b) there = refl
    off found None there = cc
