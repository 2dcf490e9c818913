-- A store seen without numbers for texts and tuples (this project's profile).
use Rattle.std.specs.Prelude.{map, Option}
use Rattle.std.specs.Option.{option_map, option_and_then}
use Rattle.py_value.specs.Values.{ValuesView}
use Rattle.py_value.specs.Contents.{contents}
use Rattle.py_value.specs.Seen.{SeenLocation, SeenContent, SeenStore, order_is, file_is, content_seen, kind_seen, bytes_of, location_at}
use Rattle.object_store.specs.Store.{StoreView, Held, whole, keys, bytes, held_at, kinds, name_at}

-- what stands at a location
abbrev pub held_seen : ValuesView → Held → SeenContent
held_seen values (whole content) = content_seen values content
held_seen values (keys ks) = order_is (map (contents values) ks)
held_seen values (bytes bs) = file_is bs

-- what stands at a location without numbers: nothing where no location of the store is this one
abbrev pub seen_at : ValuesView → StoreView → SeenLocation → Option SeenContent
seen_at values store place = option_and_then (λ l. option_map (held_seen values) (held_at store l)) (location_at values place)

-- the whole store
abbrev pub store_seen : ValuesView → StoreView → SeenStore
store_seen values store = record {
  at = seen_at values store;
  kinds = map (kind_seen values) (kinds store);
  name = λ place. option_map (bytes_of values) (name_at store place);
}
