-- A file that a device has is put into what is held, and it goes on to stand for the same stores.
use Rattle.std.proofs.Common.{◌≡◌, refl, sym, ap, subst, ◌∙◌, arith, ◌↔◌, ℕ, ◌<◌, Bool, true, false, List, [], ◌∷◌, map, length, slice_get, Option, Some, None, IsSome, Result, Ok, Err, if◌then◌else◌}
use Rattle.std.specs.Option.{option_map, option_and_then}
use Rattle.std.specs.Result.{OnOk, OnErr}
use Rattle.std.proofs.Math.Path.{fun_ext}
use Rattle.std.proofs.lemmas.Bool.{false≢true}
use Rattle.object_store.specs.Keyed.{SeenMap, IsKeyed, AreUnder}
use Rattle.object_store.specs.Named.{IsNamedStore, IsNamedHeld}
use Rattle.object_store.specs.Performing.{keys_among}
use Rattle.object_store.specs.Seen.{held_seen, seen_at}
use Rattle.object_store.specs.Store.{StoreView, Held, bytes, held_at, name_at, file_at as held_file, Writes}
use Rattle.op_state.specs.Holding.{Found, or_found, with_found, Holds}
use Rattle.op_state.specs.Held.{HeldView, StandsHeld}
use Rattle.op_state.proofs.MixedFiles.{Files, mixed}
use Rattle.op_work.specs.Work.{WorkView, Extends}
use Rattle.prov_base.specs.declared.place.Pos.{Pos}
use Rattle.prov_base.specs.declared.refusal.Memory.{Memory as Want}
use Rattle.py_model.specs.Store.{RunStore}
use Rattle.py_value.specs.Contents.{Contents}
use Rattle.py_value.specs.Seen.{SeenLocation, SeenContent, var_at, len_at, item_at, entry_at, order_at, file_at, offset_at, closed_at, method_at, base_at, IsNamedLocation, location_seen, location_at, kind_seen, bytes_of}
use Rattle.py_value.specs.Values.{ValuesView, AreInterned}
use Rattle.py_value.specs.contracts.access.LocationPartialEq.TheImpl.{ghosts as locations}
use Rattle.py_value.specs.declared.access.Kind.TheVariants.{File as FileKind}
use Rattle.py_value.specs.declared.access.Location.{Location}
use Rattle.py_value.specs.declared.access.Location.TheVariants.{File}

-- the laws that are used
abbrev pub SeenBack : Type 0
SeenBack = (view : ValuesView) (place : SeenLocation) (l : Location) → AreInterned view → location_at view place ≡ Some l → IsNamedLocation view l × (location_seen view l ≡ place)

abbrev pub SameLocations : Type 0
SameLocations = (l m : Location) → (locations.eq l m ≡ true) ↔ (l ≡ m)

abbrev pub StaysNamed : Type 0
StaysNamed = (table : ValuesView) (old new : StoreView) (l : Location) (w : Held) → IsNamedStore table old → IsNamedLocation table l → IsNamedHeld table w → Writes old new l w → IsNamedStore table new

abbrev is_file : SeenLocation → Bool
is_file (file_at path) = true
is_file place = false

-- the bytes that a content is
same_bytes : (q p : List ℕ) → file_at q ≡ file_at p → q ≡ p
same_bytes q p is = cc

-- maps that differ in files alone are keyed alike
under_mixed : (files : Files) (at : SeenMap) (o : ℕ) (keys : List Contents) → AreUnder at o keys → AreUnder (mixed files at) o keys
under_mixed files at o [] under = tt
under_mixed files at o (key ∷ keys) under = (under.0, under_mixed files at o keys under.1)

keyed_mixed : (files : Files) (at : SeenMap) → IsKeyed at → IsKeyed (mixed files at)
keyed_mixed files at keyed = record {
  apart = keyed.apart;
  entries = λ o. under_mixed files at o (keys_among (at (order_at o))) (keyed.entries o);
  forms = keyed.forms;
}

-- what is there, where one more is
there_more : (test : Bool) (bs : List ℕ) (old new : Option (List ℕ)) → option_map bytes new ≡ (if test then Some (bytes bs) else option_map bytes old) → IsSome old → IsSome new
there_more test bs old (Some c) is there = refl
there_more true bs old None is there = cc
there_more false bs (Some c) None is there = cc
there_more false bs None None is there = there

module _ (equal : SameLocations) (back : SeenBack) (stays : StaysNamed) (old new : StoreView) (path : ℕ) (bs : List ℕ) (writes : Writes old new (File path) (bytes bs)) where
  pub there_now : IsSome (held_file new path)
  there_now = by_held (held_file new path) (writes.held (File path) ∙ ap (λ test. if test then Some (bytes bs) else held_at old (File path)) ((equal (File path) (File path)).1 refl))
    where
      by_held : (there : Option (List ℕ)) → option_map bytes there ≡ Some (bytes bs) → IsSome there
      by_held (Some c) is = refl
      by_held None is = cc

  module _ (none : held_file old path ≡ None) (table : ValuesView) (interned : AreInterned table) where
    abbrev seen_in : StoreView → Option Location → Option SeenContent
    seen_in store l = option_and_then (λ m. option_map (held_seen table) (held_at store m)) l

    -- at a place that is no file
    other_place : (place : SeenLocation) → is_file place ≡ false → seen_at table new place ≡ seen_at table old place
    other_place place no_file = by_location (location_at table place) refl
      where
        by_test : (l : Location) → location_seen table l ≡ place → (test : Bool) → locations.eq (File path) l ≡ test
            → option_map (held_seen table) (if test then Some (bytes bs) else held_at old l) ≡ option_map (held_seen table) (held_at old l)
        by_test l is true same = absurd (false≢true (sym no_file ∙ (ap is_file (sym is) ∙ sym (ap (λ m. is_file (location_seen table m)) ((equal (File path) l).0 same)))))
        by_test l is false same = refl

        by_location : (l : Option Location) → location_at table place ≡ l → seen_in new l ≡ seen_in old l
        by_location None at = refl
        by_location (Some l) at = ap (option_map (held_seen table)) (writes.held l) ∙ by_test l (back table place l interned at).1 (locations.eq (File path) l) refl

    module _ (found : Found) (has : found (bytes_of table path) ≡ Some bs) where
      -- at a file
      file_place : (q : List ℕ) → or_found (seen_at table new (file_at q)) (found q) ≡ or_found (seen_at table old (file_at q)) (found q)
      file_place q = by_location (location_at table (file_at q)) refl
        where
          here : (l : Location) → l ≡ File path → location_seen table l ≡ file_at q
              → or_found (option_map (held_seen table) (Some (bytes bs))) (found q) ≡ or_found (option_map (held_seen table) (held_at old l)) (found q)
          here l l_is is =
              let q_is : bytes_of table path ≡ q = same_bytes (bytes_of table path) q (sym (ap (location_seen table) l_is) ∙ is) in
              let nothing_there : held_at old l ≡ None = ap (held_at old) l_is ∙ ap (option_map bytes) none in
              sym (ap (λ there. or_found (option_map (held_seen table) there) (found q)) nothing_there ∙ ap (or_found None) (ap found (sym q_is) ∙ has))

          by_test : (l : Location) → location_seen table l ≡ file_at q → (test : Bool) → locations.eq (File path) l ≡ test
              → or_found (option_map (held_seen table) (if test then Some (bytes bs) else held_at old l)) (found q) ≡ or_found (option_map (held_seen table) (held_at old l)) (found q)
          by_test l is true same = here l (sym ((equal (File path) l).0 same)) is
          by_test l is false same = refl

          by_location : (l : Option Location) → location_at table (file_at q) ≡ l → or_found (seen_in new l) (found q) ≡ or_found (seen_in old l) (found q)
          by_location None at = refl
          by_location (Some l) at = ap (λ there. or_found (option_map (held_seen table) there) (found q)) (writes.held l)
              ∙ by_test l (back table (file_at q) l interned at).1 (locations.eq (File path) l) refl

      found_same : (place : SeenLocation) → with_found found (seen_at table new) place ≡ with_found found (seen_at table old) place
      found_same (var_at scope name) = other_place (var_at scope name) refl
      found_same (len_at o) = other_place (len_at o) refl
      found_same (item_at o i) = other_place (item_at o i) refl
      found_same (entry_at o key) = other_place (entry_at o key) refl
      found_same (order_at o) = other_place (order_at o) refl
      found_same (file_at q) = file_place q
      found_same (offset_at o) = other_place (offset_at o) refl
      found_same (closed_at o) = other_place (closed_at o) refl
      found_same (method_at place name) = other_place (method_at place name) refl
      found_same (base_at place) = other_place (base_at place) refl

    mixed_place : (place : SeenLocation) → seen_at table new place ≡ mixed (λ q. seen_at table new (file_at q)) (seen_at table old) place
    mixed_place (var_at scope name) = other_place (var_at scope name) refl
    mixed_place (len_at o) = other_place (len_at o) refl
    mixed_place (item_at o i) = other_place (item_at o i) refl
    mixed_place (entry_at o key) = other_place (entry_at o key) refl
    mixed_place (order_at o) = other_place (order_at o) refl
    mixed_place (file_at q) = refl
    mixed_place (offset_at o) = other_place (offset_at o) refl
    mixed_place (closed_at o) = other_place (closed_at o) refl
    mixed_place (method_at place name) = other_place (method_at place name) refl
    mixed_place (base_at place) = other_place (base_at place) refl

  name_stays : (place : Pos) → name_at old place ≡ name_at new place
  name_stays place = ap (λ names. name_at (record old { names = names }) place) (sym writes.names_stay)

  holds_placed : held_file old path ≡ None → (found : Found) (table : ValuesView) (run : RunStore) → path < length table.texts → found (bytes_of table path) ≡ Some bs
      → Holds found table old run → Holds found table new run
  holds_placed none found table run within has holds = record {
    interned = holds.interned;
    named = stays table old new (File path) (bytes bs) holds.named within tt writes;
    at_is = holds.at_is ∙ sym (fun_ext (found_same none table holds.interned found has));
    kinds_are = holds.kinds_are ∙ ap (map (kind_seen table)) (sym writes.kinds_stay);
    names_are = λ place. holds.names_are place ∙ ap (λ names. option_map (bytes_of table) names) (name_stays place);
    keyed = subst IsKeyed (sym (fun_ext (mixed_place none table holds.interned))) (keyed_mixed (λ q. seen_at table new (file_at q)) (seen_at table old) holds.keyed);
    files = λ o q mode is. there_more (locations.eq (File path) (File q)) bs (held_file old q) (held_file new q) (writes.held (File q)) (holds.files o q mode (subst (λ ks. slice_get ks o ≡ Some (FileKind q mode)) writes.kinds_stay is));
  }

-- what was placed, or was not
pub place_held : SameLocations → SeenBack → StaysNamed → (old new : StoreView) (path : ℕ) (bs : List ℕ) (result : Result (Unit {0}) Want) → OnOk result (Writes old new (File path) (bytes bs))
    → OnOk result (IsSome (held_file new path))
place_held equal back stays old new path bs (Ok done) placed = there_now equal back stays old new path bs placed
place_held equal back stays old new path bs (Err want) placed = tt

pub place_stands : SameLocations → SeenBack → StaysNamed → (old new : HeldView) (path : ℕ) (bs : List ℕ) (result : Result (Unit {0}) Want) → OnOk result (Writes old.work.store new.work.store (File path) (bytes bs))
    → OnErr result (new.work ≡ old.work) → new.opened ≡ old.opened → new.output ≡ old.output → path < length old.work.values.texts → held_file old.work.store path ≡ None
    → (found : Found) (table : ValuesView) (run : RunStore) → Extends old.work.values table → found (bytes_of table path) ≡ Some bs → StandsHeld found table old run → StandsHeld found table new run
place_stands equal back stays old new path bs (Ok done) placed err opened_is output_is within none found table run extends has stands =
    let more : path < length table.texts = omega (arith, within, extends.few.0) in
    record {
      holds = holds_placed equal back stays old.work.store new.work.store path bs placed none found table run more has stands.holds;
      printed_is = stands.printed_is ∙ sym output_is;
      opened_are = stands.opened_are ∙ ap (map (bytes_of table)) (sym opened_is);
    }
place_stands equal back stays old new path bs (Err want) placed err opened_is output_is within none found table run extends has stands = record {
  holds = subst (λ (w : WorkView). Holds found table w.store run) (sym err) stands.holds;
  printed_is = stands.printed_is ∙ sym output_is;
  opened_are = stands.opened_are ∙ ap (map (bytes_of table)) (sym opened_is);
}
