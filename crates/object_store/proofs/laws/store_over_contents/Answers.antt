use Rattle.std.proofs.Common.{◌≡◌, Bool, true, false, Option, Some, refl, sym, ap, ◌∙◌, if◌then◌else◌}
use Rattle.std.specs.Option.{option_map, option_and_then}
use Rattle.py_value.specs.Values.{ValuesView}
use Rattle.py_value.specs.declared.access.Location.{Location}
use Rattle.py_value.specs.Seen.{location_seen, location_at}
use Rattle.py_value.specs.contracts.access.LocationPartialEq.TheImpl.{ghosts as locations}
use Rattle.object_store.specs.Seen.{held_seen, seen_at}
use Rattle.object_store.specs.Store.{StoreView, Held, held_at}
use Rattle.object_store.proofs.laws.store_over_contents.Goals as goal

seen_there : (values : ValuesView) (store : StoreView) (l : Location) → location_at values (location_seen values l) ≡ Some l
    → seen_at values store (location_seen values l) ≡ option_map (held_seen values) (held_at store l)
seen_there values store l back = ap (option_and_then (λ (m : Location). option_map (held_seen values) (held_at store m))) back

other_stays : (b : Bool) (w : Held) (other : Option Held) → (b ≡ true → ⊥) → (if b then Some w else other) ≡ other
other_stays true w other apart = absurd (apart refl)
other_stays false w other apart = refl

pub returns-clause-held : goal.returns-clause-held
returns-clause-held c = λ values store l interned named. seen_there values store l (c.same_place_same_location.ensures.back values l interned named)

pub returns-clause-written : goal.returns-clause-written
returns-clause-written c = λ values old new l w interned named writes.
    seen_there values new l (c.same_place_same_location.ensures.back values l interned named)
    ∙ ap (option_map (held_seen values)) (writes.held l ∙ ap (λ b. if b then Some w else held_at old l) ((c.equality_is_same.ensures.locations l l).1 refl))

pub returns-clause-others : goal.returns-clause-others
returns-clause-others c = λ values old new l m w interned named writes apart.
    let back = c.same_place_same_location.ensures.back values m interned named in
    seen_there values new m back
    ∙ ap (option_map (held_seen values))
    (writes.held m ∙ other_stays (locations.eq l m) w (held_at old m) (λ is. apart (ap (location_seen values) (sym ((c.equality_is_same.ensures.locations l m).0 is)))))
    ∙ sym (seen_there values old m back)
