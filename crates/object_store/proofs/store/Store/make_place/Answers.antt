use Rattle.std.proofs.Common.{sym, subst}
use Rattle.object_store.specs.Room.{HasPlaceFor}
use Rattle.object_store.specs.Store.{room_with_next}
use Rattle.object_store.proofs.Sparing.{on_more}
use Rattle.object_store.proofs.store.Store.make_place.Goals as goal

pub returns-in-Set-clause-place : goal.returns-in-Set-clause-place
returns-in-Set-clause-place c = on_more c.make_place_to_set.result _ _ (λ place.
    subst (HasPlaceFor (room_with_next c.make_place_to_set.new.self) c.args.need.keys c.args.need.bytes) (sym c.in-Set.is) (place c.in-Set.field-1)) c.make_place_to_set.ensures.place

pub returns-in-Update-clause-place : goal.returns-in-Update-clause-place
returns-in-Update-clause-place c = on_more c.make_place_to_update.result _ _ (λ place.
    subst (HasPlaceFor (room_with_next c.make_place_to_update.new.self) c.args.need.keys c.args.need.bytes) (sym c.in-Update.is) (place c.in-Update.field-1)) c.make_place_to_update.ensures.place
