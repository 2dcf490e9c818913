use Rattle.std.proofs.Common.{sym, ap, ◌∙◌, arith, Some}
use Rattle.std.proofs.lemmas.Option.{slice_get-get_or, slice_get_within}
use Rattle.object_store.specs.Room.{HasPlaceFor}
use Rattle.object_store.specs.Store.{room_with_next}
use Rattle.object_store.proofs.Reserving.{keeps_then, takes_then, place_later, up_to}
use Rattle.object_store.proofs.Sparing.{few_more, few_self}
use Rattle.object_store.proofs.store.Store.make_places.Goals as goal

pub loop-access-preserved : goal.loop-access-preserved
loop-access-preserved c =
    let at = slice_get-get_or c.args.plan.now c.loop-access.access-index c.access-item.result c.loop-access-test.true ∙ ap Some (sym c.access-item.is) in (
      keeps_then c.args.self.now c.loop-access.self c.make_place.new.self c.loop-access.invariant.0 c.make_place.ensures.keeps,
      takes_then (room_with_next c.args.self.now) (room_with_next c.loop-access.self) (room_with_next c.make_place.new.self) c.loop-access.invariant.1 c.make_place.ensures.left,
      few_more (room_with_next c.args.self.now) (room_with_next c.loop-access.self) (room_with_next c.make_place.new.self) c.args.plan.now c.args.need.keys c.args.need.bytes c.loop-access.access-index c.access-item.result at
          c.loop-access.invariant.2 c.in_ok-make_place.ensures.few,
      c.make_place.ensures.spare ∙ c.loop-access.invariant.3,
      c.make_place.ensures.count ∙ c.loop-access.invariant.4,
      c.make_place.ensures.cells ∙ c.loop-access.invariant.5,
      up_to (HasPlaceFor (room_with_next c.make_place.new.self) c.args.need.keys c.args.need.bytes) c.args.plan.now c.loop-access.access-index c.access-item.result at c.in_ok-make_place.ensures.place
          (λ k a below is. place_later (room_with_next c.loop-access.self) (room_with_next c.make_place.new.self) 0 0 0 c.make_place.ensures.left c.args.need.keys c.args.need.bytes c.args.need.keys c.args.need.bytes (omega arith) (omega arith) a (c.loop-access.invariant.6 k a below is)),
    )

pub returns-clause-places : goal.returns-clause-places
returns-clause-places c = λ k access is. c.loop-access.invariant.6 k access (let within = slice_get_within c.args.plan.now k access is in omega (arith, within)) is
