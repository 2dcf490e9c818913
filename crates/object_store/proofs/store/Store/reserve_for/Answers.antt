use Rattle.std.proofs.Common.{◌≡◌, ap, subst, sym, ◌∙◌, rules, length}
use Rattle.std.specs.List.{list_any}
use Rattle.object_store.specs.Frugal.{TakesFew, places_in, writes_order, writes_file}
use Rattle.object_store.specs.Room.{cells_in, keys_in, bytes_in_all}
use Rattle.object_store.specs.Store.{StoreView, FewCells, HasRoomForAll, room_with_next}
use Rattle.object_store.proofs.Planning.{within_next, reserved_for, few_cells}
use Rattle.object_store.proofs.Sparing.{few_behind, few_self}
use Rattle.object_store.proofs.store.Store.reserve_for.Goals as goal

pub has_places-requires : goal.has_places-requires
has_places-requires c =
    let count : length c.make_object_room.new.self.objects ≡ length c.args.self.now.objects = ap (λ (s : StoreView). length s.objects) c.make_object_room.ensures.same in
    within_next c.args.made c.args.self.now (length c.make_object_room.new.self.objects) count c.args.plan.now c.requires.objects

pub make_places-requires : goal.make_places-requires
make_places-requires c =
    let count : length c.make_cell_room.new.self.objects ≡ length c.args.self.now.objects =
    ap (λ (s : StoreView). length s.objects) c.make_cell_room.ensures.same ∙ ap (λ (s : StoreView). length s.objects) c.make_object_room.ensures.same in
    within_next c.args.made c.args.self.now (length c.make_cell_room.new.self.objects) count c.args.plan.now c.requires.objects

pub returns-then-has_places-clause-reserved : goal.returns-then-has_places-clause-reserved
returns-then-has_places-clause-reserved c =
    let count : length c.make_object_room.new.self.objects ≡ length c.args.self.now.objects = ap (λ (s : StoreView). length s.objects) c.make_object_room.ensures.same in
    let room : HasRoomForAll c.args.values.now c.make_object_room.new.self c.args.made c.args.plan.now = search rules in
    reserved_for c.args.values.now c.args.self.now c.make_object_room.new.self c.args.plan.now c.args.made room c.requires.objects count

pub returns-clause-reserved : goal.returns-clause-reserved
returns-clause-reserved c =
    let count : length c.make_places.new.self.objects ≡ length c.args.self.now.objects =
    c.make_places.ensures.count ∙ ap (λ (s : StoreView). length s.objects) c.make_cell_room.ensures.same ∙ ap (λ (s : StoreView). length s.objects) c.make_object_room.ensures.same in
    let room : HasRoomForAll c.args.values.now c.make_places.new.self c.args.made c.args.plan.now = search rules in
    reserved_for c.args.values.now c.args.self.now c.make_places.new.self c.args.plan.now c.args.made room c.requires.objects count

pub returns-clause-frugal : goal.returns-clause-frugal
returns-clause-frugal c =
    few_cells c.args.self.now c.make_object_room.new.self c.make_cell_room.new.self c.make_places.new.self (cells_in c.args.plan.now) c.make_object_room.ensures.same
    (subst (FewCells c.make_object_room.new.self c.make_cell_room.new.self) c.in_ok-need.ensures.cells c.in_ok-make_cell_room.ensures.frugal) c.make_places.ensures.cells

pub returns-then-has_places-clause-few : goal.returns-then-has_places-clause-few
returns-then-has_places-clause-few c =
    let plan = c.args.plan.now in
    subst (λ (s : StoreView). TakesFew (room_with_next c.args.self.now) (room_with_next s) plan (keys_in plan) (bytes_in_all c.args.values.now plan)) (sym c.make_object_room.ensures.same)
    (few_self (room_with_next c.args.self.now) (λ o. places_in o plan) (λ o. list_any (writes_order o) plan) (λ path. list_any (writes_file path) plan) (keys_in plan) (bytes_in_all c.args.values.now plan))

pub returns-clause-few : goal.returns-clause-few
returns-clause-few c =
    let plan = c.args.plan.now in
    few_behind c.args.self.now c.make_object_room.new.self c.make_cell_room.new.self c.make_places.new.self plan (keys_in plan) (bytes_in_all c.args.values.now plan) c.make_object_room.ensures.same c.make_cell_room.ensures.same
    (subst (λ b. TakesFew (room_with_next c.make_cell_room.new.self) (room_with_next c.make_places.new.self) plan (keys_in plan) b) c.in_ok-need.ensures.bytes
    (subst (λ k. TakesFew (room_with_next c.make_cell_room.new.self) (room_with_next c.make_places.new.self) plan k c.in_ok-need.need.bytes) c.in_ok-need.ensures.keys c.in_ok-make_places.ensures.few))
