use Rattle.std.proofs.Common.{◌≡◌, ℕ, ◌<◌, length, slice_get, Some}
use Rattle.py_value.specs.declared.access.Access.{Access}
use Rattle.object_store.specs.Frugal.{TakesFew}
use Rattle.object_store.specs.Room.{Takes, HasPlaceFor}
use Rattle.object_store.specs.Store.{Keeps, room_with_next}
use Rattle.object_store.proofs.store.Store.make_places.Given as goal

abbrev pub invariant-loop-access : goal.invariant-loop-access
invariant-loop-access l =
    Keeps l.fn.self l.self
    × Takes (room_with_next l.fn.self) (room_with_next l.self) 0 0 0
    × TakesFew (room_with_next l.fn.self) (room_with_next l.self) l.plan l.need.keys l.need.bytes
    × (l.self.spare_objects ≡ l.fn.self.spare_objects)
    × (length l.self.objects ≡ length l.fn.self.objects)
    × (l.self.spare_cells ≡ l.fn.self.spare_cells)
    × ((k : ℕ) (access : Access) → k < l.access-index → slice_get l.plan k ≡ Some access → HasPlaceFor (room_with_next l.self) l.need.keys l.need.bytes access)
