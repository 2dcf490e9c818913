use Rattle.std.proofs.Common.{◌≡◌, ℕ, ◌<◌, slice_get, Some}
use Rattle.py_value.specs.declared.access.Access.{Access}
use Rattle.object_store.specs.Room.{HasPlaceFor}
use Rattle.object_store.specs.Store.{room_with_next}
use Rattle.object_store.proofs.store.Store.has_places.Given as goal

abbrev pub invariant-loop-access : goal.invariant-loop-access
invariant-loop-access l = (k : ℕ) (access : Access) → k < l.access-index → slice_get l.plan k ≡ Some access → HasPlaceFor (room_with_next l.self) l.need.keys l.need.bytes access
