use Rattle.object_store.specs.Room.{IsReserved}
use Rattle.object_store.specs.Store.{room_of}
use Rattle.store_cases.proofs.table.write_all.Given as goal

abbrev pub invariant-loop-access : goal.invariant-loop-access
invariant-loop-access l = IsReserved l.values (room_of l.store) l.access-iterator.rest.items
