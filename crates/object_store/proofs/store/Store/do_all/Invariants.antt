use Rattle.std.proofs.Common.{drop}
use Rattle.py_value.specs.Named.{AreNamedAccesses}
use Rattle.object_store.specs.Performing.{DoesAll}
use Rattle.object_store.specs.Room.{IsReserved}
use Rattle.object_store.specs.Store.{StoreView, room_of}
use Rattle.object_store.proofs.store.Store.do_all.Given as goal

abbrev pub invariant-loop-access : goal.invariant-loop-access
invariant-loop-access l =
    AreNamedAccesses l.values (drop l.access-index l.plan)
    × IsReserved l.values (room_of l.self) (drop l.access-index l.plan)
    × ((final : StoreView) → DoesAll l.values (drop l.access-index l.plan) l.self final → DoesAll l.values l.plan l.fn.self final)
