use Rattle.std.proofs.Common.{List, subst}
use Rattle.py_value.specs.declared.access.Access.{Access}
use Rattle.object_store.specs.Room.{IsReserved}
use Rattle.object_store.specs.Store.{room_of}
use Rattle.store_cases.proofs.table.write_all.Goals as goal

pub write-requires-clause-room : goal.write-requires-clause-room
write-requires-clause-room c = (subst (λ (rest : List Access). IsReserved c.args.values.now (room_of c.loop-access.store) rest) c.in-Some.ensures.steps.0 c.loop-access.invariant).0

pub loop-access-preserved : goal.loop-access-preserved
loop-access-preserved c = (subst (λ (rest : List Access). IsReserved c.args.values.now (room_of c.loop-access.store) rest) c.in-Some.ensures.steps.0 c.loop-access.invariant).1 (room_of c.write.new.store) c.in_ok-write.ensures
