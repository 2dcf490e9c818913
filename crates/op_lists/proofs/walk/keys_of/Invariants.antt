use Rattle.std.proofs.Common.{◌≡◌, take}
use Rattle.object_store.specs.Store.{keys_at}
use Rattle.op_lists.proofs.walk.keys_of.Given as goal

abbrev pub invariant-loop-i : goal.invariant-loop-i
invariant-loop-i l = l.keys.items ≡ take l.i (keys_at l.work.store l.o)
