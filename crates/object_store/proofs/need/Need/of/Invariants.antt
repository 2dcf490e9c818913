use Rattle.std.proofs.Common.{◌≡◌, ◌+◌, drop}
use Rattle.object_store.specs.Room.{cells_in, keys_in, bytes_in_all}
use Rattle.object_store.proofs.need.Need.of.Given as goal

abbrev pub invariant-loop-access : goal.invariant-loop-access
invariant-loop-access l =
    (l.need.cells + cells_in (drop l.access-index l.plan) ≡ cells_in l.plan)
    × (l.need.keys + keys_in (drop l.access-index l.plan) ≡ keys_in l.plan)
    × (l.need.bytes + bytes_in_all l.values (drop l.access-index l.plan) ≡ bytes_in_all l.values l.plan)
