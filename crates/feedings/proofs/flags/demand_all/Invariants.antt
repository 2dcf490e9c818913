use Rattle.std.proofs.Common.{◌≡◌, ◌||◌, drop}
use Rattle.py_value.specs.declared.access.Location.{Location}
use Rattle.feedings.specs.Marks.{flag_at, reads_in}
use Rattle.feedings.proofs.flags.demand_all.Given as goal

abbrev pub invariant-loop-access : goal.invariant-loop-access
invariant-loop-access l = (at : Location)
    → (reads_in at (drop l.access-index l.accesses) || flag_at l.flags.entries at) ≡ (reads_in at l.accesses || flag_at l.fn.flags.entries at)
