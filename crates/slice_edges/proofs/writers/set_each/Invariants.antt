use Rattle.std.proofs.Common.{◌≡◌, drop}
use Rattle.py_value.specs.declared.access.Location.{Location}
use Rattle.slice_edges.specs.Writers.{found_at, after_set, sets_in}
use Rattle.slice_edges.proofs.writers.set_each.Given as goal

abbrev pub invariant-loop-access : goal.invariant-loop-access
invariant-loop-access l = (at : Location)
    → after_set (sets_in at (drop l.access-index l.accesses)) l.stmt (found_at l.writers.entries at) ≡ after_set (sets_in at l.accesses) l.stmt (found_at l.fn.writers.entries at)
