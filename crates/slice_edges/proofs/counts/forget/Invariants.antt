use Rattle.std.proofs.Common.{◌≡◌, ℕ, drop, if◌then◌else◌}
use Rattle.py_value.specs.declared.access.Location.{Location}
use Rattle.slice_edges.specs.Counts.{count_at}
use Rattle.slice_edges.specs.Writers.{sets_in}
use Rattle.slice_edges.proofs.counts.forget.Given as goal

abbrev pub invariant-loop-access : goal.invariant-loop-access
invariant-loop-access l = (at : Location) (a : ℕ)
    → (if sets_in at (drop l.access-index l.accesses) then 0 else count_at l.counts.entries at a) ≡ (if sets_in at l.accesses then 0 else count_at l.fn.counts.entries at a)
