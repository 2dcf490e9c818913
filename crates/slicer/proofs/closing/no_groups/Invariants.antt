use Rattle.std.proofs.Common.{◌≡◌, ℕ, [], length}
use Rattle.slicer.specs.Following.{group_at}
use Rattle.slicer.proofs.closing.no_groups.Given as goal

abbrev pub invariant-fill : goal.invariant-fill
invariant-fill l = (length l.groups.items ≡ l.counter) × ((s : ℕ) → group_at l.groups.items s ≡ [])
