use Rattle.std.proofs.Common.{◌≡◌, ℕ, false, length}
use Rattle.feedings.specs.Marks.{mark_at}
use Rattle.feedings.proofs.marks.no_marks.Given as goal

abbrev pub invariant-fill : goal.invariant-fill
invariant-fill l = (length l.marks.items ≡ l.counter) × ((t : ℕ) → mark_at l.marks.items t ≡ false)
