use Rattle.std.proofs.Common.{◌≡◌, ◌<◌, ◌||◌, ℕ, drop, length}
use Rattle.slice_law.specs.Closed.{has}
use Rattle.feedings.specs.Marks.{mark_at}
use Rattle.feedings.proofs.marks.put_marks.Given as goal

abbrev pub invariant-loop-time : goal.invariant-loop-time
invariant-loop-time l = (length l.marks.items ≡ length l.fn.marks.items)
    × ((t : ℕ) → t < length l.fn.marks.items → (has t (drop l.time-index l.times) || mark_at l.marks.items t) ≡ (has t l.times || mark_at l.fn.marks.items t))
