use Rattle.std.proofs.Common.{◌≡◌, drop}
use Rattle.feedings.specs.Marks.{mark_at, some_marked}
use Rattle.feedings.proofs.marks.some_mark.Given as goal

abbrev pub invariant-loop-time : goal.invariant-loop-time
invariant-loop-time l = some_marked (mark_at l.marks) l.times ≡ some_marked (mark_at l.marks) (drop l.time-index l.times)
