use Rattle.std.proofs.Common.{◌≡◌, ◌++◌, ℕ, drop, length}
use Rattle.slicer.specs.Following.{asked_by, group_at}
use Rattle.slicer.proofs.closing.grouped.Given as goal

abbrev pub invariant-loop-pair : goal.invariant-loop-pair
invariant-loop-pair l = (length l.groups.items ≡ l.count) × ((s : ℕ) → group_at l.groups.items s ++ asked_by (drop l.pair-index l.pairs) s ≡ asked_by l.pairs s)
