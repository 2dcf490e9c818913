use Rattle.std.proofs.Common.{◌≡◌, ◌++◌, ℕ, drop}
use Rattle.slicer.specs.Groups.{group_in, values_of}
use Rattle.slicer.proofs.groups.grouped.Given as goal

abbrev pub invariant-loop-pair : goal.invariant-loop-pair
invariant-loop-pair l = (o : ℕ) → group_in l.groups.entries o ++ values_of (drop l.pair-index l.pairs) o ≡ values_of l.pairs o
