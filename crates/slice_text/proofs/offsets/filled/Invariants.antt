use Rattle.std.proofs.Common.{◌≡◌, ℕ, ◌<◌, ◌||◌, length, drop}
use Rattle.py_tree.specs.StmtSet.{has}
use Rattle.slice_text.specs.Cut.{is_filled}
use Rattle.slice_text.proofs.offsets.filled.Given as goal

abbrev pub invariant-loop-gap : goal.invariant-loop-gap
invariant-loop-gap l =
    (length l.offsets ≡ l.count)
    × ((i : ℕ) → i < l.count → (has l.offsets i || is_filled (drop l.gap-index l.gaps) i) ≡ is_filled l.gaps i)
