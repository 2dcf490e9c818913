use Rattle.std.proofs.Common.{◌≡◌, ◌-◌, ◌≤◌, ℕ, Bool, true, length}
use Rattle.py_tree.specs.StmtSet.{has}
use Rattle.slicer.specs.Along.{AllIn, IsClosedAlong}
use Rattle.slicer.specs.Following.{AreFound, AreFollowed}
use Rattle.slicer.proofs.closing.close.Given as goal

abbrev pub invariant-loop-next : goal.invariant-loop-next
invariant-loop-next l =
    (length l.keep ≡ l.count)
    × (l.next ≤ length l.found.items)
    × AreFound l.count l.keep l.found.items
    × AreFollowed l.pairs (has l.keep) l.found.items l.next
    × AllIn (has l.keep) l.roots
    × ((other : ℕ → Bool) → AllIn other l.roots → IsClosedAlong other l.pairs → (s : ℕ) → has l.keep s ≡ true → other s ≡ true)

abbrev pub decreases-loop-next : goal.decreases-loop-next
decreases-loop-next l = l.count - l.next
