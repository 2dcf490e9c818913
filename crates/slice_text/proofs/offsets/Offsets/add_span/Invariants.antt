use Rattle.std.proofs.Common.{◌≡◌, ℕ, ◌-◌, ◌<◌, ◌≤◌, ◌||◌, ◌&&◌, nat_le, nat_lt, length}
use Rattle.py_tree.specs.StmtSet.{has}
use Rattle.slice_text.proofs.offsets.Offsets.add_span.Given as goal

abbrev pub invariant-loop-at : goal.invariant-loop-at
invariant-loop-at l =
    (length l.self ≡ length l.fn.self)
    × (l.from ≤ l.at)
    × (l.at - l.from ≤ l.end - l.from)
    × ((i : ℕ) → i < length l.fn.self → has l.self i ≡ (has l.fn.self i || (nat_le l.from i && nat_lt i l.at)))
