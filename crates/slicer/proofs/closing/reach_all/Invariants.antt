use Rattle.std.proofs.Common.{◌≡◌, ℕ, Bool, true, drop}
use Rattle.py_tree.specs.StmtSet.{has}
use Rattle.slicer.specs.Along.{AllIn}
use Rattle.slicer.specs.Following.{HasGrown}
use Rattle.slicer.proofs.closing.reach_all.Given as goal

abbrev pub invariant-loop-s : goal.invariant-loop-s
invariant-loop-s l =
    HasGrown l.initial.keep l.initial.found.items l.keep l.found.items
    × ((more : ℕ → Bool) → ((i : ℕ) → has l.keep i ≡ true → more i ≡ true) → AllIn more (drop l.s-index l.numbers) → AllIn more l.numbers)
    × ((other : ℕ → Bool) → ((i : ℕ) → has l.initial.keep i ≡ true → other i ≡ true) → AllIn other l.numbers → (i : ℕ) → has l.keep i ≡ true → other i ≡ true)
