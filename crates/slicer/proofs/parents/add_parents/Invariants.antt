use Rattle.std.proofs.Common.{◌≡◌, ◌++◌}
use Rattle.py_tree.specs.Erasure.{script_of}
use Rattle.slicer.specs.ParentPairs.{parents_below}
use Rattle.slicer.proofs.parents.add_parents.Given as goal

abbrev pub invariant-loop-s : goal.invariant-loop-s
invariant-loop-s l = l.pairs.items ≡ l.initial.pairs.items ++ parents_below (script_of l.script) l.s
