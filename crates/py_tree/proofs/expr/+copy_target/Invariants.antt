use Rattle.std.proofs.Common.{◌≡◌, ◌++◌, map, drop}
use Rattle.py_tree.specs.Erasure.{target_of, targets_of, targets_list}
use Rattle.py_tree.proofs.expr.+copy_target.Given as goal

abbrev pub invariant-Targets::copy-loop-target : goal.invariant-Targets::copy-loop-target
invariant-Targets::copy-loop-target l = targets_list (map target_of (l.list.items ++ drop l.target-index l.target-items)) ≡ targets_of l.self
