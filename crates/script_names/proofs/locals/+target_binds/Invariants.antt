use Rattle.std.proofs.Common.{◌≡◌, map, drop}
use Rattle.py_tree.specs.Erasure.{target_of, targets_of, targets_list}
use Rattle.py_tree.specs.Binds.{targets_bind}
use Rattle.script_names.proofs.locals.+target_binds.Given as goal

abbrev pub invariant-targets_bind-loop-target : goal.invariant-targets_bind-loop-target
invariant-targets_bind-loop-target l = targets_bind (targets_list (map target_of (drop l.target-index l.target-items))) l.name ≡ targets_bind (targets_of l.targets) l.name
