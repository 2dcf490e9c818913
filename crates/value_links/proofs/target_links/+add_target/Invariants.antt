use Rattle.std.proofs.Common.{◌≡◌, ◌++◌, drop}
use Rattle.py_tree.specs.Erasure.{targets_of}
use Rattle.value_links.specs.Links.{targets_links}
use Rattle.value_links.proofs.TargetForms.{targets_in}
use Rattle.value_links.proofs.target_links.+add_target.Given as goal

abbrev pub invariant-add_targets-loop-target : goal.invariant-add_targets-loop-target
invariant-add_targets-loop-target l = l.links.items ++ targets_links l.at l.whole (targets_in (drop l.target-index l.target-items)) ≡ l.fn.links.items ++ targets_links l.at l.whole (targets_of l.targets)
