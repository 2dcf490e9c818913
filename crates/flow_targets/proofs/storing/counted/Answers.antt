use Rattle.std.proofs.Common.{length, ap, sym, ◌∙◌}
use Rattle.py_tree.proofs.TargetTrees.{targets_tree}
use Rattle.py_model.specs.Statements.{count_targets}
use Rattle.flow_targets.proofs.ItemsOf.{counted_so}
use Rattle.flow_targets.proofs.storing.counted.Goals as goal

pub returns : goal.returns
returns c = ap length c.as_slice-count.ensures.value ∙ sym (counted_so c.args.targets.now.list.items) ∙ ap count_targets (sym (targets_tree c.args.targets.now))
