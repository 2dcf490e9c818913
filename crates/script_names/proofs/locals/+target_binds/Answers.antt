use Rattle.std.proofs.Common.{List, map, ap, sym, ◌∙◌}
use Rattle.py_tree.specs.declared.expr.Target.{Target}
use Rattle.py_tree.specs.Erasure.{target_of, targets_list}
use Rattle.py_tree.specs.Binds.{targets_bind}
use Rattle.py_tree.proofs.TargetTrees.{targets_tree}
use Rattle.script_names.proofs.locals.+target_binds.Goals as goal

pub targets_bind-loop-target-init : goal.targets_bind-loop-target-init
targets_bind-loop-target-init t c =
    ap (λ (ts : List Target). targets_bind (targets_list (map target_of ts)) c.args.name.now) c.deref-target-items.ensures.value ∙ ap (λ ts. targets_bind ts c.args.name.now) (sym (targets_tree c.args.targets.now))
