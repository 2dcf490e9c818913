use Rattle.std.proofs.Common.{rules, List, map, sym, ◌∙◌}
use Rattle.py_tree.specs.declared.expr.Target.{Target}
use Rattle.py_tree.specs.Erasure.{target_of, targets_list}
use Rattle.py_tree.proofs.TargetTrees.{target_trees, targets_tree}
use Rattle.py_tree.proofs.Walks.{all_done}
use Rattle.py_tree.proofs.expr.+copy_target.Goals as goal

pub Target::copy-returns-in_ok-index-in-Part :
    goal.Target::copy-returns-in_ok-index-in-Part
Target::copy-returns-in_ok-index-in-Part t c = search (rules, target_trees)

pub Target::copy-returns-in_ok-name-in-Field :
    goal.Target::copy-returns-in_ok-name-in-Field
Target::copy-returns-in_ok-name-in-Field t c = search (rules, target_trees)

pub Target::copy-returns-in_ok-targets-in-Many :
    goal.Target::copy-returns-in_ok-targets-in-Many
Target::copy-returns-in_ok-targets-in-Many t c = search (rules, target_trees)

pub Targets::copy-loop-target-init : goal.Targets::copy-loop-target-init
Targets::copy-loop-target-init t c = search (rules, targets_tree)

pub Targets::copy-returns : goal.Targets::copy-returns
Targets::copy-returns t c = targets_tree _ ∙ (sym (all_done (λ (ts : List Target). targets_list (map target_of ts)) _ _ _ c.loop-target-test.false) ∙ c.loop-target.invariant)
