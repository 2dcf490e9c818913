use Rattle.std.proofs.Common.{rules, List, map, refl, ap, sym, ◌∙◌}
use Rattle.py_tree.specs.declared.expr.Target.{Target}
use Rattle.py_tree.specs.Erasure.{target_of, targets_list}
use Rattle.py_tree.specs.Binds.{target_binds, targets_bind}
use Rattle.py_tree.proofs.TargetTrees.{target_trees, targets_tree}
use Rattle.py_tree.proofs.BindsWalks.{any_here, any_next, any_end}
use Rattle.py_tree.proofs.expr.+target_binds.Goals as goal

pub Target::binds-returns-in-Var : goal.Target::binds-returns-in-Var
Target::binds-returns-in-Var t c = search (rules, target_trees)

pub Target::binds-returns-in-Part : goal.Target::binds-returns-in-Part
Target::binds-returns-in-Part t c = search (rules, target_trees)

pub Target::binds-returns-in-Field : goal.Target::binds-returns-in-Field
Target::binds-returns-in-Field t c = search (rules, target_trees)

pub Target::binds-returns-in-Many : goal.Target::binds-returns-in-Many
Target::binds-returns-in-Many t c = search (rules, target_trees)

pub Targets::bind-loop-target-init : goal.Targets::bind-loop-target-init
Targets::bind-loop-target-init t c = ap (λ (ts : List Target). targets_bind (targets_list (map target_of ts)) c.args.name.now) c.deref-target-items.ensures.value ∙ ap (λ ts. targets_bind ts c.args.name.now) (sym (targets_tree c.args.self.now))

pub Targets::bind-loop-target-preserved : goal.Targets::bind-loop-target-preserved
Targets::bind-loop-target-preserved t c = any_next (λ (ts : List Target). targets_bind (targets_list (map target_of ts)) c.args.name.now) (λ (x : Target). target_binds (target_of x) c.args.name.now) (λ x xs. refl) _ _ c.target-item.result c.loop-target-test.true c.target-item.is (sym c.if-binds.false ∙ c.binds.ensures) ∙ c.loop-target.invariant

pub Targets::bind-returns-then-binds : goal.Targets::bind-returns-then-binds
Targets::bind-returns-then-binds t c = any_here (λ (ts : List Target). targets_bind (targets_list (map target_of ts)) c.args.name.now) (λ (x : Target). target_binds (target_of x) c.args.name.now) (λ x xs. refl) _ _ c.target-item.result c.loop-target-test.true c.target-item.is (sym c.if-binds.true ∙ c.binds.ensures) ∙ c.loop-target.invariant

pub Targets::bind-returns : goal.Targets::bind-returns
Targets::bind-returns t c = any_end (λ (ts : List Target). targets_bind (targets_list (map target_of ts)) c.args.name.now) refl _ _ c.loop-target-test.false ∙ c.loop-target.invariant
