-- The pure tree of each form of target: what every proof above cites.
use Rattle.std.proofs.Common.{◌≡◌, ℕ, List, map, ap, sym, ◌∙◌}
use Rattle.prov_base.specs.declared.place.Pos.{Pos}
use Rattle.py_tree.specs.declared.expr.Expr.{Expr}
use Rattle.py_tree.specs.declared.expr.Targets.{Targets}
use Rattle.py_tree.specs.declared.expr.Target.TheOpen.{Var as Var-F, Part as Part-F, Field as Field-F, Many as Many-F}
use Rattle.py_tree.specs.declared.expr.Target.TheVariants.{Var, Part, Field, rolls-Var, rolls-Part, rolls-Field, rolls-Many}
use Rattle.py_tree.specs.declared.expr.Target.TheViews.{Many}
use Rattle.py_tree.specs.declared.expr.Target.TheFolds.{fold-roll-Target, fold_out-Targets}
use Rattle.py_tree.specs.Tree.{TargetTree, TargetsTree, var_target, part_target, field_target, many_target}
use Rattle.py_tree.specs.Erasure.{expr_of, target_of, targets_of, targets_list, target_step, targets_step}

pub var_target_tree : (at : Pos) (name : List ℕ) → target_of (Var at name) ≡ var_target at name
unfolding target_of
var_target_tree at name = ap target_of (sym (rolls-Var at name)) ∙ fold-roll-Target TargetTree TargetsTree target_step targets_step (Var-F at name)

pub part_target_tree : (at : Pos) (e index : Expr) → target_of (Part at e index) ≡ part_target at (expr_of e) (expr_of index)
unfolding target_of
part_target_tree at e index = ap target_of (sym (rolls-Part at e index)) ∙ fold-roll-Target TargetTree TargetsTree target_step targets_step (Part-F at e index)

pub field_target_tree : (at : Pos) (e : Expr) (name : List ℕ) → target_of (Field at e name) ≡ field_target at (expr_of e) name
unfolding target_of
field_target_tree at e name = ap target_of (sym (rolls-Field at e name)) ∙ fold-roll-Target TargetTree TargetsTree target_step targets_step (Field-F at e name)

pub many_target_tree : (ts : Targets) → target_of (Many ts) ≡ many_target (targets_of ts)
unfolding target_of targets_of
many_target_tree ts = ap target_of (sym (rolls-Many ts)) ∙ fold-roll-Target TargetTree TargetsTree target_step targets_step (Many-F ts)

pub targets_tree : (ts : Targets) → targets_of ts ≡ targets_list (map target_of ts.list.items)
unfolding target_of targets_of
targets_tree ts = fold_out-Targets TargetTree TargetsTree target_step targets_step ts

pub ruleset target_trees = (var_target_tree, part_target_tree, field_target_tree, many_target_tree)
