-- The links of each form of target.
use Rattle.std.proofs.Common.{◌≡◌, ℕ, List, ◌++◌, map, sym, ap, ◌∙◌}
use Rattle.prov_base.specs.declared.place.Pos.{Pos}
use Rattle.py_tree.specs.declared.expr.Expr.{Expr}
use Rattle.py_tree.specs.declared.expr.Target.{Target}
use Rattle.py_tree.specs.declared.expr.Targets.{Targets}
use Rattle.py_tree.specs.declared.expr.Target.TheVariants.{Var, Part, Field}
use Rattle.py_tree.specs.declared.expr.Target.TheViews.{Many}
use Rattle.py_tree.specs.Tree.{TargetTree, TargetsTree, var_target, part_target, field_target, many_target}
use Rattle.py_tree.specs.Erasure.{expr_of, target_of, targets_of, targets_list}
use Rattle.py_tree.proofs.TargetTrees.{var_target_tree, part_target_tree, field_target_tree, many_target_tree}
use Rattle.value_links.specs.declared.link.Link.{Link}

abbrev pub targets_in : List Target → TargetsTree
targets_in ts = targets_list (map target_of ts)

-- what is put for a tree is put for a target that has it
pub by_tree : (f : TargetTree → List Link) (x : Target) (tree : TargetTree) (old new : List Link) → target_of x ≡ tree → new ≡ old ++ f tree → new ≡ old ++ f (target_of x)
by_tree f x tree old new is put = put ∙ ap (λ (t : TargetTree). old ++ f t) (sym is)

module _ (f : TargetTree → List Link) (x : Target) (old new : List Link) where
  pub var_of : (place : Pos) (name : List ℕ) → x ≡ Var place name → new ≡ old ++ f (var_target place name) → new ≡ old ++ f (target_of x)
  var_of place name is put = by_tree f x (var_target place name) old new (ap target_of is ∙ var_target_tree place name) put

  pub part_of : (place : Pos) (e index : Expr) → x ≡ Part place e index → new ≡ old ++ f (part_target place (expr_of e) (expr_of index)) → new ≡ old ++ f (target_of x)
  part_of place e index is put = by_tree f x (part_target place (expr_of e) (expr_of index)) old new (ap target_of is ∙ part_target_tree place e index) put

  pub field_of : (place : Pos) (e : Expr) (name : List ℕ) → x ≡ Field place e name → new ≡ old ++ f (field_target place (expr_of e) name) → new ≡ old ++ f (target_of x)
  field_of place e name is put = by_tree f x (field_target place (expr_of e) name) old new (ap target_of is ∙ field_target_tree place e name) put

  pub many_of : (targets : Targets) → x ≡ Many targets → new ≡ old ++ f (many_target (targets_of targets)) → new ≡ old ++ f (target_of x)
  many_of targets is put = by_tree f x (many_target (targets_of targets)) old new (ap target_of is ∙ many_target_tree targets) put
