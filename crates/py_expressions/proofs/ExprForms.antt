-- The pure tree of an expression tells its form.
use Rattle.std.proofs.Common.{◌≡◌, ℕ, Bool, true, false, List, Box, Global, refl, ap, ◌∙◌, subst}
use Rattle.prov_base.specs.declared.place.Pos.{Pos}
use Rattle.py_tree.specs.declared.expr.Expr.{Expr, out-Expr, roll-Expr, roll-out-Expr}
use Rattle.py_tree.specs.declared.expr.Exprs.{Exprs}
use Rattle.py_tree.specs.declared.expr.Pairs.{Pairs}
use Rattle.py_tree.specs.declared.expr.Expr.TheOpen.{Expr-F, Unary as Unary-F, Binary as Binary-F, Compare as Compare-F, Logic as Logic-F, Choose as Choose-F, Call as Call-F, Attr as Attr-F, Part as Part-F, Range as Range-F, List as List-F, Dict as Dict-F, Tuple as Tuple-F, Const as Const-F, Var as Var-F}
use Rattle.py_tree.specs.declared.expr.Expr.TheVariants.{rolls-Const, rolls-Var, rolls-Unary, rolls-Binary, rolls-Compare, rolls-Logic, rolls-Choose, rolls-Call, rolls-Attr, rolls-Part, rolls-List, rolls-Dict, rolls-Tuple, rolls-Range}
use Rattle.py_tree.specs.declared.expr.Expr.TheViews.{Attr}
use Rattle.py_tree.specs.Tree.{ExprTree, attr_expr}
use Rattle.py_tree.specs.Erasure.{expr_of}
use Rattle.py_tree.proofs.ExprTrees.{const_tree, var_tree, unary_tree, binary_tree, compare_tree, logic_tree, choose_tree, call_tree, part_tree, range_tree, list_tree, dict_tree, tuple_tree}

abbrev pub Shape : Type 0
Shape = Expr-F Expr Exprs Pairs

-- what the tree of this form says is said of it
pub form_is : {X : Type 0} (g : ExprTree → X) (e d : Expr) (t : ExprTree) (x : X) → e ≡ d → expr_of d ≡ t → g t ≡ x → g (expr_of e) ≡ x
form_is g e d t x same tree is = ap (λ e. g (expr_of e)) same ∙ ap g tree ∙ is

abbrev pub is_attr_tree : ExprTree → Bool
is_attr_tree (attr_expr at e name) = true
is_attr_tree e = false

pub no_attr : (e : Expr) → ((at : Pos) (o : Box Expr Global) (name : List ℕ) → e ≡ Attr at o name → ⊥) → is_attr_tree (expr_of e) ≡ false
no_attr e other = subst (λ (e : Expr). ((at : Pos) (o : Box Expr Global) (name : List ℕ) → e ≡ Attr at o name → ⊥) → is_attr_tree (expr_of e) ≡ false) (roll-out-Expr e) (by (out-Expr e)) other
  where
    by : (f : Shape) → ((at : Pos) (o : Box Expr Global) (name : List ℕ) → roll-Expr f ≡ Attr at o name → ⊥) → is_attr_tree (expr_of (roll-Expr f)) ≡ false
    by (Const-F at atom) o = form_is is_attr_tree _ _ _ false (rolls-Const at atom) (const_tree at atom) refl
    by (Var-F at name) o = form_is is_attr_tree _ _ _ false (rolls-Var at name) (var_tree at name) refl
    by (Unary-F at op e) o = form_is is_attr_tree _ _ _ false (rolls-Unary at op e) (unary_tree at op e) refl
    by (Binary-F at op l r) o = form_is is_attr_tree _ _ _ false (rolls-Binary at op l r) (binary_tree at op l r) refl
    by (Compare-F at op l r) o = form_is is_attr_tree _ _ _ false (rolls-Compare at op l r) (compare_tree at op l r) refl
    by (Logic-F at op l r) o = form_is is_attr_tree _ _ _ false (rolls-Logic at op l r) (logic_tree at op l r) refl
    by (Choose-F at x y z) o = form_is is_attr_tree _ _ _ false (rolls-Choose at x y z) (choose_tree at x y z) refl
    by (Call-F at f args) o = form_is is_attr_tree _ _ _ false (rolls-Call at f args) (call_tree at f args) refl
    by (Attr-F at e name) o = absurd (o at e name (rolls-Attr at e name))
    by (Part-F at e index) o = form_is is_attr_tree _ _ _ false (rolls-Part at e index) (part_tree at e index) refl
    by (Range-F at e low high) o = form_is is_attr_tree _ _ _ false (rolls-Range at e low high) (range_tree at e low high) refl
    by (List-F at items) o = form_is is_attr_tree _ _ _ false (rolls-List at items) (list_tree at items) refl
    by (Dict-F at pairs) o = form_is is_attr_tree _ _ _ false (rolls-Dict at pairs) (dict_tree at pairs) refl
    by (Tuple-F at items) o = form_is is_attr_tree _ _ _ false (rolls-Tuple at items) (tuple_tree at items) refl
