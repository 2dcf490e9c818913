-- The pure tree of an expression tells its form.
use Rattle.py_expressions.proofs.ExprForms.{form_is, Shape}
use Rattle.std.proofs.Common.{◌≡◌, ℕ, false, List, None, Box, Global, refl, subst}
use Rattle.prov_base.specs.declared.place.Pos.{Pos}
use Rattle.py_tree.specs.declared.expr.Expr.{Expr, out-Expr, roll-Expr, roll-out-Expr}
use Rattle.py_tree.specs.declared.expr.Exprs.{Exprs}
use Rattle.py_tree.specs.declared.expr.Expr.TheOpen.{Unary as Unary-F, Binary as Binary-F, Compare as Compare-F, Logic as Logic-F, Choose as Choose-F, Call as Call-F, Attr as Attr-F, Part as Part-F, Range as Range-F, List as List-F, Dict as Dict-F, Tuple as Tuple-F, Const as Const-F, Var as Var-F}
use Rattle.py_tree.specs.declared.expr.Expr.TheVariants.{Var, rolls-Const, rolls-Var, rolls-Unary, rolls-Binary, rolls-Compare, rolls-Logic, rolls-Choose, rolls-Call, rolls-Attr, rolls-Part, rolls-List, rolls-Dict, rolls-Tuple, rolls-Range}
use Rattle.py_tree.specs.declared.expr.Expr.TheViews.{Attr, Part, Tuple}
use Rattle.py_tree.specs.Tree.{ExprTree, const_expr, var_expr, unary_expr, binary_expr, compare_expr, logic_expr, choose_expr, call_expr, attr_expr, part_expr, range_expr, list_expr, dict_expr, tuple_expr}
use Rattle.py_tree.specs.Erasure.{expr_of}
use Rattle.py_tree.proofs.ExprTrees.{const_tree, var_tree, unary_tree, binary_tree, compare_tree, logic_tree, choose_tree, call_tree, attr_tree, part_tree, range_tree, list_tree, dict_tree, tuple_tree}
use Rattle.py_grammar.specs.ParsedSimple.{is_tuple_tree, target_form, all_target_form}

pub no_target : (e : Expr) → ((at : Pos) (name : List ℕ) → e ≡ Var at name → ⊥) → ((at : Pos) (o : Box Expr Global) (name : List ℕ) → e ≡ Attr at o name → ⊥) → ((at : Pos) (o index : Box Expr Global) → e ≡ Part at o index → ⊥)
    → target_form (expr_of e) ≡ None
no_target e var attr part = subst (λ (e : Expr). ((at : Pos) (name : List ℕ) → e ≡ Var at name → ⊥) → ((at : Pos) (o : Box Expr Global) (name : List ℕ) → e ≡ Attr at o name → ⊥) → ((at : Pos) (o index : Box Expr Global) → e ≡ Part at o index → ⊥)
    → target_form (expr_of e) ≡ None) (roll-out-Expr e) (by (out-Expr e)) var attr part
  where
    by : (f : Shape) → ((at : Pos) (name : List ℕ) → roll-Expr f ≡ Var at name → ⊥) → ((at : Pos) (o : Box Expr Global) (name : List ℕ) → roll-Expr f ≡ Attr at o name → ⊥) → ((at : Pos) (o index : Box Expr Global) → roll-Expr f ≡ Part at o index → ⊥)
        → target_form (expr_of (roll-Expr f)) ≡ None
    by (Const-F at atom) v a p = form_is target_form _ _ _ None (rolls-Const at atom) (const_tree at atom) refl
    by (Var-F at name) v a p = absurd (v at name (rolls-Var at name))
    by (Unary-F at op e) v a p = form_is target_form _ _ _ None (rolls-Unary at op e) (unary_tree at op e) refl
    by (Binary-F at op l r) v a p = form_is target_form _ _ _ None (rolls-Binary at op l r) (binary_tree at op l r) refl
    by (Compare-F at op l r) v a p = form_is target_form _ _ _ None (rolls-Compare at op l r) (compare_tree at op l r) refl
    by (Logic-F at op l r) v a p = form_is target_form _ _ _ None (rolls-Logic at op l r) (logic_tree at op l r) refl
    by (Choose-F at x y z) v a p = form_is target_form _ _ _ None (rolls-Choose at x y z) (choose_tree at x y z) refl
    by (Call-F at f args) v a p = form_is target_form _ _ _ None (rolls-Call at f args) (call_tree at f args) refl
    by (Attr-F at e name) v a p = absurd (a at e name (rolls-Attr at e name))
    by (Part-F at e index) v a p = absurd (p at e index (rolls-Part at e index))
    by (Range-F at e low high) v a p = form_is target_form _ _ _ None (rolls-Range at e low high) (range_tree at e low high) refl
    by (List-F at items) v a p = form_is target_form _ _ _ None (rolls-List at items) (list_tree at items) refl
    by (Dict-F at pairs) v a p = form_is target_form _ _ _ None (rolls-Dict at pairs) (dict_tree at pairs) refl
    by (Tuple-F at items) v a p = form_is target_form _ _ _ None (rolls-Tuple at items) (tuple_tree at items) refl

pub no_tuple : (e : Expr) → ((at : Pos) (items : Exprs) → e ≡ Tuple at items → ⊥) → is_tuple_tree (expr_of e) ≡ false
no_tuple e other = subst (λ (e : Expr). ((at : Pos) (items : Exprs) → e ≡ Tuple at items → ⊥) → is_tuple_tree (expr_of e) ≡ false) (roll-out-Expr e) (by (out-Expr e)) other
  where
    by : (f : Shape) → ((at : Pos) (items : Exprs) → roll-Expr f ≡ Tuple at items → ⊥) → is_tuple_tree (expr_of (roll-Expr f)) ≡ false
    by (Const-F at atom) o = form_is is_tuple_tree _ _ _ false (rolls-Const at atom) (const_tree at atom) refl
    by (Var-F at name) o = form_is is_tuple_tree _ _ _ false (rolls-Var at name) (var_tree at name) refl
    by (Unary-F at op e) o = form_is is_tuple_tree _ _ _ false (rolls-Unary at op e) (unary_tree at op e) refl
    by (Binary-F at op l r) o = form_is is_tuple_tree _ _ _ false (rolls-Binary at op l r) (binary_tree at op l r) refl
    by (Compare-F at op l r) o = form_is is_tuple_tree _ _ _ false (rolls-Compare at op l r) (compare_tree at op l r) refl
    by (Logic-F at op l r) o = form_is is_tuple_tree _ _ _ false (rolls-Logic at op l r) (logic_tree at op l r) refl
    by (Choose-F at x y z) o = form_is is_tuple_tree _ _ _ false (rolls-Choose at x y z) (choose_tree at x y z) refl
    by (Call-F at f args) o = form_is is_tuple_tree _ _ _ false (rolls-Call at f args) (call_tree at f args) refl
    by (Attr-F at e name) o = form_is is_tuple_tree _ _ _ false (rolls-Attr at e name) (attr_tree at e name) refl
    by (Part-F at e index) o = form_is is_tuple_tree _ _ _ false (rolls-Part at e index) (part_tree at e index) refl
    by (Range-F at e low high) o = form_is is_tuple_tree _ _ _ false (rolls-Range at e low high) (range_tree at e low high) refl
    by (List-F at items) o = form_is is_tuple_tree _ _ _ false (rolls-List at items) (list_tree at items) refl
    by (Dict-F at pairs) o = form_is is_tuple_tree _ _ _ false (rolls-Dict at pairs) (dict_tree at pairs) refl
    by (Tuple-F at items) o = absurd (o at items (rolls-Tuple at items))

-- what is no tuple is a single target, if it is one
pub single_form : (t : ExprTree) → is_tuple_tree t ≡ false → all_target_form t ≡ target_form t
single_form (const_expr at atom) other = refl
single_form (var_expr at name) other = refl
single_form (unary_expr at op e) other = refl
single_form (binary_expr at op l r) other = refl
single_form (compare_expr at op l r) other = refl
single_form (logic_expr at op l r) other = refl
single_form (choose_expr at x y z) other = refl
single_form (call_expr at f args) other = refl
single_form (attr_expr at e name) other = refl
single_form (part_expr at e index) other = refl
single_form (range_expr at e low high) other = refl
single_form (list_expr at items) other = refl
single_form (dict_expr at pairs) other = refl
single_form (tuple_expr at items) other = cc
