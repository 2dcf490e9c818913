-- Nodes of the tree that the code walks are nodes of its pure tree.
use Rattle.std.proofs.Common.{◌≡◌, ℕ, Bool, true, false, List, [], ◌∷◌, map, Box, Global, refl, ap, sym, ◌∙◌, subst}
use Rattle.prov_base.specs.declared.place.Pos.{Pos}
use Rattle.py_tree.specs.declared.expr.Expr.{Expr, out-Expr, roll-Expr, roll-out-Expr}
use Rattle.py_tree.specs.declared.expr.Exprs.{Exprs}
use Rattle.py_tree.specs.declared.expr.Pairs.{Pairs}
use Rattle.py_tree.specs.declared.expr.Expr.TheOpen.{Expr-F, Unary as Unary-F, Binary as Binary-F, Compare as Compare-F, Logic as Logic-F, Choose as Choose-F, Call as Call-F, Attr as Attr-F, Part as Part-F, Range as Range-F, List as List-F, Dict as Dict-F, Tuple as Tuple-F, Const as Const-F, Var as Var-F}
use Rattle.py_tree.specs.declared.expr.Expr.TheVariants.{rolls-Const, rolls-Var, rolls-Unary, rolls-Binary, rolls-Compare, rolls-Logic, rolls-Choose, rolls-Call, rolls-Attr, rolls-Part, rolls-List, rolls-Dict, rolls-Tuple, rolls-Range}
use Rattle.py_tree.specs.declared.expr.Expr.TheViews.{Attr, Call}
use Rattle.py_tree.specs.Tree.{ExprTree, ExprsTree, attr_expr, some_expr}
use Rattle.py_tree.specs.Erasure.{expr_of, exprs_of, pairs_of, exprs_list, pairs_list}
use Rattle.py_tree.proofs.ExprTrees.{const_tree, var_tree, unary_tree, binary_tree, compare_tree, logic_tree, choose_tree, call_tree, part_tree, range_tree, list_tree, dict_tree, tuple_tree, exprs_tree, pairs_tree}
use Rattle.interp_eval.specs.Machine.{node, calls_one, expr_list, pair_list, call_node, node_for}
use Rattle.interp_eval.specs.Seen.{some_of, pairs_seen}

-- the items of a row, as operands
pub listed : (es : List Expr) → expr_list (exprs_list (map expr_of es)) ≡ map some_of es
listed [] = refl
listed (e ∷ es) = ap (λ rest. some_of e ∷ rest) (listed es)

pub items_listed : (es : Exprs) → expr_list (exprs_of es) ≡ map some_of es.list.items
items_listed es = ap expr_list (exprs_tree es) ∙ listed es.list.items

pairs_in : (ps : List (Expr × Expr)) → pair_list (pairs_list (map (λ p. (expr_of p.0, expr_of p.1)) ps)) ≡ pairs_seen ps
pairs_in [] = refl
pairs_in (p ∷ ps) = ap (λ rest. some_of p.0 ∷ some_of p.1 ∷ rest) (pairs_in ps)

pub pairs_listed : (ps : Pairs) → pair_list (pairs_of ps) ≡ pairs_seen ps.list.items
pairs_listed ps = ap pair_list (pairs_tree ps) ∙ pairs_in ps.list.items

abbrev Shape : Type 0
Shape = Expr-F Expr Exprs Pairs

is : {X : Type 0} (g : ExprTree → X) (e d : Expr) (t : ExprTree) (x : X) → e ≡ d → expr_of d ≡ t → g t ≡ x → g (expr_of e) ≡ x
is g e d t x same tree holds = ap (λ e. g (expr_of e)) same ∙ ap g tree ∙ holds

abbrev is_attr : ExprTree → Bool
is_attr (attr_expr at e name) = true
is_attr e = false

no_attr : (e : Expr) → ((at : Pos) (o : Box Expr Global) (name : List ℕ) → e ≡ Attr at o name → ⊥) → is_attr (expr_of e) ≡ false
no_attr e other = subst (λ (e : Expr). ((at : Pos) (o : Box Expr Global) (name : List ℕ) → e ≡ Attr at o name → ⊥) → is_attr (expr_of e) ≡ false) (roll-out-Expr e) (by (out-Expr e)) other
  where
    by : (f : Shape) → ((at : Pos) (o : Box Expr Global) (name : List ℕ) → roll-Expr f ≡ Attr at o name → ⊥) → is_attr (expr_of (roll-Expr f)) ≡ false
    by (Const-F at atom) o = is is_attr _ _ _ false (rolls-Const at atom) (const_tree at atom) refl
    by (Var-F at name) o = is is_attr _ _ _ false (rolls-Var at name) (var_tree at name) refl
    by (Unary-F at op e) o = is is_attr _ _ _ false (rolls-Unary at op e) (unary_tree at op e) refl
    by (Binary-F at op l r) o = is is_attr _ _ _ false (rolls-Binary at op l r) (binary_tree at op l r) refl
    by (Compare-F at op l r) o = is is_attr _ _ _ false (rolls-Compare at op l r) (compare_tree at op l r) refl
    by (Logic-F at op l r) o = is is_attr _ _ _ false (rolls-Logic at op l r) (logic_tree at op l r) refl
    by (Choose-F at x y z) o = is is_attr _ _ _ false (rolls-Choose at x y z) (choose_tree at x y z) refl
    by (Call-F at f args) o = is is_attr _ _ _ false (rolls-Call at f args) (call_tree at f args) refl
    by (Attr-F at e name) o = absurd (o at e name (rolls-Attr at e name))
    by (Part-F at e index) o = is is_attr _ _ _ false (rolls-Part at e index) (part_tree at e index) refl
    by (Range-F at e low high) o = is is_attr _ _ _ false (rolls-Range at e low high) (range_tree at e low high) refl
    by (List-F at items) o = is is_attr _ _ _ false (rolls-List at items) (list_tree at items) refl
    by (Dict-F at pairs) o = is is_attr _ _ _ false (rolls-Dict at pairs) (dict_tree at pairs) refl
    by (Tuple-F at items) o = is is_attr _ _ _ false (rolls-Tuple at items) (tuple_tree at items) refl

plain_call : (at : Pos) (t : ExprTree) (arguments : ExprsTree) → is_attr t ≡ false → call_node at t arguments ≡ node at calls_one (some_expr t ∷ expr_list arguments)
plain_call at (attr_expr dot e name) arguments no_attribute = absurd cc
plain_call at t arguments no_attribute = refl

-- the node of a call of any other expression than an attribute
pub other_call : (at : Pos) (e : Expr) (es : List Expr) → ((dot : Pos) (o : Box Expr Global) (name : List ℕ) → e ≡ Attr dot o name → ⊥)
    → node at calls_one (some_of e ∷ map some_of es) ≡ call_node at (expr_of e) (exprs_list (map expr_of es))
other_call at e es other = sym (plain_call at (expr_of e) (exprs_list (map expr_of es)) (no_attr e other) ∙ ap (λ rest. node at calls_one (some_of e ∷ rest)) (listed es))

-- the node of a call, by what it was made of
pub call_known : (at : Pos) (callee : Box Expr Global) (es : Exprs) (f : Expr) (xs : List Expr) (e : Expr) → e ≡ Call at callee es → f ≡ callee.value → xs ≡ es.list.items
    → call_node at (expr_of f) (exprs_list (map expr_of xs)) ≡ node_for (expr_of e)
call_known at callee es f xs e is same items =
    ap (λ x. call_node at (expr_of x) (exprs_list (map expr_of xs))) same
    ∙ ap (λ (x : List Expr). call_node at (expr_of callee.value) (exprs_list (map expr_of x))) items
    ∙ ap (call_node at (expr_of callee.value)) (sym (exprs_tree es))
    ∙ sym (ap (λ e. node_for (expr_of e)) is ∙ ap node_for (call_tree at callee es))
