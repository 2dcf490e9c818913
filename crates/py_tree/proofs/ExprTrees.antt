-- The pure tree of each form of expression: what every proof above cites.
use Rattle.std.proofs.Common.{◌≡◌, ℕ, List, map, Option, None, Some, option_map, Box, Global, ap, sym, ◌∙◌}
use Rattle.prov_base.specs.declared.place.Pos.{Pos}
use Rattle.py_tree.specs.declared.expr.UnOp.{UnOp}
use Rattle.py_tree.specs.declared.expr.LogicOp.{LogicOp}
use Rattle.py_tree.specs.declared.expr.BinOp.{BinOp}
use Rattle.py_tree.specs.declared.expr.CmpOp.{CmpOp}
use Rattle.py_tree.specs.declared.expr.Atom.{Atom}
use Rattle.py_tree.specs.declared.expr.Expr.{Expr}
use Rattle.py_tree.specs.declared.expr.Exprs.{Exprs}
use Rattle.py_tree.specs.declared.expr.Pairs.{Pairs}
use Rattle.py_tree.specs.declared.expr.Expr.TheOpen.{Unary as Unary-F, Binary as Binary-F, Compare as Compare-F, Logic as Logic-F, Choose as Choose-F, Call as Call-F, Attr as Attr-F, Part as Part-F, Range as Range-F, List as List-F, Dict as Dict-F, Tuple as Tuple-F, Const as Const-F, Var as Var-F}
use Rattle.py_tree.specs.declared.expr.Expr.TheVariants.{Const, Var, rolls-Const, rolls-Var, rolls-Unary, rolls-Binary, rolls-Compare, rolls-Logic, rolls-Choose, rolls-Call, rolls-Attr, rolls-Part, rolls-List, rolls-Dict, rolls-Tuple, rolls-Range}
use Rattle.py_tree.specs.declared.expr.Expr.TheViews.{Unary, Binary, Compare, Logic, Choose, Call, Attr, Part, Range, List as Listing, Dict, Tuple}
use Rattle.py_tree.specs.declared.expr.Expr.TheFolds.{fold-roll-Expr, fold_out-Exprs, fold_out-Pairs}
use Rattle.py_tree.specs.Tree.{ExprTree, ExprsTree, PairsTree, const_expr, var_expr, unary_expr, binary_expr, compare_expr, logic_expr, choose_expr, call_expr, attr_expr, part_expr, range_expr, list_expr, dict_expr, tuple_expr}
use Rattle.py_tree.specs.Erasure.{expr_of, exprs_of, pairs_of, maybe_tree, exprs_list, pairs_list, expr_step, exprs_step, pairs_step}

pub const_tree : (at : Pos) (atom : Atom) → expr_of (Const at atom) ≡ const_expr at atom
unfolding expr_of
const_tree at atom = ap expr_of (sym (rolls-Const at atom)) ∙ fold-roll-Expr ExprTree ExprsTree PairsTree expr_step exprs_step pairs_step (Const-F at atom)

pub var_tree : (at : Pos) (name : List ℕ) → expr_of (Var at name) ≡ var_expr at name
unfolding expr_of
var_tree at name = ap expr_of (sym (rolls-Var at name)) ∙ fold-roll-Expr ExprTree ExprsTree PairsTree expr_step exprs_step pairs_step (Var-F at name)

pub unary_tree : (at : Pos) (op : UnOp) (e : Box Expr Global) → expr_of (Unary at op e) ≡ unary_expr at op (expr_of e.value)
unfolding expr_of
unary_tree at op e = ap expr_of (sym (rolls-Unary at op e)) ∙ fold-roll-Expr ExprTree ExprsTree PairsTree expr_step exprs_step pairs_step (Unary-F at op e)

pub binary_tree : (at : Pos) (op : BinOp) (l r : Box Expr Global) → expr_of (Binary at op l r) ≡ binary_expr at op (expr_of l.value) (expr_of r.value)
unfolding expr_of
binary_tree at op l r = ap expr_of (sym (rolls-Binary at op l r)) ∙ fold-roll-Expr ExprTree ExprsTree PairsTree expr_step exprs_step pairs_step (Binary-F at op l r)

pub compare_tree : (at : Pos) (op : CmpOp) (l r : Box Expr Global) → expr_of (Compare at op l r) ≡ compare_expr at op (expr_of l.value) (expr_of r.value)
unfolding expr_of
compare_tree at op l r = ap expr_of (sym (rolls-Compare at op l r)) ∙ fold-roll-Expr ExprTree ExprsTree PairsTree expr_step exprs_step pairs_step (Compare-F at op l r)

pub logic_tree : (at : Pos) (op : LogicOp) (l r : Box Expr Global) → expr_of (Logic at op l r) ≡ logic_expr at op (expr_of l.value) (expr_of r.value)
unfolding expr_of
logic_tree at op l r = ap expr_of (sym (rolls-Logic at op l r)) ∙ fold-roll-Expr ExprTree ExprsTree PairsTree expr_step exprs_step pairs_step (Logic-F at op l r)

pub choose_tree : (at : Pos) (test chosen other : Box Expr Global) → expr_of (Choose at test chosen other) ≡ choose_expr at (expr_of test.value) (expr_of chosen.value) (expr_of other.value)
unfolding expr_of
choose_tree at test chosen other = ap expr_of (sym (rolls-Choose at test chosen other)) ∙ fold-roll-Expr ExprTree ExprsTree PairsTree expr_step exprs_step pairs_step (Choose-F at test chosen other)

pub call_tree : (at : Pos) (callee : Box Expr Global) (arguments : Exprs) → expr_of (Call at callee arguments) ≡ call_expr at (expr_of callee.value) (exprs_of arguments)
unfolding expr_of exprs_of
call_tree at callee arguments = ap expr_of (sym (rolls-Call at callee arguments)) ∙ fold-roll-Expr ExprTree ExprsTree PairsTree expr_step exprs_step pairs_step (Call-F at callee arguments)

pub attr_tree : (at : Pos) (e : Box Expr Global) (name : List ℕ) → expr_of (Attr at e name) ≡ attr_expr at (expr_of e.value) name
unfolding expr_of
attr_tree at e name = ap expr_of (sym (rolls-Attr at e name)) ∙ fold-roll-Expr ExprTree ExprsTree PairsTree expr_step exprs_step pairs_step (Attr-F at e name)

pub part_tree : (at : Pos) (e index : Box Expr Global) → expr_of (Part at e index) ≡ part_expr at (expr_of e.value) (expr_of index.value)
unfolding expr_of
part_tree at e index = ap expr_of (sym (rolls-Part at e index)) ∙ fold-roll-Expr ExprTree ExprsTree PairsTree expr_step exprs_step pairs_step (Part-F at e index)

pub list_tree : (at : Pos) (items : Exprs) → expr_of (Listing at items) ≡ list_expr at (exprs_of items)
unfolding expr_of exprs_of
list_tree at items = ap expr_of (sym (rolls-List at items)) ∙ fold-roll-Expr ExprTree ExprsTree PairsTree expr_step exprs_step pairs_step (List-F at items)

pub dict_tree : (at : Pos) (pairs : Pairs) → expr_of (Dict at pairs) ≡ dict_expr at (pairs_of pairs)
unfolding expr_of pairs_of
dict_tree at pairs = ap expr_of (sym (rolls-Dict at pairs)) ∙ fold-roll-Expr ExprTree ExprsTree PairsTree expr_step exprs_step pairs_step (Dict-F at pairs)

pub tuple_tree : (at : Pos) (items : Exprs) → expr_of (Tuple at items) ≡ tuple_expr at (exprs_of items)
unfolding expr_of exprs_of
tuple_tree at items = ap expr_of (sym (rolls-Tuple at items)) ∙ fold-roll-Expr ExprTree ExprsTree PairsTree expr_step exprs_step pairs_step (Tuple-F at items)

pub range_tree : (at : Pos) (e : Box Expr Global) (low high : Option (Box Expr Global)) → expr_of (Range at e low high) ≡ range_expr at (expr_of e.value) (maybe_tree (option_map (λ b. expr_of b.value) low)) (maybe_tree (option_map (λ b. expr_of b.value) high))
unfolding expr_of
range_tree at e None None = ap expr_of (sym (rolls-Range at e None None)) ∙ fold-roll-Expr ExprTree ExprsTree PairsTree expr_step exprs_step pairs_step (Range-F at e None None)
range_tree at e None (Some high) = ap expr_of (sym (rolls-Range at e None (Some high))) ∙ fold-roll-Expr ExprTree ExprsTree PairsTree expr_step exprs_step pairs_step (Range-F at e None (Some high))
range_tree at e (Some low) None = ap expr_of (sym (rolls-Range at e (Some low) None)) ∙ fold-roll-Expr ExprTree ExprsTree PairsTree expr_step exprs_step pairs_step (Range-F at e (Some low) None)
range_tree at e (Some low) (Some high) = ap expr_of (sym (rolls-Range at e (Some low) (Some high))) ∙ fold-roll-Expr ExprTree ExprsTree PairsTree expr_step exprs_step pairs_step (Range-F at e (Some low) (Some high))

pub exprs_tree : (es : Exprs) → exprs_of es ≡ exprs_list (map expr_of es.list.items)
unfolding expr_of exprs_of
exprs_tree es = fold_out-Exprs ExprTree ExprsTree PairsTree expr_step exprs_step pairs_step es

pub pairs_tree : (ps : Pairs) → pairs_of ps ≡ pairs_list (map (λ p. (expr_of p.0, expr_of p.1)) ps.list.items)
unfolding expr_of pairs_of
pairs_tree ps = fold_out-Pairs ExprTree ExprsTree PairsTree expr_step exprs_step pairs_step ps

pub ruleset expr_trees = (const_tree, var_tree, unary_tree, binary_tree, compare_tree, logic_tree, choose_tree, call_tree, attr_tree, part_tree, range_tree, list_tree, dict_tree, tuple_tree)

-- calls of the same trees have the same tree
pub call_same : (at : Pos) (f g : Box Expr Global) (xs ys : Exprs) → expr_of f.value ≡ expr_of g.value → exprs_of xs ≡ exprs_of ys → expr_of (Call at f xs) ≡ expr_of (Call at g ys)
call_same at f g xs ys callee arguments = rw (call_tree, callee, arguments, call_tree)
