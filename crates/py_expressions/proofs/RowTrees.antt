-- The trees of what holds a row.
use Rattle.std.proofs.Common.{◌≡◌, map, Box, Global, ap, ◌∙◌}
use Rattle.prov_base.specs.declared.place.Pos.{Pos}
use Rattle.py_tree.specs.declared.expr.Expr.{Expr}
use Rattle.py_tree.specs.declared.expr.Exprs.{Exprs}
use Rattle.py_tree.specs.declared.expr.Pairs.{Pairs}
use Rattle.py_tree.specs.declared.expr.Expr.TheViews.{Call, List as Listing, Dict, Tuple}
use Rattle.py_tree.specs.Tree.{call_expr, list_expr, dict_expr, tuple_expr}
use Rattle.py_tree.specs.Erasure.{expr_of, exprs_list, pairs_list}
use Rattle.py_tree.proofs.ExprTrees.{call_tree, list_tree, dict_tree, tuple_tree, exprs_tree, pairs_tree}

pub tuple_of : (at : Pos) (es : Exprs) → expr_of (Tuple at es) ≡ tuple_expr at (exprs_list (map expr_of es.list.items))
tuple_of at es = tuple_tree at es ∙ ap (tuple_expr at) (exprs_tree es)

pub list_of : (at : Pos) (es : Exprs) → expr_of (Listing at es) ≡ list_expr at (exprs_list (map expr_of es.list.items))
list_of at es = list_tree at es ∙ ap (list_expr at) (exprs_tree es)

pub call_of : (at : Pos) (f : Box Expr Global) (es : Exprs) → expr_of (Call at f es) ≡ call_expr at (expr_of f.value) (exprs_list (map expr_of es.list.items))
call_of at f es = call_tree at f es ∙ ap (call_expr at (expr_of f.value)) (exprs_tree es)

pub dict_of : (at : Pos) (ps : Pairs) → expr_of (Dict at ps) ≡ dict_expr at (pairs_list (map (λ p. (expr_of p.0, expr_of p.1)) ps.list.items))
dict_of at ps = dict_tree at ps ∙ ap (dict_expr at) (pairs_tree ps)
