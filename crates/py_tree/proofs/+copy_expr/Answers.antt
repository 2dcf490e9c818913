use Rattle.std.proofs.Common.{rules, List, map, sym, ◌∙◌, ap}
use Rattle.py_tree.specs.declared.expr.Expr.{Expr}
use Rattle.py_tree.specs.Erasure.{expr_of, exprs_list, pairs_list}
use Rattle.py_tree.proofs.ExprTrees.{expr_trees, exprs_tree, pairs_tree, call_same}
use Rattle.py_tree.proofs.Walks.{all_done}
use Rattle.py_tree.proofs.+copy_expr.Goals as goal

pub expr::Expr::copy-returns-in_ok-operand-in-Unary :
    goal.expr::Expr::copy-returns-in_ok-operand-in-Unary
expr::Expr::copy-returns-in_ok-operand-in-Unary t c = search (rules, expr_trees)

pub expr::Expr::copy-returns-in_ok-right-in-Binary :
    goal.expr::Expr::copy-returns-in_ok-right-in-Binary
expr::Expr::copy-returns-in_ok-right-in-Binary t c = search (rules, expr_trees)

pub expr::Expr::copy-returns-in_ok-right-in-Compare :
    goal.expr::Expr::copy-returns-in_ok-right-in-Compare
expr::Expr::copy-returns-in_ok-right-in-Compare t c = search (rules, expr_trees)

pub expr::Expr::copy-returns-in_ok-right-in-Logic :
    goal.expr::Expr::copy-returns-in_ok-right-in-Logic
expr::Expr::copy-returns-in_ok-right-in-Logic t c = search (rules, expr_trees)

pub expr::Expr::copy-returns-in_ok-other-in-Choose :
    goal.expr::Expr::copy-returns-in_ok-other-in-Choose
expr::Expr::copy-returns-in_ok-other-in-Choose t c = search (rules, expr_trees)

pub expr::Expr::copy-returns-in_ok-arguments-in-Call :
    goal.expr::Expr::copy-returns-in_ok-arguments-in-Call
expr::Expr::copy-returns-in_ok-arguments-in-Call t c =
    call_same _ _ _ _ _ (c.in_ok-callee-in-Call.ensures ∙ ap expr_of c.deref-in-Call.ensures) c.in_ok-arguments-in-Call.ensures ∙ ap expr_of (sym c.in-Call.is)

pub expr::Expr::copy-returns-in_ok-name-in-Attr :
    goal.expr::Expr::copy-returns-in_ok-name-in-Attr
expr::Expr::copy-returns-in_ok-name-in-Attr t c = search (rules, expr_trees)

pub expr::Expr::copy-returns-in_ok-index-in-Part :
    goal.expr::Expr::copy-returns-in_ok-index-in-Part
expr::Expr::copy-returns-in_ok-index-in-Part t c = search (rules, expr_trees)

pub expr::Expr::copy-returns-in_ok-high-in-Range :
    goal.expr::Expr::copy-returns-in_ok-high-in-Range
expr::Expr::copy-returns-in_ok-high-in-Range t c = search (rules, expr_trees)

pub expr::Expr::copy-returns-in_ok-items-in-List :
    goal.expr::Expr::copy-returns-in_ok-items-in-List
expr::Expr::copy-returns-in_ok-items-in-List t c = search (rules, expr_trees)

pub expr::Expr::copy-returns-in_ok-pairs-in-Dict :
    goal.expr::Expr::copy-returns-in_ok-pairs-in-Dict
expr::Expr::copy-returns-in_ok-pairs-in-Dict t c = search (rules, expr_trees)

pub expr::Expr::copy-returns-in_ok-items-in-Tuple :
    goal.expr::Expr::copy-returns-in_ok-items-in-Tuple
expr::Expr::copy-returns-in_ok-items-in-Tuple t c = search (rules, expr_trees)

pub expr::Exprs::copy-loop-expr-init : goal.expr::Exprs::copy-loop-expr-init
expr::Exprs::copy-loop-expr-init t c = search (rules, exprs_tree)

pub expr::Exprs::copy-returns : goal.expr::Exprs::copy-returns
expr::Exprs::copy-returns t c = exprs_tree _ ∙ (sym (all_done (λ (es : List Expr). exprs_list (map expr_of es)) _ _ _ c.loop-expr-test.false) ∙ c.loop-expr.invariant)

pub expr::Pairs::copy-loop-key-init : goal.expr::Pairs::copy-loop-key-init
expr::Pairs::copy-loop-key-init t c = search (rules, pairs_tree)

pub expr::Pairs::copy-returns : goal.expr::Pairs::copy-returns
expr::Pairs::copy-returns t c = pairs_tree _ ∙ (sym (all_done (λ (ps : List (Expr × Expr)). pairs_list (map (λ p. (expr_of p.0, expr_of p.1)) ps)) _ _ _ c.loop-key-test.false) ∙ c.loop-key.invariant)
