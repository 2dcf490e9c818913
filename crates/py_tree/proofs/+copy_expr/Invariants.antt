use Rattle.std.proofs.Common.{◌≡◌, ◌++◌, map, drop}
use Rattle.py_tree.specs.Erasure.{expr_of, exprs_of, exprs_list, pairs_of, pairs_list}
use Rattle.py_tree.proofs.+copy_expr.Given as goal

abbrev pub invariant-expr::Exprs::copy-loop-expr : goal.invariant-expr::Exprs::copy-loop-expr
invariant-expr::Exprs::copy-loop-expr l = exprs_list (map expr_of (l.list.items ++ drop l.expr-index l.expr-items)) ≡ exprs_of l.self

abbrev pub invariant-expr::Pairs::copy-loop-key : goal.invariant-expr::Pairs::copy-loop-key
invariant-expr::Pairs::copy-loop-key l = pairs_list (map (λ p. (expr_of p.0, expr_of p.1)) (l.list.items ++ drop l.key-index l.key-items)) ≡ pairs_of l.self
