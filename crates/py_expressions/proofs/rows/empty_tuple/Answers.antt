use Rattle.std.proofs.Common.{map, ap, ◌∙◌}
use Rattle.py_tree.specs.Tree.{tuple_expr}
use Rattle.py_tree.specs.Erasure.{expr_of, exprs_list}
use Rattle.py_expressions.proofs.RowTrees.{tuple_of}
use Rattle.py_expressions.proofs.rows.empty_tuple.Goals as goal

pub returns-clause-tree : goal.returns-clause-tree
returns-clause-tree c = c.in_ok-expr.ensures.tree ∙ tuple_of _ _ ∙ ap (λ items. tuple_expr c.args.at (exprs_list (map expr_of items))) c.new-list.ensures.items
