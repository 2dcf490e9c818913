use Rattle.std.proofs.Common.{◌∙◌}
use Rattle.py_expressions.proofs.RowTrees.{tuple_of}
use Rattle.py_expressions.proofs.rows.tuple.Goals as goal

pub returns-clause-tree : goal.returns-clause-tree
returns-clause-tree c = c.in_ok-expr.ensures.tree ∙ tuple_of _ _
