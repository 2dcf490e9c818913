use Rattle.std.proofs.Common.{◌∙◌}
use Rattle.py_expressions.proofs.RowTrees.{list_of}
use Rattle.py_expressions.proofs.rows.list.Goals as goal

pub returns-clause-tree : goal.returns-clause-tree
returns-clause-tree c = c.in_ok-expr.ensures.tree ∙ list_of _ _
