use Rattle.std.proofs.Common.{◌∙◌}
use Rattle.py_expressions.proofs.RowTrees.{call_of}
use Rattle.py_expressions.proofs.rows.call.Goals as goal

pub returns-clause-tree : goal.returns-clause-tree
returns-clause-tree c = c.in_ok-expr.ensures.tree ∙ call_of _ _ _
