use Rattle.std.proofs.Common.{◌∙◌}
use Rattle.py_expressions.proofs.RowTrees.{dict_of}
use Rattle.py_expressions.proofs.rows.dict.Goals as goal

pub returns-clause-tree : goal.returns-clause-tree
returns-clause-tree c = c.in_ok-expr.ensures.tree ∙ dict_of _ _
