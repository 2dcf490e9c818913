use Rattle.py_expressions.proofs.RowReads.{nothing_there, something_there}
use Rattle.py_expressions.proofs.SpelledForms.{expr_refused, expr_left, expr_all}
use Rattle.py_expressions.proofs.spelled.spelled_expr.Goals as goal

-- src/spelled.rt
pub returns-then-is_empty-clause-spelled : goal.returns-then-is_empty-clause-spelled
returns-then-is_empty-clause-spelled c = expr_all _ _ _ _ c.in-Ok.ensures.found (nothing_there _ _ c.is_empty.ensures c.if-is_empty.true) c.form_of.ensures

-- src/spelled.rt
pub returns-in-Ok-clause-spelled : goal.returns-in-Ok-clause-spelled
returns-in-Ok-clause-spelled c = expr_left _ _ _ c.in-Ok.ensures.found (something_there _ _ c.is_empty.ensures c.if-is_empty.false)

-- src/spelled.rt
pub returns-clause-spelled : goal.returns-clause-spelled
returns-clause-spelled c = expr_refused _ _ c.in_ok-unless_memory-in-Err.ensures.tokens c.in-Err.ensures.refused
