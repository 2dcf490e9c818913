use Rattle.py_expressions.proofs.RowReads.{nothing_there, something_there}
use Rattle.py_expressions.proofs.SpelledRows.{row_refused, row_left, row_fine, row_told}
use Rattle.py_expressions.proofs.spelled.spelled_row.Goals as goal

-- src/spelled.rt
pub returns-then-not-is_empty-clause-spelled : goal.returns-then-not-is_empty-clause-spelled
returns-then-not-is_empty-clause-spelled c = row_left _ _ _ c.in-Ok.ensures.found (something_there _ _ c.is_empty.ensures c.if-not-is_empty.true)

-- src/spelled.rt
pub returns-then-part-clause-spelled : goal.returns-then-part-clause-spelled
returns-then-part-clause-spelled c = row_fine _ _ _ c.in-Ok.ensures.found (nothing_there _ _ c.is_empty.ensures c.if-not-is_empty.false) c.if-part.true

-- src/spelled.rt
pub returns-in_ok-form-in-Ok-clause-spelled : goal.returns-in_ok-form-in-Ok-clause-spelled
returns-in_ok-form-in-Ok-clause-spelled c = row_told _ _ _ _ c.in-Ok.ensures.found (nothing_there _ _ c.is_empty.ensures c.if-not-is_empty.false) c.in_ok-form-in-Ok.ensures.tells

-- src/spelled.rt
pub returns-in_ok-unless_memory-in-Err-clause-spelled : goal.returns-in_ok-unless_memory-in-Err-clause-spelled
returns-in_ok-unless_memory-in-Err-clause-spelled c = row_refused _ _ c.in_ok-unless_memory-in-Err.ensures.tokens c.in-Err.ensures.refused
