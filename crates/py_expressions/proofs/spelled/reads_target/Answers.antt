use Rattle.std.proofs.Common.{refl}
use Rattle.py_expressions.proofs.SpelledRows.{form_read}
use Rattle.py_expressions.proofs.spelled.reads_target.Goals as goal

-- src/spelled.rt
pub returns-clause-found : goal.returns-clause-found
returns-clause-found c = form_read _ _ _ _ c.in_ok-part.ensures.found refl
