use Rattle.std.proofs.Common.{length}
use Rattle.py_expressions.proofs.SpelledRows.{Left}
use Rattle.py_expressions.proofs.spelled.first_wrong.Given as goal

abbrev pub invariant-loop-token : goal.invariant-loop-token
invariant-loop-token l = Left l.tokens l.cursor.rest.now

abbrev pub decreases-loop-token : goal.decreases-loop-token
decreases-loop-token l = length l.cursor.rest.now
