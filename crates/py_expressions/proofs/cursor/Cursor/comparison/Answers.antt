use Rattle.std.proofs.Common.{rules}
use Rattle.py_expressions.proofs.Comparisons.{not_in_refused}
use Rattle.py_expressions.proofs.cursor.Cursor.comparison.Goals as goal

pub returns-in_err-keyword-clause-refused : goal.returns-in_err-keyword-clause-refused
returns-in_err-keyword-clause-refused c = let is = not_in_refused _ _ _ _ c.in-Some-take_keyword-2.ensures.taken c.in_err-keyword.ensures.refused in search (rules, is)
