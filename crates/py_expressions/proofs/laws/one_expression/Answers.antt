use Rattle.py_expressions.proofs.OneReading.{one_reading}
use Rattle.py_expressions.proofs.laws.one_expression.Goals as goal

pub returns : goal.returns
returns c a b same = one_reading a b same
