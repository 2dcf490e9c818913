use Rattle.py_grammar.proofs.OneReading.{one_simple}
use Rattle.py_grammar.proofs.laws.one_simple_statement.Goals as goal

pub returns : goal.returns
returns c a b same = one_simple a b same
