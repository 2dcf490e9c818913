use Rattle.py_grammar.proofs.ClosedStays.{closed_stays}
use Rattle.py_grammar.proofs.laws.closed_sets_stay.Goals as goal

pub returns : goal.returns
returns c = closed_stays
