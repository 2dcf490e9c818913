use Rattle.std.proofs.Common.{drop}
use Rattle.py_grammar.proofs.NameSetLemmas.{Gathers}
use Rattle.py_grammar.proofs.name_set.set_of.Given as goal

abbrev pub invariant-loop-name : goal.invariant-loop-name
invariant-loop-name l = Gathers l.fn.names l.set (drop l.name-index l.fn.names)
