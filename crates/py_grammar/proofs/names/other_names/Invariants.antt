use Rattle.std.proofs.Common.{length}
use Rattle.py_grammar.proofs.NameLists.{OthersGo}
use Rattle.py_grammar.proofs.names.other_names.Given as goal

abbrev pub invariant-loop-list : goal.invariant-loop-list
invariant-loop-list l = OthersGo l.fn.given l.fn.cursor.rest.now l.list.items l.cursor.rest.now

abbrev pub decreases-loop-list : goal.decreases-loop-list
decreases-loop-list l = length l.cursor.rest.now
