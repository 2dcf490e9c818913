use Rattle.std.proofs.Common.{length}
use Rattle.py_grammar.proofs.NameLists.{DifferentGo}
use Rattle.py_grammar.specs.NameSets.{Agrees}
use Rattle.py_grammar.proofs.names.different_names.Given as goal

abbrev pub invariant-loop-alloc : goal.invariant-loop-alloc
invariant-loop-alloc l = DifferentGo l.fn.cursor.rest.now l.list.items l.cursor.rest.now × Agrees l.seen l.list.items

abbrev pub decreases-loop-alloc : goal.decreases-loop-alloc
decreases-loop-alloc l = length l.cursor.rest.now
