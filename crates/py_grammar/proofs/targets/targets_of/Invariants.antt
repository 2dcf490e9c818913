use Rattle.py_grammar.proofs.TargetLists.{Turned}
use Rattle.py_grammar.proofs.targets.targets_of.Given as goal

abbrev pub invariant-loop-expr : goal.invariant-loop-expr
invariant-loop-expr l = Turned l.fn.exprs.list.items l.list.items l.expr-iterator.rest.items
