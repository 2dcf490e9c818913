use Rattle.std.proofs.Common.{length}
use Rattle.py_grammar.proofs.ForTargets.{TargetsGo}
use Rattle.py_grammar.proofs.names.more_targets.Given as goal

abbrev pub invariant-loop-alloc : goal.invariant-loop-alloc
invariant-loop-alloc l = TargetsGo 99 l.fn.cursor.rest.now l.fn.row l.cursor.rest.now l.row

abbrev pub decreases-loop-alloc : goal.decreases-loop-alloc
decreases-loop-alloc l = length l.cursor.rest.now
