use Rattle.py_model.specs.Lists.{move_down}
use Rattle.op_lists.proofs.Writing.{Writing}
use Rattle.op_mutations.proofs.Moves.{down_left}
use Rattle.op_mutations.proofs.moving.move_down.Given as goal

abbrev pub invariant-loop-i : goal.invariant-loop-i
invariant-loop-i l = Writing (λ table. move_down l.n l.o l.p) (down_left l.n l.o l.p l.i) l.initial.work l.work
