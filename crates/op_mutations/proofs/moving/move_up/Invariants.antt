use Rattle.py_model.specs.Lists.{move_up}
use Rattle.op_lists.proofs.Writing.{Writing}
use Rattle.op_mutations.proofs.Moves.{up_left}
use Rattle.op_mutations.proofs.moving.move_up.Given as goal

abbrev pub invariant-loop-i : goal.invariant-loop-i
invariant-loop-i l = Writing (λ table. move_up l.n l.o l.p) (up_left l.n l.o l.p l.i) l.initial.work l.work
