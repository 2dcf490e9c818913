use Rattle.op_compare.proofs.Seeking.{left}
use Rattle.op_work.specs.Turns.{Turns}
use Rattle.py_model.specs.Lists.{seek}
use Rattle.py_value.specs.Contents.{contents}
use Rattle.op_compare.proofs.items.seek.Given as goal

abbrev pub invariant-loop-i : goal.invariant-loop-i
invariant-loop-i l = Turns (λ table. seek l.n l.o 0 (contents table l.v)) (left l.n l.o l.v l.i) l.initial.work l.work
