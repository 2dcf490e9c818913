use Rattle.py_model.specs.Classes.{end_of_chain as plan_end}
use Rattle.py_value.specs.Contents.{contents}
use Rattle.op_classes.proofs.OtherWalks.{end_left}
use Rattle.op_work.specs.Turns.{Turns}
use Rattle.op_classes.proofs.chains.end_of_chain.Given as goal

abbrev pub invariant-loop-i : goal.invariant-loop-i
invariant-loop-i l = Turns (λ table. plan_end (contents table l.fn.of)) (end_left l.i l.at) l.initial.work l.work
