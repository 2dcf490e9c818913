use Rattle.py_model.specs.Classes.{method_of_class as plan_method}
use Rattle.py_value.specs.Contents.{contents}
use Rattle.py_value.specs.Seen.{bytes_of}
use Rattle.op_classes.proofs.OtherWalks.{method_left}
use Rattle.op_work.specs.Turns.{Turns}
use Rattle.op_classes.proofs.chains.method_of_class.Given as goal

abbrev pub invariant-loop-i : goal.invariant-loop-i
invariant-loop-i l = Turns (λ table. plan_method (bytes_of table l.name) (contents table l.fn.of)) (method_left l.i l.name l.at) l.initial.work l.work
