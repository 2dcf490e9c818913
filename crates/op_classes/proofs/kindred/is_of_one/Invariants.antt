use Rattle.op_work.specs.Turns.{Turns}
use Rattle.op_classes.proofs.FirstKinds.{left}
use Rattle.py_model.specs.Classes.{first_hit}
use Rattle.py_model.specs.Classes.{value_is}
use Rattle.py_value.specs.Contents.{contents, parts_by}
use Rattle.op_classes.proofs.kindred.is_of_one.Given as goal

abbrev pub invariant-loop-i : goal.invariant-loop-i
invariant-loop-i l = Turns (λ table. first_hit (value_is (contents table l.v)) (parts_by (contents table) l.kinds)) (left l.v l.kinds l.i) l.initial.work l.work
