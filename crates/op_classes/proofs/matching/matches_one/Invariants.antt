use Rattle.op_work.specs.Turns.{Turns}
use Rattle.op_classes.proofs.FirstHits.{left}
use Rattle.py_model.specs.Classes.{first_hit}
use Rattle.py_model.specs.Raising.{value_matches}
use Rattle.py_value.specs.Contents.{contents, parts_by}
use Rattle.op_classes.proofs.matching.matches_one.Given as goal

abbrev pub invariant-loop-i : goal.invariant-loop-i
invariant-loop-i l = Turns (λ table. first_hit (value_matches (contents table l.v)) (parts_by (contents table) l.classes)) (left l.v l.classes l.i) l.initial.work l.work
