use Rattle.op_lists.specs.Parts.{parts_in}
use Rattle.op_compare.proofs.PartSearch.{left}
use Rattle.op_work.specs.Turns.{Turns}
use Rattle.py_model.specs.Arithmetic.{among_parts}
use Rattle.py_value.specs.Contents.{contents}
use Rattle.op_compare.proofs.parts.among_parts.Given as goal

abbrev pub invariant-loop-i : goal.invariant-loop-i
invariant-loop-i l = Turns (λ table. among_parts (parts_in table l.id) (contents table l.v)) (left l.id l.v l.i) l.initial.work l.work
