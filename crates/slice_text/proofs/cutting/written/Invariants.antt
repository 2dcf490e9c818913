use Rattle.std.proofs.Common.{◌≡◌, [], ◌++◌, drop}
use Rattle.py_tree.specs.StmtSet.{has}
use Rattle.slice_text.specs.Cut.{cut_from}
use Rattle.slice_text.proofs.cutting.written.Given as goal

abbrev pub invariant-loop-at : goal.invariant-loop-at
invariant-loop-at l = l.cut.items ++ cut_from (has l.goes) (has l.begins) l.at l.due (drop l.at l.text) ≡ cut_from (has l.goes) (has l.begins) 0 [] l.text
