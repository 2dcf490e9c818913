use Rattle.std.proofs.Common.{◌≡◌, ◌++◌, take, drop}
use Rattle.py_model.specs.Files.{first_line}
use Rattle.op_items.proofs.lines.first_line.Given as goal

abbrev pub invariant-loop-i : goal.invariant-loop-i
invariant-loop-i l = take l.i l.bytes ++ first_line (drop l.i l.bytes) ≡ first_line l.bytes
