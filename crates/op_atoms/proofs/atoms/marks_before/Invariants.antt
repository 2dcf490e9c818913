use Rattle.std.proofs.Common.{◌≡◌, length}
use Rattle.op_atoms.specs.Marks.{AreMarks}
use Rattle.op_atoms.proofs.atoms.marks_before.Given as goal

abbrev pub invariant-loop-before : goal.invariant-loop-before
invariant-loop-before l = (length l.marks.items ≡ l.before) × AreMarks l.values l.marks.items
