use Rattle.std.proofs.Common.{◌≡◌, drop}
use Rattle.py_model.specs.Printing.{holds}
use Rattle.spelling.proofs.literals.holds.Given as goal

abbrev pub invariant-loop-one : goal.invariant-loop-one
invariant-loop-one l = holds l.byte (drop l.one-index l.bytes) ≡ holds l.fn.byte l.fn.bytes
