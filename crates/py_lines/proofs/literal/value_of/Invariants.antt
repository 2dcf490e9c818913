use Rattle.std.proofs.Common.{◌≡◌, ◌++◌, drop, false}
use Rattle.py_lines.specs.Literal as spec
use Rattle.py_lines.proofs.literal.value_of.Given as goal

abbrev pub invariant-loop-byte : goal.invariant-loop-byte
invariant-loop-byte l = l.value.items ++ spec.value_of l.escaping (drop l.byte-index l.inside) ≡ spec.value_of false l.fn.inside
