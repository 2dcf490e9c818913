use Rattle.std.proofs.Common.{◌≡◌, ◌+◌, ◌≤◌, drop}
use Rattle.py_lines.specs.Counting as spec
use Rattle.py_lines.proofs.places.place_after.Given as goal

abbrev pub invariant-loop-byte : goal.invariant-loop-byte
invariant-loop-byte l =
    (spec.place_after l.here (drop l.byte-index l.bytes) ≡ spec.place_after l.fn.start l.fn.bytes)
    × (l.here.line ≤ l.fn.start.line + l.byte-index) × (l.here.col ≤ l.fn.start.col + l.byte-index)
