-- The bytes so far were read from the start.
use Rattle.std.proofs.Common.{◌≡◌, [], take, Some}
use Rattle.py_lines.specs.Reading.{after_bytes, at_start}
use Rattle.py_lines.proofs.scan.scan.Given as goal

abbrev pub invariant-loop-at : goal.invariant-loop-at
invariant-loop-at l = after_bytes [] at_start (take l.at l.text) ≡ Some l.reader
