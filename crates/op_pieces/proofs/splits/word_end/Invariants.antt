use Rattle.std.proofs.Common.{◌≡◌, ◌+◌, drop}
use Rattle.op_pieces.specs.Puts.{word_end}
use Rattle.op_pieces.proofs.splits.word_end.Given as goal

abbrev pub invariant-loop-i : goal.invariant-loop-i
invariant-loop-i l = l.i + word_end (drop l.i l.bytes) ≡ word_end l.fn.bytes
