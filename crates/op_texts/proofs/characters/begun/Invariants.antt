use Rattle.std.proofs.Common.{◌≡◌, ◌+◌, ◌≤◌, drop}
use Rattle.op_texts.specs.Heads.{heads}
use Rattle.op_texts.proofs.characters.begun.Given as goal

abbrev pub invariant-loop-byte : goal.invariant-loop-byte
invariant-loop-byte l = (l.n + heads (drop l.byte-index l.bytes) ≡ heads l.fn.bytes) × (l.n ≤ l.byte-index)
