use Rattle.std.proofs.Common.{◌≡◌, drop, nat_lt}
use Rattle.op_texts.specs.Heads.{heads}
use Rattle.graph_texts.proofs.lengths.begins_more.Given as goal

abbrev pub invariant-loop-byte : goal.invariant-loop-byte
invariant-loop-byte l = nat_lt l.left (heads (drop l.byte-index l.bytes)) ≡ nat_lt l.most (heads l.fn.bytes)
