use Rattle.std.proofs.Common.{◌≡◌, ◌++◌, drop}
use Rattle.op_mutations.specs.Pairs.{firsts as firsts_of}
use Rattle.op_mutations.proofs.pairs.firsts.Given as goal

abbrev pub invariant-loop-pair : goal.invariant-loop-pair
invariant-loop-pair l = l.keys.items ++ firsts_of (drop l.pair-index l.fn.pairs) ≡ firsts_of l.fn.pairs
