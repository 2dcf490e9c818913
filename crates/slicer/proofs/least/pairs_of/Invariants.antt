use Rattle.std.proofs.Common.{◌≡◌, ◌++◌, drop, map}
use Rattle.slicer.specs.AskedPairs.{pair_of}
use Rattle.slicer.proofs.least.pairs_of.Given as goal

abbrev pub invariant-loop-ask : goal.invariant-loop-ask
invariant-loop-ask l = l.pairs.items ++ map pair_of (drop l.ask-index l.asks) ≡ map pair_of l.asks
