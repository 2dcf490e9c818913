use Rattle.std.proofs.Common.{◌≡◌, false}
use Rattle.outside_cases.proofs.bench.Bench.call_before.Given as goal

abbrev pub invariant-loop-words : goal.invariant-loop-words
invariant-loop-words l = l.keeper.held.is_open ≡ false
