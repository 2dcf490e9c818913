use Rattle.std.proofs.Common.{[], ◌≤◌, ◌/◌, length}
use Rattle.op_mutations.specs.Pairs.{ArePairs, pairs_behind}
use Rattle.op_lists.specs.ValuesSeen.{values_seen}
use Rattle.op_work.specs.Turns.{Turns}
use Rattle.op_mutations.proofs.PairWalks.{left}
use Rattle.op_mutations.proofs.displays.display_pairs.Given as goal

abbrev pub invariant-loop-i : goal.invariant-loop-i
invariant-loop-i l = Turns (λ table. pairs_behind (values_seen table l.operands) []) (left l.operands l.i l.pairs.items) l.initial.work l.work
    × ArePairs l.work.values l.pairs.items × (l.i ≤ length l.operands / 2)
