use Rattle.op_mutations.specs.Pairs.{entries_set}
use Rattle.op_lists.proofs.Writing.{Writing}
use Rattle.op_mutations.proofs.PairWrites.{left}
use Rattle.op_mutations.proofs.making.set_entries.Given as goal

abbrev pub invariant-loop-pair : goal.invariant-loop-pair
invariant-loop-pair l = Writing (λ table. entries_set l.o table l.fn.pairs) (left l.o l.fn.pairs l.pair-index) l.initial.work l.work
