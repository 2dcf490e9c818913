use Rattle.std.proofs.Common.{◌≡◌, drop, pos}
use Rattle.op_joins.specs.Summed.{sum_found}
use Rattle.op_joins.proofs.summing.sum_of.Given as goal

abbrev pub invariant-loop-item : goal.invariant-loop-item
invariant-loop-item l = sum_found l.so_far (drop l.item-index l.items) ≡ sum_found (pos 0) l.fn.items
