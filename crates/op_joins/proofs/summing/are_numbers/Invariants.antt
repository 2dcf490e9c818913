use Rattle.std.proofs.Common.{◌≡◌, drop}
use Rattle.op_joins.specs.Summed.{all_numbers}
use Rattle.op_joins.proofs.summing.are_numbers.Given as goal

abbrev pub invariant-loop-item : goal.invariant-loop-item
invariant-loop-item l = all_numbers (drop l.item-index l.items) ≡ all_numbers l.fn.items
