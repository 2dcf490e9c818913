use Rattle.std.proofs.Common.{◌≡◌, ◌+◌, ◌-◌, ◌*◌, drop}
use Rattle.py_value.specs.KeyOf.{first_fault, fault_within}
use Rattle.py_value.specs.declared.value.Value.TheVariants.{Tuple}
use Rattle.py_value.proofs.values.Values.+fault.Given as goal

abbrev pub decreases-fault_of : goal.decreases-fault_of
decreases-fault_of l = 2 * l.levels + 1

abbrev pub decreases-fault_of_tuple : goal.decreases-fault_of_tuple
decreases-fault_of_tuple l = 2 * l.levels

abbrev pub invariant-fault_of_tuple-loop-item : goal.invariant-fault_of_tuple-loop-item
invariant-fault_of_tuple-loop-item l = fault_within l.levels l.self (Tuple l.id) ≡ first_fault (fault_within (l.levels - 1) l.self) (drop l.item-index l.item-items)
