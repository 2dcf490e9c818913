use Rattle.std.proofs.Common.{◌≡◌, ◌<◌, ℕ, Some, slice_get}
use Rattle.py_value.specs.Values.{IsNamed}
use Rattle.py_value.specs.declared.value.Value.{Value}
use Rattle.case_operations.proofs.holding.are_named.Given as goal

abbrev pub invariant-loop-v : goal.invariant-loop-v
invariant-loop-v l = (i : ℕ) (v : Value) → i < l.v-index → slice_get l.operands i ≡ Some v → IsNamed l.values v
