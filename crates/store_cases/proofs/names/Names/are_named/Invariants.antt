use Rattle.std.proofs.Common.{◌≡◌, ℕ, ◌<◌, slice_get, Some}
use Rattle.py_value.specs.declared.value.Value.{Value}
use Rattle.py_value.specs.Values.{IsNamed}
use Rattle.store_cases.proofs.names.Names.are_named.Given as goal

abbrev pub invariant-loop-item : goal.invariant-loop-item
invariant-loop-item l = (k : ℕ) (item : Value) → k < l.item-index → slice_get l.items k ≡ Some item → IsNamed l.self.values item
