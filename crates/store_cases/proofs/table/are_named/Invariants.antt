use Rattle.std.proofs.Common.{◌≡◌, ℕ, ◌<◌, length, slice_get, Some}
use Rattle.py_value.specs.declared.access.Access.{Access}
use Rattle.py_value.specs.Values.{ValuesView}
use Rattle.object_store.specs.Room.{IsNamedAccess}
use Rattle.store_cases.proofs.table.are_named.Given as goal

abbrev pub invariant-loop-access : goal.invariant-loop-access
invariant-loop-access l = (values : ValuesView) → l.last < length values.texts → (k : ℕ) (access : Access) → k < l.access-index → slice_get l.plan k ≡ Some access → IsNamedAccess values access
