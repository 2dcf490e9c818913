use Rattle.std.proofs.Common.{◌≡◌, ℕ, ◌<◌, slice_get, Some}
use Rattle.py_value.specs.declared.access.Access.{Access}
use Rattle.object_store.specs.Room.{IsAccessWithin}
use Rattle.store_cases.proofs.table.are_within.Given as goal

abbrev pub invariant-loop-access : goal.invariant-loop-access
invariant-loop-access l = (k : ℕ) (access : Access) → k < l.access-index → slice_get l.plan k ≡ Some access → IsAccessWithin l.count access
