-- Whether a statement stands in a function, and binders that were found.
use Rattle.std.specs.Prelude.{◌≡◌, ℕ, ◌==◌, Bool, false, List, [], slice_get, unwrap_or, Option, Some, None}
use Rattle.std.specs.Map.{lookup}
use Rattle.py_tree.specs.Owners.{statements}
use Rattle.py_tree.specs.Tree.{ScriptTree}
use Rattle.slice_law.specs.Edges.{first_binder}
use Rattle.slice_edges.specs.declared.binder.Local.{Local}
use Rattle.slice_edges.specs.contracts.binder.LocalPartialEq.TheImpl.{ghosts as locals}

abbrev pub is_inside : ℕ → Option ℕ → Bool
is_inside f None = false
is_inside f (Some own) = f == own

-- what is remembered of a function and a name is the first statement of the function that binds the name
abbrev pub AreBinders : ScriptTree → List (List ℕ) → List (Local × Option ℕ) → Type 0
AreBinders script texts entries =
    (local : Local) (binder : Option ℕ) → lookup (locals.eq local) entries ≡ Some binder → binder ≡ first_binder (Some local.function) (unwrap_or (slice_get texts local.name) []) (statements script)
