-- No public clause cites this file.
-- Which statements the reads of a row ask for, and why, where texts and locations have numbers.
use Rattle.std.specs.Prelude.{ℕ, zero, suc, ◌==◌, ◌&&◌, Bool, false, List, [], slice_get, unwrap_or, Option, Some, None, if◌then◌else◌}
use Rattle.std.specs.List.{list_any}
use Rattle.py_tree.specs.Owners.{statements}
use Rattle.py_tree.specs.Tree.{ScriptTree}
use Rattle.py_value.specs.declared.access.Access.{Access}
use Rattle.py_value.specs.declared.access.Access.TheVariants.{Read, Set, Update}
use Rattle.py_value.specs.declared.access.Location.{Location}
use Rattle.py_value.specs.declared.access.Location.TheVariants.{Var, Len, Item, Entry, Order, File, Offset, Closed, Method, Base}
use Rattle.slice_law.specs.Closed.{has}
use Rattle.slice_law.specs.Edges.{Reason, by_data, by_name, from_option, first_binder, function_of_stmt}
use Rattle.slice_edges.specs.Asks.{same_reason}
use Rattle.slice_edges.specs.Writers.{found_at}

-- the number of a local name; a name of the script's own activation is none
abbrev pub local_name : Location → Option ℕ
local_name (Var zero name) = None
local_name (Var (suc scope) name) = Some name
local_name (Len o) = None
local_name (Item o i) = None
local_name (Entry o key) = None
local_name (Order o) = None
local_name (File path) = None
local_name (Offset o) = None
local_name (Closed o) = None
local_name (Method class name) = None
local_name (Base class) = None

-- numbers, if something holds
abbrev pub numbers_if : Bool → List ℕ → List ℕ
numbers_if b numbers = if b then numbers else []

module _ (script : ScriptTree) (texts : List (List ℕ)) (asker : ℕ) where
  -- the first statement that binds a local name
  abbrev pub binder_of : ℕ → List ℕ
  binder_of name = from_option (first_binder (function_of_stmt script asker) (unwrap_or (slice_get texts name) []) (statements script))

  abbrev pub binder_for : Option ℕ → List ℕ
  binder_for None = []
  binder_for (Some name) = binder_of name

  -- for data the statements that are noted at a location; where nothing is, by its name the one that binds it
  abbrev pub stmts_or : Reason → Location → Option (List ℕ) → List ℕ
  stmts_or reason l None = numbers_if (same_reason by_name reason) (binder_for (local_name l))
  stmts_or reason l (Some numbers) = numbers_if (same_reason by_data reason) numbers

  module _ (entries : List (Location × List ℕ)) where
    abbrev pub read_stmts : Reason → Access → List ℕ
    read_stmts reason (Read l) = stmts_or reason l (found_at entries l)
    read_stmts reason (Set l content) = []
    read_stmts reason (Update l change) = []

    -- the statement is one that a read asks for
    abbrev pub is_read : Reason → ℕ → List Access → Bool
    is_read reason r accesses = list_any (λ access. has r (read_stmts reason access)) accesses

-- the owner of a row asks for a statement by a read
abbrev pub owner_reads : ScriptTree → List (List ℕ) → List (Location × List ℕ) → Option ℕ → List Access → Reason → ℕ → ℕ → Bool
owner_reads script texts entries None accesses reason s r = false
owner_reads script texts entries (Some asker) accesses reason s r = (asker == s) && is_read script texts asker entries reason r accesses
