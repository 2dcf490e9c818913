-- Whose the names are that a moment reads and sets: the module's, or those of the innermost open activation (this project's profile). What sets a
-- name of an activation binds it, or has it as a parameter.
use Rattle.std.specs.Prelude.{◌≡◌, ℕ, suc, Bool, true, false, IsTrue, List, [], ◌∷◌, Option, Some, None}
use Rattle.std.specs.List.{list_any}
use Rattle.std.specs.Str.{bytes_eq}
use Rattle.prov_base.specs.declared.place.Pos.{Pos}
use Rattle.py_tree.specs.Binds.{binds}
use Rattle.py_tree.specs.Functions.{Function, function_at}
use Rattle.py_tree.specs.Placed.{number_on}
use Rattle.py_tree.specs.Tree.{ScriptTree}
use Rattle.py_value.specs.Seen.{SeenLocation, SeenAccess, var_at, reads, sets, updates}
use Rattle.py_model.specs.History.{accesses_by, entered_by}
use Rattle.py_model.specs.Moment.{Moment, begins, does, enters, leaves, ends}
use Rattle.py_model.specs.Occurrences.{owner_stmt}
use Rattle.slice_law.specs.Closed.{IsIn}
use Rattle.slice_law.specs.Edges.{stmt_at, function_of_stmt}

-- an open activation: its number, and the place of its function
pub record Call : Type 0 where
  pub activation : ℕ
  pub def : Pos

abbrev pub without_first : List Call → List Call
without_first [] = []
without_first (call ∷ calls) = calls

-- the open activations after moments, innermost first
abbrev pub calls_after : List Moment → List Call
calls_after [] = []
calls_after (enters at def values accesses ∷ before) = record { activation = suc (entered_by before); def = def } ∷ calls_after before
calls_after (leaves v ∷ before) = without_first (calls_after before)
calls_after (does at number values answer made accesses weight ∷ before) = calls_after before
calls_after (begins number ∷ before) = calls_after before
calls_after (ends number ended ∷ before) = calls_after before

-- the number of the innermost one, and of the `def` of its function; none at module level
abbrev pub innermost_activation : List Call → Option ℕ
innermost_activation [] = None
innermost_activation (call ∷ calls) = Some call.activation

abbrev pub innermost_def : ScriptTree → List Call → Option ℕ
innermost_def script [] = None
innermost_def script (call ∷ calls) = number_on script call.def

-- where an access is, and whether it sets or updates what is there
abbrev pub location_of : SeenAccess → SeenLocation
location_of (reads l) = l
location_of (sets l content) = l
location_of (updates l how) = l

abbrev pub is_write : SeenAccess → Bool
is_write (reads l) = false
is_write (sets l content) = true
is_write (updates l how) = true

-- the function at a place has the name among its parameters
pub record HasParameter (script : ScriptTree) (def : Pos) (name : List ℕ) : Type 0 where
  pub function : Function
  pub found : function_at script def ≡ Some function
  pub is_one : IsTrue (list_any (bytes_eq name) function.params)

-- what sets a name of an activation: an operation whose statement binds the name, or an Enter of a function that has it as a parameter
abbrev pub BoundBy : ScriptTree → Moment → ℕ → List ℕ → Type 0
BoundBy script (does at number values answer made accesses weight) owner name = IsTrue (binds script owner name)
BoundBy script (enters at def values accesses) owner name = HasParameter script def name
BoundBy script (begins number) owner name = ⊥
BoundBy script (leaves v) owner name = ⊥
BoundBy script (ends number ended) owner name = ⊥

-- The statement that owns a moment is of the function of the innermost open activation. Each access of the moment to a name of an activation is to one of
-- the innermost, which an Enter has just opened. What sets the name binds it.
pub record OwnNames (script : ScriptTree) (moment : Moment) (before : List Moment) : Type 0 where
  pub owner : ℕ
  pub owner_is : owner_stmt before ≡ Some owner
  pub function_is : function_of_stmt script owner ≡ innermost_def script (calls_after before)
  pub each : (access : SeenAccess) → IsIn (accesses_by moment) access → (a : ℕ) (name : List ℕ) → location_of access ≡ var_at (suc a) name
      → (innermost_activation (calls_after (moment ∷ before)) ≡ Some (suc a)) × (is_write access ≡ true → BoundBy script moment owner name)

-- an operation, or an Enter
abbrev pub is_done : Moment → Bool
is_done (does at number values answer made accesses weight) = true
is_done (enters at def values accesses) = true
is_done (begins number) = false
is_done (leaves v) = false
is_done (ends number ended) = false

-- What set a local name that statement n reads, at a time in its reach: a statement of the same function that binds the name, or the Enter, where the name is a
-- parameter of that function.
pub data IsBoundAt (script : ScriptTree) (n : ℕ) (name : List ℕ) (time : ℕ) (before : List Moment) : Type 0 where
  by_statement : (m : ℕ) → stmt_at time before ≡ Some m → IsTrue (binds script m name) → function_of_stmt script m ≡ function_of_stmt script n → IsBoundAt script n name time before
  by_parameter : (f : Function) → function_at script f.place ≡ Some f → number_on script f.place ≡ function_of_stmt script n → IsTrue (list_any (bytes_eq name) f.params)
      → IsBoundAt script n name time before
