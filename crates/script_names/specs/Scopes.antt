-- Functions by the number of their `def`, and the activation of a name (this project's profile).
use Rattle.std.specs.Prelude.{◌==◌, ℕ, Bool, List, Option, Some, None, if◌then◌else◌}
use Rattle.std.specs.Option.{option_map, option_or}
use Rattle.prov_base.specs.declared.place.Pos.{Pos}
use Rattle.py_tree.specs.Tree.{StmtTree, FormTree, SuiteTree, ScriptTree, one_stmt, def_form, class_form, end_suite, more_suite}
use Rattle.py_tree.specs.Functions.{Function, is_local}

-- The function with a number: the first `def` with it that stands at module level or directly in a class there.
abbrev mutual
  pub numbered_in : ℕ → SuiteTree → Option Function
  numbered_in n end_suite = None
  numbered_in n (more_suite stmt rest) = option_or (numbered_by n stmt) (numbered_in n rest)

  pub numbered_by : ℕ → StmtTree → Option Function
  numbered_by n (one_stmt number at span form) = numbered_at n number at form

  pub numbered_at : ℕ → ℕ → Pos → FormTree → Option Function
  numbered_at n number at (def_form name params globals body) =
      if number == n then Some (record { place = at; params = params; globals = globals; body = body }) else None
  numbered_at n number at (class_form name base body) = numbered_in n body
  numbered_at n number at form = None

abbrev pub function_in : ScriptTree → Option ℕ → Option Function
function_in script None = None
function_in script (Some n) = numbered_in n script.body

-- the activation of a name in a function: the given one where it is local, and else the module's
abbrev pub activation_by : Option Function → ℕ → List ℕ → ℕ
activation_by None activation name = 0
activation_by (Some f) activation name = if is_local f name then activation else 0

-- whether a name is local in the function with a number
abbrev pub local_in : ℕ → List ℕ → SuiteTree → Option Bool
local_in n name suite = option_map (λ f. is_local f name) (numbered_in n suite)

abbrev pub local_by : ℕ → List ℕ → StmtTree → Option Bool
local_by n name s = option_map (λ f. is_local f name) (numbered_by n s)

abbrev pub local_at : ℕ → List ℕ → ℕ → Pos → FormTree → Option Bool
local_at n name number at form = option_map (λ f. is_local f name) (numbered_at n number at form)
