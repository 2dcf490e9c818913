-- Functions of a script in the order of the text, each with the number of its `def` (this project's profile).
use Rattle.std.specs.Prelude.{◌≡◌, ◌==◌, ℕ, Bool, List, [], ◌∷◌, ◌++◌, Option, Some, None, if◌then◌else◌}
use Rattle.prov_base.specs.declared.place.Pos.{Pos}
use Rattle.prov_base.specs.contracts.place.PosPartialEq.TheImpl.{ghosts as places}
use Rattle.py_tree.specs.Erasure.{suite_of}
use Rattle.py_tree.specs.Tree.{StmtTree, FormTree, SuiteTree, ScriptTree, one_stmt, def_form, class_form, end_suite, more_suite}
use Rattle.py_tree.specs.Functions.{Function, function_at}
use Rattle.script_names.specs.Scopes.{function_in}
use Rattle.script_names.specs.declared.finding.Found.{Found}
use Rattle.script_names.specs.declared.finding.Key.{Key}
use Rattle.script_names.specs.declared.finding.Key.TheVariants.{Place, Number}

-- a function with the number of its `def`
pub record Def : Type 0 where
  pub number : ℕ
  pub function : Function

abbrev mutual
  pub defs_in : SuiteTree → List Def
  defs_in end_suite = []
  defs_in (more_suite stmt rest) = defs_of stmt ++ defs_in rest

  pub defs_of : StmtTree → List Def
  defs_of (one_stmt number at span form) = defs_at number at form

  pub defs_at : ℕ → Pos → FormTree → List Def
  defs_at number at (def_form name params globals body) = record { number = number; function = record { place = at; params = params; globals = globals; body = body } } ∷ []
  defs_at number at (class_form name base body) = defs_in body
  defs_at number at form = []

abbrev pub first_def : (ℕ → Pos → Bool) → List Def → Option Def
first_def test [] = None
first_def test (d ∷ ds) = if test d.number d.function.place then Some d else first_def test ds

abbrev pub key_test : Key → ℕ → Pos → Bool
key_test (Place place) number at = places.eq at place
key_test (Number own) number at = number == own

abbrev pub found_function : Found → Function
found_function f = record { place = f.at; params = f.params.now.list.items; globals = f.globals.now.list.items; body = suite_of f.body.now }

abbrev pub found_seen : Found → Def
found_seen f = record { number = f.number; function = found_function f }

-- it is the function at the place, and that with its number
abbrev pub IsFunctionAt : ScriptTree → Pos → Option Found → Type 0
IsFunctionAt script place None = function_at script place ≡ None
IsFunctionAt script place (Some f) = (function_at script place ≡ Some (found_function f)) × (function_in script (Some f.number) ≡ Some (found_function f))
