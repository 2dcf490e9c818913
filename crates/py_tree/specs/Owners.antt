-- Where the statements of a script stand: in the suite of which statement, and in which function.
use Rattle.std.specs.Prelude.{ℕ, ◌==◌, Bool, true, false, List, [], ◌∷◌, ◌++◌, Option, None, Some, option_map, if◌then◌else◌}
use Rattle.std.specs.Option.{option_and_then}
use Rattle.std.specs.List.{find}
use Rattle.py_tree.specs.Tree.{number_of, StmtTree, FormTree, SuiteTree, BranchesTree, ElseTree, HandlersTree, ScriptTree, one_stmt, if_form, while_form, for_form, try_form, with_form, def_form, class_form, end_suite, more_suite, end_branches, more_branches, no_else, else_suite, end_handlers, more_handlers}

-- What a statement stands in: the innermost statement that has it in one of its suites, and the number of the innermost
-- `def` that has it in its suite, directly or further in. At module level there is neither.
pub record Around : Type 0 where
  pub owner : Option StmtTree
  pub function : Option ℕ

abbrev pub at_module_level : Around
at_module_level = record { owner = None; function = None }

-- a statement, and what it stands in
pub record Standing : Type 0 where
  pub stmt : StmtTree
  pub around : Around

abbrev pub form_in : StmtTree → FormTree
form_in (one_stmt number at span form) = form

abbrev pub is_def : FormTree → Bool
is_def (def_form name params globals body) = true
is_def _ = false

-- what the statements in the suites of this statement stand in
abbrev pub within : StmtTree → Around → Around
within stmt around = record { owner = Some stmt; function = (if is_def (form_in stmt) then Some (number_of stmt) else around.function) }

abbrev mutual
  -- the statements in the order of the text, a compound one before those in it
  pub listed_stmt : Around → StmtTree → List Standing
  listed_stmt around (one_stmt number at span form) = record { stmt = one_stmt number at span form; around = around } ∷ listed_form (within (one_stmt number at span form) around) form

  pub listed_form : Around → FormTree → List Standing
  listed_form around (if_form branches orelse) = listed_branches around branches ++ listed_else around orelse
  listed_form around (while_form test body) = listed_suite around body
  listed_form around (for_form target items body) = listed_suite around body
  listed_form around (try_form body handlers) = listed_suite around body ++ listed_handlers around handlers
  listed_form around (with_form value bound body) = listed_suite around body
  listed_form around (def_form name params globals body) = listed_suite around body
  listed_form around (class_form name base body) = listed_suite around body
  listed_form around _ = []

  pub listed_suite : Around → SuiteTree → List Standing
  listed_suite around end_suite = []
  listed_suite around (more_suite stmt rest) = listed_stmt around stmt ++ listed_suite around rest

  pub listed_branches : Around → BranchesTree → List Standing
  listed_branches around end_branches = []
  listed_branches around (more_branches test body rest) = listed_suite around body ++ listed_branches around rest

  pub listed_else : Around → ElseTree → List Standing
  listed_else around no_else = []
  listed_else around (else_suite body) = listed_suite around body

  pub listed_handlers : Around → HandlersTree → List Standing
  listed_handlers around end_handlers = []
  listed_handlers around (more_handlers kind bound body rest) = listed_suite around body ++ listed_handlers around rest

abbrev pub statements : ScriptTree → List Standing
statements script = listed_suite at_module_level script.body

abbrev pub number_at : Standing → ℕ
number_at x = number_of x.stmt

-- the first with number s
abbrev pub first_at : ℕ → List Standing → Option Standing
first_at s xs = find (λ x. number_at x == s) xs

abbrev pub standing_at : ScriptTree → ℕ → Option Standing
standing_at script s = first_at s (statements script)

-- the number of the innermost statement that has statement s in one of its suites
abbrev pub parent_of : ScriptTree → ℕ → Option ℕ
parent_of script s = option_and_then (λ x. option_map number_of x.around.owner) (standing_at script s)

-- the number of the innermost `def` that has statement s in its suite, directly or further in
abbrev pub function_of : ScriptTree → ℕ → Option ℕ
function_of script s = option_and_then (λ x. x.around.function) (standing_at script s)
