-- Which statement has which nodes as its own: those of its expressions and targets, and not those of statements in its suites. They stand in the
-- order of the places of the whole.
use Rattle.std.specs.Prelude.{ℕ, List, [], ◌∷◌, ◌++◌, None, Some}
use Rattle.prov_base.specs.declared.place.Pos.{Pos}
use Rattle.py_tree.specs.Places.{expr_places, target_places, option_places, bound_places}
use Rattle.slice_law.specs.Closed.{IsIn}
use Rattle.py_tree.specs.Tree.{ScriptTree, StmtTree, FormTree, SuiteTree, BranchesTree, ElseTree, HandlersTree, one_stmt, do_form, assign_form, aug_form, del_form, return_form, raise_form, assert_form, if_form, while_form, for_form, try_form, with_form, def_form, class_form, end_suite, more_suite, end_branches, more_branches, no_else, else_suite, end_handlers, more_handlers}

-- the places, each with the number of the statement
abbrev pub tag : ℕ → List Pos → List (ℕ × Pos)
tag n [] = []
tag n (place ∷ places) = (n, place) ∷ tag n places

abbrev mutual
  pub owned_suite : SuiteTree → List (ℕ × Pos)
  owned_suite end_suite = []
  owned_suite (more_suite s rest) = owned_stmt s ++ owned_suite rest

  pub owned_stmt : StmtTree → List (ℕ × Pos)
  owned_stmt (one_stmt number at span form) = owned_form number form

  pub owned_form : ℕ → FormTree → List (ℕ × Pos)
  owned_form n (do_form e) = tag n (expr_places e)
  owned_form n (assign_form target e) = tag n (target_places target ++ expr_places e)
  owned_form n (aug_form target op at e) = tag n (at ∷ (target_places target ++ expr_places e))
  owned_form n (del_form target) = tag n (target_places target)
  owned_form n (return_form e) = tag n (option_places e)
  owned_form n (raise_form e) = tag n (option_places e)
  owned_form n (assert_form test message) = tag n (expr_places test ++ option_places message)
  owned_form n (if_form branches orelse) = owned_branches n branches ++ owned_else orelse
  owned_form n (while_form test body) = tag n (expr_places test) ++ owned_suite body
  owned_form n (for_form target items body) = tag n (target_places target) ++ (tag n (expr_places items) ++ owned_suite body)
  owned_form n (try_form body handlers) = owned_suite body ++ owned_handlers n handlers
  owned_form n (with_form e bound body) = tag n (expr_places e) ++ (tag n (bound_places bound) ++ owned_suite body)
  owned_form n (def_form name params globals body) = owned_suite body
  owned_form n (class_form name None body) = owned_suite body
  owned_form n (class_form name (Some base) body) = tag n (expr_places base) ++ owned_suite body
  owned_form n form = []

  pub owned_branches : ℕ → BranchesTree → List (ℕ × Pos)
  owned_branches n end_branches = []
  owned_branches n (more_branches test body rest) = tag n (expr_places test) ++ (owned_suite body ++ owned_branches n rest)

  pub owned_else : ElseTree → List (ℕ × Pos)
  owned_else no_else = []
  owned_else (else_suite body) = owned_suite body

  pub owned_handlers : ℕ → HandlersTree → List (ℕ × Pos)
  owned_handlers n end_handlers = []
  owned_handlers n (more_handlers None bound body rest) = tag n (bound_places bound) ++ (owned_suite body ++ owned_handlers n rest)
  owned_handlers n (more_handlers (Some kind) bound body rest) = tag n (expr_places kind) ++ (tag n (bound_places bound) ++ (owned_suite body ++ owned_handlers n rest))

-- the numbers of all statements, each with its place
abbrev mutual
  pub started_suite : SuiteTree → List (ℕ × Pos)
  started_suite end_suite = []
  started_suite (more_suite s rest) = started_stmt s ++ started_suite rest

  pub started_stmt : StmtTree → List (ℕ × Pos)
  started_stmt (one_stmt number at span form) = (number, at) ∷ started_form form

  pub started_form : FormTree → List (ℕ × Pos)
  started_form (if_form branches orelse) = started_branches branches ++ started_else orelse
  started_form (while_form test body) = started_suite body
  started_form (for_form target items body) = started_suite body
  started_form (try_form body handlers) = started_suite body ++ started_handlers handlers
  started_form (with_form e bound body) = started_suite body
  started_form (def_form name params globals body) = started_suite body
  started_form (class_form name base body) = started_suite body
  started_form form = []

  pub started_branches : BranchesTree → List (ℕ × Pos)
  started_branches end_branches = []
  started_branches (more_branches test body rest) = started_suite body ++ started_branches rest

  pub started_else : ElseTree → List (ℕ × Pos)
  started_else no_else = []
  started_else (else_suite body) = started_suite body

  pub started_handlers : HandlersTree → List (ℕ × Pos)
  started_handlers end_handlers = []
  started_handlers (more_handlers kind bound body rest) = started_suite body ++ started_handlers rest

-- A statement of the one script and one of the other stand at one place.
pub record SamePlace (script other : ScriptTree) (s n : ℕ) : Type 0 where
  pub place : Pos
  pub here : IsIn (started_suite script.body) (s, place)
  pub there : IsIn (started_suite other.body) (n, place)
