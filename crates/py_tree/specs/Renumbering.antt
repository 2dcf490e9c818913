-- The numbers that the statements of a script have after a deletion.
use Rattle.std.specs.Prelude.{◌≡◌, ℕ, ◌+◌, nat_lt, ◌&&◌, Bool, List, [], ◌∷◌, ◌++◌, if◌then◌else◌}
use Rattle.py_tree.specs.Tree.{StmtTree, FormTree, SuiteTree, BranchesTree, ElseTree, HandlersTree, ScriptTree, one_stmt, if_form, while_form, for_form, try_form, with_form, def_form, class_form, end_suite, more_suite, end_branches, more_branches, no_else, else_suite, end_handlers, more_handlers}
use Rattle.py_tree.specs.Numbering.{numbered_suite}
use Rattle.py_tree.specs.Deletion.{kept_suite}

abbrev mutual
  -- the same tree, where the number of each statement is what `new` says of the old one
  pub renamed_suite : (ℕ → ℕ) → SuiteTree → SuiteTree
  renamed_suite new end_suite = end_suite
  renamed_suite new (more_suite s rest) = more_suite (renamed_stmt new s) (renamed_suite new rest)

  pub renamed_stmt : (ℕ → ℕ) → StmtTree → StmtTree
  renamed_stmt new (one_stmt number at span form) = one_stmt (new number) at span (renamed_form new form)

  pub renamed_form : (ℕ → ℕ) → FormTree → FormTree
  renamed_form new (if_form branches orelse) = if_form (renamed_branches new branches) (renamed_else new orelse)
  renamed_form new (while_form test body) = while_form test (renamed_suite new body)
  renamed_form new (for_form target items body) = for_form target items (renamed_suite new body)
  renamed_form new (try_form body handlers) = try_form (renamed_suite new body) (renamed_handlers new handlers)
  renamed_form new (with_form value bound body) = with_form value bound (renamed_suite new body)
  renamed_form new (def_form name params globals body) = def_form name params globals (renamed_suite new body)
  renamed_form new (class_form name base body) = class_form name base (renamed_suite new body)
  renamed_form new form = form

  pub renamed_branches : (ℕ → ℕ) → BranchesTree → BranchesTree
  renamed_branches new end_branches = end_branches
  renamed_branches new (more_branches test body rest) = more_branches test (renamed_suite new body) (renamed_branches new rest)

  pub renamed_else : (ℕ → ℕ) → ElseTree → ElseTree
  renamed_else new no_else = no_else
  renamed_else new (else_suite body) = else_suite (renamed_suite new body)

  pub renamed_handlers : (ℕ → ℕ) → HandlersTree → HandlersTree
  renamed_handlers new end_handlers = end_handlers
  renamed_handlers new (more_handlers kind bound body rest) = more_handlers kind bound (renamed_suite new body) (renamed_handlers new rest)

abbrev mutual
  -- the numbers of the statements, in the order of the text
  pub suite_numbers : SuiteTree → List ℕ
  suite_numbers end_suite = []
  suite_numbers (more_suite s rest) = stmt_numbers s ++ suite_numbers rest

  pub stmt_numbers : StmtTree → List ℕ
  stmt_numbers (one_stmt number at span form) = number ∷ form_numbers form

  pub form_numbers : FormTree → List ℕ
  form_numbers (if_form branches orelse) = branches_numbers branches ++ else_numbers orelse
  form_numbers (while_form test body) = suite_numbers body
  form_numbers (for_form target items body) = suite_numbers body
  form_numbers (try_form body handlers) = suite_numbers body ++ handlers_numbers handlers
  form_numbers (with_form value bound body) = suite_numbers body
  form_numbers (def_form name params globals body) = suite_numbers body
  form_numbers (class_form name base body) = suite_numbers body
  form_numbers form = []

  pub branches_numbers : BranchesTree → List ℕ
  branches_numbers end_branches = []
  branches_numbers (more_branches test body rest) = suite_numbers body ++ branches_numbers rest

  pub else_numbers : ElseTree → List ℕ
  else_numbers no_else = []
  else_numbers (else_suite body) = suite_numbers body

  pub handlers_numbers : HandlersTree → List ℕ
  handlers_numbers end_handlers = []
  handlers_numbers (more_handlers kind bound body rest) = suite_numbers body ++ handlers_numbers rest

-- how many numbers of the list are lower
abbrev pub rank : List ℕ → ℕ → ℕ
rank [] i = 0
rank (x ∷ xs) i = (if nat_lt x i then 1 else 0) + rank xs i

-- The number that a statement which stays has after the deletion: how many that stay come before it. An inserted `pass`
-- counts as the first statement of its suite, and has the number that this gives for that one.
abbrev pub new_number : (ℕ → Bool) → ScriptTree → ℕ → ℕ
new_number keep script i = rank (suite_numbers (kept_suite keep script.body)) i

-- `new` gives for the number of each statement that stays its number after the deletion; for an inserted `pass` it does so
-- for the number of the statement in whose place it stands
abbrev pub GivesNewNumbers : (ℕ → Bool) → ScriptTree → (ℕ → ℕ) → Type 0
GivesNewNumbers keep script new = renamed_suite new (kept_suite keep script.body) ≡ numbered_suite 0 (kept_suite keep script.body)

-- the statements of the first set that are, with their new numbers, in the second
abbrev pub both : (ℕ → Bool) → (ℕ → ℕ) → (ℕ → Bool) → ℕ → Bool
both first new second i = first i && second (new i)
