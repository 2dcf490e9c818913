-- The statements of a script in the order of its text, a compound statement before those in it: how many they are, and
-- their numbers.
use Rattle.std.specs.Prelude.{◌≡◌, ℕ, ◌+◌}
use Rattle.py_tree.specs.Tree.{StmtTree, FormTree, SuiteTree, BranchesTree, ElseTree, HandlersTree, ScriptTree, one_stmt, if_form, while_form, for_form, try_form, with_form, def_form, class_form, end_suite, more_suite, end_branches, more_branches, no_else, else_suite, end_handlers, more_handlers}

abbrev mutual
  -- how many statements there are
  pub size_stmt : StmtTree → ℕ
  size_stmt (one_stmt number at span form) = 1 + size_form form

  pub size_form : FormTree → ℕ
  size_form (if_form branches orelse) = size_branches branches + size_else orelse
  size_form (while_form test body) = size_suite body
  size_form (for_form target items body) = size_suite body
  size_form (try_form body handlers) = size_suite body + size_handlers handlers
  size_form (with_form value bound body) = size_suite body
  size_form (def_form name params globals body) = size_suite body
  size_form (class_form name base body) = size_suite body
  size_form _ = 0

  pub size_suite : SuiteTree → ℕ
  size_suite end_suite = 0
  size_suite (more_suite s rest) = size_stmt s + size_suite rest

  pub size_branches : BranchesTree → ℕ
  size_branches end_branches = 0
  size_branches (more_branches test body rest) = size_suite body + size_branches rest

  pub size_else : ElseTree → ℕ
  size_else no_else = 0
  size_else (else_suite body) = size_suite body

  pub size_handlers : HandlersTree → ℕ
  size_handlers end_handlers = 0
  size_handlers (more_handlers kind bound body rest) = size_suite body + size_handlers rest

abbrev mutual
  -- the same tree, its statements numbered from n on
  pub numbered_stmt : ℕ → StmtTree → StmtTree
  numbered_stmt n (one_stmt number at span form) = one_stmt n at span (numbered_form (n + 1) form)

  pub numbered_form : ℕ → FormTree → FormTree
  numbered_form n (if_form branches orelse) = if_form (numbered_branches n branches) (numbered_else (n + size_branches branches) orelse)
  numbered_form n (while_form test body) = while_form test (numbered_suite n body)
  numbered_form n (for_form target items body) = for_form target items (numbered_suite n body)
  numbered_form n (try_form body handlers) = try_form (numbered_suite n body) (numbered_handlers (n + size_suite body) handlers)
  numbered_form n (with_form value bound body) = with_form value bound (numbered_suite n body)
  numbered_form n (def_form name params globals body) = def_form name params globals (numbered_suite n body)
  numbered_form n (class_form name base body) = class_form name base (numbered_suite n body)
  numbered_form n form = form

  pub numbered_suite : ℕ → SuiteTree → SuiteTree
  numbered_suite n end_suite = end_suite
  numbered_suite n (more_suite s rest) = more_suite (numbered_stmt n s) (numbered_suite (n + size_stmt s) rest)

  pub numbered_branches : ℕ → BranchesTree → BranchesTree
  numbered_branches n end_branches = end_branches
  numbered_branches n (more_branches test body rest) = more_branches test (numbered_suite n body) (numbered_branches (n + size_suite body) rest)

  pub numbered_else : ℕ → ElseTree → ElseTree
  numbered_else n no_else = no_else
  numbered_else n (else_suite body) = else_suite (numbered_suite n body)

  pub numbered_handlers : ℕ → HandlersTree → HandlersTree
  numbered_handlers n end_handlers = end_handlers
  numbered_handlers n (more_handlers kind bound body rest) = more_handlers kind bound (numbered_suite n body) (numbered_handlers (n + size_suite body) rest)

-- the statements have the numbers from 0 on in the order of the text, and `count` is how many they are
pub record IsNumbered (script : ScriptTree) : Type 0 where
  pub in_order : numbered_suite 0 script.body ≡ script.body
  pub counted : size_suite script.body ≡ script.count
