-- Trees without the numbers and the bytes of their statements: numbering needs no more.
use Rattle.std.proofs.Common.{◌≡◌, ℕ, ◌+◌, refl, ap}
use Rattle.py_tree.specs.Tree.{StmtTree, FormTree, SuiteTree, BranchesTree, ElseTree, HandlersTree, one_stmt, if_form, while_form, for_form, try_form, with_form, def_form, class_form, end_suite, more_suite, end_branches, more_branches, no_else, else_suite, end_handlers, more_handlers}
use Rattle.py_tree.specs.Numbering.{size_stmt, size_form, size_suite, size_branches, size_else, size_handlers, numbered_stmt, numbered_form, numbered_suite, numbered_branches, numbered_else, numbered_handlers}
use Rattle.py_tree.specs.Unplaced.{no_bytes}
use Rattle.slice_text.specs.Spanless.{spanless_suite, spanless_stmt, spanless_form, spanless_branches, spanless_else, spanless_handlers}

abbrev mutual
  -- the same tree, each statement without its number and its bytes
  pub bare_suite : SuiteTree → SuiteTree
  bare_suite end_suite = end_suite
  bare_suite (more_suite s rest) = more_suite (bare_stmt s) (bare_suite rest)

  pub bare_stmt : StmtTree → StmtTree
  bare_stmt (one_stmt number at span form) = one_stmt 0 at no_bytes (bare_form form)

  pub bare_form : FormTree → FormTree
  bare_form (if_form branches orelse) = if_form (bare_branches branches) (bare_else orelse)
  bare_form (while_form test body) = while_form test (bare_suite body)
  bare_form (for_form target items body) = for_form target items (bare_suite body)
  bare_form (try_form body handlers) = try_form (bare_suite body) (bare_handlers handlers)
  bare_form (with_form value bound body) = with_form value bound (bare_suite body)
  bare_form (def_form name params globals body) = def_form name params globals (bare_suite body)
  bare_form (class_form name base body) = class_form name base (bare_suite body)
  bare_form form = form

  pub bare_branches : BranchesTree → BranchesTree
  bare_branches end_branches = end_branches
  bare_branches (more_branches test body rest) = more_branches test (bare_suite body) (bare_branches rest)

  pub bare_else : ElseTree → ElseTree
  bare_else no_else = no_else
  bare_else (else_suite body) = else_suite (bare_suite body)

  pub bare_handlers : HandlersTree → HandlersTree
  bare_handlers end_handlers = end_handlers
  bare_handlers (more_handlers kind bound body rest) = more_handlers kind bound (bare_suite body) (bare_handlers rest)

-- the sizes stay
mutual
  pub suite_size : (t : SuiteTree) → size_suite (bare_suite t) ≡ size_suite t
  suite_size end_suite = refl
  suite_size (more_suite s rest) = rw (stmt_size s, suite_size rest)

  pub stmt_size : (t : StmtTree) → size_stmt (bare_stmt t) ≡ size_stmt t
  stmt_size (one_stmt number at span form) = rw (form_size form)

  pub form_size : (t : FormTree) → size_form (bare_form t) ≡ size_form t
  form_size (if_form branches orelse) = rw (branches_size branches, else_size orelse)
  form_size (while_form test body) = suite_size body
  form_size (for_form target items body) = suite_size body
  form_size (try_form body handlers) = rw (suite_size body, handlers_size handlers)
  form_size (with_form value bound body) = suite_size body
  form_size (def_form name params globals body) = suite_size body
  form_size (class_form name base body) = suite_size body
  form_size _ = refl

  pub branches_size : (t : BranchesTree) → size_branches (bare_branches t) ≡ size_branches t
  branches_size end_branches = refl
  branches_size (more_branches test body rest) = rw (suite_size body, branches_size rest)

  pub else_size : (t : ElseTree) → size_else (bare_else t) ≡ size_else t
  else_size no_else = refl
  else_size (else_suite body) = suite_size body

  pub handlers_size : (t : HandlersTree) → size_handlers (bare_handlers t) ≡ size_handlers t
  handlers_size end_handlers = refl
  handlers_size (more_handlers kind bound body rest) = rw (suite_size body, handlers_size rest)

-- numbered anew it is the numbered tree without its bytes
mutual
  pub suite_anew : (n : ℕ) (t : SuiteTree) → spanless_suite (numbered_suite n t) ≡ numbered_suite n (bare_suite t)
  suite_anew n end_suite = refl
  suite_anew n (more_suite s rest) = rw (stmt_size s, stmt_anew n s, suite_anew (n + size_stmt s) rest)

  pub stmt_anew : (n : ℕ) (t : StmtTree) → spanless_stmt (numbered_stmt n t) ≡ numbered_stmt n (bare_stmt t)
  stmt_anew n (one_stmt number at span form) = ap (one_stmt n at no_bytes) (form_anew (n + 1) form)

  pub form_anew : (n : ℕ) (t : FormTree) → spanless_form (numbered_form n t) ≡ numbered_form n (bare_form t)
  form_anew n (if_form branches orelse) = rw (branches_size branches, branches_anew n branches, else_anew (n + size_branches branches) orelse)
  form_anew n (while_form test body) = ap (while_form test) (suite_anew n body)
  form_anew n (for_form target items body) = ap (for_form target items) (suite_anew n body)
  form_anew n (try_form body handlers) = rw (suite_size body, suite_anew n body, handlers_anew (n + size_suite body) handlers)
  form_anew n (with_form value bound body) = ap (with_form value bound) (suite_anew n body)
  form_anew n (def_form name params globals body) = ap (def_form name params globals) (suite_anew n body)
  form_anew n (class_form name base body) = ap (class_form name base) (suite_anew n body)
  form_anew n _ = refl

  pub branches_anew : (n : ℕ) (t : BranchesTree) → spanless_branches (numbered_branches n t) ≡ numbered_branches n (bare_branches t)
  branches_anew n end_branches = refl
  branches_anew n (more_branches test body rest) = rw (suite_size body, suite_anew n body, branches_anew (n + size_suite body) rest)

  pub else_anew : (n : ℕ) (t : ElseTree) → spanless_else (numbered_else n t) ≡ numbered_else n (bare_else t)
  else_anew n no_else = refl
  else_anew n (else_suite body) = ap else_suite (suite_anew n body)

  pub handlers_anew : (n : ℕ) (t : HandlersTree) → spanless_handlers (numbered_handlers n t) ≡ numbered_handlers n (bare_handlers t)
  handlers_anew n end_handlers = refl
  handlers_anew n (more_handlers kind bound body rest) = rw (suite_size body, suite_anew n body, handlers_anew (n + size_suite body) rest)
