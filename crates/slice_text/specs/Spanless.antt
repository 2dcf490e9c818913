-- Scripts that are the same but for the byte spans of their statements.
use Rattle.py_tree.specs.Tree.{StmtTree, FormTree, SuiteTree, BranchesTree, ElseTree, HandlersTree, ScriptTree, one_stmt, if_form, while_form, for_form, try_form, with_form, def_form, class_form, end_suite, more_suite, end_branches, more_branches, no_else, else_suite, end_handlers, more_handlers}
use Rattle.py_tree.specs.Unplaced.{no_bytes}

abbrev mutual
  -- the same tree, each statement without its bytes
  pub spanless_suite : SuiteTree → SuiteTree
  spanless_suite end_suite = end_suite
  spanless_suite (more_suite s rest) = more_suite (spanless_stmt s) (spanless_suite rest)

  pub spanless_stmt : StmtTree → StmtTree
  spanless_stmt (one_stmt number at span form) = one_stmt number at no_bytes (spanless_form form)

  pub spanless_form : FormTree → FormTree
  spanless_form (if_form branches orelse) = if_form (spanless_branches branches) (spanless_else orelse)
  spanless_form (while_form test body) = while_form test (spanless_suite body)
  spanless_form (for_form target items body) = for_form target items (spanless_suite body)
  spanless_form (try_form body handlers) = try_form (spanless_suite body) (spanless_handlers handlers)
  spanless_form (with_form value bound body) = with_form value bound (spanless_suite body)
  spanless_form (def_form name params globals body) = def_form name params globals (spanless_suite body)
  spanless_form (class_form name base body) = class_form name base (spanless_suite body)
  spanless_form form = form

  pub spanless_branches : BranchesTree → BranchesTree
  spanless_branches end_branches = end_branches
  spanless_branches (more_branches test body rest) = more_branches test (spanless_suite body) (spanless_branches rest)

  pub spanless_else : ElseTree → ElseTree
  spanless_else no_else = no_else
  spanless_else (else_suite body) = else_suite (spanless_suite body)

  pub spanless_handlers : HandlersTree → HandlersTree
  spanless_handlers end_handlers = end_handlers
  spanless_handlers (more_handlers kind bound body rest) = more_handlers kind bound (spanless_suite body) (spanless_handlers rest)

abbrev pub spanless : ScriptTree → ScriptTree
spanless script = record { body = spanless_suite script.body; count = script.count }
