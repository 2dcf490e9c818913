-- Scripts that are the same but for where their `pass` statements stand.
use Rattle.std.specs.Prelude.{Bool, true, false, if◌then◌else◌}
use Rattle.prov_base.specs.declared.place.Pos.{Pos}
use Rattle.prov_base.specs.declared.place.Span.{Span}
use Rattle.py_tree.specs.Tree.{StmtTree, FormTree, SuiteTree, BranchesTree, ElseTree, HandlersTree, ScriptTree, one_stmt, pass_form, if_form, while_form, for_form, try_form, with_form, def_form, class_form, end_suite, more_suite, end_branches, more_branches, no_else, else_suite, end_handlers, more_handlers}

abbrev pub is_pass : FormTree → Bool
is_pass pass_form = true
is_pass form = false

abbrev pub nowhere : Pos
nowhere = record { line = 0; col = 0 }

abbrev pub no_bytes : Span
no_bytes = record { from = 0; to = 0 }

abbrev mutual
  -- the same tree, each `pass` without its place and its bytes
  pub unplaced_suite : SuiteTree → SuiteTree
  unplaced_suite end_suite = end_suite
  unplaced_suite (more_suite s rest) = more_suite (unplaced_stmt s) (unplaced_suite rest)

  pub unplaced_stmt : StmtTree → StmtTree
  unplaced_stmt (one_stmt number at span form) = one_stmt number (if is_pass form then nowhere else at) (if is_pass form then no_bytes else span) (unplaced_form form)

  pub unplaced_form : FormTree → FormTree
  unplaced_form (if_form branches orelse) = if_form (unplaced_branches branches) (unplaced_else orelse)
  unplaced_form (while_form test body) = while_form test (unplaced_suite body)
  unplaced_form (for_form target items body) = for_form target items (unplaced_suite body)
  unplaced_form (try_form body handlers) = try_form (unplaced_suite body) (unplaced_handlers handlers)
  unplaced_form (with_form value bound body) = with_form value bound (unplaced_suite body)
  unplaced_form (def_form name params globals body) = def_form name params globals (unplaced_suite body)
  unplaced_form (class_form name base body) = class_form name base (unplaced_suite body)
  unplaced_form form = form

  pub unplaced_branches : BranchesTree → BranchesTree
  unplaced_branches end_branches = end_branches
  unplaced_branches (more_branches test body rest) = more_branches test (unplaced_suite body) (unplaced_branches rest)

  pub unplaced_else : ElseTree → ElseTree
  unplaced_else no_else = no_else
  unplaced_else (else_suite body) = else_suite (unplaced_suite body)

  pub unplaced_handlers : HandlersTree → HandlersTree
  unplaced_handlers end_handlers = end_handlers
  unplaced_handlers (more_handlers kind bound body rest) = more_handlers kind bound (unplaced_suite body) (unplaced_handlers rest)

abbrev pub unplaced : ScriptTree → ScriptTree
unplaced script = record { body = unplaced_suite script.body; count = script.count }
