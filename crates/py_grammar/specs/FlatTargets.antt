-- Whether no target of a script is several targets that one of several is, as `(b, c)` would be in `a, (b, c) = e`.
use Rattle.std.specs.Prelude.{Bool, true, false, ◌&&◌}
use Rattle.py_tree.specs.Tree.{TargetTree, TargetsTree, StmtTree, FormTree, SuiteTree, BranchesTree, ElseTree, HandlersTree, ScriptTree, many_target, end_targets, more_targets, one_stmt, assign_form, aug_form, del_form, if_form, while_form, for_form, try_form, with_form, def_form, class_form, end_suite, more_suite, end_branches, more_branches, no_else, else_suite, end_handlers, more_handlers}

-- one target, and not several
abbrev pub is_one_target : TargetTree → Bool
is_one_target (many_target targets) = false
is_one_target target = true

abbrev pub are_one_each : TargetsTree → Bool
are_one_each end_targets = true
are_one_each (more_targets target rest) = is_one_target target && are_one_each rest

-- one target, or several of which each is one
abbrev pub target_is_flat : TargetTree → Bool
target_is_flat (many_target targets) = are_one_each targets
target_is_flat target = true

abbrev mutual
  pub stmt_is_flat : StmtTree → Bool
  stmt_is_flat (one_stmt number at span form) = form_is_flat form

  pub form_is_flat : FormTree → Bool
  form_is_flat (assign_form target value) = target_is_flat target
  form_is_flat (aug_form target sign place value) = target_is_flat target
  form_is_flat (del_form target) = target_is_flat target
  form_is_flat (if_form branches orelse) = branches_are_flat branches && else_is_flat orelse
  form_is_flat (while_form test body) = suite_is_flat body
  form_is_flat (for_form target items body) = target_is_flat target && suite_is_flat body
  form_is_flat (try_form body handlers) = suite_is_flat body && handlers_are_flat handlers
  form_is_flat (with_form value bound body) = suite_is_flat body
  form_is_flat (def_form name params globals body) = suite_is_flat body
  form_is_flat (class_form name base body) = suite_is_flat body
  form_is_flat form = true

  pub suite_is_flat : SuiteTree → Bool
  suite_is_flat end_suite = true
  suite_is_flat (more_suite s rest) = stmt_is_flat s && suite_is_flat rest

  pub branches_are_flat : BranchesTree → Bool
  branches_are_flat end_branches = true
  branches_are_flat (more_branches test body rest) = suite_is_flat body && branches_are_flat rest

  pub else_is_flat : ElseTree → Bool
  else_is_flat no_else = true
  else_is_flat (else_suite body) = suite_is_flat body

  pub handlers_are_flat : HandlersTree → Bool
  handlers_are_flat end_handlers = true
  handlers_are_flat (more_handlers kind bound body rest) = suite_is_flat body && handlers_are_flat rest

-- so of each target of a script
abbrev pub is_flat : ScriptTree → Bool
is_flat script = suite_is_flat script.body
