-- What is asked of a statement by the place where it stands, on the pure tree. The tree does not tell whether a text in a class
-- stands in brackets, nor what stands before a `global` line: that is asked of what is written alone (`WellPlaced`).
use Rattle.std.specs.Prelude.{Bool, true, false, ◌&&◌, ◌||◌, not, is_some}
use Rattle.py_tree.specs.declared.expr.Atom.TheVariants.{Text}
use Rattle.py_tree.specs.Tree.{StmtTree, FormTree, SuiteTree, BranchesTree, ElseTree, HandlersTree, ScriptTree, const_expr, one_stmt, do_form, pass_form, if_form, while_form, for_form, try_form, with_form, def_form, class_form, end_suite, more_suite, end_branches, more_branches, no_else, else_suite, end_handlers, more_handlers}
use Rattle.py_grammar.specs.Language.{Language, language_one}
use Rattle.py_grammar.specs.WellPlaced.{Around, module_level, in_suite, in_loop_suite, in_handler_suite, in_def_suite, in_class_suite, form_stands, def_stands, none_given}

-- beside methods a class has these alone
abbrev pub is_pass_or_text : FormTree → Bool
is_pass_or_text pass_form = true
is_pass_or_text (do_form (const_expr at (Text bytes))) = true
is_pass_or_text form = false

abbrev pub are_no_handlers : HandlersTree → Bool
are_no_handlers end_handlers = true
are_no_handlers (more_handlers kind bound body rest) = false

abbrev mutual
  pub stmt_is_placed : Around → StmtTree → Bool
  stmt_is_placed around (one_stmt number at span form) = form_is_placed around form

  pub form_is_placed : Around → FormTree → Bool
  form_is_placed around (if_form branches orelse) = not around.in_class && branches_are_placed (in_suite around) branches && else_is_placed (in_suite around) orelse
  form_is_placed around (while_form test body) = not around.in_class && suite_is_placed (in_loop_suite around) body
  form_is_placed around (for_form target items body) = not around.in_class && suite_is_placed (in_loop_suite around) body
  form_is_placed around (try_form body handlers) = not around.in_class && suite_is_placed (in_suite around) body && handlers_are_placed (in_handler_suite around) handlers
  form_is_placed around (with_form value bound body) = not around.in_class && suite_is_placed (in_suite around) body
  form_is_placed around (def_form name params globals body) = def_stands around name params && none_given params globals && suite_is_placed in_def_suite body
  form_is_placed around (class_form name base body) = around.at_module_level && suite_is_placed in_class_suite body
  form_is_placed around form = (not around.in_class || is_pass_or_text form) && form_stands around form

  pub suite_is_placed : Around → SuiteTree → Bool
  suite_is_placed around end_suite = true
  suite_is_placed around (more_suite s rest) = stmt_is_placed around s && suite_is_placed around rest

  pub branches_are_placed : Around → BranchesTree → Bool
  branches_are_placed around end_branches = true
  branches_are_placed around (more_branches test body rest) = suite_is_placed around body && branches_are_placed around rest

  pub else_is_placed : Around → ElseTree → Bool
  else_is_placed around no_else = true
  else_is_placed around (else_suite body) = suite_is_placed around body

  -- only the last handler is for every exception
  pub handlers_are_placed : Around → HandlersTree → Bool
  handlers_are_placed around end_handlers = true
  handlers_are_placed around (more_handlers kind bound body rest) = (is_some kind || are_no_handlers rest) && suite_is_placed around body && handlers_are_placed around rest

-- the statements of this script stand where the language lets them, as far as the tree tells
abbrev pub is_placed_in : Language → ScriptTree → Bool
is_placed_in language_one script = suite_is_placed module_level script.body
