-- The statements of one scope: those of a suite, without those in the functions and classes in it.
use Rattle.std.specs.Prelude.{Bool, not, ◌||◌, List, [], ◌∷◌, ◌++◌}
use Rattle.py_tree.specs.Binds.{is_class}
use Rattle.py_tree.specs.Owners.{Standing, form_in, is_def}
use Rattle.py_tree.specs.Tree.{StmtTree, FormTree, SuiteTree, BranchesTree, ElseTree, HandlersTree, one_stmt, if_form, while_form, for_form, try_form, with_form, end_suite, more_suite, end_branches, more_branches, no_else, else_suite, end_handlers, more_handlers}

abbrev mutual
  pub scope_suite : SuiteTree → List StmtTree
  scope_suite end_suite = []
  scope_suite (more_suite s rest) = scope_stmt s ++ scope_suite rest

  pub scope_stmt : StmtTree → List StmtTree
  scope_stmt (one_stmt number at span form) = one_stmt number at span form ∷ scope_form form

  pub scope_form : FormTree → List StmtTree
  scope_form (if_form branches orelse) = scope_branches branches ++ scope_else orelse
  scope_form (while_form test body) = scope_suite body
  scope_form (for_form target items body) = scope_suite body
  scope_form (try_form body handlers) = scope_suite body ++ scope_handlers handlers
  scope_form (with_form value bound body) = scope_suite body
  scope_form form = []

  pub scope_branches : BranchesTree → List StmtTree
  scope_branches end_branches = []
  scope_branches (more_branches test body rest) = scope_suite body ++ scope_branches rest

  pub scope_else : ElseTree → List StmtTree
  scope_else no_else = []
  scope_else (else_suite body) = scope_suite body

  pub scope_handlers : HandlersTree → List StmtTree
  scope_handlers end_handlers = []
  scope_handlers (more_handlers kind bound body rest) = scope_suite body ++ scope_handlers rest

-- neither `def` nor `class`
abbrev pub defines_nothing : FormTree → Bool
defines_nothing form = not (is_def form || is_class form)

abbrev pub is_no_definition : Standing → Bool
is_no_definition x = defines_nothing (form_in x.stmt)
