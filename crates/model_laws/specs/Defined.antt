-- The places of the definitions of a script, in all its suites; and that all of a suite are known.
use Rattle.std.specs.Prelude.{Bool, List, [], ◌∷◌, ◌++◌}
use Rattle.std.specs.List.{list_any}
use Rattle.prov_base.specs.declared.place.Pos.{Pos}
use Rattle.prov_base.specs.contracts.place.PosPartialEq.TheImpl.{ghosts as places}
use Rattle.py_tree.specs.Tree.{StmtTree, FormTree, SuiteTree, BranchesTree, ElseTree, HandlersTree, ScriptTree, one_stmt, if_form, while_form, for_form, try_form, with_form, def_form, class_form, end_suite, more_suite, end_branches, more_branches, no_else, else_suite, end_handlers, more_handlers}

abbrev mutual
  pub defined_suite : SuiteTree → List Pos
  defined_suite end_suite = []
  defined_suite (more_suite s rest) = defined_stmt s ++ defined_suite rest

  pub defined_stmt : StmtTree → List Pos
  defined_stmt (one_stmt number at span form) = defined_form at form

  pub defined_form : Pos → FormTree → List Pos
  defined_form at (if_form branches orelse) = defined_branches branches ++ defined_else orelse
  defined_form at (while_form test body) = defined_suite body
  defined_form at (for_form target items body) = defined_suite body
  defined_form at (try_form body handlers) = defined_suite body ++ defined_handlers handlers
  defined_form at (with_form value bound body) = defined_suite body
  defined_form at (def_form name params globals body) = at ∷ defined_suite body
  defined_form at (class_form name base body) = at ∷ defined_suite body
  defined_form at form = []

  pub defined_branches : BranchesTree → List Pos
  defined_branches end_branches = []
  defined_branches (more_branches test body rest) = defined_suite body ++ defined_branches rest

  pub defined_else : ElseTree → List Pos
  defined_else no_else = []
  defined_else (else_suite body) = defined_suite body

  pub defined_handlers : HandlersTree → List Pos
  defined_handlers end_handlers = []
  defined_handlers (more_handlers kind bound body rest) = defined_suite body ++ defined_handlers rest

-- a `def` or a `class` of the script stands at the place
abbrev pub defines : ScriptTree → Pos → Bool
defines script place = list_any (λ at. places.eq at place) (defined_suite script.body)
