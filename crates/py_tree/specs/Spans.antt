-- A script with other byte spans, and nothing else changed.
use Rattle.std.specs.Option.{option_map}
use Rattle.prov_base.specs.declared.place.Span.{Span}
use Rattle.py_tree.specs.Functions.{Function, Class}
use Rattle.py_tree.specs.Owners.{Standing}
use Rattle.py_tree.specs.Tree.{StmtTree, FormTree, SuiteTree, BranchesTree, ElseTree, HandlersTree, ScriptTree, one_stmt, if_form, while_form, for_form, try_form, with_form, def_form, class_form, end_suite, more_suite, end_branches, more_branches, no_else, else_suite, end_handlers, more_handlers}

module _ (m : Span → Span) where
  abbrev mutual
    pub moved_suite : SuiteTree → SuiteTree
    moved_suite end_suite = end_suite
    moved_suite (more_suite s rest) = more_suite (moved_stmt s) (moved_suite rest)

    pub moved_stmt : StmtTree → StmtTree
    moved_stmt (one_stmt number at span form) = one_stmt number at (m span) (moved_form form)

    pub moved_form : FormTree → FormTree
    moved_form (if_form branches orelse) = if_form (moved_branches branches) (moved_else orelse)
    moved_form (while_form test body) = while_form test (moved_suite body)
    moved_form (for_form target items body) = for_form target items (moved_suite body)
    moved_form (try_form body handlers) = try_form (moved_suite body) (moved_handlers handlers)
    moved_form (with_form value bound body) = with_form value bound (moved_suite body)
    moved_form (def_form name params globals body) = def_form name params globals (moved_suite body)
    moved_form (class_form name base body) = class_form name base (moved_suite body)
    moved_form form = form

    pub moved_branches : BranchesTree → BranchesTree
    moved_branches end_branches = end_branches
    moved_branches (more_branches test body rest) = more_branches test (moved_suite body) (moved_branches rest)

    pub moved_else : ElseTree → ElseTree
    moved_else no_else = no_else
    moved_else (else_suite body) = else_suite (moved_suite body)

    pub moved_handlers : HandlersTree → HandlersTree
    moved_handlers end_handlers = end_handlers
    moved_handlers (more_handlers kind bound body rest) = more_handlers kind bound (moved_suite body) (moved_handlers rest)

  abbrev pub moved : ScriptTree → ScriptTree
  moved script = record script { body = moved_suite script.body }

  abbrev pub moved_function : Function → Function
  moved_function f = record f { body = moved_suite f.body }

  abbrev pub moved_standing : Standing → Standing
  moved_standing x = record { stmt = moved_stmt x.stmt; around = record { owner = option_map moved_stmt x.around.owner; function = x.around.function } }

  abbrev pub moved_class : Class → Class
  moved_class c = record c { body = moved_suite c.body }
