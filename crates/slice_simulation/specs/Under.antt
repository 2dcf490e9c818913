-- No public clause cites this file.
-- Which statements of a script a set may have: those whose owner it has.
use Rattle.std.specs.Prelude.{◌≡◌, Bool, true, ⊤}
use Rattle.py_tree.specs.Tree.{StmtTree, FormTree, SuiteTree, BranchesTree, ElseTree, HandlersTree, one_stmt, if_form, while_form, for_form, try_form, with_form, def_form, class_form, end_suite, more_suite, end_branches, more_branches, no_else, else_suite, end_handlers, more_handlers}
use Rattle.slice_law.specs.Closed.{StmtSet}

-- Each kept statement stands in one that is kept. Whether the statement around the first ones is kept is given.
module _ (keep : StmtSet) where
  abbrev mutual
    pub UnderSuite : Bool → SuiteTree → Type 0
    UnderSuite around end_suite = ⊤
    UnderSuite around (more_suite s rest) = UnderStmt around s × UnderSuite around rest

    pub UnderStmt : Bool → StmtTree → Type 0
    UnderStmt around (one_stmt number at span form) = (keep number ≡ true → around ≡ true) × UnderForm (keep number) form

    pub UnderForm : Bool → FormTree → Type 0
    UnderForm around (if_form branches orelse) = UnderBranches around branches × UnderElse around orelse
    UnderForm around (while_form test body) = UnderSuite around body
    UnderForm around (for_form target items body) = UnderSuite around body
    UnderForm around (try_form body handlers) = UnderSuite around body × UnderHandlers around handlers
    UnderForm around (with_form value bound body) = UnderSuite around body
    UnderForm around (def_form name params globals body) = UnderSuite around body
    UnderForm around (class_form name base body) = UnderSuite around body
    UnderForm around form = ⊤

    pub UnderBranches : Bool → BranchesTree → Type 0
    UnderBranches around end_branches = ⊤
    UnderBranches around (more_branches test body rest) = UnderSuite around body × UnderBranches around rest

    pub UnderElse : Bool → ElseTree → Type 0
    UnderElse around no_else = ⊤
    UnderElse around (else_suite body) = UnderSuite around body

    pub UnderHandlers : Bool → HandlersTree → Type 0
    UnderHandlers around end_handlers = ⊤
    UnderHandlers around (more_handlers kind bound body rest) = UnderSuite around body × UnderHandlers around rest
