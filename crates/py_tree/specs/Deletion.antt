-- A script without the statements outside a set.
use Rattle.std.specs.Prelude.{ℕ, Bool, if◌then◌else◌}
use Rattle.py_tree.specs.Tree.{number_of, StmtTree, FormTree, SuiteTree, BranchesTree, ElseTree, HandlersTree, ScriptTree, one_stmt, pass_form, if_form, while_form, for_form, try_form, with_form, def_form, class_form, end_suite, more_suite, end_branches, more_branches, no_else, else_suite, end_handlers, more_handlers}
use Rattle.py_tree.specs.Numbering.{size_suite, numbered_suite}

-- `pass` where this statement stood
abbrev pub pass_at : StmtTree → StmtTree
pass_at (one_stmt number at span form) = one_stmt number at span pass_form

-- what is kept of a suite whose owner is kept: where that is nothing, `pass` at the place of its first statement
abbrev pub or_pass : SuiteTree → SuiteTree → SuiteTree
or_pass (more_suite first rest) end_suite = more_suite (pass_at first) end_suite
or_pass body kept = kept

abbrev mutual
  -- The statements of the set, each with those of the set in its suites, and the others gone with their suites. Every
  -- number is the old one.
  pub kept_suite : (ℕ → Bool) → SuiteTree → SuiteTree
  kept_suite keep end_suite = end_suite
  kept_suite keep (more_suite s rest) = if keep (number_of s) then more_suite (kept_stmt keep s) (kept_suite keep rest) else kept_suite keep rest

  pub kept_stmt : (ℕ → Bool) → StmtTree → StmtTree
  kept_stmt keep (one_stmt number at span form) = one_stmt number at span (kept_form keep form)

  pub kept_form : (ℕ → Bool) → FormTree → FormTree
  kept_form keep (if_form branches orelse) = if_form (kept_branches keep branches) (kept_else keep orelse)
  kept_form keep (while_form test body) = while_form test (or_pass body (kept_suite keep body))
  kept_form keep (for_form target items body) = for_form target items (or_pass body (kept_suite keep body))
  kept_form keep (try_form body handlers) = try_form (or_pass body (kept_suite keep body)) (kept_handlers keep handlers)
  kept_form keep (with_form value bound body) = with_form value bound (or_pass body (kept_suite keep body))
  kept_form keep (def_form name params globals body) = def_form name params globals (or_pass body (kept_suite keep body))
  kept_form keep (class_form name base body) = class_form name base (or_pass body (kept_suite keep body))
  kept_form keep form = form

  pub kept_branches : (ℕ → Bool) → BranchesTree → BranchesTree
  kept_branches keep end_branches = end_branches
  kept_branches keep (more_branches test body rest) = more_branches test (or_pass body (kept_suite keep body)) (kept_branches keep rest)

  pub kept_else : (ℕ → Bool) → ElseTree → ElseTree
  kept_else keep no_else = no_else
  kept_else keep (else_suite body) = else_suite (or_pass body (kept_suite keep body))

  pub kept_handlers : (ℕ → Bool) → HandlersTree → HandlersTree
  kept_handlers keep end_handlers = end_handlers
  kept_handlers keep (more_handlers kind bound body rest) = more_handlers kind bound (or_pass body (kept_suite keep body)) (kept_handlers keep rest)

-- the script without the statements outside the set, numbered anew
abbrev pub deleted : (ℕ → Bool) → ScriptTree → ScriptTree
deleted keep script = let kept = kept_suite keep script.body in record { body = numbered_suite 0 kept; count = size_suite kept }
