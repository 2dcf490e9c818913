-- A deletion leaves no more statements than there were: a `pass` that is put in stands for one that went.
use Rattle.std.proofs.Common.{ℕ, ◌+◌, ◌≤◌, Bool, true, false, if◌then◌else◌, arith}
use Rattle.py_tree.specs.Tree.{number_of, StmtTree, FormTree, SuiteTree, BranchesTree, ElseTree, HandlersTree, one_stmt, if_form, while_form, for_form, try_form, with_form, def_form, class_form, end_suite, more_suite, end_branches, more_branches, no_else, else_suite, end_handlers, more_handlers}
use Rattle.py_tree.specs.Numbering.{size_stmt, size_form, size_suite, size_branches, size_else, size_handlers}
use Rattle.py_tree.specs.Deletion.{or_pass, kept_suite, kept_stmt, kept_form, kept_branches, kept_else, kept_handlers}

or_pass_few : (body kept : SuiteTree) → size_suite kept ≤ size_suite body → size_suite (or_pass body kept) ≤ size_suite body
or_pass_few end_suite end_suite few = few
or_pass_few end_suite (more_suite s others) few = few
or_pass_few (more_suite (one_stmt number at span form) rest) end_suite few = omega arith
or_pass_few (more_suite (one_stmt number at span form) rest) (more_suite s others) few = few

chosen_few : (b : Bool) (s t : StmtTree) (rest others : SuiteTree) → size_stmt s ≤ size_stmt t → size_suite rest ≤ size_suite others → size_suite (if b then more_suite s rest else rest) ≤ size_stmt t + size_suite others
chosen_few true s t rest others one two = omega (arith, one, two)
chosen_few false s t rest others one two = omega (arith, two)

mutual
  pub suite_few : (keep : ℕ → Bool) (t : SuiteTree) → size_suite (kept_suite keep t) ≤ size_suite t
  suite_few keep end_suite = omega arith
  suite_few keep (more_suite s rest) = chosen_few (keep (number_of s)) (kept_stmt keep s) s (kept_suite keep rest) rest (stmt_few keep s) (suite_few keep rest)

  stmt_few : (keep : ℕ → Bool) (t : StmtTree) → size_stmt (kept_stmt keep t) ≤ size_stmt t
  stmt_few keep (one_stmt number at span form) = let few = form_few keep form in omega (arith, few)

  form_few : (keep : ℕ → Bool) (t : FormTree) → size_form (kept_form keep t) ≤ size_form t
  form_few keep (if_form branches orelse) = let one = branches_few keep branches in let two = else_few keep orelse in omega (arith, one, two)
  form_few keep (while_form test body) = or_pass_few body (kept_suite keep body) (suite_few keep body)
  form_few keep (for_form target items body) = or_pass_few body (kept_suite keep body) (suite_few keep body)
  form_few keep (try_form body handlers) = let one = or_pass_few body (kept_suite keep body) (suite_few keep body) in let two = handlers_few keep handlers in omega (arith, one, two)
  form_few keep (with_form value bound body) = or_pass_few body (kept_suite keep body) (suite_few keep body)
  form_few keep (def_form name params globals body) = or_pass_few body (kept_suite keep body) (suite_few keep body)
  form_few keep (class_form name base body) = or_pass_few body (kept_suite keep body) (suite_few keep body)
  form_few keep form = omega arith

  branches_few : (keep : ℕ → Bool) (t : BranchesTree) → size_branches (kept_branches keep t) ≤ size_branches t
  branches_few keep end_branches = omega arith
  branches_few keep (more_branches test body rest) = let one = or_pass_few body (kept_suite keep body) (suite_few keep body) in let two = branches_few keep rest in omega (arith, one, two)

  else_few : (keep : ℕ → Bool) (t : ElseTree) → size_else (kept_else keep t) ≤ size_else t
  else_few keep no_else = omega arith
  else_few keep (else_suite body) = or_pass_few body (kept_suite keep body) (suite_few keep body)

  handlers_few : (keep : ℕ → Bool) (t : HandlersTree) → size_handlers (kept_handlers keep t) ≤ size_handlers t
  handlers_few keep end_handlers = omega arith
  handlers_few keep (more_handlers kind bound body rest) = let one = or_pass_few body (kept_suite keep body) (suite_few keep body) in let two = handlers_few keep rest in omega (arith, one, two)
