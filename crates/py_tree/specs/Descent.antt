-- The way down to a statement by its number, where numbers rise in the order of the text: of statements in a row only
-- the last one that is not past the number can be the statement or hold it, and of the suites of a statement only the
-- last one that begins by then.
use Rattle.std.specs.Prelude.{ℕ, ◌+◌, ◌≤◌, nat_le, ⊤, Bool, false, not, List, [], ◌∷◌, Option, None, Some, unwrap_or, if◌then◌else◌}
use Rattle.std.specs.Option.{option_or}
use Rattle.py_tree.specs.Tree.{number_of, StmtTree, FormTree, SuiteTree, BranchesTree, ElseTree, HandlersTree, if_form, while_form, for_form, try_form, with_form, def_form, class_form, end_suite, more_suite, end_branches, more_branches, no_else, else_suite, end_handlers, more_handlers}

-- each number is at least n and above the one before it
abbrev pub RiseFrom : ℕ → List ℕ → Type 0
RiseFrom n [] = ⊤
RiseFrom n (x ∷ xs) = (n ≤ x) × RiseFrom (x + 1) xs

-- the numbers of the statements in a row, without those in their suites
abbrev pub row_numbers : SuiteTree → List ℕ
row_numbers end_suite = []
row_numbers (more_suite stmt rest) = number_of stmt ∷ row_numbers rest

-- the last of the statements in a row, from the front on, whose numbers are at most s
abbrev pub last_by : ℕ → SuiteTree → Option StmtTree
last_by s end_suite = None
last_by s (more_suite stmt rest) = if nat_le (number_of stmt) s then Some (unwrap_or (last_by s rest) stmt) else None

-- whether the first statement has a number of at most s
abbrev pub begins_by : ℕ → SuiteTree → Bool
begins_by s end_suite = false
begins_by s (more_suite stmt rest) = nat_le (number_of stmt) s

-- whether the first statement has a number past s
abbrev pub begins_after : ℕ → SuiteTree → Bool
begins_after s end_suite = false
begins_after s (more_suite stmt rest) = not (nat_le (number_of stmt) s)

-- this suite, if it begins by s
abbrev pub body_by : ℕ → SuiteTree → Option SuiteTree
body_by s body = if begins_by s body then Some body else None

-- the last suite that begins by s
abbrev pub branch_by : ℕ → BranchesTree → Option SuiteTree
branch_by s end_branches = None
branch_by s (more_branches test body rest) = option_or (branch_by s rest) (body_by s body)

abbrev pub else_by : ℕ → ElseTree → Option SuiteTree
else_by s no_else = None
else_by s (else_suite body) = body_by s body

abbrev pub handler_by : ℕ → HandlersTree → Option SuiteTree
handler_by s end_handlers = None
handler_by s (more_handlers kind bound body rest) = option_or (handler_by s rest) (body_by s body)

-- the suite of the form that alone can hold statement s
abbrev pub suite_by : ℕ → FormTree → Option SuiteTree
suite_by s (if_form branches orelse) = option_or (else_by s orelse) (branch_by s branches)
suite_by s (while_form test body) = Some body
suite_by s (for_form target items body) = Some body
suite_by s (try_form body handlers) = option_or (handler_by s handlers) (Some body)
suite_by s (with_form value bound body) = Some body
suite_by s (def_form name params globals body) = Some body
suite_by s (class_form name base body) = Some body
suite_by s _ = None

-- the last of these suites that begins by s
abbrev pub suites_by : ℕ → List SuiteTree → Option SuiteTree
suites_by s [] = None
suites_by s (body ∷ rest) = option_or (suites_by s rest) (body_by s body)

-- the number of each suite's first statement
abbrev pub first_numbers : List SuiteTree → List ℕ
first_numbers [] = []
first_numbers (end_suite ∷ rest) = first_numbers rest
first_numbers (more_suite stmt row ∷ rest) = number_of stmt ∷ first_numbers rest

-- the suites in the order of the text
abbrev pub branch_suites : BranchesTree → List SuiteTree
branch_suites end_branches = []
branch_suites (more_branches test body rest) = body ∷ branch_suites rest

abbrev pub handler_suites : HandlersTree → List SuiteTree
handler_suites end_handlers = []
handler_suites (more_handlers kind bound body rest) = body ∷ handler_suites rest

-- the suites of a form that can have any number of them
abbrev pub form_suites : FormTree → List SuiteTree
form_suites (if_form branches _) = branch_suites branches
form_suites (try_form body handlers) = handler_suites handlers
form_suites _ = []
