-- Statements by their places, and the places of their own nodes.
use Rattle.std.specs.Prelude.{ℕ, Bool, List, [], ◌∷◌, ◌++◌, Option, find}
use Rattle.std.specs.Option.{option_map}
use Rattle.std.specs.List.{list_any}
use Rattle.prov_base.specs.declared.place.Pos.{Pos}
use Rattle.py_tree.specs.Owners.{Standing, form_in, number_at, statements, standing_at}
use Rattle.py_tree.specs.Places.{expr_places, target_places, option_places, bound_places, is_same}
use Rattle.py_tree.specs.Tree.{StmtTree, FormTree, BranchesTree, HandlersTree, ScriptTree, one_stmt, do_form, assign_form, aug_form, del_form, return_form, raise_form, assert_form, if_form, while_form, for_form, try_form, with_form, class_form, end_branches, more_branches, end_handlers, more_handlers}

abbrev pub place_in : StmtTree → Pos
place_in (one_stmt number at span form) = at

abbrev pub place_of : Standing → Pos
place_of x = place_in x.stmt

-- the place of the statement with a number
abbrev pub place_at : ScriptTree → ℕ → Option Pos
place_at script s = option_map place_of (standing_at script s)

-- the statement that stands at a place
abbrev pub standing_on : ScriptTree → Pos → Option Standing
standing_on script at = find (λ x. is_same (place_of x) at) (statements script)

-- its number
abbrev pub number_on : ScriptTree → Pos → Option ℕ
number_on script at = option_map number_at (standing_on script at)

-- of the tests of an `if`
abbrev pub test_places : BranchesTree → List Pos
test_places end_branches = []
test_places (more_branches test body rest) = expr_places test ++ test_places rest

-- of the classes and names of handlers
abbrev pub head_places : HandlersTree → List Pos
head_places end_handlers = []
head_places (more_handlers kind bound body rest) = option_places kind ++ (bound_places bound ++ head_places rest)

-- the places of a statement's own nodes, without those of the statements in its suites
abbrev pub own_places : FormTree → List Pos
own_places (do_form e) = expr_places e
own_places (assign_form target value) = target_places target ++ expr_places value
own_places (aug_form target op at value) = at ∷ target_places target ++ expr_places value
own_places (del_form target) = target_places target
own_places (return_form value) = option_places value
own_places (raise_form value) = option_places value
own_places (assert_form test message) = expr_places test ++ option_places message
own_places (if_form branches _) = test_places branches
own_places (while_form test body) = expr_places test
own_places (for_form target items body) = target_places target ++ expr_places items
own_places (try_form body handlers) = head_places handlers
own_places (with_form value bound body) = expr_places value ++ bound_places bound
own_places (class_form name base body) = option_places base
own_places form = []

-- whether a place is of one of the statement's own nodes
abbrev pub owns : Pos → Standing → Bool
owns at x = list_any (λ p. is_same p at) (own_places (form_in x.stmt))

-- the number of the statement whose own node stands at a place: the innermost that has it
abbrev pub owner_of : ScriptTree → Pos → Option ℕ
owner_of script at = option_map number_at (find (owns at) (statements script))
