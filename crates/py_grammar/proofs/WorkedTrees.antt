-- Worked trees: statements that may stand where they do, and some that may not; found by computation.
use Rattle.std.proofs.Common.{◌≡◌, ℕ, Bool, true, false, List, [], ◌∷◌, Some, None, codes, refl}
use Rattle.py_tree.specs.declared.expr.Atom.TheVariants.{Text}
use Rattle.py_tree.specs.Tree.{ExprTree, FormTree, SuiteTree, TargetTree, const_expr, var_expr, var_target, field_target, many_target, end_targets, more_targets, one_stmt, do_form, assign_form, del_form, pass_form, break_form, continue_form, return_form, raise_form, import_form, if_form, while_form, for_form, try_form, def_form, class_form, end_suite, more_suite, end_branches, more_branches, no_else, end_handlers, more_handlers}
use Rattle.py_tree.specs.Unplaced.{nowhere, no_bytes}
use Rattle.py_grammar.specs.FlatTargets.{is_flat}
use Rattle.py_grammar.specs.Language.{language_one}
use Rattle.py_grammar.specs.PlacedTrees.{is_placed_in}

-- a suite of one statement, a name, and whether a script of one statement has it where it may stand
abbrev one : FormTree → SuiteTree
one form = more_suite (one_stmt 0 nowhere no_bytes form) end_suite

abbrev x : ExprTree
x = var_expr nowhere (codes "x")

abbrev placed : FormTree → Bool
placed form = is_placed_in language_one (record { body = one form; count = 1 })

abbrev def_of : List ℕ → FormTree → FormTree
def_of name form = def_form name [] [] (one form)

abbrev if_of : FormTree → FormTree
if_of form = if_form (more_branches x (one form) end_branches) no_else

abbrev try_of : FormTree → FormTree → FormTree
try_of tried handled = try_form (one tried) (more_handlers (Some x) None (one handled) end_handlers)

-- `return` in a function, in a suite of it too
alone_return : placed (return_form None) ≡ false
alone_return = refl

return_in_if : placed (def_of (codes "f") (if_of (return_form None))) ≡ true
return_in_if = refl

return_in_class : placed (class_form (codes "C") None (one (return_form None))) ≡ false
return_in_class = refl

-- `break` and `continue` in a loop, in a suite of it too
alone_break : placed (if_of break_form) ≡ false
alone_break = refl

break_in_if : placed (while_form x (one (if_of break_form))) ≡ true
break_in_if = refl

continue_in_handler : placed (while_form x (one (try_of pass_form continue_form))) ≡ true
continue_in_handler = refl

-- a bare `raise` in a handler
raise_where_tried : placed (try_of (raise_form None) pass_form) ≡ false
raise_where_tried = refl

raise_where_handled : placed (try_of pass_form (raise_form None)) ≡ true
raise_where_handled = refl

raise_value_anywhere : placed (raise_form (Some x)) ≡ true
raise_value_anywhere = refl

-- modules
a_module : placed (import_form (codes "sys")) ≡ true
a_module = refl

no_module : placed (import_form (codes "os")) ≡ false
no_module = refl

-- `def` and `class` at module level, methods in a class
def_in_if : placed (if_of (def_of (codes "f") pass_form)) ≡ false
def_in_if = refl

def_in_def : placed (def_of (codes "f") (def_of (codes "g") pass_form)) ≡ false
def_in_def = refl

class_in_class : placed (class_form (codes "C") None (one (class_form (codes "D") None (one pass_form)))) ≡ false
class_in_class = refl

init_method : placed (class_form (codes "C") None (one (def_of (codes "__init__") (return_form None)))) ≡ true
init_method = refl

special_method : placed (class_form (codes "C") None (one (def_of (codes "__len__") pass_form))) ≡ false
special_method = refl

special_function : placed (def_of (codes "__len__") pass_form) ≡ true
special_function = refl

-- a class has `pass` and texts beside its methods
text_in_class : placed (class_form (codes "C") None (one (do_form (const_expr nowhere (Text (codes "doc")))))) ≡ true
text_in_class = refl

binding_in_class : placed (class_form (codes "C") None (one (assign_form (var_target nowhere (codes "x")) x))) ≡ false
binding_in_class = refl

-- parameters are different, and none is declared global
same_parameters : placed (def_form (codes "f") (codes "a" ∷ codes "a" ∷ []) [] (one pass_form)) ≡ false
same_parameters = refl

global_parameter : placed (def_form (codes "f") (codes "a" ∷ []) (codes "g" ∷ codes "a" ∷ []) (one pass_form)) ≡ false
global_parameter = refl

-- a handler for every exception comes last
every_first : placed (try_form (one pass_form) (more_handlers None None (one pass_form) (more_handlers (Some x) None (one pass_form) end_handlers))) ≡ false
every_first = refl

every_last : placed (try_form (one pass_form) (more_handlers (Some x) None (one pass_form) (more_handlers None None (one pass_form) end_handlers))) ≡ true
every_last = refl

-- an attribute is not deleted
field_deleted : placed (del_form (field_target nowhere x (codes "a"))) ≡ false
field_deleted = refl

-- `a, b = e` is flat, and `a, (b, c) = e` is not, wherever it stands
abbrev flat : FormTree → Bool
flat form = is_flat (record { body = one form; count = 1 })

abbrev target : List ℕ → TargetTree
target name = var_target nowhere name

abbrev pair : TargetTree → TargetTree → TargetTree
pair a b = many_target (more_targets a (more_targets b end_targets))

flat_pair : flat (assign_form (pair (target (codes "a")) (field_target nowhere x (codes "b"))) x) ≡ true
flat_pair = refl

nested_pair : flat (assign_form (pair (target (codes "a")) (pair (target (codes "b")) (target (codes "c")))) x) ≡ false
nested_pair = refl

nested_in_for : flat (def_of (codes "f") (for_form (pair (pair (target (codes "a")) (target (codes "b"))) (target (codes "c"))) x (one pass_form))) ≡ false
nested_in_for = refl

flat_in_handler : flat (try_of pass_form (assign_form (pair (target (codes "a")) (target (codes "b"))) x)) ≡ true
flat_in_handler = refl
