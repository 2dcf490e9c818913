-- A worked script, of six statements in five lines, and what its deletion gives by computation:
--     x = 0
--     y = 5
--     if x: y = 1
--     else: z = 2
--     print(z)
use Rattle.std.proofs.Common.{◌≡◌, ℕ, ◌+◌, true, false, List, [], ◌∷◌, map, None, Some, refl}
use Rattle.std.specs.Prelude.{codes, pos}
use Rattle.prov_base.specs.declared.place.Pos.{Pos}
use Rattle.prov_base.specs.declared.place.Span.{Span}
use Rattle.py_tree.specs.declared.expr.Atom.TheVariants.{Int}
use Rattle.py_tree.specs.Tree.{ExprTree, StmtTree, FormTree, SuiteTree, ScriptTree, const_expr, var_expr, call_expr, more_exprs, end_exprs, var_target, one_stmt, assign_form, do_form, if_form, pass_form, def_form, class_form, more_suite, end_suite, more_branches, end_branches, no_else, else_suite}
use Rattle.std.specs.Option.{option_map}
use Rattle.py_tree.specs.Deletion.{deleted}
use Rattle.py_tree.specs.Functions.{functions_in, function_at, classes_in, is_local}
use Rattle.py_tree.specs.Owners.{number_at}
use Rattle.py_tree.specs.Placed.{place_at, number_on, owner_of}
use Rattle.py_tree.specs.Remaining.{staying}
use Rattle.py_tree.specs.StmtSet.{has}
use Rattle.py_tree.specs.WellFormed.{IsWellFormed}

abbrev place : ℕ → ℕ → Pos
place line col = record { line = line; col = col }

abbrev bytes : ℕ → ℕ → Span
bytes from to = record { from = from; to = to }

abbrev name : ℕ → ℕ → List ℕ → ExprTree
name line col text = var_expr (place line col) text

-- `text = n`, with n where the column is `at`
abbrev binding : ℕ → ℕ → ℕ → ℕ → FormTree
binding line from code n = assign_form (var_target (place line from) (code ∷ [])) (const_expr (place line (4 + from)) (Int (pos n)))

abbrev first : StmtTree
first = one_stmt 0 (place 1 1) (bytes 0 5) (binding 1 1 120 0)

abbrev printing : ℕ → StmtTree
printing number = one_stmt number (place 5 1) (bytes 36 44) (do_form (call_expr (place 5 6) (name 5 1 (codes "print")) (more_exprs (name 5 7 (codes "z")) end_exprs)))

abbrev choice : ℕ → SuiteTree → SuiteTree → StmtTree
choice number body orelse = one_stmt number (place 3 1) (bytes 12 35) (if_form (more_branches (name 3 4 (codes "x")) body end_branches) (else_suite orelse))

abbrev row : List StmtTree → SuiteTree
row [] = end_suite
row (s ∷ ss) = more_suite s (row ss)

abbrev worked : ScriptTree
worked = record {
  body = row (first
      ∷ one_stmt 1 (place 2 1) (bytes 6 11) (binding 2 1 121 5)
      ∷ choice 2 (row (one_stmt 3 (place 3 7) (bytes 18 23) (binding 3 7 121 1) ∷ [])) (row (one_stmt 4 (place 4 7) (bytes 30 35) (binding 4 7 122 2) ∷ []))
      ∷ printing 5 ∷ []);
  count = 6;
}

pub worked_is_well_formed : IsWellFormed worked
worked_is_well_formed = record { numbered = record { in_order = refl; counted = refl }; ascending = refl; apart = refl; nested = refl }

-- the statements 0, 2, 4 and 5 are kept: `pass` stands at 3:7
pub worked_row : deleted (has (true ∷ false ∷ true ∷ false ∷ true ∷ true ∷ [])) worked ≡ record {
  body = row (first
      ∷ choice 1 (row (one_stmt 2 (place 3 7) (bytes 18 23) pass_form ∷ [])) (row (one_stmt 3 (place 4 7) (bytes 30 35) (binding 4 7 122 2) ∷ []))
      ∷ printing 4 ∷ []);
  count = 5;
}
worked_row = refl

-- every statement is kept: the script itself
pub worked_whole : deleted (has (true ∷ true ∷ true ∷ true ∷ true ∷ true ∷ [])) worked ≡ worked
worked_whole = refl

-- no statement is kept: nothing
pub worked_nothing : deleted (has (false ∷ false ∷ false ∷ true ∷ true ∷ false ∷ [])) worked ≡ record { body = end_suite; count = 0 }
worked_nothing = refl

-- The script `if x:`, `    y = 1`, `    z = 2`. Where the first deletion takes `y = 1` and the second `z = 2`, `pass` stands
-- at 3:5, the place of the first statement that the suite had then. One deletion of both puts it at 2:5.
abbrev two : ScriptTree
two = record {
  body = row (one_stmt 0 (place 1 1) (bytes 0 25) (if_form (more_branches (name 1 4 (codes "x")) (row (one_stmt 1 (place 2 5) (bytes 10 15) (binding 2 5 121 1) ∷ one_stmt 2 (place 3 5) (bytes 20 25) (binding 3 5 122 2) ∷ [])) end_branches) no_else) ∷ []);
  count = 3;
}

abbrev two_with_pass : ℕ → ℕ → ℕ → ScriptTree
two_with_pass line from to = record {
  body = row (one_stmt 0 (place 1 1) (bytes 0 25) (if_form (more_branches (name 1 4 (codes "x")) (row (one_stmt 1 (place line 5) (bytes from to) pass_form ∷ [])) end_branches) no_else) ∷ []);
  count = 2;
}

pub worked_twice : deleted (has (true ∷ false ∷ [])) (deleted (has (true ∷ false ∷ true ∷ [])) two) ≡ two_with_pass 3 20 25
worked_twice = refl

pub worked_at_once : deleted (has (true ∷ false ∷ false ∷ [])) two ≡ two_with_pass 2 10 15
worked_at_once = refl

-- ## Numbers, places and owners

pub worked_places : map (place_at worked) (0 ∷ 2 ∷ 3 ∷ 6 ∷ []) ≡ Some (place 1 1) ∷ Some (place 3 1) ∷ Some (place 3 7) ∷ None ∷ []
worked_places = refl

pub worked_numbers : map (number_on worked) (place 4 7 ∷ place 3 4 ∷ []) ≡ Some 4 ∷ None ∷ []
worked_numbers = refl

-- the test belongs to the `if`, what is in its suites to the statements there, and at `else` no node stands
pub worked_owners : map (owner_of worked) (place 3 4 ∷ place 3 7 ∷ place 4 11 ∷ place 5 6 ∷ place 4 1 ∷ []) ≡ Some 2 ∷ Some 3 ∷ Some 4 ∷ Some 5 ∷ None ∷ []
worked_owners = refl

-- what is in the set without the `if` around it goes
pub worked_staying : map number_at (staying (has (true ∷ false ∷ false ∷ true ∷ true ∷ true ∷ [])) worked) ≡ 0 ∷ 5 ∷ []
worked_staying = refl

-- ## Functions and classes
--     class A:
--         def run(p):
--             x = 1
--     def g():
--         global x
--         x = 2
abbrev defined : ScriptTree
defined = record {
  body = row (one_stmt 0 (place 1 1) (bytes 0 42) (class_form (codes "A") None (row (one_stmt 1 (place 2 5) (bytes 13 42) (def_form (codes "run") (codes "p" ∷ []) [] (row (one_stmt 2 (place 3 9) (bytes 37 42) (binding 3 9 120 1) ∷ []))) ∷ [])))
      ∷ one_stmt 3 (place 4 1) (bytes 43 74) (def_form (codes "g") [] (codes "x" ∷ []) (row (one_stmt 4 (place 6 5) (bytes 69 74) (binding 6 5 120 2) ∷ [])))
      ∷ []);
  count = 5;
}

pub defined_is_well_formed : IsWellFormed defined
defined_is_well_formed = record { numbered = record { in_order = refl; counted = refl }; ascending = refl; apart = refl; nested = refl }

pub defined_functions : map (λ f. f.place) (functions_in defined.body) ≡ place 2 5 ∷ place 4 1 ∷ []
defined_functions = refl

pub defined_classes : map (λ c. c.place) (classes_in defined.body) ≡ place 1 1 ∷ []
defined_classes = refl

pub run_names : map (λ text. option_map (λ f. is_local f text) (function_at defined (place 2 5))) (codes "x" ∷ codes "p" ∷ codes "g" ∷ []) ≡ Some true ∷ Some true ∷ Some false ∷ []
run_names = refl

pub g_names : map (λ text. option_map (λ f. is_local f text) (function_at defined (place 4 1))) (codes "x" ∷ codes "p" ∷ []) ≡ Some false ∷ Some false ∷ []
g_names = refl

-- no function stands at the place of a class
pub no_function : function_at defined (place 1 1) ≡ None
no_function = refl
