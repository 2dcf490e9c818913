-- Worked scripts: where their statements stand and what they bind, by computation.
use Rattle.std.proofs.Common.{◌≡◌, ℕ, ◌∷◌, [], List, map, true, false, None, Some, refl}
use Rattle.std.specs.Prelude.{codes}
use Rattle.prov_base.specs.declared.place.Pos.{Pos}
use Rattle.prov_base.specs.declared.place.Span.{Span}
use Rattle.py_tree.specs.declared.expr.BinOp.TheVariants.{Add}
use Rattle.py_tree.specs.Tree.{ExprTree, StmtTree, FormTree, SuiteTree, ScriptTree, one_stmt, do_form, assign_form, aug_form, del_form, pass_form, import_form, if_form, for_form, try_form, with_form, def_form, class_form, end_branches, more_branches, no_else, else_suite, end_handlers, more_handlers, var_target, part_target, field_target, many_target, end_targets, more_targets, var_expr}
use Rattle.py_tree.specs.Erasure.{suite_list}
use Rattle.py_tree.specs.Owners.{parent_of, function_of}
use Rattle.py_tree.specs.Numbering.{IsNumbered}
use Rattle.py_tree.specs.Binds.{binds}

-- places and bytes are all the same here, since nothing below reads them
abbrev here : Pos
here = record { line = 1; col = 1 }

abbrev bytes : Span
bytes = record { from = 0; to = 0 }

abbrev stmt : ℕ → FormTree → StmtTree
stmt number form = one_stmt number here bytes form

abbrev name : List ℕ → ExprTree
name text = var_expr here text

-- `x = 0`, `y = 5`, `if x:`, `y = 1`, `else:`, `z = 2`, `print(z)`
abbrev choice : ScriptTree
choice = record {
  body = suite_list (
      stmt 0 (assign_form (var_target here (codes "x")) (name (codes "zero")))
      ∷ stmt 1 (assign_form (var_target here (codes "y")) (name (codes "five")))
      ∷ stmt 2 (if_form (more_branches (name (codes "x")) (suite_list (stmt 3 (assign_form (var_target here (codes "y")) (name (codes "one"))) ∷ [])) end_branches) (else_suite (suite_list (stmt 4 (assign_form (var_target here (codes "z")) (name (codes "two"))) ∷ []))))
      ∷ stmt 5 (do_form (name (codes "z")))
      ∷ []);
  count = 6;
}

choice_is_numbered : IsNumbered choice
choice_is_numbered = record { in_order = refl; counted = refl }

choice_parents : map (parent_of choice) (0 ∷ 1 ∷ 2 ∷ 3 ∷ 4 ∷ 5 ∷ 6 ∷ []) ≡ None ∷ None ∷ None ∷ Some 2 ∷ Some 2 ∷ None ∷ None ∷ []
choice_parents = refl

choice_functions : map (function_of choice) (0 ∷ 3 ∷ 4 ∷ 5 ∷ 6 ∷ []) ≡ None ∷ None ∷ None ∷ None ∷ None ∷ []
choice_functions = refl

choice_binds : map (λ s. binds choice s (codes "y")) (0 ∷ 1 ∷ 2 ∷ 3 ∷ 4 ∷ 5 ∷ 6 ∷ []) ≡ false ∷ true ∷ false ∷ true ∷ false ∷ false ∷ false ∷ []
choice_binds = refl

-- class A:
--     def run():
--         for i in p:
--             if i:
--                 del a
--         try:
--             import sys
--         except E as e:
--             pass
--         with p as f:
--             a, b[0], c.d = t
-- def g():
--     x += 1
abbrev method_body : SuiteTree
method_body = suite_list (
    stmt 2 (for_form (var_target here (codes "i")) (name (codes "p")) (suite_list (stmt 3 (if_form (more_branches (name (codes "i")) (suite_list (stmt 4 (del_form (var_target here (codes "a"))) ∷ [])) end_branches) no_else) ∷ [])))
    ∷ stmt 5 (try_form (suite_list (stmt 6 (import_form (codes "sys")) ∷ [])) (more_handlers (Some (name (codes "E"))) (Some (record { at = here; name = codes "e" })) (suite_list (stmt 7 pass_form ∷ [])) end_handlers))
    ∷ stmt 8 (with_form (name (codes "p")) (Some (record { at = here; name = codes "f" })) (suite_list (stmt 9 (assign_form (many_target (more_targets (var_target here (codes "a")) (more_targets (part_target here (name (codes "b")) (name (codes "zero"))) (more_targets (field_target here (name (codes "c")) (codes "d")) end_targets)))) (name (codes "t"))) ∷ [])))
    ∷ [])

abbrev methods : ScriptTree
methods = record {
  body = suite_list (
      stmt 0 (class_form (codes "A") None (suite_list (stmt 1 (def_form (codes "run") [] [] method_body) ∷ [])))
      ∷ stmt 10 (def_form (codes "g") [] [] (suite_list (stmt 11 (aug_form (var_target here (codes "x")) Add here (name (codes "one"))) ∷ [])))
      ∷ []);
  count = 12;
}

methods_is_numbered : IsNumbered methods
methods_is_numbered = record { in_order = refl; counted = refl }

methods_parents : map (parent_of methods) (0 ∷ 1 ∷ 2 ∷ 3 ∷ 4 ∷ 5 ∷ 6 ∷ 7 ∷ 8 ∷ 9 ∷ 10 ∷ 11 ∷ 12 ∷ []) ≡ None ∷ Some 0 ∷ Some 1 ∷ Some 2 ∷ Some 3 ∷ Some 1 ∷ Some 5 ∷ Some 5 ∷ Some 1 ∷ Some 8 ∷ None ∷ Some 10 ∷ None ∷ []
methods_parents = refl

methods_functions : map (function_of methods) (0 ∷ 1 ∷ 2 ∷ 3 ∷ 4 ∷ 5 ∷ 6 ∷ 7 ∷ 8 ∷ 9 ∷ 10 ∷ 11 ∷ 12 ∷ []) ≡ None ∷ None ∷ Some 1 ∷ Some 1 ∷ Some 1 ∷ Some 1 ∷ Some 1 ∷ Some 1 ∷ Some 1 ∷ Some 1 ∷ None ∷ Some 10 ∷ None ∷ []
methods_functions = refl

methods_class : binds methods 0 (codes "A") ≡ true
methods_class = refl

methods_method : binds methods 1 (codes "run") ≡ false
methods_method = refl

methods_for : binds methods 2 (codes "i") ≡ true
methods_for = refl

methods_if : binds methods 3 (codes "a") ≡ false
methods_if = refl

methods_del : binds methods 4 (codes "a") ≡ true
methods_del = refl

methods_try : binds methods 5 (codes "e") ≡ true
methods_try = refl

methods_not_in_try : binds methods 5 (codes "sys") ≡ false
methods_not_in_try = refl

methods_import : binds methods 6 (codes "sys") ≡ true
methods_import = refl

methods_with : binds methods 8 (codes "f") ≡ true
methods_with = refl

methods_many : map (binds methods 9) (codes "a" ∷ codes "b" ∷ codes "c" ∷ codes "d" ∷ codes "t" ∷ []) ≡ true ∷ false ∷ false ∷ false ∷ false ∷ []
methods_many = refl

methods_def : binds methods 10 (codes "g") ≡ true
methods_def = refl

methods_aug : binds methods 11 (codes "x") ≡ true
methods_aug = refl
