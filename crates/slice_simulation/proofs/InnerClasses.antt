-- Why classes have to stand outside functions, by computation. A class in a function sets a local name of the function here, and what makes the name
-- local is never run. So nothing asks for it; and in the slice without it the class sets a name of the module. No script of the grammar is so.
use Rattle.std.proofs.Common.{◌≡◌, ℕ, Bool, false, not, ◌==◌, [], codes, refl, Some, None, List, Option}
use Rattle.std.specs.Prelude.{pos}
use Rattle.std.specs.Option.{option_map, option_and_then}
use Rattle.std.specs.List.{list_all}
use Rattle.std.specs.Str.{chars, is_utf8}
use Rattle.std.specs.Char.{encode_utf8}
use Rattle.prov_base.specs.declared.place.Pos.{Pos}
use Rattle.prov_base.specs.declared.place.Span.{Span}
use Rattle.py_tree.specs.declared.expr.Atom.TheVariants.{Int as int_atom}
use Rattle.py_tree.specs.Deletion.{deleted}
use Rattle.py_tree.specs.Owners.{statements}
use Rattle.py_tree.specs.Tree.{const_expr, var_expr, call_expr, tuple_expr, end_exprs, more_exprs, var_target, one_stmt, assign_form, return_form, def_form, class_form, end_suite, more_suite, ScriptTree}
use Rattle.py_tree.specs.WellFormed.{IsWellFormed}
use Rattle.py_model.specs.Capture.{Capture, opening_in}
use Rattle.py_model.specs.Meaning.{level}
use Rattle.py_model.specs.Occurrences.{up_to_evaluation}
use Rattle.slice_law.specs.Closed.{needed, has}
use Rattle.slice_law.specs.Slices.{told_by, last_value}
use Rattle.slice_law.specs.Classes.{stands_outside}

abbrev place : ℕ → ℕ → Pos
place line col = record { line = line; col = col }

abbrev no_span : Span
no_span = record { from = 0; to = 0 }

-- x = 5
-- def f():
--     class C:
--         x = 1
--     return x
--     x = 3
-- y = f()
-- z = (x, y)
abbrev inner : ScriptTree
inner = record {
  body = more_suite (one_stmt 0 (place 1 1) no_span (assign_form (var_target (place 1 1) (codes "x")) (const_expr (place 1 5) (int_atom (pos 5)))))
      (more_suite (one_stmt 1 (place 2 1) no_span (def_form (codes "f") [] []
      (more_suite (one_stmt 2 (place 3 3) no_span (class_form (codes "C") None
      (more_suite (one_stmt 3 (place 4 5) no_span (assign_form (var_target (place 4 5) (codes "x")) (const_expr (place 4 9) (int_atom (pos 1))))) end_suite)))
      (more_suite (one_stmt 4 (place 5 3) no_span (return_form (Some (var_expr (place 5 10) (codes "x")))))
      (more_suite (one_stmt 5 (place 6 3) no_span (assign_form (var_target (place 6 3) (codes "x")) (const_expr (place 6 7) (int_atom (pos 3))))) end_suite)))))
      (more_suite (one_stmt 6 (place 7 1) no_span (assign_form (var_target (place 7 1) (codes "y")) (call_expr (place 7 6) (var_expr (place 7 5) (codes "f")) end_exprs)))
      (more_suite (one_stmt 7 (place 8 1) no_span (assign_form (var_target (place 8 1) (codes "z")) (tuple_expr (place 8 5) (more_exprs (var_expr (place 8 6) (codes "x")) (more_exprs (var_expr (place 8 9) (codes "y")) end_exprs))))) end_suite)));
  count = 8;
}

-- the slice has not the statement that is never run
abbrev all_but_one : ℕ → Bool
all_but_one n = not (n == 5)

abbrev bare : Capture → Capture
bare capture = record capture { answers = []; files = [] }

abbrev shown : ScriptTree → Capture → Option (List ℕ)
shown script capture = option_and_then (last_value script (opening_in (bare capture) (codes "s.py") [])) (up_to_evaluation (place 8 5) 1 (told_by script (bare capture) (codes "s.py") [] 1000))

-- whether the value of the last line needs a statement
abbrev needs : ℕ → Capture → Option Bool
needs n capture = option_map (λ upto. has n (needed inner (opening_in (bare capture) (codes "s.py") []) upto)) (up_to_evaluation (place 8 5) 1 (told_by inner (bare capture) (codes "s.py") [] 1000))

in_the_script : (capture : Capture) → shown inner capture ≡ Some (codes "#1=(5, 1)")
unfolding is_utf8 chars encode_utf8 level
in_the_script capture = refl

in_the_slice : (capture : Capture) → shown (deleted all_but_one inner) capture ≡ Some (codes "#1=(1, 1)")
unfolding is_utf8 chars encode_utf8 level
in_the_slice capture = refl

never_needed : (capture : Capture) → needs 5 capture ≡ Some false
unfolding is_utf8 chars encode_utf8 level
never_needed capture = refl

not_outside : list_all stands_outside (statements inner) ≡ false
not_outside = refl

is_well_formed : IsWellFormed inner
is_well_formed = record { numbered = record { in_order = refl; counted = refl }; ascending = refl; apart = refl; nested = refl }
