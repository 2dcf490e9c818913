-- A script that the laws speak of, by computation: a class with a method that calls a function with a local name. Its tree is well formed, its class
-- stands outside the functions, and its run reaches the value of the last line.
use Rattle.std.proofs.Common.{◌≡◌, ℕ, [], ◌∷◌, codes, refl, true, None, is_some}
use Rattle.std.specs.Prelude.{pos}
use Rattle.std.specs.Str.{chars, is_utf8}
use Rattle.std.specs.Char.{encode_utf8}
use Rattle.prov_base.specs.declared.place.Pos.{Pos}
use Rattle.prov_base.specs.declared.place.Span.{Span}
use Rattle.py_tree.specs.declared.expr.Atom.TheVariants.{Int as int_atom}
use Rattle.py_tree.specs.declared.expr.BinOp.TheVariants.{Add}
use Rattle.py_tree.specs.Tree.{const_expr, var_expr, call_expr, attr_expr, binary_expr, end_exprs, more_exprs, var_target, field_target, one_stmt, do_form, assign_form, return_form, def_form, class_form, end_suite, more_suite, ScriptTree}
use Rattle.py_tree.specs.WellFormed.{IsWellFormed}
use Rattle.std.specs.Prelude.{Some}
use Rattle.py_model.specs.Capture.{Capture}
use Rattle.py_model.specs.Meaning.{level}
use Rattle.py_model.specs.Occurrences.{up_to_evaluation}
use Rattle.slice_law.specs.Slices.{told_by}
use Rattle.slice_law.specs.Classes.{ClassesStandOutside}

abbrev place : ℕ → ℕ → Pos
place line col = record { line = line; col = col }

abbrev no_span : Span
no_span = record { from = 0; to = 0 }

-- class Counter:
--     def add(self, n):
--         self.total = plus(self.total, n)
-- def plus(a, b):
--     sum = a + b
--     return sum
-- c = Counter()
-- c.total = 1
-- c.add(2)
-- print(c.total)
abbrev counter : ScriptTree
counter = record {
  body = more_suite (one_stmt 0 (place 1 1) no_span (class_form (codes "Counter") None
      (more_suite (one_stmt 1 (place 2 5) no_span (def_form (codes "add") (codes "self" ∷ codes "n" ∷ []) []
      (more_suite (one_stmt 2 (place 3 9) no_span (assign_form (field_target (place 3 14) (var_expr (place 3 9) (codes "self")) (codes "total"))
      (call_expr (place 3 26) (var_expr (place 3 22) (codes "plus"))
      (more_exprs (attr_expr (place 3 31) (var_expr (place 3 27) (codes "self")) (codes "total")) (more_exprs (var_expr (place 3 39) (codes "n")) end_exprs))))) end_suite))) end_suite)))
      (more_suite (one_stmt 3 (place 4 1) no_span (def_form (codes "plus") (codes "a" ∷ codes "b" ∷ []) []
      (more_suite (one_stmt 4 (place 5 5) no_span (assign_form (var_target (place 5 5) (codes "sum")) (binary_expr (place 5 13) Add (var_expr (place 5 11) (codes "a")) (var_expr (place 5 15) (codes "b")))))
      (more_suite (one_stmt 5 (place 6 5) no_span (return_form (Some (var_expr (place 6 12) (codes "sum"))))) end_suite))))
      (more_suite (one_stmt 6 (place 7 1) no_span (assign_form (var_target (place 7 1) (codes "c")) (call_expr (place 7 12) (var_expr (place 7 5) (codes "Counter")) end_exprs)))
      (more_suite (one_stmt 7 (place 8 1) no_span (assign_form (field_target (place 8 2) (var_expr (place 8 1) (codes "c")) (codes "total")) (const_expr (place 8 11) (int_atom (pos 1)))))
      (more_suite (one_stmt 8 (place 9 1) no_span (do_form (call_expr (place 9 6) (attr_expr (place 9 2) (var_expr (place 9 1) (codes "c")) (codes "add")) (more_exprs (const_expr (place 9 7) (int_atom (pos 2))) end_exprs))))
      (more_suite (one_stmt 9 (place 10 1) no_span (do_form (call_expr (place 10 6) (var_expr (place 10 1) (codes "print"))
      (more_exprs (attr_expr (place 10 8) (var_expr (place 10 7) (codes "c")) (codes "total")) end_exprs)))) end_suite)))));
  count = 10;
}

counter_is_well_formed : IsWellFormed counter
counter_is_well_formed = record { numbered = record { in_order = refl; counted = refl }; ascending = refl; apart = refl; nested = refl }

counter_stands_outside : ClassesStandOutside counter
counter_stands_outside = refl

counter_is_reached : (capture : Capture) → is_some (up_to_evaluation (place 10 8) 1 (told_by counter (record capture { answers = []; files = [] }) (codes "s.py") [] 1000)) ≡ true
unfolding is_utf8 chars encode_utf8 level
counter_is_reached capture = refl
