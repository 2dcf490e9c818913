-- Runs of scripts, as theorems that hold by computation: their ends, steps, output and files, and all of their moments.
-- Written by tools/run_vectors.py from scripts with what is expected of them.
use Rattle.std.proofs.Common.{◌≡◌, [], ◌∷◌, ◌++◌, Some, None, codes, refl}
use Rattle.std.specs.Prelude.{pos, true, false, reverse}
use Rattle.std.specs.Str.{chars, is_utf8}
use Rattle.std.specs.Char.{encode_utf8}
use Rattle.py_tree.specs.declared.expr.Atom.TheVariants.{Int as int_atom}
use Rattle.py_tree.specs.Tree.{const_expr, var_expr, call_expr, attr_expr, end_exprs, more_exprs, var_target, one_stmt, do_form, assign_form, return_form, def_form, class_form, end_suite, more_suite, ScriptTree}
use Rattle.py_model.specs.Capture.{Capture, opening_in}
use Rattle.py_model.specs.Meaning.{Run, run, level, finished}
use Rattle.model_runs.specs.Words.{place, no_span, silent, summary, evaluated, kept, depends, replayed}
use Rattle.slice_law.specs.Edges.{edge, by_data, by_control, by_jump}

abbrev pub r_overridden_method_tree : ScriptTree
r_overridden_method_tree = record { body = (more_suite (one_stmt 0 (place 1 1) no_span (class_form (codes "A") None (more_suite (one_stmt 1 (place 2 5) no_span (def_form (codes "get") ((codes "self") ∷ []) ([]) (more_suite (one_stmt 2 (place 3 9) no_span (return_form (Some (const_expr (place 3 16) (int_atom (pos 1)))))) end_suite))) end_suite))) (more_suite (one_stmt 3 (place 4 1) no_span (class_form (codes "B") (Some (var_expr (place 4 9) (codes "A"))) (more_suite (one_stmt 4 (place 5 5) no_span (def_form (codes "get") ((codes "self") ∷ []) ([]) (more_suite (one_stmt 5 (place 6 9) no_span (return_form (Some (const_expr (place 6 16) (int_atom (pos 7)))))) end_suite))) end_suite))) (more_suite (one_stmt 6 (place 7 1) no_span (assign_form (var_target (place 7 1) (codes "a")) (call_expr (place 7 6) (var_expr (place 7 5) (codes "A")) end_exprs))) (more_suite (one_stmt 7 (place 8 1) no_span (assign_form (var_target (place 8 1) (codes "b")) (call_expr (place 8 6) (var_expr (place 8 5) (codes "B")) end_exprs))) (more_suite (one_stmt 8 (place 9 1) no_span (do_form (call_expr (place 9 6) (var_expr (place 9 1) (codes "print")) (more_exprs (call_expr (place 9 12) (attr_expr (place 9 8) (var_expr (place 9 7) (codes "b")) (codes "get")) end_exprs) end_exprs)))) (more_suite (one_stmt 9 (place 10 1) no_span (do_form (call_expr (place 10 6) (var_expr (place 10 1) (codes "print")) (more_exprs (call_expr (place 10 12) (attr_expr (place 10 8) (var_expr (place 10 7) (codes "a")) (codes "get")) end_exprs) end_exprs)))) end_suite)))))); count = 10 }

abbrev pub r_overridden_method_capture : Capture
r_overridden_method_capture = record { answers = ([]); files = ([]); ends = silent }

abbrev pub r_overridden_method_run : Run
r_overridden_method_run = run r_overridden_method_tree (codes "s.py") ([]) r_overridden_method_capture 1000

r_overridden_method : summary r_overridden_method_run ≡ record { end = finished; steps = 73; output = (codes "7" ++ (10 ∷ []) ++ codes "1" ++ (10 ∷ [])); finals = ([]) }
unfolding is_utf8 chars encode_utf8 level
r_overridden_method = refl

r_overridden_method_values : evaluated r_overridden_method_tree (opening_in r_overridden_method_capture (codes "s.py") ([])) (reverse r_overridden_method_run.moments) ((place 9 12, 1) ∷ (place 10 12, 1) ∷ []) ≡ (Some ((codes "7"), 56) ∷ Some ((codes "1"), 71) ∷ [])
unfolding is_utf8 chars encode_utf8 level
r_overridden_method_values = refl

r_overridden_method_slices : kept r_overridden_method_tree (opening_in r_overridden_method_capture (codes "s.py") ([])) (reverse r_overridden_method_run.moments) ((place 9 12, 1) ∷ (place 10 12, 1) ∷ []) ≡ (Some (true, (true ∷ false ∷ false ∷ true ∷ true ∷ true ∷ false ∷ true ∷ true ∷ false ∷ [])) ∷ Some (true, (true ∷ true ∷ true ∷ false ∷ false ∷ false ∷ true ∷ false ∷ false ∷ true ∷ [])) ∷ [])
unfolding is_utf8 chars encode_utf8 level
r_overridden_method_slices = refl

r_overridden_method_replays : replayed r_overridden_method_tree r_overridden_method_capture (codes "s.py") ([]) 73 (reverse r_overridden_method_run.moments) ((place 9 12, 1) ∷ (place 10 12, 1) ∷ []) ≡ (Some ((codes "7"), 43) ∷ Some ((codes "1"), 32) ∷ [])
unfolding is_utf8 chars encode_utf8 level
r_overridden_method_replays = refl

r_overridden_method_dataflow : depends r_overridden_method_tree (reverse r_overridden_method_run.moments) (edge by_control 1 0 ∷ edge by_control 2 1 ∷ edge by_control 2 9 ∷ edge by_data 3 0 ∷ edge by_control 4 3 ∷ edge by_control 5 4 ∷ edge by_control 5 8 ∷ edge by_data 6 0 ∷ edge by_data 7 0 ∷ edge by_data 7 3 ∷ edge by_data 8 4 ∷ edge by_jump 8 5 ∷ edge by_data 8 7 ∷ edge by_data 9 1 ∷ edge by_jump 9 2 ∷ edge by_data 9 6 ∷ []) ≡ (true, true)
unfolding is_utf8 chars encode_utf8 level
r_overridden_method_dataflow = refl
