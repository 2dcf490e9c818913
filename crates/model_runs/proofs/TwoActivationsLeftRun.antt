-- Runs of scripts, as theorems that hold by computation: their ends, steps, output and files, and all of their moments.
-- Written by tools/run_vectors.py from scripts with what is expected of them.
use Rattle.std.proofs.Common.{◌≡◌, [], ◌∷◌, ◌++◌, Some, None, codes, refl}
use Rattle.std.specs.Prelude.{pos, true, false, reverse}
use Rattle.std.specs.Str.{chars, is_utf8}
use Rattle.std.specs.Char.{encode_utf8}
use Rattle.py_tree.specs.declared.expr.Atom.TheVariants.{Int as int_atom}
use Rattle.py_tree.specs.declared.expr.BinOp.TheVariants.{Add}
use Rattle.py_tree.specs.Tree.{const_expr, var_expr, binary_expr, call_expr, end_exprs, more_exprs, var_target, one_stmt, do_form, assign_form, raise_form, try_form, def_form, end_suite, more_suite, end_handlers, more_handlers, ScriptTree}
use Rattle.py_model.specs.Capture.{Capture, opening_in}
use Rattle.py_model.specs.Meaning.{Run, run, level, finished}
use Rattle.model_runs.specs.Words.{place, no_span, silent, summary, evaluated, kept, depends, replayed}
use Rattle.slice_law.specs.Edges.{edge, by_data, by_control, by_jump}

abbrev pub r_two_activations_left_tree : ScriptTree
r_two_activations_left_tree = record { body = (more_suite (one_stmt 0 (place 1 1) no_span (def_form (codes "g") ([]) ([]) (more_suite (one_stmt 1 (place 2 5) no_span (raise_form (Some (call_expr (place 2 21) (var_expr (place 2 11) (codes "ValueError")) (more_exprs (const_expr (place 2 22) (int_atom (pos 4))) end_exprs))))) end_suite))) (more_suite (one_stmt 2 (place 3 1) no_span (def_form (codes "f") ([]) ([]) (more_suite (one_stmt 3 (place 4 5) no_span (do_form (call_expr (place 4 6) (var_expr (place 4 5) (codes "g")) end_exprs))) (more_suite (one_stmt 4 (place 5 5) no_span (do_form (call_expr (place 5 10) (var_expr (place 5 5) (codes "print")) (more_exprs (const_expr (place 5 11) (int_atom (pos 1))) end_exprs)))) end_suite)))) (more_suite (one_stmt 5 (place 6 1) no_span (assign_form (var_target (place 6 1) (codes "x")) (const_expr (place 6 5) (int_atom (pos 0))))) (more_suite (one_stmt 6 (place 7 1) no_span (try_form (more_suite (one_stmt 7 (place 8 5) no_span (do_form (call_expr (place 8 6) (var_expr (place 8 5) (codes "f")) end_exprs))) (more_suite (one_stmt 8 (place 9 5) no_span (assign_form (var_target (place 9 5) (codes "x")) (const_expr (place 9 9) (int_atom (pos 1))))) end_suite)) (more_handlers (Some (var_expr (place 10 8) (codes "ValueError"))) None (more_suite (one_stmt 9 (place 11 5) no_span (assign_form (var_target (place 11 5) (codes "x")) (binary_expr (place 11 11) Add (var_expr (place 11 9) (codes "x")) (const_expr (place 11 13) (int_atom (pos 2)))))) end_suite) end_handlers))) (more_suite (one_stmt 10 (place 12 1) no_span (do_form (call_expr (place 12 6) (var_expr (place 12 1) (codes "print")) (more_exprs (var_expr (place 12 7) (codes "x")) end_exprs)))) end_suite))))); count = 11 }

abbrev pub r_two_activations_left_capture : Capture
r_two_activations_left_capture = record { answers = ([]); files = ([]); ends = silent }

abbrev pub r_two_activations_left_run : Run
r_two_activations_left_run = run r_two_activations_left_tree (codes "s.py") ([]) r_two_activations_left_capture 1000

r_two_activations_left : summary r_two_activations_left_run ≡ record { end = finished; steps = 45; output = (codes "2" ++ (10 ∷ [])); finals = ([]) }
unfolding is_utf8 chars encode_utf8 level
r_two_activations_left = refl

r_two_activations_left_values : evaluated r_two_activations_left_tree (opening_in r_two_activations_left_capture (codes "s.py") ([])) (reverse r_two_activations_left_run.moments) ((place 12 7, 1) ∷ (place 4 5, 1) ∷ (place 6 5, 1) ∷ []) ≡ (Some ((codes "2"), 43) ∷ Some ((codes "<function g>"), 18) ∷ Some ((codes "0"), 8) ∷ [])
unfolding is_utf8 chars encode_utf8 level
r_two_activations_left_values = refl

r_two_activations_left_slices : kept r_two_activations_left_tree (opening_in r_two_activations_left_capture (codes "s.py") ([])) (reverse r_two_activations_left_run.moments) ((place 12 7, 1) ∷ (place 4 5, 1) ∷ (place 6 5, 1) ∷ []) ≡ (Some (true, (true ∷ true ∷ true ∷ true ∷ false ∷ true ∷ true ∷ true ∷ false ∷ true ∷ true ∷ [])) ∷ Some (true, (true ∷ false ∷ true ∷ true ∷ false ∷ false ∷ true ∷ true ∷ false ∷ false ∷ false ∷ [])) ∷ Some (true, (false ∷ false ∷ false ∷ false ∷ false ∷ true ∷ false ∷ false ∷ false ∷ false ∷ false ∷ [])) ∷ [])
unfolding is_utf8 chars encode_utf8 level
r_two_activations_left_slices = refl

r_two_activations_left_replays : replayed r_two_activations_left_tree r_two_activations_left_capture (codes "s.py") ([]) 45 (reverse r_two_activations_left_run.moments) ((place 12 7, 1) ∷ (place 4 5, 1) ∷ (place 6 5, 1) ∷ []) ≡ (Some ((codes "2"), 43) ∷ Some ((codes "<function g>"), 14) ∷ Some ((codes "0"), 2) ∷ [])
unfolding is_utf8 chars encode_utf8 level
r_two_activations_left_replays = refl

r_two_activations_left_dataflow : depends r_two_activations_left_tree (reverse r_two_activations_left_run.moments) (edge by_control 1 0 ∷ edge by_control 1 3 ∷ edge by_data 3 0 ∷ edge by_jump 3 1 ∷ edge by_control 3 2 ∷ edge by_control 3 7 ∷ edge by_control 4 2 ∷ edge by_jump 6 7 ∷ edge by_data 7 2 ∷ edge by_jump 7 3 ∷ edge by_control 7 6 ∷ edge by_control 8 6 ∷ edge by_data 9 5 ∷ edge by_control 9 6 ∷ edge by_data 10 9 ∷ []) ≡ (true, true)
unfolding is_utf8 chars encode_utf8 level
r_two_activations_left_dataflow = refl
