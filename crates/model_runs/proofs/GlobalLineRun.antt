-- Runs of scripts, as theorems that hold by computation: their ends, steps, output and files, and all of their moments.
-- Written by tools/run_vectors.py from scripts with what is expected of them.
use Rattle.std.proofs.Common.{◌≡◌, [], ◌∷◌, ◌++◌, Some, codes, refl}
use Rattle.std.specs.Prelude.{pos, true, false, reverse}
use Rattle.std.specs.Str.{chars, is_utf8}
use Rattle.std.specs.Char.{encode_utf8}
use Rattle.py_tree.specs.declared.expr.Atom.TheVariants.{Int as int_atom}
use Rattle.py_tree.specs.declared.expr.BinOp.TheVariants.{Add}
use Rattle.py_tree.specs.Tree.{const_expr, var_expr, binary_expr, call_expr, end_exprs, more_exprs, var_target, one_stmt, do_form, assign_form, def_form, end_suite, more_suite, ScriptTree}
use Rattle.py_model.specs.Capture.{Capture, opening_in}
use Rattle.py_model.specs.Meaning.{Run, run, level, finished}
use Rattle.model_runs.specs.Words.{place, no_span, silent, summary, evaluated, kept, depends, replayed}
use Rattle.slice_law.specs.Edges.{edge, by_data, by_control}

abbrev pub r_global_line_tree : ScriptTree
r_global_line_tree = record { body = (more_suite (one_stmt 0 (place 1 1) no_span (assign_form (var_target (place 1 1) (codes "n")) (const_expr (place 1 5) (int_atom (pos 1))))) (more_suite (one_stmt 1 (place 2 1) no_span (def_form (codes "f") ([]) ((codes "n") ∷ []) (more_suite (one_stmt 2 (place 4 5) no_span (assign_form (var_target (place 4 5) (codes "n")) (binary_expr (place 4 11) Add (var_expr (place 4 9) (codes "n")) (const_expr (place 4 13) (int_atom (pos 1)))))) (more_suite (one_stmt 3 (place 5 5) no_span (assign_form (var_target (place 5 5) (codes "m")) (var_expr (place 5 9) (codes "n")))) end_suite)))) (more_suite (one_stmt 4 (place 6 1) no_span (do_form (call_expr (place 6 2) (var_expr (place 6 1) (codes "f")) end_exprs))) (more_suite (one_stmt 5 (place 7 1) no_span (do_form (call_expr (place 7 6) (var_expr (place 7 1) (codes "print")) (more_exprs (var_expr (place 7 7) (codes "n")) end_exprs)))) end_suite)))); count = 6 }

abbrev pub r_global_line_capture : Capture
r_global_line_capture = record { answers = ([]); files = ([]); ends = silent }

abbrev pub r_global_line_run : Run
r_global_line_run = run r_global_line_tree (codes "s.py") ([]) r_global_line_capture 1000

r_global_line : summary r_global_line_run ≡ record { end = finished; steps = 31; output = (codes "2" ++ (10 ∷ [])); finals = ([]) }
unfolding is_utf8 chars encode_utf8 level
r_global_line = refl

r_global_line_values : evaluated r_global_line_tree (opening_in r_global_line_capture (codes "s.py") ([])) (reverse r_global_line_run.moments) ((place 7 7, 1) ∷ (place 4 9, 1) ∷ (place 6 1, 1) ∷ []) ≡ (Some ((codes "2"), 29) ∷ Some ((codes "1"), 14) ∷ Some ((codes "<function f>"), 10) ∷ [])
unfolding is_utf8 chars encode_utf8 level
r_global_line_values = refl

r_global_line_slices : kept r_global_line_tree (opening_in r_global_line_capture (codes "s.py") ([])) (reverse r_global_line_run.moments) ((place 7 7, 1) ∷ (place 4 9, 1) ∷ (place 6 1, 1) ∷ []) ≡ (Some (true, (true ∷ true ∷ true ∷ false ∷ true ∷ true ∷ [])) ∷ Some (true, (true ∷ true ∷ true ∷ false ∷ true ∷ false ∷ [])) ∷ Some (true, (false ∷ true ∷ false ∷ false ∷ true ∷ false ∷ [])) ∷ [])
unfolding is_utf8 chars encode_utf8 level
r_global_line_slices = refl

r_global_line_replays : replayed r_global_line_tree r_global_line_capture (codes "s.py") ([]) 31 (reverse r_global_line_run.moments) ((place 7 7, 1) ∷ (place 4 9, 1) ∷ (place 6 1, 1) ∷ []) ≡ (Some ((codes "2"), 24) ∷ Some ((codes "1"), 14) ∷ Some ((codes "<function f>"), 6) ∷ [])
unfolding is_utf8 chars encode_utf8 level
r_global_line_replays = refl

r_global_line_dataflow : depends r_global_line_tree (reverse r_global_line_run.moments) (edge by_data 2 0 ∷ edge by_control 2 1 ∷ edge by_control 2 4 ∷ edge by_control 3 1 ∷ edge by_data 3 2 ∷ edge by_control 3 4 ∷ edge by_data 4 1 ∷ edge by_data 5 2 ∷ []) ≡ (true, true)
unfolding is_utf8 chars encode_utf8 level
r_global_line_dataflow = refl
