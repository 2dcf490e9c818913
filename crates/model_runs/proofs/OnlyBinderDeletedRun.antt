-- Runs of scripts, as theorems that hold by computation: their ends, steps, output and files, and all of their moments.
-- Written by tools/run_vectors.py from scripts with what is expected of them.
use Rattle.std.proofs.Common.{◌≡◌, [], ◌∷◌, ◌++◌, Some, None, codes, refl}
use Rattle.std.specs.Prelude.{pos, true, false, reverse}
use Rattle.std.specs.Str.{chars, is_utf8}
use Rattle.std.specs.Char.{encode_utf8}
use Rattle.py_tree.specs.declared.expr.Atom.TheVariants.{Int as int_atom}
use Rattle.py_tree.specs.Tree.{const_expr, var_expr, call_expr, end_exprs, more_exprs, var_target, one_stmt, do_form, assign_form, return_form, try_form, def_form, end_suite, more_suite, end_handlers, more_handlers, ScriptTree}
use Rattle.py_model.specs.Capture.{Capture, opening_in}
use Rattle.py_model.specs.Meaning.{Run, run, level, finished}
use Rattle.model_runs.specs.Words.{place, no_span, silent, summary, evaluated, kept, depends, replayed}
use Rattle.slice_law.specs.Edges.{edge, by_data, by_name, by_control, by_jump}

abbrev pub r_only_binder_deleted_tree : ScriptTree
r_only_binder_deleted_tree = record { body = (more_suite (one_stmt 0 (place 1 1) no_span (assign_form (var_target (place 1 1) (codes "x")) (const_expr (place 1 5) (int_atom (pos 8))))) (more_suite (one_stmt 1 (place 2 1) no_span (def_form (codes "f") ([]) ([]) (more_suite (one_stmt 2 (place 3 5) no_span (try_form (more_suite (one_stmt 3 (place 4 9) no_span (assign_form (var_target (place 4 9) (codes "r")) (var_expr (place 4 13) (codes "x")))) end_suite) (more_handlers (Some (var_expr (place 5 12) (codes "UnboundLocalError"))) None (more_suite (one_stmt 4 (place 6 9) no_span (assign_form (var_target (place 6 9) (codes "r")) (const_expr (place 6 13) (int_atom (pos 2))))) end_suite) end_handlers))) (more_suite (one_stmt 5 (place 7 5) no_span (assign_form (var_target (place 7 5) (codes "x")) (var_expr (place 7 9) (codes "r")))) (more_suite (one_stmt 6 (place 8 5) no_span (return_form (Some (const_expr (place 8 12) (int_atom (pos 3)))))) end_suite))))) (more_suite (one_stmt 7 (place 9 1) no_span (assign_form (var_target (place 9 1) (codes "y")) (call_expr (place 9 6) (var_expr (place 9 5) (codes "f")) end_exprs))) (more_suite (one_stmt 8 (place 10 1) no_span (do_form (call_expr (place 10 6) (var_expr (place 10 1) (codes "print")) (more_exprs (var_expr (place 10 7) (codes "y")) end_exprs)))) end_suite)))); count = 9 }

abbrev pub r_only_binder_deleted_capture : Capture
r_only_binder_deleted_capture = record { answers = ([]); files = ([]); ends = silent }

abbrev pub r_only_binder_deleted_run : Run
r_only_binder_deleted_run = run r_only_binder_deleted_tree (codes "s.py") ([]) r_only_binder_deleted_capture 1000

r_only_binder_deleted : summary r_only_binder_deleted_run ≡ record { end = finished; steps = 41; output = (codes "3" ++ (10 ∷ [])); finals = ([]) }
unfolding is_utf8 chars encode_utf8 level
r_only_binder_deleted = refl

r_only_binder_deleted_values : evaluated r_only_binder_deleted_tree (opening_in r_only_binder_deleted_capture (codes "s.py") ([])) (reverse r_only_binder_deleted_run.moments) ((place 10 7, 1) ∷ (place 6 13, 1) ∷ (place 7 9, 1) ∷ []) ≡ (Some ((codes "3"), 39) ∷ Some ((codes "2"), 22) ∷ Some ((codes "2"), 27) ∷ [])
unfolding is_utf8 chars encode_utf8 level
r_only_binder_deleted_values = refl

r_only_binder_deleted_slices : kept r_only_binder_deleted_tree (opening_in r_only_binder_deleted_capture (codes "s.py") ([])) (reverse r_only_binder_deleted_run.moments) ((place 10 7, 1) ∷ (place 6 13, 1) ∷ (place 7 9, 1) ∷ []) ≡ (Some (true, (false ∷ true ∷ false ∷ false ∷ false ∷ false ∷ true ∷ true ∷ true ∷ [])) ∷ Some (true, (false ∷ true ∷ true ∷ true ∷ true ∷ true ∷ false ∷ true ∷ false ∷ [])) ∷ Some (true, (false ∷ true ∷ true ∷ true ∷ true ∷ true ∷ false ∷ true ∷ false ∷ [])) ∷ [])
unfolding is_utf8 chars encode_utf8 level
r_only_binder_deleted_slices = refl

r_only_binder_deleted_replays : replayed r_only_binder_deleted_tree r_only_binder_deleted_capture (codes "s.py") ([]) 41 (reverse r_only_binder_deleted_run.moments) ((place 10 7, 1) ∷ (place 6 13, 1) ∷ (place 7 9, 1) ∷ []) ≡ (Some ((codes "3"), 17) ∷ Some ((codes "2"), 18) ∷ Some ((codes "2"), 23) ∷ [])
unfolding is_utf8 chars encode_utf8 level
r_only_binder_deleted_replays = refl

r_only_binder_deleted_dataflow : depends r_only_binder_deleted_tree (reverse r_only_binder_deleted_run.moments) (edge by_control 2 1 ∷ edge by_jump 2 3 ∷ edge by_control 2 7 ∷ edge by_control 3 2 ∷ edge by_name 3 5 ∷ edge by_control 3 7 ∷ edge by_control 4 2 ∷ edge by_control 4 7 ∷ edge by_control 5 1 ∷ edge by_data 5 4 ∷ edge by_control 5 7 ∷ edge by_control 6 1 ∷ edge by_control 6 7 ∷ edge by_data 7 1 ∷ edge by_jump 7 6 ∷ edge by_data 8 7 ∷ []) ≡ (true, true)
unfolding is_utf8 chars encode_utf8 level
r_only_binder_deleted_dataflow = refl
