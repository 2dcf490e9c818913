-- Runs of scripts, as theorems that hold by computation: their ends, steps, output and files, and all of their moments.
-- Written by tools/run_vectors.py from scripts with what is expected of them.
use Rattle.std.proofs.Common.{◌≡◌, [], ◌∷◌, ◌++◌, Some, codes, refl}
use Rattle.std.specs.Prelude.{pos, true, false, reverse}
use Rattle.std.specs.Str.{chars, is_utf8}
use Rattle.std.specs.Char.{encode_utf8}
use Rattle.py_tree.specs.declared.expr.Atom.TheVariants.{Int as int_atom}
use Rattle.py_tree.specs.Tree.{const_expr, var_expr, call_expr, end_exprs, more_exprs, var_target, one_stmt, do_form, assign_form, def_form, end_suite, more_suite, ScriptTree}
use Rattle.py_model.specs.Capture.{Capture, opening_in}
use Rattle.py_model.specs.Meaning.{Run, run, level, finished}
use Rattle.model_runs.specs.Words.{place, no_span, silent, summary, evaluated, kept, depends, replayed}
use Rattle.slice_law.specs.Edges.{edge, by_data, by_control}

abbrev pub r_kept_call_beside_a_deleted_one_tree : ScriptTree
r_kept_call_beside_a_deleted_one_tree = record { body = (more_suite (one_stmt 0 (place 1 1) no_span (def_form (codes "f") ((codes "n") ∷ []) ([]) (more_suite (one_stmt 1 (place 2 5) no_span (assign_form (var_target (place 2 5) (codes "m")) (var_expr (place 2 9) (codes "n")))) end_suite))) (more_suite (one_stmt 2 (place 3 1) no_span (assign_form (var_target (place 3 1) (codes "x")) (call_expr (place 3 6) (var_expr (place 3 5) (codes "f")) (more_exprs (const_expr (place 3 7) (int_atom (pos 1))) end_exprs)))) (more_suite (one_stmt 3 (place 4 1) no_span (do_form (call_expr (place 4 2) (var_expr (place 4 1) (codes "f")) (more_exprs (const_expr (place 4 3) (int_atom (pos 2))) end_exprs)))) (more_suite (one_stmt 4 (place 5 1) no_span (do_form (call_expr (place 5 6) (var_expr (place 5 1) (codes "print")) (more_exprs (var_expr (place 5 7) (codes "x")) end_exprs)))) end_suite)))); count = 5 }

abbrev pub r_kept_call_beside_a_deleted_one_capture : Capture
r_kept_call_beside_a_deleted_one_capture = record { answers = ([]); files = ([]); ends = silent }

abbrev pub r_kept_call_beside_a_deleted_one_run : Run
r_kept_call_beside_a_deleted_one_run = run r_kept_call_beside_a_deleted_one_tree (codes "s.py") ([]) r_kept_call_beside_a_deleted_one_capture 1000

r_kept_call_beside_a_deleted_one : summary r_kept_call_beside_a_deleted_one_run ≡ record { end = finished; steps = 36; output = (codes "None" ++ (10 ∷ [])); finals = ([]) }
unfolding is_utf8 chars encode_utf8 level
r_kept_call_beside_a_deleted_one = refl

r_kept_call_beside_a_deleted_one_values : evaluated r_kept_call_beside_a_deleted_one_tree (opening_in r_kept_call_beside_a_deleted_one_capture (codes "s.py") ([])) (reverse r_kept_call_beside_a_deleted_one_run.moments) ((place 5 7, 1) ∷ (place 2 9, 2) ∷ []) ≡ (Some ((codes "None"), 34) ∷ Some ((codes "2"), 26) ∷ [])
unfolding is_utf8 chars encode_utf8 level
r_kept_call_beside_a_deleted_one_values = refl

r_kept_call_beside_a_deleted_one_slices : kept r_kept_call_beside_a_deleted_one_tree (opening_in r_kept_call_beside_a_deleted_one_capture (codes "s.py") ([])) (reverse r_kept_call_beside_a_deleted_one_run.moments) ((place 5 7, 1) ∷ (place 2 9, 2) ∷ []) ≡ (Some (true, (true ∷ false ∷ true ∷ false ∷ true ∷ [])) ∷ Some (true, (true ∷ true ∷ true ∷ true ∷ false ∷ [])) ∷ [])
unfolding is_utf8 chars encode_utf8 level
r_kept_call_beside_a_deleted_one_slices = refl

r_kept_call_beside_a_deleted_one_replays : replayed r_kept_call_beside_a_deleted_one_tree r_kept_call_beside_a_deleted_one_capture (codes "s.py") ([]) 36 (reverse r_kept_call_beside_a_deleted_one_run.moments) ((place 5 7, 1) ∷ (place 2 9, 2) ∷ []) ≡ (Some ((codes "None"), 18) ∷ Some ((codes "2"), 26) ∷ [])
unfolding is_utf8 chars encode_utf8 level
r_kept_call_beside_a_deleted_one_replays = refl

r_kept_call_beside_a_deleted_one_dataflow : depends r_kept_call_beside_a_deleted_one_tree (reverse r_kept_call_beside_a_deleted_one_run.moments) (edge by_control 1 0 ∷ edge by_control 1 2 ∷ edge by_data 1 2 ∷ edge by_control 1 3 ∷ edge by_data 1 3 ∷ edge by_data 2 0 ∷ edge by_data 3 0 ∷ edge by_data 4 2 ∷ []) ≡ (true, true)
unfolding is_utf8 chars encode_utf8 level
r_kept_call_beside_a_deleted_one_dataflow = refl
