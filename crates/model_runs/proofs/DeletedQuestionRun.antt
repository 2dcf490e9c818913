-- Runs of scripts, as theorems that hold by computation: their ends, steps, output and files, and all of their moments.
-- Written by tools/run_vectors.py from scripts with what is expected of them.
use Rattle.std.proofs.Common.{◌≡◌, [], ◌∷◌, ◌++◌, Some, codes, refl}
use Rattle.std.specs.Prelude.{true, false, reverse}
use Rattle.std.specs.Str.{chars, is_utf8}
use Rattle.std.specs.Char.{encode_utf8}
use Rattle.py_tree.specs.Tree.{var_expr, call_expr, end_exprs, more_exprs, var_target, one_stmt, do_form, assign_form, end_suite, more_suite, ScriptTree}
use Rattle.py_model.specs.Capture.{Capture, opening_in}
use Rattle.py_model.specs.Meaning.{Run, run, level, finished}
use Rattle.py_model.specs.Plan.{line, a_line}
use Rattle.model_runs.specs.Words.{place, no_span, silent, summary, evaluated, kept, depends, replayed}
use Rattle.slice_law.specs.Edges.{edge, by_data}

abbrev pub r_deleted_question_tree : ScriptTree
r_deleted_question_tree = record { body = (more_suite (one_stmt 0 (place 1 1) no_span (assign_form (var_target (place 1 1) (codes "a")) (call_expr (place 1 10) (var_expr (place 1 5) (codes "input")) end_exprs))) (more_suite (one_stmt 1 (place 2 1) no_span (assign_form (var_target (place 2 1) (codes "b")) (call_expr (place 2 10) (var_expr (place 2 5) (codes "input")) end_exprs))) (more_suite (one_stmt 2 (place 3 1) no_span (do_form (call_expr (place 3 6) (var_expr (place 3 1) (codes "print")) (more_exprs (var_expr (place 3 7) (codes "b")) end_exprs)))) end_suite))); count = 3 }

abbrev pub r_deleted_question_capture : Capture
r_deleted_question_capture = record { answers = (record { at = (place 1 10); k = 1; what = line; given = (a_line (codes "x")) } ∷ record { at = (place 2 10); k = 1; what = line; given = (a_line (codes "yy")) } ∷ []); files = ([]); ends = silent }

abbrev pub r_deleted_question_run : Run
r_deleted_question_run = run r_deleted_question_tree (codes "s.py") ([]) r_deleted_question_capture 1000

r_deleted_question : summary r_deleted_question_run ≡ record { end = finished; steps = 21; output = (codes "yy" ++ (10 ∷ [])); finals = ([]) }
unfolding is_utf8 chars encode_utf8 level
r_deleted_question = refl

r_deleted_question_values : evaluated r_deleted_question_tree (opening_in r_deleted_question_capture (codes "s.py") ([])) (reverse r_deleted_question_run.moments) ((place 3 7, 1) ∷ (place 2 10, 1) ∷ (place 1 10, 1) ∷ []) ≡ (Some ((codes "'yy'"), 19) ∷ Some ((codes "'yy'"), 12) ∷ Some ((codes "'x'"), 5) ∷ [])
unfolding is_utf8 chars encode_utf8 level
r_deleted_question_values = refl

r_deleted_question_slices : kept r_deleted_question_tree (opening_in r_deleted_question_capture (codes "s.py") ([])) (reverse r_deleted_question_run.moments) ((place 3 7, 1) ∷ (place 2 10, 1) ∷ (place 1 10, 1) ∷ []) ≡ (Some (true, (false ∷ true ∷ true ∷ [])) ∷ Some (true, (false ∷ true ∷ false ∷ [])) ∷ Some (true, (true ∷ false ∷ false ∷ [])) ∷ [])
unfolding is_utf8 chars encode_utf8 level
r_deleted_question_slices = refl

r_deleted_question_replays : replayed r_deleted_question_tree r_deleted_question_capture (codes "s.py") ([]) 21 (reverse r_deleted_question_run.moments) ((place 3 7, 1) ∷ (place 2 10, 1) ∷ (place 1 10, 1) ∷ []) ≡ (Some ((codes "'yy'"), 12) ∷ Some ((codes "'yy'"), 5) ∷ Some ((codes "'x'"), 5) ∷ [])
unfolding is_utf8 chars encode_utf8 level
r_deleted_question_replays = refl

r_deleted_question_dataflow : depends r_deleted_question_tree (reverse r_deleted_question_run.moments) (edge by_data 2 1 ∷ []) ≡ (true, true)
unfolding is_utf8 chars encode_utf8 level
r_deleted_question_dataflow = refl
