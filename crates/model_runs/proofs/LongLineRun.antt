-- Runs of scripts, as theorems that hold by computation: their ends, steps, output and files, and all of their moments.
-- Written by tools/run_vectors.py from scripts with what is expected of them.
use Rattle.std.proofs.Common.{◌≡◌, [], ◌∷◌, Some, None, codes, refl}
use Rattle.std.specs.Prelude.{true, reverse}
use Rattle.std.specs.Str.{chars, is_utf8}
use Rattle.std.specs.Char.{encode_utf8}
use Rattle.py_tree.specs.Tree.{var_expr, call_expr, end_exprs, var_target, one_stmt, assign_form, end_suite, more_suite, ScriptTree}
use Rattle.py_value.specs.Contents.{builtin}
use Rattle.py_value.specs.Seen.{var_at, reads}
use Rattle.py_model.specs.Capture.{Capture, opening_in}
use Rattle.py_model.specs.Meaning.{Run, run, level, out_of_steps}
use Rattle.py_model.specs.Moment.{begins, does}
use Rattle.py_model.specs.Plan.{value, line, a_line}
use Rattle.model_runs.specs.Words.{place, no_span, silent, summary, evaluated, kept, replayed}

abbrev pub r_long_line_tree : ScriptTree
r_long_line_tree = record { body = (more_suite (one_stmt 0 (place 1 1) no_span (assign_form (var_target (place 1 1) (codes "x")) (call_expr (place 1 10) (var_expr (place 1 5) (codes "input")) end_exprs))) end_suite); count = 1 }

abbrev pub r_long_line_capture : Capture
r_long_line_capture = record { answers = (record { at = (place 1 10); k = 1; what = line; given = (a_line (codes "xxxxxxxxxxxxxxxxxxxxxxxxxxxxxxxxxxxxxxxxxxxxxxxxxxxxxxxxxxxxxxxxxxxxxxxxxxxxxxxxxxxxxxxxxxxxxxxxxxxx")) } ∷ []); files = ([]); ends = silent }

abbrev pub r_long_line_run : Run
r_long_line_run = run r_long_line_tree (codes "s.py") ([]) r_long_line_capture 5

r_long_line : summary r_long_line_run ≡ record { end = out_of_steps; steps = 3; output = []; finals = ([]) }
unfolding is_utf8 chars encode_utf8 level
r_long_line = refl

r_long_line_moments : r_long_line_run.moments ≡
    begins 0
    ∷ does (place 1 5) 1 ([]) (value (builtin 5)) None ((reads (var_at 0 (codes "input"))) ∷ []) 0
    ∷ []
unfolding is_utf8 chars encode_utf8 level
r_long_line_moments = refl

r_long_line_values : evaluated r_long_line_tree (opening_in r_long_line_capture (codes "s.py") ([])) (reverse r_long_line_run.moments) ((place 1 5, 1) ∷ []) ≡ (Some ((codes "<built-in input>"), 3) ∷ [])
unfolding is_utf8 chars encode_utf8 level
r_long_line_values = refl

r_long_line_slices : kept r_long_line_tree (opening_in r_long_line_capture (codes "s.py") ([])) (reverse r_long_line_run.moments) ((place 1 5, 1) ∷ []) ≡ (Some (true, (true ∷ [])) ∷ [])
unfolding is_utf8 chars encode_utf8 level
r_long_line_slices = refl

r_long_line_replays : replayed r_long_line_tree r_long_line_capture (codes "s.py") ([]) 3 (reverse r_long_line_run.moments) ((place 1 5, 1) ∷ []) ≡ (Some ((codes "<built-in input>"), 3) ∷ [])
unfolding is_utf8 chars encode_utf8 level
r_long_line_replays = refl
