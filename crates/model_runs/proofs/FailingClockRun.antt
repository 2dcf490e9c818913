-- Runs of scripts, as theorems that hold by computation: their ends, steps, output and files, and all of their moments.
-- Written by tools/run_vectors.py from scripts with what is expected of them.
use Rattle.std.proofs.Common.{◌≡◌, [], ◌∷◌, Some, None, codes, refl}
use Rattle.std.specs.Prelude.{true, false, reverse}
use Rattle.std.specs.Str.{chars, is_utf8}
use Rattle.std.specs.Char.{encode_utf8}
use Rattle.py_tree.specs.Tree.{var_expr, call_expr, attr_expr, end_exprs, more_exprs, one_stmt, do_form, import_form, end_suite, more_suite, ScriptTree}
use Rattle.py_value.specs.Contents.{nothing, text, tuple, exception_class, builtin, no_parts, part}
use Rattle.py_value.specs.Seen.{an_instance, var_at, entry_at, order_at, var_is, entry_is, order_is, reads, sets}
use Rattle.py_model.specs.Capture.{Capture, opening_in}
use Rattle.py_model.specs.Meaning.{Run, run, level, uncaught}
use Rattle.py_model.specs.Moment.{begins, does, ends, normal_end, raise_end}
use Rattle.py_model.specs.Plan.{value, raised, time, failed}
use Rattle.model_runs.specs.Words.{place, no_span, silent, summary, evaluated, kept, depends, replayed}
use Rattle.slice_law.specs.Edges.{edge, by_data}

abbrev pub r_failing_clock_tree : ScriptTree
r_failing_clock_tree = record { body = (more_suite (one_stmt 0 (place 1 1) no_span (import_form (codes "time"))) (more_suite (one_stmt 1 (place 2 1) no_span (do_form (call_expr (place 2 6) (var_expr (place 2 1) (codes "print")) (more_exprs (call_expr (place 2 19) (attr_expr (place 2 11) (var_expr (place 2 7) (codes "time")) (codes "time_ns")) end_exprs) end_exprs)))) end_suite)); count = 2 }

abbrev pub r_failing_clock_capture : Capture
r_failing_clock_capture = record { answers = (record { at = (place 2 19); k = 1; what = time; given = failed } ∷ []); files = ([]); ends = silent }

abbrev pub r_failing_clock_run : Run
r_failing_clock_run = run r_failing_clock_tree (codes "s.py") ([]) r_failing_clock_capture 1000000

r_failing_clock : summary r_failing_clock_run ≡ record { end = uncaught 1 2; steps = 12; output = []; finals = ([]) }
unfolding is_utf8 chars encode_utf8 level
r_failing_clock = refl

r_failing_clock_moments : r_failing_clock_run.moments ≡
    begins 0
    ∷ does (place 1 1) 44 ([]) (value nothing) None ((sets (var_at 0 (codes "time")) (var_is (Some (builtin 23)))) ∷ []) 0
    ∷ ends 0 normal_end
    ∷ begins 1
    ∷ does (place 2 1) 1 ([]) (value (builtin 14)) None ((reads (var_at 0 (codes "print"))) ∷ []) 0
    ∷ does (place 2 7) 1 ([]) (value (builtin 23)) None ((reads (var_at 0 (codes "time"))) ∷ []) 0
    ∷ does (place 2 11) 32 ((builtin 23) ∷ []) (value (builtin 109)) None ([]) 0
    ∷ does (place 2 19) 109 ((builtin 23) ∷ []) (raised 1) (Some (an_instance (exception_class 15))) ((sets (order_at 1) (order_is ((text (codes "args")) ∷ []))) ∷ (sets (entry_at 1 (text (codes "args"))) (entry_is (Some ((text (codes "args")), (tuple (part (text (codes "device failed")) no_parts)))))) ∷ []) 0
    ∷ ends 1 raise_end
    ∷ []
unfolding is_utf8 chars encode_utf8 level
r_failing_clock_moments = refl

r_failing_clock_values : evaluated r_failing_clock_tree (opening_in r_failing_clock_capture (codes "s.py") ([])) (reverse r_failing_clock_run.moments) ((place 2 1, 1) ∷ (place 2 7, 1) ∷ []) ≡ (Some ((codes "<built-in print>"), 6) ∷ Some ((codes "<module time>"), 8) ∷ [])
unfolding is_utf8 chars encode_utf8 level
r_failing_clock_values = refl

r_failing_clock_slices : kept r_failing_clock_tree (opening_in r_failing_clock_capture (codes "s.py") ([])) (reverse r_failing_clock_run.moments) ((place 2 1, 1) ∷ (place 2 7, 1) ∷ []) ≡ (Some (true, (false ∷ true ∷ [])) ∷ Some (true, (true ∷ true ∷ [])) ∷ [])
unfolding is_utf8 chars encode_utf8 level
r_failing_clock_slices = refl

r_failing_clock_replays : replayed r_failing_clock_tree r_failing_clock_capture (codes "s.py") ([]) 12 (reverse r_failing_clock_run.moments) ((place 2 1, 1) ∷ (place 2 7, 1) ∷ []) ≡ (Some ((codes "<built-in print>"), 3) ∷ Some ((codes "<module time>"), 8) ∷ [])
unfolding is_utf8 chars encode_utf8 level
r_failing_clock_replays = refl

r_failing_clock_dataflow : depends r_failing_clock_tree (reverse r_failing_clock_run.moments) (edge by_data 1 0 ∷ []) ≡ (true, true)
unfolding is_utf8 chars encode_utf8 level
r_failing_clock_dataflow = refl
