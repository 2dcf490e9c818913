-- Runs of scripts, as theorems that hold by computation: their ends, steps, output and files, and all of their moments.
-- Written by tools/run_vectors.py from scripts with what is expected of them.
use Rattle.std.proofs.Common.{◌≡◌, [], ◌∷◌, Some, None, codes, refl}
use Rattle.std.specs.Prelude.{pos, true, reverse}
use Rattle.std.specs.Str.{chars, is_utf8}
use Rattle.std.specs.Char.{encode_utf8}
use Rattle.py_tree.specs.declared.expr.Atom.TheVariants.{Int as int_atom}
use Rattle.py_tree.specs.declared.expr.BinOp.TheVariants.{Add}
use Rattle.py_tree.specs.Tree.{const_expr, binary_expr, var_target, one_stmt, assign_form, end_suite, more_suite, ScriptTree}
use Rattle.py_value.specs.Contents.{int, text, tuple, exception_class, no_parts, part}
use Rattle.py_value.specs.Seen.{an_instance, entry_at, order_at, entry_is, order_is, sets}
use Rattle.py_model.specs.Capture.{Capture, opening_in}
use Rattle.py_model.specs.Meaning.{Run, run, level, uncaught}
use Rattle.py_model.specs.Moment.{begins, does, ends, raise_end}
use Rattle.py_model.specs.Plan.{value, raised}
use Rattle.model_runs.specs.Words.{place, no_span, silent, summary, evaluated, kept, replayed}

abbrev pub r_integers_tree : ScriptTree
r_integers_tree = record { body = (more_suite (one_stmt 0 (place 1 1) no_span (assign_form (var_target (place 1 1) (codes "x")) (binary_expr (place 1 25) Add (const_expr (place 1 5) (int_atom (pos 9223372036854775807))) (const_expr (place 1 27) (int_atom (pos 1)))))) end_suite); count = 1 }

abbrev pub r_integers_capture : Capture
r_integers_capture = record { answers = ([]); files = ([]); ends = silent }

abbrev pub r_integers_run : Run
r_integers_run = run r_integers_tree (codes "s.py") ([]) r_integers_capture 1000000

r_integers : summary r_integers_run ≡ record { end = uncaught 1 1; steps = 6; output = []; finals = ([]) }
unfolding is_utf8 chars encode_utf8 level
r_integers = refl

r_integers_moments : r_integers_run.moments ≡
    begins 0
    ∷ does (place 1 5) 0 ([]) (value (int (pos 9223372036854775807))) None ([]) 0
    ∷ does (place 1 27) 0 ([]) (value (int (pos 1))) None ([]) 0
    ∷ does (place 1 25) 7 ((int (pos 9223372036854775807)) ∷ (int (pos 1)) ∷ []) (raised 1) (Some (an_instance (exception_class 3))) ((sets (order_at 1) (order_is ((text (codes "args")) ∷ []))) ∷ (sets (entry_at 1 (text (codes "args"))) (entry_is (Some ((text (codes "args")), (tuple (part (text (codes "integer out of range")) no_parts)))))) ∷ []) 0
    ∷ ends 0 raise_end
    ∷ []
unfolding is_utf8 chars encode_utf8 level
r_integers_moments = refl

r_integers_values : evaluated r_integers_tree (opening_in r_integers_capture (codes "s.py") ([])) (reverse r_integers_run.moments) ((place 1 5, 1) ∷ (place 1 27, 1) ∷ []) ≡ (Some ((codes "9223372036854775807"), 2) ∷ Some ((codes "1"), 3) ∷ [])
unfolding is_utf8 chars encode_utf8 level
r_integers_values = refl

r_integers_slices : kept r_integers_tree (opening_in r_integers_capture (codes "s.py") ([])) (reverse r_integers_run.moments) ((place 1 5, 1) ∷ (place 1 27, 1) ∷ []) ≡ (Some (true, (true ∷ [])) ∷ Some (true, (true ∷ [])) ∷ [])
unfolding is_utf8 chars encode_utf8 level
r_integers_slices = refl

r_integers_replays : replayed r_integers_tree r_integers_capture (codes "s.py") ([]) 6 (reverse r_integers_run.moments) ((place 1 5, 1) ∷ (place 1 27, 1) ∷ []) ≡ (Some ((codes "9223372036854775807"), 2) ∷ Some ((codes "1"), 3) ∷ [])
unfolding is_utf8 chars encode_utf8 level
r_integers_replays = refl
