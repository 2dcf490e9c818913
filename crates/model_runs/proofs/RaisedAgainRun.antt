-- Runs of scripts, as theorems that hold by computation: their ends, steps, output and files, and all of their moments.
-- Written by tools/run_vectors.py from scripts with what is expected of them.
use Rattle.std.proofs.Common.{◌≡◌, [], ◌∷◌, ◌++◌, Some, None, codes, refl}
use Rattle.std.specs.Prelude.{pos}
use Rattle.std.specs.Str.{chars, is_utf8}
use Rattle.std.specs.Char.{encode_utf8}
use Rattle.py_tree.specs.declared.expr.Atom.TheVariants.{Int as int_atom, Text as text_atom}
use Rattle.py_tree.specs.declared.expr.BinOp.TheVariants.{Add}
use Rattle.py_tree.specs.Tree.{const_expr, var_expr, call_expr, tuple_expr, end_exprs, more_exprs, var_target, one_stmt, do_form, assign_form, aug_form, raise_form, try_form, def_form, end_suite, more_suite, end_handlers, more_handlers, ScriptTree}
use Rattle.py_model.specs.Capture.{Capture}
use Rattle.py_model.specs.Meaning.{Run, run, level, finished}
use Rattle.py_model.specs.Moment.{normal_end, raise_end}
use Rattle.model_runs.specs.Words.{place, no_span, silent, summary, endings}

abbrev pub r_raised_again_tree : ScriptTree
r_raised_again_tree = record { body = (more_suite (one_stmt 0 (place 1 1) no_span (assign_form (var_target (place 1 1) (codes "n")) (const_expr (place 1 5) (int_atom (pos 0))))) (more_suite (one_stmt 1 (place 2 1) no_span (def_form (codes "f") ([]) ((codes "n") ∷ []) (more_suite (one_stmt 2 (place 4 5) no_span (aug_form (var_target (place 4 5) (codes "n")) Add (place 4 7) (const_expr (place 4 10) (int_atom (pos 1))))) (more_suite (one_stmt 3 (place 5 5) no_span (try_form (more_suite (one_stmt 4 (place 6 9) no_span (raise_form (Some (call_expr (place 6 25) (var_expr (place 6 15) (codes "ValueError")) (more_exprs (const_expr (place 6 26) (text_atom (codes "a"))) end_exprs))))) end_suite) (more_handlers None None (more_suite (one_stmt 5 (place 8 9) no_span (aug_form (var_target (place 8 9) (codes "n")) Add (place 8 11) (const_expr (place 8 14) (int_atom (pos 1))))) (more_suite (one_stmt 6 (place 9 9) no_span (raise_form None)) end_suite)) end_handlers))) end_suite)))) (more_suite (one_stmt 7 (place 10 1) no_span (try_form (more_suite (one_stmt 8 (place 11 5) no_span (do_form (call_expr (place 11 6) (var_expr (place 11 5) (codes "f")) end_exprs))) end_suite) (more_handlers (Some (tuple_expr (place 12 18) (more_exprs (var_expr (place 12 9) (codes "TypeError")) (more_exprs (var_expr (place 12 20) (codes "ValueError")) end_exprs)))) (Some (record { at = (place 12 35); name = (codes "e") })) (more_suite (one_stmt 9 (place 13 5) no_span (do_form (call_expr (place 13 10) (var_expr (place 13 5) (codes "print")) (more_exprs (var_expr (place 13 11) (codes "n")) (more_exprs (var_expr (place 13 14) (codes "e")) end_exprs))))) end_suite) end_handlers))) end_suite))); count = 10 }

abbrev pub r_raised_again_capture : Capture
r_raised_again_capture = record { answers = ([]); files = ([]); ends = silent }

abbrev pub r_raised_again_run : Run
r_raised_again_run = run r_raised_again_tree (codes "s.py") ([]) r_raised_again_capture 1000

r_raised_again : summary r_raised_again_run ≡ record { end = finished; steps = 62; output = (codes "2 a" ++ (10 ∷ [])); finals = ([]) }
unfolding is_utf8 chars encode_utf8 level
r_raised_again = refl

r_raised_again_endings : endings r_raised_again_run.moments ≡ ((0, normal_end) ∷ (1, normal_end) ∷ (2, normal_end) ∷ (4, raise_end) ∷ (5, normal_end) ∷ (6, raise_end) ∷ (3, raise_end) ∷ (8, raise_end) ∷ (9, normal_end) ∷ (7, normal_end) ∷ [])
unfolding is_utf8 chars encode_utf8 level
r_raised_again_endings = refl
