-- Runs of scripts, as theorems that hold by computation: their ends, steps, output and files, and all of their moments.
-- Written by tools/run_vectors.py from scripts with what is expected of them.
use Rattle.std.proofs.Common.{◌≡◌, [], ◌∷◌, ◌++◌, Some, None, codes, refl}
use Rattle.std.specs.Str.{chars, is_utf8}
use Rattle.std.specs.Char.{encode_utf8}
use Rattle.py_tree.specs.declared.expr.Atom.TheVariants.{Text as text_atom}
use Rattle.py_tree.specs.Tree.{const_expr, var_expr, call_expr, attr_expr, end_exprs, more_exprs, var_target, one_stmt, do_form, assign_form, raise_form, try_form, with_form, end_suite, more_suite, end_handlers, more_handlers, ScriptTree}
use Rattle.py_model.specs.Capture.{Capture}
use Rattle.py_model.specs.Meaning.{Run, run, level, uncaught}
use Rattle.py_model.specs.Moment.{normal_end, raise_end}
use Rattle.model_runs.specs.Words.{place, no_span, silent, summary, endings}

abbrev pub r_with_that_raises_tree : ScriptTree
r_with_that_raises_tree = record { body = (more_suite (one_stmt 0 (place 1 1) no_span (assign_form (var_target (place 1 1) (codes "f")) (call_expr (place 1 9) (var_expr (place 1 5) (codes "open")) (more_exprs (const_expr (place 1 10) (text_atom (codes "a.txt"))) (more_exprs (const_expr (place 1 19) (text_atom (codes "w"))) end_exprs))))) (more_suite (one_stmt 1 (place 2 1) no_span (try_form (more_suite (one_stmt 2 (place 3 5) no_span (with_form (var_expr (place 3 10) (codes "f")) None (more_suite (one_stmt 3 (place 4 9) no_span (raise_form (Some (call_expr (place 4 25) (var_expr (place 4 15) (codes "ValueError")) (more_exprs (const_expr (place 4 26) (text_atom (codes "x"))) end_exprs))))) end_suite))) end_suite) (more_handlers (Some (var_expr (place 5 8) (codes "ValueError"))) None (more_suite (one_stmt 4 (place 6 5) no_span (do_form (call_expr (place 6 10) (var_expr (place 6 5) (codes "print")) (more_exprs (var_expr (place 6 11) (codes "f")) end_exprs)))) end_suite) end_handlers))) (more_suite (one_stmt 5 (place 7 1) no_span (do_form (call_expr (place 7 8) (attr_expr (place 7 2) (var_expr (place 7 1) (codes "f")) (codes "write")) (more_exprs (const_expr (place 7 9) (text_atom (codes "y"))) end_exprs)))) end_suite))); count = 6 }

abbrev pub r_with_that_raises_capture : Capture
r_with_that_raises_capture = record { answers = ([]); files = ([]); ends = silent }

abbrev pub r_with_that_raises_run : Run
r_with_that_raises_run = run r_with_that_raises_tree (codes "s.py") ([]) r_with_that_raises_capture 1000

r_with_that_raises : summary r_with_that_raises_run ≡ record { end = uncaught 3 7; steps = 47; output = (codes "<file 'a.txt'>" ++ (10 ∷ [])); finals = (((codes "a.txt"), []) ∷ []) }
unfolding is_utf8 chars encode_utf8 level
r_with_that_raises = refl

r_with_that_raises_endings : endings r_with_that_raises_run.moments ≡ ((0, normal_end) ∷ (3, raise_end) ∷ (2, raise_end) ∷ (4, normal_end) ∷ (1, normal_end) ∷ (5, raise_end) ∷ [])
unfolding is_utf8 chars encode_utf8 level
r_with_that_raises_endings = refl
