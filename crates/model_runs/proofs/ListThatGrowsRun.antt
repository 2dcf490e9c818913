-- Runs of scripts, as theorems that hold by computation: their ends, steps, output and files, and all of their moments.
-- Written by tools/run_vectors.py from scripts with what is expected of them.
use Rattle.std.proofs.Common.{◌≡◌, [], ◌∷◌, ◌++◌, codes, refl}
use Rattle.std.specs.Prelude.{pos}
use Rattle.std.specs.Str.{chars, is_utf8}
use Rattle.std.specs.Char.{encode_utf8}
use Rattle.py_tree.specs.declared.expr.Atom.TheVariants.{Int as int_atom}
use Rattle.py_tree.specs.declared.expr.CmpOp.TheVariants.{Eq}
use Rattle.py_tree.specs.Tree.{const_expr, var_expr, compare_expr, call_expr, attr_expr, list_expr, end_exprs, more_exprs, var_target, one_stmt, do_form, assign_form, if_form, for_form, end_suite, more_suite, end_branches, more_branches, no_else, ScriptTree}
use Rattle.py_model.specs.Capture.{Capture}
use Rattle.py_model.specs.Meaning.{Run, run, level, finished}
use Rattle.py_model.specs.Moment.{normal_end}
use Rattle.model_runs.specs.Words.{place, no_span, silent, summary, endings}

abbrev pub r_list_that_grows_tree : ScriptTree
r_list_that_grows_tree = record { body = (more_suite (one_stmt 0 (place 1 1) no_span (assign_form (var_target (place 1 1) (codes "xs")) (list_expr (place 1 6) (more_exprs (const_expr (place 1 7) (int_atom (pos 1))) (more_exprs (const_expr (place 1 10) (int_atom (pos 2))) end_exprs))))) (more_suite (one_stmt 1 (place 2 1) no_span (for_form (var_target (place 2 5) (codes "x")) (var_expr (place 2 10) (codes "xs")) (more_suite (one_stmt 2 (place 3 5) no_span (if_form (more_branches (compare_expr (place 3 10) Eq (var_expr (place 3 8) (codes "x")) (const_expr (place 3 13) (int_atom (pos 1)))) (more_suite (one_stmt 3 (place 4 9) no_span (do_form (call_expr (place 4 18) (attr_expr (place 4 11) (var_expr (place 4 9) (codes "xs")) (codes "append")) (more_exprs (const_expr (place 4 19) (int_atom (pos 3))) end_exprs)))) end_suite) end_branches) no_else)) (more_suite (one_stmt 4 (place 5 5) no_span (do_form (call_expr (place 5 10) (var_expr (place 5 5) (codes "print")) (more_exprs (var_expr (place 5 11) (codes "x")) end_exprs)))) end_suite)))) end_suite)); count = 5 }

abbrev pub r_list_that_grows_capture : Capture
r_list_that_grows_capture = record { answers = ([]); files = ([]); ends = silent }

abbrev pub r_list_that_grows_run : Run
r_list_that_grows_run = run r_list_that_grows_tree (codes "s.py") ([]) r_list_that_grows_capture 1000

r_list_that_grows : summary r_list_that_grows_run ≡ record { end = finished; steps = 78; output = (codes "1" ++ (10 ∷ []) ++ codes "2" ++ (10 ∷ []) ++ codes "3" ++ (10 ∷ [])); finals = ([]) }
unfolding is_utf8 chars encode_utf8 level
r_list_that_grows = refl

r_list_that_grows_endings : endings r_list_that_grows_run.moments ≡ ((0, normal_end) ∷ (3, normal_end) ∷ (2, normal_end) ∷ (4, normal_end) ∷ (2, normal_end) ∷ (4, normal_end) ∷ (2, normal_end) ∷ (4, normal_end) ∷ (1, normal_end) ∷ [])
unfolding is_utf8 chars encode_utf8 level
r_list_that_grows_endings = refl
