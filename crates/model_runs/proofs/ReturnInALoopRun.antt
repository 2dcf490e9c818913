-- Runs of scripts, as theorems that hold by computation: their ends, steps, output and files, and all of their moments.
-- Written by tools/run_vectors.py from scripts with what is expected of them.
use Rattle.std.proofs.Common.{◌≡◌, [], ◌∷◌, ◌++◌, Some, codes, refl}
use Rattle.std.specs.Prelude.{pos}
use Rattle.std.specs.Str.{chars, is_utf8}
use Rattle.std.specs.Char.{encode_utf8}
use Rattle.py_tree.specs.declared.expr.Atom.TheVariants.{Int as int_atom}
use Rattle.py_tree.specs.Tree.{const_expr, var_expr, call_expr, list_expr, end_exprs, more_exprs, var_target, one_stmt, do_form, return_form, if_form, for_form, def_form, end_suite, more_suite, end_branches, more_branches, no_else, ScriptTree}
use Rattle.py_model.specs.Capture.{Capture}
use Rattle.py_model.specs.Meaning.{Run, run, level, finished}
use Rattle.py_model.specs.Moment.{normal_end, return_end}
use Rattle.model_runs.specs.Words.{place, no_span, silent, summary, endings}

abbrev pub r_return_in_a_loop_tree : ScriptTree
r_return_in_a_loop_tree = record { body = (more_suite (one_stmt 0 (place 1 1) no_span (def_form (codes "f") ((codes "xs") ∷ []) ([]) (more_suite (one_stmt 1 (place 2 5) no_span (for_form (var_target (place 2 9) (codes "x")) (var_expr (place 2 14) (codes "xs")) (more_suite (one_stmt 2 (place 3 9) no_span (if_form (more_branches (var_expr (place 3 12) (codes "x")) (more_suite (one_stmt 3 (place 4 13) no_span (return_form (Some (var_expr (place 4 20) (codes "x"))))) end_suite) end_branches) no_else)) end_suite))) (more_suite (one_stmt 4 (place 5 5) no_span (return_form (Some (const_expr (place 5 12) (int_atom (pos 0)))))) end_suite)))) (more_suite (one_stmt 5 (place 6 1) no_span (do_form (call_expr (place 6 6) (var_expr (place 6 1) (codes "print")) (more_exprs (call_expr (place 6 8) (var_expr (place 6 7) (codes "f")) (more_exprs (list_expr (place 6 9) (more_exprs (const_expr (place 6 10) (int_atom (pos 0))) (more_exprs (const_expr (place 6 13) (int_atom (pos 7))) end_exprs))) end_exprs)) end_exprs)))) end_suite)); count = 6 }

abbrev pub r_return_in_a_loop_capture : Capture
r_return_in_a_loop_capture = record { answers = ([]); files = ([]); ends = silent }

abbrev pub r_return_in_a_loop_run : Run
r_return_in_a_loop_run = run r_return_in_a_loop_tree (codes "s.py") ([]) r_return_in_a_loop_capture 1000

r_return_in_a_loop : summary r_return_in_a_loop_run ≡ record { end = finished; steps = 44; output = (codes "7" ++ (10 ∷ [])); finals = ([]) }
unfolding is_utf8 chars encode_utf8 level
r_return_in_a_loop = refl

r_return_in_a_loop_endings : endings r_return_in_a_loop_run.moments ≡ ((0, normal_end) ∷ (2, normal_end) ∷ (3, return_end) ∷ (2, return_end) ∷ (1, return_end) ∷ (5, normal_end) ∷ [])
unfolding is_utf8 chars encode_utf8 level
r_return_in_a_loop_endings = refl
