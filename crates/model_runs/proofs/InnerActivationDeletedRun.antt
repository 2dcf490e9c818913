-- Runs of scripts, as theorems that hold by computation: their ends, steps, output and files, and all of their moments.
-- Written by tools/run_vectors.py from scripts with what is expected of them.
use Rattle.std.proofs.Common.{◌≡◌, [], ◌∷◌, ◌++◌, Some, codes, refl}
use Rattle.std.specs.Prelude.{pos, true, false, reverse}
use Rattle.std.specs.Str.{chars, is_utf8}
use Rattle.std.specs.Char.{encode_utf8}
use Rattle.py_tree.specs.declared.expr.Atom.TheVariants.{Int as int_atom}
use Rattle.py_tree.specs.declared.expr.BinOp.TheVariants.{Sub}
use Rattle.py_tree.specs.declared.expr.CmpOp.TheVariants.{Eq}
use Rattle.py_tree.specs.Tree.{const_expr, var_expr, binary_expr, compare_expr, call_expr, end_exprs, more_exprs, var_target, one_stmt, do_form, assign_form, return_form, if_form, def_form, end_suite, more_suite, end_branches, more_branches, no_else, ScriptTree}
use Rattle.py_model.specs.Capture.{Capture, opening_in}
use Rattle.py_model.specs.Meaning.{Run, run, level, finished}
use Rattle.model_runs.specs.Words.{place, no_span, silent, summary, evaluated, kept, depends, replayed}
use Rattle.slice_law.specs.Edges.{edge, by_data, by_control, by_jump}

abbrev pub r_inner_activation_deleted_tree : ScriptTree
r_inner_activation_deleted_tree = record { body = (more_suite (one_stmt 0 (place 1 1) no_span (def_form (codes "f") ((codes "n") ∷ []) ([]) (more_suite (one_stmt 1 (place 2 5) no_span (if_form (more_branches (compare_expr (place 2 10) Eq (var_expr (place 2 8) (codes "n")) (const_expr (place 2 13) (int_atom (pos 0)))) (more_suite (one_stmt 2 (place 3 9) no_span (return_form (Some (const_expr (place 3 16) (int_atom (pos 5)))))) end_suite) end_branches) no_else)) (more_suite (one_stmt 3 (place 4 5) no_span (do_form (call_expr (place 4 6) (var_expr (place 4 5) (codes "f")) (more_exprs (binary_expr (place 4 9) Sub (var_expr (place 4 7) (codes "n")) (const_expr (place 4 11) (int_atom (pos 1)))) end_exprs)))) (more_suite (one_stmt 4 (place 5 5) no_span (return_form (Some (var_expr (place 5 12) (codes "n"))))) end_suite))))) (more_suite (one_stmt 5 (place 6 1) no_span (assign_form (var_target (place 6 1) (codes "x")) (call_expr (place 6 6) (var_expr (place 6 5) (codes "f")) (more_exprs (const_expr (place 6 7) (int_atom (pos 1))) end_exprs)))) (more_suite (one_stmt 6 (place 7 1) no_span (do_form (call_expr (place 7 6) (var_expr (place 7 1) (codes "print")) (more_exprs (var_expr (place 7 7) (codes "x")) end_exprs)))) end_suite))); count = 7 }

abbrev pub r_inner_activation_deleted_capture : Capture
r_inner_activation_deleted_capture = record { answers = ([]); files = ([]); ends = silent }

abbrev pub r_inner_activation_deleted_run : Run
r_inner_activation_deleted_run = run r_inner_activation_deleted_tree (codes "s.py") ([]) r_inner_activation_deleted_capture 1000

r_inner_activation_deleted : summary r_inner_activation_deleted_run ≡ record { end = finished; steps = 46; output = (codes "1" ++ (10 ∷ [])); finals = ([]) }
unfolding is_utf8 chars encode_utf8 level
r_inner_activation_deleted = refl

r_inner_activation_deleted_values : evaluated r_inner_activation_deleted_tree (opening_in r_inner_activation_deleted_capture (codes "s.py") ([])) (reverse r_inner_activation_deleted_run.moments) ((place 7 7, 1) ∷ (place 2 8, 2) ∷ (place 3 16, 1) ∷ (place 5 12, 1) ∷ []) ≡ (Some ((codes "1"), 44) ∷ Some ((codes "0"), 27) ∷ Some ((codes "5"), 32) ∷ Some ((codes "1"), 36) ∷ [])
unfolding is_utf8 chars encode_utf8 level
r_inner_activation_deleted_values = refl

r_inner_activation_deleted_slices : kept r_inner_activation_deleted_tree (opening_in r_inner_activation_deleted_capture (codes "s.py") ([])) (reverse r_inner_activation_deleted_run.moments) ((place 7 7, 1) ∷ (place 2 8, 2) ∷ (place 3 16, 1) ∷ (place 5 12, 1) ∷ []) ≡ (Some (true, (true ∷ false ∷ false ∷ false ∷ true ∷ true ∷ true ∷ [])) ∷ Some (true, (true ∷ true ∷ false ∷ true ∷ false ∷ true ∷ false ∷ [])) ∷ Some (true, (true ∷ true ∷ true ∷ true ∷ false ∷ true ∷ false ∷ [])) ∷ Some (true, (true ∷ false ∷ false ∷ false ∷ true ∷ true ∷ false ∷ [])) ∷ [])
unfolding is_utf8 chars encode_utf8 level
r_inner_activation_deleted_slices = refl

r_inner_activation_deleted_replays : replayed r_inner_activation_deleted_tree r_inner_activation_deleted_capture (codes "s.py") ([]) 46 (reverse r_inner_activation_deleted_run.moments) ((place 7 7, 1) ∷ (place 2 8, 2) ∷ (place 3 16, 1) ∷ (place 5 12, 1) ∷ []) ≡ (Some ((codes "1"), 20) ∷ Some ((codes "0"), 27) ∷ Some ((codes "5"), 32) ∷ Some ((codes "1"), 12) ∷ [])
unfolding is_utf8 chars encode_utf8 level
r_inner_activation_deleted_replays = refl

r_inner_activation_deleted_dataflow : depends r_inner_activation_deleted_tree (reverse r_inner_activation_deleted_run.moments) (edge by_control 1 0 ∷ edge by_jump 1 2 ∷ edge by_control 1 3 ∷ edge by_data 1 3 ∷ edge by_control 1 5 ∷ edge by_data 1 5 ∷ edge by_control 2 1 ∷ edge by_control 2 3 ∷ edge by_control 3 0 ∷ edge by_data 3 0 ∷ edge by_jump 3 1 ∷ edge by_control 3 5 ∷ edge by_data 3 5 ∷ edge by_control 4 0 ∷ edge by_control 4 5 ∷ edge by_data 4 5 ∷ edge by_data 5 0 ∷ edge by_jump 5 4 ∷ edge by_data 6 5 ∷ []) ≡ (true, true)
unfolding is_utf8 chars encode_utf8 level
r_inner_activation_deleted_dataflow = refl
