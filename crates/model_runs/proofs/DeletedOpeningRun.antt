-- Runs of scripts, as theorems that hold by computation: their ends, steps, output and files, and all of their moments.
-- Written by tools/run_vectors.py from scripts with what is expected of them.
use Rattle.std.proofs.Common.{◌≡◌, [], ◌∷◌, ◌++◌, Some, codes, refl}
use Rattle.std.specs.Prelude.{true, false, reverse}
use Rattle.std.specs.Str.{chars, is_utf8}
use Rattle.std.specs.Char.{encode_utf8}
use Rattle.py_tree.specs.declared.expr.Atom.TheVariants.{Text as text_atom}
use Rattle.py_tree.specs.Tree.{const_expr, var_expr, call_expr, attr_expr, end_exprs, more_exprs, var_target, one_stmt, do_form, assign_form, end_suite, more_suite, ScriptTree}
use Rattle.py_model.specs.Capture.{Capture, opening_in}
use Rattle.py_model.specs.Meaning.{Run, run, level, finished}
use Rattle.py_model.specs.Plan.{found_bytes}
use Rattle.model_runs.specs.Words.{place, no_span, silent, summary, evaluated, kept, depends, replayed}
use Rattle.slice_law.specs.Edges.{edge, by_data}

abbrev pub r_deleted_opening_tree : ScriptTree
r_deleted_opening_tree = record { body = (more_suite (one_stmt 0 (place 1 1) no_span (assign_form (var_target (place 1 1) (codes "f")) (call_expr (place 1 9) (var_expr (place 1 5) (codes "open")) (more_exprs (const_expr (place 1 10) (text_atom (codes "a.txt"))) (more_exprs (const_expr (place 1 19) (text_atom (codes "a"))) end_exprs))))) (more_suite (one_stmt 1 (place 2 1) no_span (assign_form (var_target (place 2 1) (codes "g")) (call_expr (place 2 9) (var_expr (place 2 5) (codes "open")) (more_exprs (const_expr (place 2 10) (text_atom (codes "a.txt"))) end_exprs)))) (more_suite (one_stmt 2 (place 3 1) no_span (assign_form (var_target (place 3 1) (codes "t")) (call_expr (place 3 11) (attr_expr (place 3 6) (var_expr (place 3 5) (codes "g")) (codes "read")) end_exprs))) (more_suite (one_stmt 3 (place 4 1) no_span (do_form (call_expr (place 4 6) (var_expr (place 4 1) (codes "print")) (more_exprs (var_expr (place 4 7) (codes "t")) end_exprs)))) end_suite)))); count = 4 }

abbrev pub r_deleted_opening_capture : Capture
r_deleted_opening_capture = record { answers = ([]); files = (((codes "a.txt"), (found_bytes (codes "hi"))) ∷ []); ends = silent }

abbrev pub r_deleted_opening_run : Run
r_deleted_opening_run = run r_deleted_opening_tree (codes "s.py") ([]) r_deleted_opening_capture 1000

r_deleted_opening : summary r_deleted_opening_run ≡ record { end = finished; steps = 40; output = (codes "hi" ++ (10 ∷ [])); finals = (((codes "a.txt"), (codes "hi")) ∷ []) }
unfolding is_utf8 chars encode_utf8 level
r_deleted_opening = refl

r_deleted_opening_values : evaluated r_deleted_opening_tree (opening_in r_deleted_opening_capture (codes "s.py") ([])) (reverse r_deleted_opening_run.moments) ((place 4 7, 1) ∷ (place 3 11, 1) ∷ (place 2 5, 1) ∷ []) ≡ (Some ((codes "'hi'"), 38) ∷ Some ((codes "'hi'"), 31) ∷ Some ((codes "<built-in open>"), 14) ∷ [])
unfolding is_utf8 chars encode_utf8 level
r_deleted_opening_values = refl

r_deleted_opening_slices : kept r_deleted_opening_tree (opening_in r_deleted_opening_capture (codes "s.py") ([])) (reverse r_deleted_opening_run.moments) ((place 4 7, 1) ∷ (place 3 11, 1) ∷ (place 2 5, 1) ∷ []) ≡ (Some (true, (false ∷ true ∷ true ∷ true ∷ [])) ∷ Some (true, (false ∷ true ∷ true ∷ false ∷ [])) ∷ Some (true, (false ∷ true ∷ false ∷ false ∷ [])) ∷ [])
unfolding is_utf8 chars encode_utf8 level
r_deleted_opening_slices = refl

r_deleted_opening_replays : replayed r_deleted_opening_tree r_deleted_opening_capture (codes "s.py") ([]) 40 (reverse r_deleted_opening_run.moments) ((place 4 7, 1) ∷ (place 3 11, 1) ∷ (place 2 5, 1) ∷ []) ≡ (Some ((codes "'hi'"), 27) ∷ Some ((codes "'hi'"), 20) ∷ Some ((codes "<built-in open>"), 3) ∷ [])
unfolding is_utf8 chars encode_utf8 level
r_deleted_opening_replays = refl

r_deleted_opening_dataflow : depends r_deleted_opening_tree (reverse r_deleted_opening_run.moments) (edge by_data 2 1 ∷ edge by_data 3 2 ∷ []) ≡ (true, true)
unfolding is_utf8 chars encode_utf8 level
r_deleted_opening_dataflow = refl
