-- Runs of scripts, as theorems that hold by computation: their ends, steps, output and files, and all of their moments.
-- Written by tools/run_vectors.py from scripts with what is expected of them.
use Rattle.std.proofs.Common.{◌≡◌, [], ◌∷◌, Some, codes, refl}
use Rattle.std.specs.Prelude.{pos, true, false, reverse}
use Rattle.std.specs.Str.{chars, is_utf8}
use Rattle.std.specs.Char.{encode_utf8}
use Rattle.py_tree.specs.declared.expr.Atom.TheVariants.{Int as int_atom}
use Rattle.py_tree.specs.declared.expr.BinOp.TheVariants.{Add}
use Rattle.py_tree.specs.Tree.{const_expr, var_expr, list_expr, end_exprs, more_exprs, var_target, part_target, one_stmt, assign_form, aug_form, del_form, end_suite, more_suite, ScriptTree}
use Rattle.py_model.specs.Capture.{Capture, opening_in}
use Rattle.py_model.specs.Meaning.{Run, run, level, finished}
use Rattle.model_runs.specs.Words.{place, no_span, silent, summary, evaluated, kept, depends, replayed}
use Rattle.slice_law.specs.Edges.{edge, by_data}

abbrev pub r_item_written_over_tree : ScriptTree
r_item_written_over_tree = record { body = (more_suite (one_stmt 0 (place 1 1) no_span (assign_form (var_target (place 1 1) (codes "a")) (list_expr (place 1 5) (more_exprs (const_expr (place 1 6) (int_atom (pos 1))) (more_exprs (const_expr (place 1 9) (int_atom (pos 2))) end_exprs))))) (more_suite (one_stmt 1 (place 2 1) no_span (assign_form (part_target (place 2 2) (var_expr (place 2 1) (codes "a")) (const_expr (place 2 3) (int_atom (pos 1)))) (const_expr (place 2 8) (int_atom (pos 9))))) (more_suite (one_stmt 2 (place 3 1) no_span (del_form (part_target (place 3 6) (var_expr (place 3 5) (codes "a")) (const_expr (place 3 7) (int_atom (pos 1)))))) (more_suite (one_stmt 3 (place 4 1) no_span (aug_form (var_target (place 4 1) (codes "a")) Add (place 4 3) (list_expr (place 4 6) (more_exprs (const_expr (place 4 7) (int_atom (pos 3))) end_exprs)))) (more_suite (one_stmt 4 (place 5 1) no_span (assign_form (var_target (place 5 1) (codes "b")) (var_expr (place 5 5) (codes "a")))) end_suite))))); count = 5 }

abbrev pub r_item_written_over_capture : Capture
r_item_written_over_capture = record { answers = ([]); files = ([]); ends = silent }

abbrev pub r_item_written_over_run : Run
r_item_written_over_run = run r_item_written_over_tree (codes "s.py") ([]) r_item_written_over_capture 1000

r_item_written_over : summary r_item_written_over_run ≡ record { end = finished; steps = 44; output = []; finals = ([]) }
unfolding is_utf8 chars encode_utf8 level
r_item_written_over = refl

r_item_written_over_values : evaluated r_item_written_over_tree (opening_in r_item_written_over_capture (codes "s.py") ([])) (reverse r_item_written_over_run.moments) ((place 4 3, 1) ∷ (place 5 5, 1) ∷ []) ≡ (Some ((codes "#1=[1, 3]"), 37) ∷ Some ((codes "#1=[1, 3]"), 42) ∷ [])
unfolding is_utf8 chars encode_utf8 level
r_item_written_over_values = refl

r_item_written_over_slices : kept r_item_written_over_tree (opening_in r_item_written_over_capture (codes "s.py") ([])) (reverse r_item_written_over_run.moments) ((place 4 3, 1) ∷ (place 5 5, 1) ∷ []) ≡ (Some (true, (true ∷ false ∷ true ∷ true ∷ false ∷ [])) ∷ Some (true, (true ∷ false ∷ true ∷ true ∷ true ∷ [])) ∷ [])
unfolding is_utf8 chars encode_utf8 level
r_item_written_over_slices = refl

r_item_written_over_replays : replayed r_item_written_over_tree r_item_written_over_capture (codes "s.py") ([]) 44 (reverse r_item_written_over_run.moments) ((place 4 3, 1) ∷ (place 5 5, 1) ∷ []) ≡ (Some ((codes "#1=[1, 3]"), 29) ∷ Some ((codes "#1=[1, 3]"), 34) ∷ [])
unfolding is_utf8 chars encode_utf8 level
r_item_written_over_replays = refl

r_item_written_over_dataflow : depends r_item_written_over_tree (reverse r_item_written_over_run.moments) (edge by_data 1 0 ∷ edge by_data 2 0 ∷ edge by_data 3 0 ∷ edge by_data 3 2 ∷ edge by_data 3 3 ∷ edge by_data 4 3 ∷ []) ≡ (true, true)
unfolding is_utf8 chars encode_utf8 level
r_item_written_over_dataflow = refl
