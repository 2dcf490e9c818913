-- Runs of scripts, as theorems that hold by computation: their ends, steps, output and files, and all of their moments.
-- Written by tools/run_vectors.py from scripts with what is expected of them.
use Rattle.std.proofs.Common.{◌≡◌, [], ◌∷◌, Some, None, codes, refl}
use Rattle.std.specs.Prelude.{pos, true, false, reverse}
use Rattle.std.specs.Str.{chars, is_utf8}
use Rattle.std.specs.Char.{encode_utf8}
use Rattle.py_tree.specs.declared.expr.Atom.TheVariants.{Int as int_atom}
use Rattle.py_tree.specs.Tree.{const_expr, var_expr, call_expr, end_exprs, more_exprs, var_target, one_stmt, do_form, assign_form, end_suite, more_suite, ScriptTree}
use Rattle.py_value.specs.Contents.{nothing, int, builtin}
use Rattle.py_value.specs.Seen.{var_at, var_is, reads, sets}
use Rattle.py_model.specs.Capture.{Capture, opening_in}
use Rattle.py_model.specs.Meaning.{Run, run, level, out_of_steps}
use Rattle.py_model.specs.Moment.{begins, does, ends, normal_end}
use Rattle.py_model.specs.Plan.{value}
use Rattle.model_runs.specs.Words.{place, no_span, silent, summary, evaluated, kept, depends, replayed}
use Rattle.slice_law.specs.Edges.{edge, by_data}

abbrev pub r_budget_tree : ScriptTree
r_budget_tree = record { body = (more_suite (one_stmt 0 (place 1 1) no_span (assign_form (var_target (place 1 1) (codes "x")) (const_expr (place 1 5) (int_atom (pos 1))))) (more_suite (one_stmt 1 (place 2 1) no_span (do_form (call_expr (place 2 6) (var_expr (place 2 1) (codes "print")) (more_exprs (var_expr (place 2 7) (codes "x")) end_exprs)))) end_suite)); count = 2 }

abbrev pub r_budget_capture : Capture
r_budget_capture = record { answers = ([]); files = ([]); ends = silent }

abbrev pub r_budget_run : Run
r_budget_run = run r_budget_tree (codes "s.py") ([]) r_budget_capture 10

r_budget : summary r_budget_run ≡ record { end = out_of_steps; steps = 9; output = []; finals = ([]) }
unfolding is_utf8 chars encode_utf8 level
r_budget = refl

r_budget_moments : r_budget_run.moments ≡
    begins 0
    ∷ does (place 1 5) 0 ([]) (value (int (pos 1))) None ([]) 0
    ∷ does (place 1 1) 33 ((int (pos 1)) ∷ []) (value nothing) None ((sets (var_at 0 (codes "x")) (var_is (Some (int (pos 1))))) ∷ []) 0
    ∷ ends 0 normal_end
    ∷ begins 1
    ∷ does (place 2 1) 1 ([]) (value (builtin 14)) None ((reads (var_at 0 (codes "print"))) ∷ []) 0
    ∷ does (place 2 7) 1 ([]) (value (int (pos 1))) None ((reads (var_at 0 (codes "x"))) ∷ []) 0
    ∷ []
unfolding is_utf8 chars encode_utf8 level
r_budget_moments = refl

r_budget_values : evaluated r_budget_tree (opening_in r_budget_capture (codes "s.py") ([])) (reverse r_budget_run.moments) ((place 2 7, 1) ∷ (place 1 5, 1) ∷ (place 2 1, 1) ∷ []) ≡ (Some ((codes "1"), 9) ∷ Some ((codes "1"), 2) ∷ Some ((codes "<built-in print>"), 7) ∷ [])
unfolding is_utf8 chars encode_utf8 level
r_budget_values = refl

r_budget_slices : kept r_budget_tree (opening_in r_budget_capture (codes "s.py") ([])) (reverse r_budget_run.moments) ((place 2 7, 1) ∷ (place 1 5, 1) ∷ (place 2 1, 1) ∷ []) ≡ (Some (true, (true ∷ true ∷ [])) ∷ Some (true, (true ∷ false ∷ [])) ∷ Some (true, (false ∷ true ∷ [])) ∷ [])
unfolding is_utf8 chars encode_utf8 level
r_budget_slices = refl

r_budget_replays : replayed r_budget_tree r_budget_capture (codes "s.py") ([]) 9 (reverse r_budget_run.moments) ((place 2 7, 1) ∷ (place 1 5, 1) ∷ (place 2 1, 1) ∷ []) ≡ (Some ((codes "1"), 9) ∷ Some ((codes "1"), 2) ∷ Some ((codes "<built-in print>"), 3) ∷ [])
unfolding is_utf8 chars encode_utf8 level
r_budget_replays = refl

r_budget_dataflow : depends r_budget_tree (reverse r_budget_run.moments) (edge by_data 1 0 ∷ []) ≡ (true, true)
unfolding is_utf8 chars encode_utf8 level
r_budget_dataflow = refl
