-- Runs of scripts, as theorems that hold by computation: their ends, steps, output and files, and all of their moments.
-- Written by tools/run_vectors.py from scripts with what is expected of them.
use Rattle.std.proofs.Common.{◌≡◌, [], ◌∷◌, ◌++◌, Some, None, codes, refl}
use Rattle.std.specs.Prelude.{pos, true, false, reverse}
use Rattle.std.specs.Str.{chars, is_utf8}
use Rattle.std.specs.Char.{encode_utf8}
use Rattle.py_tree.specs.declared.expr.Atom.TheVariants.{Int as int_atom}
use Rattle.py_tree.specs.Tree.{const_expr, var_expr, call_expr, end_exprs, more_exprs, var_target, one_stmt, do_form, assign_form, if_form, end_suite, more_suite, end_branches, more_branches, else_suite, ScriptTree}
use Rattle.py_value.specs.Contents.{nothing, truth, int, builtin}
use Rattle.py_value.specs.Seen.{var_at, var_is, reads, sets}
use Rattle.py_model.specs.Capture.{Capture, opening_in}
use Rattle.py_model.specs.Meaning.{Run, run, level, finished}
use Rattle.py_model.specs.Moment.{begins, does, ends, normal_end}
use Rattle.py_model.specs.Plan.{value}
use Rattle.model_runs.specs.Words.{place, no_span, silent, summary, evaluated, kept, depends, replayed}
use Rattle.slice_law.specs.Edges.{edge, by_data, by_control}

abbrev pub r_one_line_suite_tree : ScriptTree
r_one_line_suite_tree = record { body = (more_suite (one_stmt 0 (place 1 1) no_span (assign_form (var_target (place 1 1) (codes "x")) (const_expr (place 1 5) (int_atom (pos 0))))) (more_suite (one_stmt 1 (place 2 1) no_span (assign_form (var_target (place 2 1) (codes "y")) (const_expr (place 2 5) (int_atom (pos 5))))) (more_suite (one_stmt 2 (place 3 1) no_span (if_form (more_branches (var_expr (place 3 4) (codes "x")) (more_suite (one_stmt 3 (place 3 7) no_span (assign_form (var_target (place 3 7) (codes "y")) (const_expr (place 3 11) (int_atom (pos 1))))) end_suite) end_branches) (else_suite (more_suite (one_stmt 4 (place 4 7) no_span (assign_form (var_target (place 4 7) (codes "z")) (const_expr (place 4 11) (int_atom (pos 2))))) end_suite)))) (more_suite (one_stmt 5 (place 5 1) no_span (do_form (call_expr (place 5 6) (var_expr (place 5 1) (codes "print")) (more_exprs (var_expr (place 5 7) (codes "z")) end_exprs)))) end_suite)))); count = 6 }

abbrev pub r_one_line_suite_capture : Capture
r_one_line_suite_capture = record { answers = ([]); files = ([]); ends = silent }

abbrev pub r_one_line_suite_run : Run
r_one_line_suite_run = run r_one_line_suite_tree (codes "s.py") ([]) r_one_line_suite_capture 1000000

r_one_line_suite : summary r_one_line_suite_run ≡ record { end = finished; steps = 23; output = (codes "2" ++ (10 ∷ [])); finals = ([]) }
unfolding is_utf8 chars encode_utf8 level
r_one_line_suite = refl

r_one_line_suite_moments : r_one_line_suite_run.moments ≡
    begins 0
    ∷ does (place 1 5) 0 ([]) (value (int (pos 0))) None ([]) 0
    ∷ does (place 1 1) 33 ((int (pos 0)) ∷ []) (value nothing) None ((sets (var_at 0 (codes "x")) (var_is (Some (int (pos 0))))) ∷ []) 0
    ∷ ends 0 normal_end
    ∷ begins 1
    ∷ does (place 2 5) 0 ([]) (value (int (pos 5))) None ([]) 0
    ∷ does (place 2 1) 33 ((int (pos 5)) ∷ []) (value nothing) None ((sets (var_at 0 (codes "y")) (var_is (Some (int (pos 5))))) ∷ []) 0
    ∷ ends 1 normal_end
    ∷ begins 2
    ∷ does (place 3 4) 1 ([]) (value (int (pos 0))) None ((reads (var_at 0 (codes "x"))) ∷ []) 0
    ∷ does (place 3 4) 3 ((int (pos 0)) ∷ []) (value (truth false)) None ([]) 0
    ∷ begins 4
    ∷ does (place 4 11) 0 ([]) (value (int (pos 2))) None ([]) 0
    ∷ does (place 4 7) 33 ((int (pos 2)) ∷ []) (value nothing) None ((sets (var_at 0 (codes "z")) (var_is (Some (int (pos 2))))) ∷ []) 0
    ∷ ends 4 normal_end
    ∷ ends 2 normal_end
    ∷ begins 5
    ∷ does (place 5 1) 1 ([]) (value (builtin 14)) None ((reads (var_at 0 (codes "print"))) ∷ []) 0
    ∷ does (place 5 7) 1 ([]) (value (int (pos 2))) None ((reads (var_at 0 (codes "z"))) ∷ []) 0
    ∷ does (place 5 6) 64 ((int (pos 2)) ∷ []) (value nothing) None ([]) 1
    ∷ ends 5 normal_end
    ∷ []
unfolding is_utf8 chars encode_utf8 level
r_one_line_suite_moments = refl

r_one_line_suite_values : evaluated r_one_line_suite_tree (opening_in r_one_line_suite_capture (codes "s.py") ([])) (reverse r_one_line_suite_run.moments) ((place 5 7, 1) ∷ (place 1 5, 1) ∷ (place 2 5, 1) ∷ (place 4 11, 1) ∷ (place 5 1, 1) ∷ []) ≡ (Some ((codes "2"), 21) ∷ Some ((codes "0"), 2) ∷ Some ((codes "5"), 6) ∷ Some ((codes "2"), 14) ∷ Some ((codes "<built-in print>"), 19) ∷ [])
unfolding is_utf8 chars encode_utf8 level
r_one_line_suite_values = refl

r_one_line_suite_slices : kept r_one_line_suite_tree (opening_in r_one_line_suite_capture (codes "s.py") ([])) (reverse r_one_line_suite_run.moments) ((place 5 7, 1) ∷ (place 1 5, 1) ∷ (place 2 5, 1) ∷ (place 4 11, 1) ∷ (place 5 1, 1) ∷ []) ≡ (Some (true, (true ∷ false ∷ true ∷ false ∷ true ∷ true ∷ [])) ∷ Some (true, (true ∷ false ∷ false ∷ false ∷ false ∷ false ∷ [])) ∷ Some (true, (false ∷ true ∷ false ∷ false ∷ false ∷ false ∷ [])) ∷ Some (true, (true ∷ false ∷ true ∷ false ∷ true ∷ false ∷ [])) ∷ Some (true, (false ∷ false ∷ false ∷ false ∷ false ∷ true ∷ [])) ∷ [])
unfolding is_utf8 chars encode_utf8 level
r_one_line_suite_slices = refl

r_one_line_suite_replays : replayed r_one_line_suite_tree r_one_line_suite_capture (codes "s.py") ([]) 23 (reverse r_one_line_suite_run.moments) ((place 5 7, 1) ∷ (place 1 5, 1) ∷ (place 2 5, 1) ∷ (place 4 11, 1) ∷ (place 5 1, 1) ∷ []) ≡ (Some ((codes "2"), 17) ∷ Some ((codes "0"), 2) ∷ Some ((codes "5"), 2) ∷ Some ((codes "2"), 10) ∷ Some ((codes "<built-in print>"), 3) ∷ [])
unfolding is_utf8 chars encode_utf8 level
r_one_line_suite_replays = refl

r_one_line_suite_dataflow : depends r_one_line_suite_tree (reverse r_one_line_suite_run.moments) (edge by_data 2 0 ∷ edge by_control 3 2 ∷ edge by_control 4 2 ∷ edge by_data 5 4 ∷ []) ≡ (true, true)
unfolding is_utf8 chars encode_utf8 level
r_one_line_suite_dataflow = refl
