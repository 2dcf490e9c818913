-- Runs of scripts, as theorems that hold by computation: their ends, steps, output and files, and all of their moments.
-- Written by tools/run_vectors.py from scripts with what is expected of them.
use Rattle.std.proofs.Common.{◌≡◌, [], ◌∷◌, ◌++◌, Some, None, codes, refl}
use Rattle.std.specs.Prelude.{pos, true, false, reverse}
use Rattle.std.specs.Str.{chars, is_utf8}
use Rattle.std.specs.Char.{encode_utf8}
use Rattle.py_tree.specs.declared.expr.Atom.TheVariants.{Bool as truth_atom, Int as int_atom}
use Rattle.py_tree.specs.declared.expr.BinOp.TheVariants.{Add}
use Rattle.py_tree.specs.declared.expr.CmpOp.TheVariants.{Eq}
use Rattle.py_tree.specs.Tree.{const_expr, var_expr, compare_expr, call_expr, end_exprs, more_exprs, var_target, one_stmt, do_form, assign_form, aug_form, break_form, if_form, while_form, end_suite, more_suite, end_branches, more_branches, no_else, ScriptTree}
use Rattle.py_value.specs.Contents.{nothing, truth, int, builtin}
use Rattle.py_value.specs.Seen.{var_at, var_is, reads, sets}
use Rattle.py_model.specs.Capture.{Capture, opening_in}
use Rattle.py_model.specs.Meaning.{Run, run, level, finished}
use Rattle.py_model.specs.Moment.{begins, does, ends, normal_end, break_end}
use Rattle.py_model.specs.Plan.{value}
use Rattle.model_runs.specs.Words.{place, no_span, silent, summary, evaluated, kept, depends, replayed}
use Rattle.slice_law.specs.Edges.{edge, by_data, by_control, by_jump}

abbrev pub r_jump_tree : ScriptTree
r_jump_tree = record { body = (more_suite (one_stmt 0 (place 1 1) no_span (assign_form (var_target (place 1 1) (codes "i")) (const_expr (place 1 5) (int_atom (pos 0))))) (more_suite (one_stmt 1 (place 2 1) no_span (assign_form (var_target (place 2 1) (codes "t")) (const_expr (place 2 5) (int_atom (pos 0))))) (more_suite (one_stmt 2 (place 3 1) no_span (while_form (const_expr (place 3 7) (truth_atom true)) (more_suite (one_stmt 3 (place 4 5) no_span (aug_form (var_target (place 4 5) (codes "i")) Add (place 4 7) (const_expr (place 4 10) (int_atom (pos 1))))) (more_suite (one_stmt 4 (place 5 5) no_span (if_form (more_branches (compare_expr (place 5 10) Eq (var_expr (place 5 8) (codes "i")) (const_expr (place 5 13) (int_atom (pos 3)))) (more_suite (one_stmt 5 (place 6 9) no_span break_form) end_suite) end_branches) no_else)) (more_suite (one_stmt 6 (place 7 5) no_span (assign_form (var_target (place 7 5) (codes "t")) (var_expr (place 7 9) (codes "i")))) end_suite))))) (more_suite (one_stmt 7 (place 8 1) no_span (do_form (call_expr (place 8 6) (var_expr (place 8 1) (codes "print")) (more_exprs (var_expr (place 8 7) (codes "i")) end_exprs)))) end_suite)))); count = 8 }

abbrev pub r_jump_capture : Capture
r_jump_capture = record { answers = ([]); files = ([]); ends = silent }

abbrev pub r_jump_run : Run
r_jump_run = run r_jump_tree (codes "s.py") ([]) r_jump_capture 1000000

r_jump : summary r_jump_run ≡ record { end = finished; steps = 72; output = (codes "3" ++ (10 ∷ [])); finals = ([]) }
unfolding is_utf8 chars encode_utf8 level
r_jump = refl

r_jump_moments : r_jump_run.moments ≡
    begins 0
    ∷ does (place 1 5) 0 ([]) (value (int (pos 0))) None ([]) 0
    ∷ does (place 1 1) 33 ((int (pos 0)) ∷ []) (value nothing) None ((sets (var_at 0 (codes "i")) (var_is (Some (int (pos 0))))) ∷ []) 0
    ∷ ends 0 normal_end
    ∷ begins 1
    ∷ does (place 2 5) 0 ([]) (value (int (pos 0))) None ([]) 0
    ∷ does (place 2 1) 33 ((int (pos 0)) ∷ []) (value nothing) None ((sets (var_at 0 (codes "t")) (var_is (Some (int (pos 0))))) ∷ []) 0
    ∷ ends 1 normal_end
    ∷ begins 2
    ∷ does (place 3 7) 0 ([]) (value (truth true)) None ([]) 0
    ∷ does (place 3 7) 3 ((truth true) ∷ []) (value (truth true)) None ([]) 0
    ∷ begins 3
    ∷ does (place 4 5) 1 ([]) (value (int (pos 0))) None ((reads (var_at 0 (codes "i"))) ∷ []) 0
    ∷ does (place 4 10) 0 ([]) (value (int (pos 1))) None ([]) 0
    ∷ does (place 4 7) 22 ((int (pos 0)) ∷ (int (pos 1)) ∷ []) (value (int (pos 1))) None ([]) 0
    ∷ does (place 4 5) 33 ((int (pos 1)) ∷ []) (value nothing) None ((sets (var_at 0 (codes "i")) (var_is (Some (int (pos 1))))) ∷ []) 0
    ∷ ends 3 normal_end
    ∷ begins 4
    ∷ does (place 5 8) 1 ([]) (value (int (pos 1))) None ((reads (var_at 0 (codes "i"))) ∷ []) 0
    ∷ does (place 5 13) 0 ([]) (value (int (pos 3))) None ([]) 0
    ∷ does (place 5 10) 12 ((int (pos 1)) ∷ (int (pos 3)) ∷ []) (value (truth false)) None ([]) 0
    ∷ does (place 5 10) 3 ((truth false) ∷ []) (value (truth false)) None ([]) 0
    ∷ ends 4 normal_end
    ∷ begins 6
    ∷ does (place 7 9) 1 ([]) (value (int (pos 1))) None ((reads (var_at 0 (codes "i"))) ∷ []) 0
    ∷ does (place 7 5) 33 ((int (pos 1)) ∷ []) (value nothing) None ((sets (var_at 0 (codes "t")) (var_is (Some (int (pos 1))))) ∷ []) 0
    ∷ ends 6 normal_end
    ∷ does (place 3 7) 0 ([]) (value (truth true)) None ([]) 0
    ∷ does (place 3 7) 3 ((truth true) ∷ []) (value (truth true)) None ([]) 0
    ∷ begins 3
    ∷ does (place 4 5) 1 ([]) (value (int (pos 1))) None ((reads (var_at 0 (codes "i"))) ∷ []) 0
    ∷ does (place 4 10) 0 ([]) (value (int (pos 1))) None ([]) 0
    ∷ does (place 4 7) 22 ((int (pos 1)) ∷ (int (pos 1)) ∷ []) (value (int (pos 2))) None ([]) 0
    ∷ does (place 4 5) 33 ((int (pos 2)) ∷ []) (value nothing) None ((sets (var_at 0 (codes "i")) (var_is (Some (int (pos 2))))) ∷ []) 0
    ∷ ends 3 normal_end
    ∷ begins 4
    ∷ does (place 5 8) 1 ([]) (value (int (pos 2))) None ((reads (var_at 0 (codes "i"))) ∷ []) 0
    ∷ does (place 5 13) 0 ([]) (value (int (pos 3))) None ([]) 0
    ∷ does (place 5 10) 12 ((int (pos 2)) ∷ (int (pos 3)) ∷ []) (value (truth false)) None ([]) 0
    ∷ does (place 5 10) 3 ((truth false) ∷ []) (value (truth false)) None ([]) 0
    ∷ ends 4 normal_end
    ∷ begins 6
    ∷ does (place 7 9) 1 ([]) (value (int (pos 2))) None ((reads (var_at 0 (codes "i"))) ∷ []) 0
    ∷ does (place 7 5) 33 ((int (pos 2)) ∷ []) (value nothing) None ((sets (var_at 0 (codes "t")) (var_is (Some (int (pos 2))))) ∷ []) 0
    ∷ ends 6 normal_end
    ∷ does (place 3 7) 0 ([]) (value (truth true)) None ([]) 0
    ∷ does (place 3 7) 3 ((truth true) ∷ []) (value (truth true)) None ([]) 0
    ∷ begins 3
    ∷ does (place 4 5) 1 ([]) (value (int (pos 2))) None ((reads (var_at 0 (codes "i"))) ∷ []) 0
    ∷ does (place 4 10) 0 ([]) (value (int (pos 1))) None ([]) 0
    ∷ does (place 4 7) 22 ((int (pos 2)) ∷ (int (pos 1)) ∷ []) (value (int (pos 3))) None ([]) 0
    ∷ does (place 4 5) 33 ((int (pos 3)) ∷ []) (value nothing) None ((sets (var_at 0 (codes "i")) (var_is (Some (int (pos 3))))) ∷ []) 0
    ∷ ends 3 normal_end
    ∷ begins 4
    ∷ does (place 5 8) 1 ([]) (value (int (pos 3))) None ((reads (var_at 0 (codes "i"))) ∷ []) 0
    ∷ does (place 5 13) 0 ([]) (value (int (pos 3))) None ([]) 0
    ∷ does (place 5 10) 12 ((int (pos 3)) ∷ (int (pos 3)) ∷ []) (value (truth true)) None ([]) 0
    ∷ does (place 5 10) 3 ((truth true) ∷ []) (value (truth true)) None ([]) 0
    ∷ begins 5
    ∷ ends 5 break_end
    ∷ ends 4 break_end
    ∷ ends 2 normal_end
    ∷ begins 7
    ∷ does (place 8 1) 1 ([]) (value (builtin 14)) None ((reads (var_at 0 (codes "print"))) ∷ []) 0
    ∷ does (place 8 7) 1 ([]) (value (int (pos 3))) None ((reads (var_at 0 (codes "i"))) ∷ []) 0
    ∷ does (place 8 6) 64 ((int (pos 3)) ∷ []) (value nothing) None ([]) 1
    ∷ ends 7 normal_end
    ∷ []
unfolding is_utf8 chars encode_utf8 level
r_jump_moments = refl

r_jump_values : evaluated r_jump_tree (opening_in r_jump_capture (codes "s.py") ([])) (reverse r_jump_run.moments) ((place 8 7, 1) ∷ (place 4 5, 1) ∷ (place 5 10, 1) ∷ (place 5 13, 2) ∷ (place 4 5, 3) ∷ []) ≡ (Some ((codes "3"), 70) ∷ Some ((codes "0"), 14) ∷ Some ((codes "False"), 23) ∷ Some ((codes "3"), 42) ∷ Some ((codes "2"), 54) ∷ [])
unfolding is_utf8 chars encode_utf8 level
r_jump_values = refl

r_jump_slices : kept r_jump_tree (opening_in r_jump_capture (codes "s.py") ([])) (reverse r_jump_run.moments) ((place 8 7, 1) ∷ (place 4 5, 1) ∷ (place 5 10, 1) ∷ (place 5 13, 2) ∷ (place 4 5, 3) ∷ []) ≡ (Some (true, (true ∷ false ∷ true ∷ true ∷ true ∷ true ∷ false ∷ true ∷ [])) ∷ Some (true, (true ∷ false ∷ true ∷ true ∷ false ∷ false ∷ false ∷ false ∷ [])) ∷ Some (true, (true ∷ false ∷ true ∷ true ∷ true ∷ false ∷ false ∷ false ∷ [])) ∷ Some (true, (true ∷ false ∷ true ∷ true ∷ true ∷ false ∷ false ∷ false ∷ [])) ∷ Some (true, (true ∷ false ∷ true ∷ true ∷ false ∷ false ∷ false ∷ false ∷ [])) ∷ [])
unfolding is_utf8 chars encode_utf8 level
r_jump_slices = refl

r_jump_replays : replayed r_jump_tree r_jump_capture (codes "s.py") ([]) 72 (reverse r_jump_run.moments) ((place 8 7, 1) ∷ (place 4 5, 1) ∷ (place 5 10, 1) ∷ (place 5 13, 2) ∷ (place 4 5, 3) ∷ []) ≡ (Some ((codes "3"), 56) ∷ Some ((codes "0"), 10) ∷ Some ((codes "False"), 19) ∷ Some ((codes "3"), 33) ∷ Some ((codes "2"), 28) ∷ [])
unfolding is_utf8 chars encode_utf8 level
r_jump_replays = refl

r_jump_dataflow : depends r_jump_tree (reverse r_jump_run.moments) (edge by_jump 2 4 ∷ edge by_data 3 0 ∷ edge by_control 3 2 ∷ edge by_data 3 3 ∷ edge by_control 4 2 ∷ edge by_data 4 3 ∷ edge by_jump 4 5 ∷ edge by_control 5 4 ∷ edge by_control 6 2 ∷ edge by_data 6 3 ∷ edge by_data 7 3 ∷ []) ≡ (true, true)
unfolding is_utf8 chars encode_utf8 level
r_jump_dataflow = refl
