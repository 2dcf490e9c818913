-- Runs of scripts, as theorems that hold by computation: their ends, steps, output and files, and all of their moments.
-- Written by tools/run_vectors.py from scripts with what is expected of them.
use Rattle.std.proofs.Common.{◌≡◌, [], ◌∷◌, ◌++◌, Some, None, codes, refl}
use Rattle.std.specs.Prelude.{pos, true, false, reverse}
use Rattle.std.specs.Str.{chars, is_utf8}
use Rattle.std.specs.Char.{encode_utf8}
use Rattle.py_tree.specs.declared.expr.Atom.TheVariants.{Int as int_atom}
use Rattle.py_tree.specs.declared.expr.BinOp.TheVariants.{Add}
use Rattle.py_tree.specs.Tree.{const_expr, var_expr, binary_expr, call_expr, end_exprs, more_exprs, var_target, one_stmt, do_form, assign_form, return_form, def_form, end_suite, more_suite, ScriptTree}
use Rattle.py_value.specs.Contents.{nothing, int, function, builtin}
use Rattle.py_value.specs.Seen.{var_at, var_is, reads, sets}
use Rattle.py_model.specs.Capture.{Capture, opening_in}
use Rattle.py_model.specs.Meaning.{Run, run, level, finished}
use Rattle.py_model.specs.Moment.{begins, does, enters, leaves, ends, normal_end, return_end}
use Rattle.py_model.specs.Plan.{value}
use Rattle.model_runs.specs.Words.{place, no_span, silent, summary, evaluated, kept, depends, replayed}
use Rattle.slice_law.specs.Edges.{edge, by_data, by_control, by_jump}

abbrev pub r_repeat_tree : ScriptTree
r_repeat_tree = record { body = (more_suite (one_stmt 0 (place 1 1) no_span (def_form (codes "twice") ((codes "n") ∷ []) ([]) (more_suite (one_stmt 1 (place 2 5) no_span (return_form (Some (binary_expr (place 2 14) Add (var_expr (place 2 12) (codes "n")) (var_expr (place 2 16) (codes "n")))))) end_suite))) (more_suite (one_stmt 2 (place 3 1) no_span (assign_form (var_target (place 3 1) (codes "a")) (call_expr (place 3 10) (var_expr (place 3 5) (codes "twice")) (more_exprs (const_expr (place 3 11) (int_atom (pos 2))) end_exprs)))) (more_suite (one_stmt 3 (place 4 1) no_span (assign_form (var_target (place 4 1) (codes "b")) (call_expr (place 4 10) (var_expr (place 4 5) (codes "twice")) (more_exprs (const_expr (place 4 11) (int_atom (pos 3))) end_exprs)))) (more_suite (one_stmt 4 (place 5 1) no_span (do_form (call_expr (place 5 6) (var_expr (place 5 1) (codes "print")) (more_exprs (var_expr (place 5 7) (codes "b")) end_exprs)))) end_suite)))); count = 5 }

abbrev pub r_repeat_capture : Capture
r_repeat_capture = record { answers = ([]); files = ([]); ends = silent }

abbrev pub r_repeat_run : Run
r_repeat_run = run r_repeat_tree (codes "s.py") ([]) r_repeat_capture 1000000

r_repeat : summary r_repeat_run ≡ record { end = finished; steps = 40; output = (codes "6" ++ (10 ∷ [])); finals = ([]) }
unfolding is_utf8 chars encode_utf8 level
r_repeat = refl

r_repeat_moments : r_repeat_run.moments ≡
    begins 0
    ∷ does (place 1 1) 42 ([]) (value nothing) None ((sets (var_at 0 (codes "twice")) (var_is (Some (function (place 1 1))))) ∷ []) 0
    ∷ ends 0 normal_end
    ∷ begins 2
    ∷ does (place 3 5) 1 ([]) (value (function (place 1 1))) None ((reads (var_at 0 (codes "twice"))) ∷ []) 0
    ∷ does (place 3 11) 0 ([]) (value (int (pos 2))) None ([]) 0
    ∷ enters (place 3 10) (place 1 1) ((int (pos 2)) ∷ []) ((sets (var_at 1 (codes "n")) (var_is (Some (int (pos 2))))) ∷ [])
    ∷ begins 1
    ∷ does (place 2 12) 1 ([]) (value (int (pos 2))) None ((reads (var_at 1 (codes "n"))) ∷ []) 0
    ∷ does (place 2 16) 1 ([]) (value (int (pos 2))) None ((reads (var_at 1 (codes "n"))) ∷ []) 0
    ∷ does (place 2 14) 7 ((int (pos 2)) ∷ (int (pos 2)) ∷ []) (value (int (pos 4))) None ([]) 0
    ∷ ends 1 return_end
    ∷ leaves (int (pos 4))
    ∷ does (place 3 10) 2 ((int (pos 4)) ∷ []) (value (int (pos 4))) None ([]) 0
    ∷ does (place 3 1) 33 ((int (pos 4)) ∷ []) (value nothing) None ((sets (var_at 0 (codes "a")) (var_is (Some (int (pos 4))))) ∷ []) 0
    ∷ ends 2 normal_end
    ∷ begins 3
    ∷ does (place 4 5) 1 ([]) (value (function (place 1 1))) None ((reads (var_at 0 (codes "twice"))) ∷ []) 0
    ∷ does (place 4 11) 0 ([]) (value (int (pos 3))) None ([]) 0
    ∷ enters (place 4 10) (place 1 1) ((int (pos 3)) ∷ []) ((sets (var_at 2 (codes "n")) (var_is (Some (int (pos 3))))) ∷ [])
    ∷ begins 1
    ∷ does (place 2 12) 1 ([]) (value (int (pos 3))) None ((reads (var_at 2 (codes "n"))) ∷ []) 0
    ∷ does (place 2 16) 1 ([]) (value (int (pos 3))) None ((reads (var_at 2 (codes "n"))) ∷ []) 0
    ∷ does (place 2 14) 7 ((int (pos 3)) ∷ (int (pos 3)) ∷ []) (value (int (pos 6))) None ([]) 0
    ∷ ends 1 return_end
    ∷ leaves (int (pos 6))
    ∷ does (place 4 10) 2 ((int (pos 6)) ∷ []) (value (int (pos 6))) None ([]) 0
    ∷ does (place 4 1) 33 ((int (pos 6)) ∷ []) (value nothing) None ((sets (var_at 0 (codes "b")) (var_is (Some (int (pos 6))))) ∷ []) 0
    ∷ ends 3 normal_end
    ∷ begins 4
    ∷ does (place 5 1) 1 ([]) (value (builtin 14)) None ((reads (var_at 0 (codes "print"))) ∷ []) 0
    ∷ does (place 5 7) 1 ([]) (value (int (pos 6))) None ((reads (var_at 0 (codes "b"))) ∷ []) 0
    ∷ does (place 5 6) 64 ((int (pos 6)) ∷ []) (value nothing) None ([]) 1
    ∷ ends 4 normal_end
    ∷ []
unfolding is_utf8 chars encode_utf8 level
r_repeat_moments = refl

r_repeat_values : evaluated r_repeat_tree (opening_in r_repeat_capture (codes "s.py") ([])) (reverse r_repeat_run.moments) ((place 5 7, 1) ∷ (place 3 11, 1) ∷ (place 2 16, 1) ∷ (place 2 12, 2) ∷ (place 4 10, 1) ∷ []) ≡ (Some ((codes "6"), 38) ∷ Some ((codes "2"), 7) ∷ Some ((codes "2"), 14) ∷ Some ((codes "3"), 27) ∷ Some ((codes "6"), 31) ∷ [])
unfolding is_utf8 chars encode_utf8 level
r_repeat_values = refl

r_repeat_slices : kept r_repeat_tree (opening_in r_repeat_capture (codes "s.py") ([])) (reverse r_repeat_run.moments) ((place 5 7, 1) ∷ (place 3 11, 1) ∷ (place 2 16, 1) ∷ (place 2 12, 2) ∷ (place 4 10, 1) ∷ []) ≡ (Some (true, (true ∷ true ∷ true ∷ true ∷ true ∷ [])) ∷ Some (true, (true ∷ false ∷ true ∷ false ∷ false ∷ [])) ∷ Some (true, (true ∷ true ∷ true ∷ false ∷ false ∷ [])) ∷ Some (true, (true ∷ true ∷ true ∷ true ∷ false ∷ [])) ∷ Some (true, (true ∷ true ∷ true ∷ true ∷ false ∷ [])) ∷ [])
unfolding is_utf8 chars encode_utf8 level
r_repeat_slices = refl

r_repeat_replays : replayed r_repeat_tree r_repeat_capture (codes "s.py") ([]) 40 (reverse r_repeat_run.moments) ((place 5 7, 1) ∷ (place 3 11, 1) ∷ (place 2 16, 1) ∷ (place 2 12, 2) ∷ (place 4 10, 1) ∷ []) ≡ (Some ((codes "6"), 38) ∷ Some ((codes "2"), 7) ∷ Some ((codes "2"), 14) ∷ Some ((codes "3"), 27) ∷ Some ((codes "6"), 31) ∷ [])
unfolding is_utf8 chars encode_utf8 level
r_repeat_replays = refl

r_repeat_dataflow : depends r_repeat_tree (reverse r_repeat_run.moments) (edge by_control 1 0 ∷ edge by_data 1 2 ∷ edge by_control 1 2 ∷ edge by_data 1 3 ∷ edge by_control 1 3 ∷ edge by_data 2 0 ∷ edge by_jump 2 1 ∷ edge by_data 3 0 ∷ edge by_jump 3 1 ∷ edge by_data 4 3 ∷ []) ≡ (true, true)
unfolding is_utf8 chars encode_utf8 level
r_repeat_dataflow = refl
