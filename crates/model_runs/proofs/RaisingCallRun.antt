-- Runs of scripts, as theorems that hold by computation: their ends, steps, output and files, and all of their moments.
-- Written by tools/run_vectors.py from scripts with what is expected of them.
use Rattle.std.proofs.Common.{◌≡◌, [], ◌∷◌, ◌++◌, Some, None, codes, refl}
use Rattle.std.specs.Prelude.{pos, true, false, reverse}
use Rattle.std.specs.Str.{chars, is_utf8}
use Rattle.std.specs.Char.{encode_utf8}
use Rattle.py_tree.specs.declared.expr.Atom.TheVariants.{Int as int_atom, Text as text_atom}
use Rattle.py_tree.specs.declared.expr.CmpOp.TheVariants.{Gt}
use Rattle.py_tree.specs.Tree.{const_expr, var_expr, compare_expr, call_expr, end_exprs, more_exprs, var_target, one_stmt, do_form, assign_form, return_form, raise_form, if_form, try_form, def_form, end_suite, more_suite, end_branches, more_branches, no_else, end_handlers, more_handlers, ScriptTree}
use Rattle.py_value.specs.Contents.{nothing, truth, int, text, tuple, function, exception_class, builtin, object, no_parts, part}
use Rattle.py_value.specs.Seen.{an_instance, var_at, entry_at, order_at, var_is, entry_is, order_is, reads, sets}
use Rattle.py_model.specs.Capture.{Capture, opening_in}
use Rattle.py_model.specs.Meaning.{Run, run, level, finished}
use Rattle.py_model.specs.Moment.{begins, does, enters, leaves, ends, normal_end, raise_end}
use Rattle.py_model.specs.Plan.{value, raised}
use Rattle.model_runs.specs.Words.{place, no_span, silent, summary, evaluated, kept, depends, replayed}
use Rattle.slice_law.specs.Edges.{edge, by_data, by_control, by_jump}

abbrev pub r_raising_call_tree : ScriptTree
r_raising_call_tree = record { body = (more_suite (one_stmt 0 (place 1 1) no_span (def_form (codes "check") ((codes "n") ∷ []) ([]) (more_suite (one_stmt 1 (place 2 5) no_span (if_form (more_branches (compare_expr (place 2 10) Gt (var_expr (place 2 8) (codes "n")) (const_expr (place 2 12) (int_atom (pos 2)))) (more_suite (one_stmt 2 (place 3 9) no_span (raise_form (Some (call_expr (place 3 25) (var_expr (place 3 15) (codes "ValueError")) (more_exprs (const_expr (place 3 26) (text_atom (codes "big"))) end_exprs))))) end_suite) end_branches) no_else)) (more_suite (one_stmt 3 (place 4 5) no_span (return_form (Some (var_expr (place 4 12) (codes "n"))))) end_suite)))) (more_suite (one_stmt 4 (place 5 1) no_span (assign_form (var_target (place 5 1) (codes "x")) (const_expr (place 5 5) (int_atom (pos 0))))) (more_suite (one_stmt 5 (place 6 1) no_span (assign_form (var_target (place 6 1) (codes "y")) (const_expr (place 6 5) (int_atom (pos 9))))) (more_suite (one_stmt 6 (place 7 1) no_span (try_form (more_suite (one_stmt 7 (place 8 5) no_span (do_form (call_expr (place 8 10) (var_expr (place 8 5) (codes "check")) (more_exprs (const_expr (place 8 11) (int_atom (pos 5))) end_exprs)))) (more_suite (one_stmt 8 (place 9 5) no_span (assign_form (var_target (place 9 5) (codes "x")) (const_expr (place 9 9) (int_atom (pos 1))))) end_suite)) (more_handlers (Some (var_expr (place 10 8) (codes "ValueError"))) (Some (record { at = (place 10 22); name = (codes "e") })) (more_suite (one_stmt 9 (place 11 5) no_span (assign_form (var_target (place 11 5) (codes "x")) (call_expr (place 11 12) (var_expr (place 11 9) (codes "str")) (more_exprs (var_expr (place 11 13) (codes "e")) end_exprs)))) end_suite) end_handlers))) (more_suite (one_stmt 10 (place 12 1) no_span (do_form (call_expr (place 12 6) (var_expr (place 12 1) (codes "print")) (more_exprs (var_expr (place 12 7) (codes "x")) end_exprs)))) end_suite))))); count = 11 }

abbrev pub r_raising_call_capture : Capture
r_raising_call_capture = record { answers = ([]); files = ([]); ends = silent }

abbrev pub r_raising_call_run : Run
r_raising_call_run = run r_raising_call_tree (codes "s.py") ([]) r_raising_call_capture 1000000

r_raising_call : summary r_raising_call_run ≡ record { end = finished; steps = 59; output = (codes "big" ++ (10 ∷ [])); finals = ([]) }
unfolding is_utf8 chars encode_utf8 level
r_raising_call = refl

r_raising_call_moments : r_raising_call_run.moments ≡
    begins 0
    ∷ does (place 1 1) 42 ([]) (value nothing) None ((sets (var_at 0 (codes "check")) (var_is (Some (function (place 1 1))))) ∷ []) 0
    ∷ ends 0 normal_end
    ∷ begins 4
    ∷ does (place 5 5) 0 ([]) (value (int (pos 0))) None ([]) 0
    ∷ does (place 5 1) 33 ((int (pos 0)) ∷ []) (value nothing) None ((sets (var_at 0 (codes "x")) (var_is (Some (int (pos 0))))) ∷ []) 0
    ∷ ends 4 normal_end
    ∷ begins 5
    ∷ does (place 6 5) 0 ([]) (value (int (pos 9))) None ([]) 0
    ∷ does (place 6 1) 33 ((int (pos 9)) ∷ []) (value nothing) None ((sets (var_at 0 (codes "y")) (var_is (Some (int (pos 9))))) ∷ []) 0
    ∷ ends 5 normal_end
    ∷ begins 6
    ∷ begins 7
    ∷ does (place 8 5) 1 ([]) (value (function (place 1 1))) None ((reads (var_at 0 (codes "check"))) ∷ []) 0
    ∷ does (place 8 11) 0 ([]) (value (int (pos 5))) None ([]) 0
    ∷ enters (place 8 10) (place 1 1) ((int (pos 5)) ∷ []) ((sets (var_at 1 (codes "n")) (var_is (Some (int (pos 5))))) ∷ [])
    ∷ begins 1
    ∷ does (place 2 8) 1 ([]) (value (int (pos 5))) None ((reads (var_at 1 (codes "n"))) ∷ []) 0
    ∷ does (place 2 12) 0 ([]) (value (int (pos 2))) None ([]) 0
    ∷ does (place 2 10) 16 ((int (pos 5)) ∷ (int (pos 2)) ∷ []) (value (truth true)) None ([]) 0
    ∷ does (place 2 10) 3 ((truth true) ∷ []) (value (truth true)) None ([]) 0
    ∷ begins 2
    ∷ does (place 3 15) 1 ([]) (value (exception_class 10)) None ((reads (var_at 0 (codes "ValueError"))) ∷ []) 0
    ∷ does (place 3 26) 0 ([]) (value (text (codes "big"))) None ([]) 0
    ∷ does (place 3 25) 39 ((exception_class 10) ∷ (text (codes "big")) ∷ []) (value (object 1)) (Some (an_instance (exception_class 10))) ((sets (order_at 1) (order_is ((text (codes "args")) ∷ []))) ∷ (sets (entry_at 1 (text (codes "args"))) (entry_is (Some ((text (codes "args")), (tuple (part (text (codes "big")) no_parts)))))) ∷ []) 0
    ∷ does (place 3 25) 2 ((object 1) ∷ []) (value (object 1)) None ([]) 0
    ∷ does (place 3 9) 40 ((object 1) ∷ []) (raised 1) None ([]) 0
    ∷ ends 2 raise_end
    ∷ ends 1 raise_end
    ∷ leaves nothing
    ∷ ends 7 raise_end
    ∷ does (place 10 8) 1 ([]) (value (exception_class 10)) None ((reads (var_at 0 (codes "ValueError"))) ∷ []) 0
    ∷ does (place 7 1) 41 ((object 1) ∷ (exception_class 10) ∷ []) (value (truth true)) None ([]) 0
    ∷ does (place 10 22) 33 ((object 1) ∷ []) (value nothing) None ((sets (var_at 0 (codes "e")) (var_is (Some (object 1)))) ∷ []) 0
    ∷ begins 9
    ∷ does (place 11 9) 1 ([]) (value (builtin 18)) None ((reads (var_at 0 (codes "str"))) ∷ []) 0
    ∷ does (place 11 13) 1 ([]) (value (object 1)) None ((reads (var_at 0 (codes "e"))) ∷ []) 0
    ∷ does (place 11 12) 68 ((object 1) ∷ []) (value (text (codes "big"))) None ((reads (entry_at 1 (text (codes "args")))) ∷ []) 2
    ∷ does (place 11 5) 33 ((text (codes "big")) ∷ []) (value nothing) None ((sets (var_at 0 (codes "x")) (var_is (Some (text (codes "big"))))) ∷ []) 0
    ∷ ends 9 normal_end
    ∷ does (place 10 22) 34 ([]) (value nothing) None ((reads (var_at 0 (codes "e"))) ∷ (sets (var_at 0 (codes "e")) (var_is None)) ∷ []) 0
    ∷ ends 6 normal_end
    ∷ begins 10
    ∷ does (place 12 1) 1 ([]) (value (builtin 14)) None ((reads (var_at 0 (codes "print"))) ∷ []) 0
    ∷ does (place 12 7) 1 ([]) (value (text (codes "big"))) None ((reads (var_at 0 (codes "x"))) ∷ []) 0
    ∷ does (place 12 6) 64 ((text (codes "big")) ∷ []) (value nothing) None ([]) 1
    ∷ ends 10 normal_end
    ∷ []
unfolding is_utf8 chars encode_utf8 level
r_raising_call_moments = refl

r_raising_call_values : evaluated r_raising_call_tree (opening_in r_raising_call_capture (codes "s.py") ([])) (reverse r_raising_call_run.moments) ((place 12 7, 1) ∷ (place 6 5, 1) ∷ (place 8 11, 1) ∷ (place 3 15, 1) ∷ (place 11 9, 1) ∷ []) ≡ (Some ((codes "'big'"), 57) ∷ Some ((codes "9"), 9) ∷ Some ((codes "5"), 16) ∷ Some ((codes "<class ValueError>"), 27) ∷ Some ((codes "<built-in str>"), 41) ∷ [])
unfolding is_utf8 chars encode_utf8 level
r_raising_call_values = refl

r_raising_call_slices : kept r_raising_call_tree (opening_in r_raising_call_capture (codes "s.py") ([])) (reverse r_raising_call_run.moments) ((place 12 7, 1) ∷ (place 6 5, 1) ∷ (place 8 11, 1) ∷ (place 3 15, 1) ∷ (place 11 9, 1) ∷ []) ≡ (Some (true, (true ∷ true ∷ true ∷ false ∷ false ∷ false ∷ true ∷ true ∷ false ∷ true ∷ true ∷ [])) ∷ Some (true, (false ∷ false ∷ false ∷ false ∷ false ∷ true ∷ false ∷ false ∷ false ∷ false ∷ false ∷ [])) ∷ Some (true, (true ∷ false ∷ false ∷ false ∷ false ∷ false ∷ true ∷ true ∷ false ∷ false ∷ false ∷ [])) ∷ Some (true, (true ∷ true ∷ true ∷ false ∷ false ∷ false ∷ true ∷ true ∷ false ∷ false ∷ false ∷ [])) ∷ Some (true, (true ∷ true ∷ true ∷ false ∷ false ∷ false ∷ true ∷ true ∷ false ∷ true ∷ false ∷ [])) ∷ [])
unfolding is_utf8 chars encode_utf8 level
r_raising_call_slices = refl

r_raising_call_replays : replayed r_raising_call_tree r_raising_call_capture (codes "s.py") ([]) 59 (reverse r_raising_call_run.moments) ((place 12 7, 1) ∷ (place 6 5, 1) ∷ (place 8 11, 1) ∷ (place 3 15, 1) ∷ (place 11 9, 1) ∷ []) ≡ (Some ((codes "'big'"), 49) ∷ Some ((codes "9"), 2) ∷ Some ((codes "5"), 8) ∷ Some ((codes "<class ValueError>"), 19) ∷ Some ((codes "<built-in str>"), 33) ∷ [])
unfolding is_utf8 chars encode_utf8 level
r_raising_call_replays = refl

r_raising_call_dataflow : depends r_raising_call_tree (reverse r_raising_call_run.moments) (edge by_control 1 0 ∷ edge by_jump 1 2 ∷ edge by_data 1 7 ∷ edge by_control 1 7 ∷ edge by_control 2 1 ∷ edge by_control 2 7 ∷ edge by_control 3 0 ∷ edge by_data 6 6 ∷ edge by_jump 6 7 ∷ edge by_data 7 0 ∷ edge by_jump 7 1 ∷ edge by_control 7 6 ∷ edge by_control 8 6 ∷ edge by_data 9 2 ∷ edge by_data 9 6 ∷ edge by_control 9 6 ∷ edge by_data 10 9 ∷ []) ≡ (true, true)
unfolding is_utf8 chars encode_utf8 level
r_raising_call_dataflow = refl
