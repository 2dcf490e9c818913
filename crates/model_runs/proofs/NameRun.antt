-- Runs of scripts, as theorems that hold by computation: their ends, steps, output and files, and all of their moments.
-- Written by tools/run_vectors.py from scripts with what is expected of them.
use Rattle.std.proofs.Common.{◌≡◌, [], ◌∷◌, ◌++◌, Some, None, codes, refl}
use Rattle.std.specs.Prelude.{pos, true, false, reverse}
use Rattle.std.specs.Str.{chars, is_utf8}
use Rattle.std.specs.Char.{encode_utf8}
use Rattle.py_tree.specs.declared.expr.Atom.TheVariants.{Int as int_atom, Text as text_atom}
use Rattle.py_tree.specs.Tree.{const_expr, var_expr, call_expr, end_exprs, more_exprs, var_target, one_stmt, do_form, assign_form, return_form, try_form, def_form, end_suite, more_suite, end_handlers, more_handlers, ScriptTree}
use Rattle.py_value.specs.Contents.{nothing, truth, int, text, tuple, function, exception_class, builtin, object, no_parts, part}
use Rattle.py_value.specs.Seen.{an_instance, var_at, entry_at, order_at, var_is, entry_is, order_is, reads, sets}
use Rattle.py_model.specs.Capture.{Capture, opening_in}
use Rattle.py_model.specs.Meaning.{Run, run, level, finished}
use Rattle.py_model.specs.Moment.{begins, does, enters, leaves, ends, normal_end, return_end, raise_end}
use Rattle.py_model.specs.Plan.{value, raised}
use Rattle.model_runs.specs.Words.{place, no_span, silent, summary, evaluated, kept, depends, replayed}
use Rattle.slice_law.specs.Edges.{edge, by_data, by_name, by_control, by_jump}

abbrev pub r_name_tree : ScriptTree
r_name_tree = record { body = (more_suite (one_stmt 0 (place 1 1) no_span (assign_form (var_target (place 1 1) (codes "x")) (const_expr (place 1 5) (text_atom (codes "global"))))) (more_suite (one_stmt 1 (place 2 1) no_span (def_form (codes "f") ([]) ([]) (more_suite (one_stmt 2 (place 3 5) no_span (try_form (more_suite (one_stmt 3 (place 4 9) no_span (assign_form (var_target (place 4 9) (codes "y")) (var_expr (place 4 13) (codes "x")))) end_suite) (more_handlers (Some (var_expr (place 5 12) (codes "UnboundLocalError"))) None (more_suite (one_stmt 4 (place 6 9) no_span (assign_form (var_target (place 6 9) (codes "y")) (const_expr (place 6 13) (text_atom (codes "unset"))))) end_suite) end_handlers))) (more_suite (one_stmt 5 (place 7 5) no_span (assign_form (var_target (place 7 5) (codes "x")) (const_expr (place 7 9) (int_atom (pos 1))))) (more_suite (one_stmt 6 (place 8 5) no_span (return_form (Some (var_expr (place 8 12) (codes "y"))))) end_suite))))) (more_suite (one_stmt 7 (place 9 1) no_span (assign_form (var_target (place 9 1) (codes "r")) (call_expr (place 9 6) (var_expr (place 9 5) (codes "f")) end_exprs))) (more_suite (one_stmt 8 (place 10 1) no_span (do_form (call_expr (place 10 6) (var_expr (place 10 1) (codes "print")) (more_exprs (var_expr (place 10 7) (codes "r")) end_exprs)))) end_suite)))); count = 9 }

abbrev pub r_name_capture : Capture
r_name_capture = record { answers = ([]); files = ([]); ends = silent }

abbrev pub r_name_run : Run
r_name_run = run r_name_tree (codes "s.py") ([]) r_name_capture 1000000

r_name : summary r_name_run ≡ record { end = finished; steps = 41; output = (codes "unset" ++ (10 ∷ [])); finals = ([]) }
unfolding is_utf8 chars encode_utf8 level
r_name = refl

r_name_moments : r_name_run.moments ≡
    begins 0
    ∷ does (place 1 5) 0 ([]) (value (text (codes "global"))) None ([]) 0
    ∷ does (place 1 1) 33 ((text (codes "global")) ∷ []) (value nothing) None ((sets (var_at 0 (codes "x")) (var_is (Some (text (codes "global"))))) ∷ []) 0
    ∷ ends 0 normal_end
    ∷ begins 1
    ∷ does (place 2 1) 42 ([]) (value nothing) None ((sets (var_at 0 (codes "f")) (var_is (Some (function (place 2 1))))) ∷ []) 0
    ∷ ends 1 normal_end
    ∷ begins 7
    ∷ does (place 9 5) 1 ([]) (value (function (place 2 1))) None ((reads (var_at 0 (codes "f"))) ∷ []) 0
    ∷ enters (place 9 6) (place 2 1) ([]) ([])
    ∷ begins 2
    ∷ begins 3
    ∷ does (place 4 13) 1 ([]) (raised 1) (Some (an_instance (exception_class 8))) ((reads (var_at 1 (codes "x"))) ∷ (sets (order_at 1) (order_is ((text (codes "args")) ∷ []))) ∷ (sets (entry_at 1 (text (codes "args"))) (entry_is (Some ((text (codes "args")), (tuple (part (text (codes "local name 'x' is not set")) no_parts)))))) ∷ []) 0
    ∷ ends 3 raise_end
    ∷ does (place 5 12) 1 ([]) (value (exception_class 8)) None ((reads (var_at 0 (codes "UnboundLocalError"))) ∷ []) 0
    ∷ does (place 3 5) 41 ((object 1) ∷ (exception_class 8) ∷ []) (value (truth true)) None ([]) 0
    ∷ begins 4
    ∷ does (place 6 13) 0 ([]) (value (text (codes "unset"))) None ([]) 0
    ∷ does (place 6 9) 33 ((text (codes "unset")) ∷ []) (value nothing) None ((sets (var_at 1 (codes "y")) (var_is (Some (text (codes "unset"))))) ∷ []) 0
    ∷ ends 4 normal_end
    ∷ ends 2 normal_end
    ∷ begins 5
    ∷ does (place 7 9) 0 ([]) (value (int (pos 1))) None ([]) 0
    ∷ does (place 7 5) 33 ((int (pos 1)) ∷ []) (value nothing) None ((sets (var_at 1 (codes "x")) (var_is (Some (int (pos 1))))) ∷ []) 0
    ∷ ends 5 normal_end
    ∷ begins 6
    ∷ does (place 8 12) 1 ([]) (value (text (codes "unset"))) None ((reads (var_at 1 (codes "y"))) ∷ []) 0
    ∷ ends 6 return_end
    ∷ leaves (text (codes "unset"))
    ∷ does (place 9 6) 2 ((text (codes "unset")) ∷ []) (value (text (codes "unset"))) None ([]) 0
    ∷ does (place 9 1) 33 ((text (codes "unset")) ∷ []) (value nothing) None ((sets (var_at 0 (codes "r")) (var_is (Some (text (codes "unset"))))) ∷ []) 0
    ∷ ends 7 normal_end
    ∷ begins 8
    ∷ does (place 10 1) 1 ([]) (value (builtin 14)) None ((reads (var_at 0 (codes "print"))) ∷ []) 0
    ∷ does (place 10 7) 1 ([]) (value (text (codes "unset"))) None ((reads (var_at 0 (codes "r"))) ∷ []) 0
    ∷ does (place 10 6) 64 ((text (codes "unset")) ∷ []) (value nothing) None ([]) 1
    ∷ ends 8 normal_end
    ∷ []
unfolding is_utf8 chars encode_utf8 level
r_name_moments = refl

r_name_values : evaluated r_name_tree (opening_in r_name_capture (codes "s.py") ([])) (reverse r_name_run.moments) ((place 10 7, 1) ∷ (place 9 5, 1) ∷ (place 6 13, 1) ∷ (place 7 9, 1) ∷ (place 9 6, 1) ∷ []) ≡ (Some ((codes "'unset'"), 39) ∷ Some ((codes "<function f>"), 10) ∷ Some ((codes "'unset'"), 22) ∷ Some ((codes "1"), 26) ∷ Some ((codes "'unset'"), 32) ∷ [])
unfolding is_utf8 chars encode_utf8 level
r_name_values = refl

r_name_slices : kept r_name_tree (opening_in r_name_capture (codes "s.py") ([])) (reverse r_name_run.moments) ((place 10 7, 1) ∷ (place 9 5, 1) ∷ (place 6 13, 1) ∷ (place 7 9, 1) ∷ (place 9 6, 1) ∷ []) ≡ (Some (true, (false ∷ true ∷ true ∷ true ∷ true ∷ true ∷ true ∷ true ∷ true ∷ [])) ∷ Some (true, (false ∷ true ∷ false ∷ false ∷ false ∷ false ∷ false ∷ true ∷ false ∷ [])) ∷ Some (true, (false ∷ true ∷ true ∷ true ∷ true ∷ true ∷ false ∷ true ∷ false ∷ [])) ∷ Some (true, (false ∷ true ∷ false ∷ false ∷ false ∷ true ∷ false ∷ true ∷ false ∷ [])) ∷ Some (true, (false ∷ true ∷ true ∷ true ∷ true ∷ true ∷ true ∷ true ∷ false ∷ [])) ∷ [])
unfolding is_utf8 chars encode_utf8 level
r_name_slices = refl

r_name_replays : replayed r_name_tree r_name_capture (codes "s.py") ([]) 41 (reverse r_name_run.moments) ((place 10 7, 1) ∷ (place 9 5, 1) ∷ (place 6 13, 1) ∷ (place 7 9, 1) ∷ (place 9 6, 1) ∷ []) ≡ (Some ((codes "'unset'"), 35) ∷ Some ((codes "<function f>"), 6) ∷ Some ((codes "'unset'"), 18) ∷ Some ((codes "1"), 9) ∷ Some ((codes "'unset'"), 28) ∷ [])
unfolding is_utf8 chars encode_utf8 level
r_name_replays = refl

r_name_dataflow : depends r_name_tree (reverse r_name_run.moments) (edge by_control 2 1 ∷ edge by_jump 2 3 ∷ edge by_control 2 7 ∷ edge by_control 3 2 ∷ edge by_name 3 5 ∷ edge by_control 3 7 ∷ edge by_control 4 2 ∷ edge by_control 4 7 ∷ edge by_control 5 1 ∷ edge by_control 5 7 ∷ edge by_control 6 1 ∷ edge by_data 6 4 ∷ edge by_control 6 7 ∷ edge by_data 7 1 ∷ edge by_jump 7 6 ∷ edge by_data 8 7 ∷ []) ≡ (true, true)
unfolding is_utf8 chars encode_utf8 level
r_name_dataflow = refl
