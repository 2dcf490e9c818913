-- Runs of scripts, as theorems that hold by computation: their ends, steps, output and files, and all of their moments.
-- Written by tools/run_vectors.py from scripts with what is expected of them.
use Rattle.std.proofs.Common.{◌≡◌, [], ◌∷◌, ◌++◌, Some, None, codes, refl}
use Rattle.std.specs.Prelude.{pos, true, reverse}
use Rattle.std.specs.Str.{chars, is_utf8}
use Rattle.std.specs.Char.{encode_utf8}
use Rattle.py_tree.specs.declared.expr.Atom.TheVariants.{Int as int_atom, Text as text_atom}
use Rattle.py_tree.specs.Tree.{const_expr, var_expr, call_expr, part_expr, list_expr, end_exprs, more_exprs, var_target, one_stmt, do_form, assign_form, del_form, pass_form, return_form, raise_form, try_form, def_form, end_suite, more_suite, end_handlers, more_handlers, ScriptTree}
use Rattle.py_value.specs.Contents.{nothing, truth, int, text, tuple, function, exception_class, builtin, object, no_parts, part}
use Rattle.py_value.specs.Seen.{a_list, an_instance, var_at, len_at, item_at, entry_at, order_at, var_is, len_is, item_is, entry_is, order_is, reads, sets}
use Rattle.py_model.specs.Capture.{Capture, opening_in}
use Rattle.py_model.specs.Meaning.{Run, run, level, finished}
use Rattle.py_model.specs.Moment.{begins, does, enters, leaves, ends, normal_end, return_end, raise_end}
use Rattle.py_model.specs.Plan.{value, raised}
use Rattle.model_runs.specs.Words.{place, no_span, silent, summary, evaluated, depends, replayed}
use Rattle.slice_law.specs.Edges.{edge, by_data, by_control, by_jump}

abbrev pub r_unbound_by_except_tree : ScriptTree
r_unbound_by_except_tree = record { body = (more_suite (one_stmt 0 (place 1 1) no_span (def_form (codes "f") ([]) ([]) (more_suite (one_stmt 1 (place 2 5) no_span (assign_form (var_target (place 2 5) (codes "e")) (const_expr (place 2 9) (int_atom (pos 1))))) (more_suite (one_stmt 2 (place 3 5) no_span (try_form (more_suite (one_stmt 3 (place 4 9) no_span (raise_form (Some (call_expr (place 4 25) (var_expr (place 4 15) (codes "ValueError")) (more_exprs (const_expr (place 4 26) (text_atom (codes "v"))) end_exprs))))) end_suite) (more_handlers (Some (var_expr (place 5 12) (codes "ValueError"))) (Some (record { at = (place 5 26); name = (codes "e") })) (more_suite (one_stmt 4 (place 6 9) no_span pass_form) end_suite) end_handlers))) (more_suite (one_stmt 5 (place 7 5) no_span (try_form (more_suite (one_stmt 6 (place 8 9) no_span (return_form (Some (var_expr (place 8 16) (codes "e"))))) end_suite) (more_handlers (Some (var_expr (place 9 12) (codes "UnboundLocalError"))) (Some (record { at = (place 9 33); name = (codes "x") })) (more_suite (one_stmt 7 (place 10 9) no_span (return_form (Some (call_expr (place 10 19) (var_expr (place 10 16) (codes "str")) (more_exprs (var_expr (place 10 20) (codes "x")) end_exprs))))) end_suite) end_handlers))) end_suite))))) (more_suite (one_stmt 8 (place 11 1) no_span (do_form (call_expr (place 11 6) (var_expr (place 11 1) (codes "print")) (more_exprs (call_expr (place 11 8) (var_expr (place 11 7) (codes "f")) end_exprs) end_exprs)))) (more_suite (one_stmt 9 (place 12 1) no_span (try_form (more_suite (one_stmt 10 (place 13 5) no_span (do_form (part_expr (place 13 8) (list_expr (place 13 5) (more_exprs (const_expr (place 13 6) (int_atom (pos 1))) end_exprs)) (const_expr (place 13 9) (int_atom (pos 2)))))) end_suite) (more_handlers (Some (var_expr (place 14 8) (codes "IndexError"))) (Some (record { at = (place 14 22); name = (codes "e") })) (more_suite (one_stmt 11 (place 15 5) no_span (del_form (var_target (place 15 9) (codes "e")))) end_suite) end_handlers))) (more_suite (one_stmt 12 (place 16 1) no_span (try_form (more_suite (one_stmt 13 (place 17 5) no_span (do_form (call_expr (place 17 10) (var_expr (place 17 5) (codes "print")) (more_exprs (var_expr (place 17 11) (codes "e")) end_exprs)))) end_suite) (more_handlers (Some (var_expr (place 18 8) (codes "NameError"))) (Some (record { at = (place 18 21); name = (codes "x") })) (more_suite (one_stmt 14 (place 19 5) no_span (do_form (call_expr (place 19 10) (var_expr (place 19 5) (codes "print")) (more_exprs (var_expr (place 19 11) (codes "x")) end_exprs)))) end_suite) end_handlers))) end_suite)))); count = 15 }

abbrev pub r_unbound_by_except_capture : Capture
r_unbound_by_except_capture = record { answers = ([]); files = ([]); ends = silent }

abbrev pub r_unbound_by_except_run : Run
r_unbound_by_except_run = run r_unbound_by_except_tree (codes "s.py") ([]) r_unbound_by_except_capture 1000000

r_unbound_by_except : summary r_unbound_by_except_run ≡ record { end = finished; steps = 106; output = (codes "local name 'e' is not set" ++ (10 ∷ []) ++ codes "name 'e' is not defined" ++ (10 ∷ [])); finals = ([]) }
unfolding is_utf8 chars encode_utf8 level
r_unbound_by_except = refl

r_unbound_by_except_moments : r_unbound_by_except_run.moments ≡
    begins 0
    ∷ does (place 1 1) 42 ([]) (value nothing) None ((sets (var_at 0 (codes "f")) (var_is (Some (function (place 1 1))))) ∷ []) 0
    ∷ ends 0 normal_end
    ∷ begins 8
    ∷ does (place 11 1) 1 ([]) (value (builtin 14)) None ((reads (var_at 0 (codes "print"))) ∷ []) 0
    ∷ does (place 11 7) 1 ([]) (value (function (place 1 1))) None ((reads (var_at 0 (codes "f"))) ∷ []) 0
    ∷ enters (place 11 8) (place 1 1) ([]) ([])
    ∷ begins 1
    ∷ does (place 2 9) 0 ([]) (value (int (pos 1))) None ([]) 0
    ∷ does (place 2 5) 33 ((int (pos 1)) ∷ []) (value nothing) None ((sets (var_at 1 (codes "e")) (var_is (Some (int (pos 1))))) ∷ []) 0
    ∷ ends 1 normal_end
    ∷ begins 2
    ∷ begins 3
    ∷ does (place 4 15) 1 ([]) (value (exception_class 10)) None ((reads (var_at 0 (codes "ValueError"))) ∷ []) 0
    ∷ does (place 4 26) 0 ([]) (value (text (codes "v"))) None ([]) 0
    ∷ does (place 4 25) 39 ((exception_class 10) ∷ (text (codes "v")) ∷ []) (value (object 1)) (Some (an_instance (exception_class 10))) ((sets (order_at 1) (order_is ((text (codes "args")) ∷ []))) ∷ (sets (entry_at 1 (text (codes "args"))) (entry_is (Some ((text (codes "args")), (tuple (part (text (codes "v")) no_parts)))))) ∷ []) 0
    ∷ does (place 4 25) 2 ((object 1) ∷ []) (value (object 1)) None ([]) 0
    ∷ does (place 4 9) 40 ((object 1) ∷ []) (raised 1) None ([]) 0
    ∷ ends 3 raise_end
    ∷ does (place 5 12) 1 ([]) (value (exception_class 10)) None ((reads (var_at 0 (codes "ValueError"))) ∷ []) 0
    ∷ does (place 3 5) 41 ((object 1) ∷ (exception_class 10) ∷ []) (value (truth true)) None ([]) 0
    ∷ does (place 5 26) 33 ((object 1) ∷ []) (value nothing) None ((sets (var_at 1 (codes "e")) (var_is (Some (object 1)))) ∷ []) 0
    ∷ begins 4
    ∷ ends 4 normal_end
    ∷ does (place 5 26) 34 ([]) (value nothing) None ((reads (var_at 1 (codes "e"))) ∷ (sets (var_at 1 (codes "e")) (var_is None)) ∷ []) 0
    ∷ ends 2 normal_end
    ∷ begins 5
    ∷ begins 6
    ∷ does (place 8 16) 1 ([]) (raised 2) (Some (an_instance (exception_class 8))) ((reads (var_at 1 (codes "e"))) ∷ (sets (order_at 2) (order_is ((text (codes "args")) ∷ []))) ∷ (sets (entry_at 2 (text (codes "args"))) (entry_is (Some ((text (codes "args")), (tuple (part (text (codes "local name 'e' is not set")) no_parts)))))) ∷ []) 0
    ∷ ends 6 raise_end
    ∷ does (place 9 12) 1 ([]) (value (exception_class 8)) None ((reads (var_at 0 (codes "UnboundLocalError"))) ∷ []) 0
    ∷ does (place 7 5) 41 ((object 2) ∷ (exception_class 8) ∷ []) (value (truth true)) None ([]) 0
    ∷ does (place 9 33) 33 ((object 2) ∷ []) (value nothing) None ((sets (var_at 1 (codes "x")) (var_is (Some (object 2)))) ∷ []) 0
    ∷ begins 7
    ∷ does (place 10 16) 1 ([]) (value (builtin 18)) None ((reads (var_at 0 (codes "str"))) ∷ []) 0
    ∷ does (place 10 20) 1 ([]) (value (object 2)) None ((reads (var_at 1 (codes "x"))) ∷ []) 0
    ∷ does (place 10 19) 68 ((object 2) ∷ []) (value (text (codes "local name 'e' is not set"))) None ((reads (entry_at 2 (text (codes "args")))) ∷ []) 2
    ∷ ends 7 return_end
    ∷ does (place 9 33) 34 ([]) (value nothing) None ((reads (var_at 1 (codes "x"))) ∷ (sets (var_at 1 (codes "x")) (var_is None)) ∷ []) 0
    ∷ ends 5 return_end
    ∷ leaves (text (codes "local name 'e' is not set"))
    ∷ does (place 11 8) 2 ((text (codes "local name 'e' is not set")) ∷ []) (value (text (codes "local name 'e' is not set"))) None ([]) 0
    ∷ does (place 11 6) 64 ((text (codes "local name 'e' is not set")) ∷ []) (value nothing) None ([]) 1
    ∷ ends 8 normal_end
    ∷ begins 9
    ∷ begins 10
    ∷ does (place 13 6) 0 ([]) (value (int (pos 1))) None ([]) 0
    ∷ does (place 13 5) 23 ((int (pos 1)) ∷ []) (value (object 3)) (Some a_list) ((sets (len_at 3) (len_is 1)) ∷ (sets (item_at 3 0) (item_is (int (pos 1)))) ∷ []) 0
    ∷ does (place 13 9) 0 ([]) (value (int (pos 2))) None ([]) 0
    ∷ does (place 13 8) 26 ((object 3) ∷ (int (pos 2)) ∷ []) (raised 4) (Some (an_instance (exception_class 5))) ((reads (len_at 3)) ∷ (sets (order_at 4) (order_is ((text (codes "args")) ∷ []))) ∷ (sets (entry_at 4 (text (codes "args"))) (entry_is (Some ((text (codes "args")), (tuple (part (text (codes "index out of range")) no_parts)))))) ∷ []) 0
    ∷ ends 10 raise_end
    ∷ does (place 14 8) 1 ([]) (value (exception_class 5)) None ((reads (var_at 0 (codes "IndexError"))) ∷ []) 0
    ∷ does (place 12 1) 41 ((object 4) ∷ (exception_class 5) ∷ []) (value (truth true)) None ([]) 0
    ∷ does (place 14 22) 33 ((object 4) ∷ []) (value nothing) None ((sets (var_at 0 (codes "e")) (var_is (Some (object 4)))) ∷ []) 0
    ∷ begins 11
    ∷ does (place 15 9) 34 ([]) (value nothing) None ((reads (var_at 0 (codes "e"))) ∷ (sets (var_at 0 (codes "e")) (var_is None)) ∷ []) 0
    ∷ ends 11 normal_end
    ∷ does (place 14 22) 34 ([]) (value nothing) None ((reads (var_at 0 (codes "e"))) ∷ (sets (var_at 0 (codes "e")) (var_is None)) ∷ []) 0
    ∷ ends 9 normal_end
    ∷ begins 12
    ∷ begins 13
    ∷ does (place 17 5) 1 ([]) (value (builtin 14)) None ((reads (var_at 0 (codes "print"))) ∷ []) 0
    ∷ does (place 17 11) 1 ([]) (raised 5) (Some (an_instance (exception_class 7))) ((reads (var_at 0 (codes "e"))) ∷ (sets (order_at 5) (order_is ((text (codes "args")) ∷ []))) ∷ (sets (entry_at 5 (text (codes "args"))) (entry_is (Some ((text (codes "args")), (tuple (part (text (codes "name 'e' is not defined")) no_parts)))))) ∷ []) 0
    ∷ ends 13 raise_end
    ∷ does (place 18 8) 1 ([]) (value (exception_class 7)) None ((reads (var_at 0 (codes "NameError"))) ∷ []) 0
    ∷ does (place 16 1) 41 ((object 5) ∷ (exception_class 7) ∷ []) (value (truth true)) None ([]) 0
    ∷ does (place 18 21) 33 ((object 5) ∷ []) (value nothing) None ((sets (var_at 0 (codes "x")) (var_is (Some (object 5)))) ∷ []) 0
    ∷ begins 14
    ∷ does (place 19 5) 1 ([]) (value (builtin 14)) None ((reads (var_at 0 (codes "print"))) ∷ []) 0
    ∷ does (place 19 11) 1 ([]) (value (object 5)) None ((reads (var_at 0 (codes "x"))) ∷ []) 0
    ∷ does (place 19 10) 64 ((object 5) ∷ []) (value nothing) None ((reads (entry_at 5 (text (codes "args")))) ∷ []) 2
    ∷ ends 14 normal_end
    ∷ does (place 18 21) 34 ([]) (value nothing) None ((reads (var_at 0 (codes "x"))) ∷ (sets (var_at 0 (codes "x")) (var_is None)) ∷ []) 0
    ∷ ends 12 normal_end
    ∷ []
unfolding is_utf8 chars encode_utf8 level
r_unbound_by_except_moments = refl

r_unbound_by_except_values : evaluated r_unbound_by_except_tree (opening_in r_unbound_by_except_capture (codes "s.py") ([])) (reverse r_unbound_by_except_run.moments) ((place 2 9, 1) ∷ (place 5 12, 1) ∷ (place 10 20, 1) ∷ (place 13 5, 1) ∷ (place 19 10, 1) ∷ []) ≡ (Some ((codes "1"), 11) ∷ Some ((codes "<class ValueError>"), 25) ∷ Some ((codes "#1=UnboundLocalError(args=#2=(" ++ (34 ∷ []) ++ codes "local name 'e' is not set" ++ (34 ∷ []) ++ codes ",))"), 48) ∷ Some ((codes "#1=[1]"), 64) ∷ Some ((codes "None"), 103) ∷ [])
unfolding is_utf8 chars encode_utf8 level
r_unbound_by_except_values = refl

r_unbound_by_except_replays : replayed r_unbound_by_except_tree r_unbound_by_except_capture (codes "s.py") ([]) 106 (reverse r_unbound_by_except_run.moments) ((place 2 9, 1) ∷ (place 5 12, 1) ∷ (place 10 20, 1) ∷ (place 13 5, 1) ∷ (place 19 10, 1) ∷ []) ≡ (Some ((codes "1"), 11) ∷ Some ((codes "<class ValueError>"), 21) ∷ Some ((codes "#1=UnboundLocalError(args=#2=(" ++ (34 ∷ []) ++ codes "local name 'e' is not set" ++ (34 ∷ []) ++ codes ",))"), 44) ∷ Some ((codes "#1=[1]"), 6) ∷ Some ((codes "None"), 45) ∷ [])
unfolding is_utf8 chars encode_utf8 level
r_unbound_by_except_replays = refl

r_unbound_by_except_dataflow : depends r_unbound_by_except_tree (reverse r_unbound_by_except_run.moments) (edge by_control 1 0 ∷ edge by_control 1 8 ∷ edge by_control 2 0 ∷ edge by_data 2 2 ∷ edge by_jump 2 3 ∷ edge by_control 2 8 ∷ edge by_control 3 2 ∷ edge by_control 3 8 ∷ edge by_control 4 2 ∷ edge by_control 4 8 ∷ edge by_control 5 0 ∷ edge by_data 5 5 ∷ edge by_jump 5 6 ∷ edge by_jump 5 7 ∷ edge by_control 5 8 ∷ edge by_data 6 2 ∷ edge by_control 6 5 ∷ edge by_control 6 8 ∷ edge by_data 7 5 ∷ edge by_control 7 5 ∷ edge by_data 7 6 ∷ edge by_control 7 8 ∷ edge by_data 8 0 ∷ edge by_jump 8 5 ∷ edge by_jump 9 10 ∷ edge by_data 9 11 ∷ edge by_control 10 9 ∷ edge by_data 10 10 ∷ edge by_data 11 9 ∷ edge by_control 11 9 ∷ edge by_data 12 12 ∷ edge by_jump 12 13 ∷ edge by_data 13 9 ∷ edge by_control 13 12 ∷ edge by_data 14 12 ∷ edge by_control 14 12 ∷ edge by_data 14 13 ∷ []) ≡ (true, true)
unfolding is_utf8 chars encode_utf8 level
r_unbound_by_except_dataflow = refl
