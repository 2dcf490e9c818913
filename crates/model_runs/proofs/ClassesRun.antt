-- Runs of scripts, as theorems that hold by computation: their ends, steps, output and files, and all of their moments.
-- Written by tools/run_vectors.py from scripts with what is expected of them.
use Rattle.std.proofs.Common.{◌≡◌, [], ◌∷◌, ◌++◌, Some, None, codes, refl}
use Rattle.std.specs.Prelude.{pos, true, false, reverse}
use Rattle.std.specs.Str.{chars, is_utf8}
use Rattle.std.specs.Char.{encode_utf8}
use Rattle.py_tree.specs.declared.expr.Atom.TheVariants.{Bool as truth_atom, Int as int_atom, Text as text_atom}
use Rattle.py_tree.specs.declared.expr.BinOp.TheVariants.{Add, Mul}
use Rattle.py_tree.specs.Tree.{const_expr, var_expr, binary_expr, call_expr, attr_expr, part_expr, list_expr, dict_expr, tuple_expr, end_exprs, more_exprs, end_pairs, var_target, field_target, one_stmt, do_form, assign_form, aug_form, pass_form, return_form, try_form, def_form, class_form, end_suite, more_suite, end_handlers, more_handlers, ScriptTree}
use Rattle.py_value.specs.Contents.{nothing, truth, int, text, tuple, function, class, exception_class, builtin, object, no_parts, part}
use Rattle.py_value.specs.Seen.{a_list, a_dict, an_instance, var_at, len_at, item_at, entry_at, order_at, method_at, base_at, var_is, len_is, item_is, entry_is, order_is, method_is, base_is, key_inserted, reads, sets, updates}
use Rattle.py_model.specs.Capture.{Capture, opening_in}
use Rattle.py_model.specs.Meaning.{Run, run, level, finished}
use Rattle.py_model.specs.Moment.{begins, does, enters, leaves, ends, normal_end, return_end, raise_end}
use Rattle.py_model.specs.Plan.{value, raised}
use Rattle.model_runs.specs.Words.{place, no_span, silent, summary, evaluated}

abbrev pub r_classes_tree : ScriptTree
r_classes_tree = record { body = (more_suite (one_stmt 0 (place 1 1) no_span (class_form (codes "Base") None (more_suite (one_stmt 1 (place 2 5) no_span (do_form (const_expr (place 2 5) (text_atom (codes "a base"))))) (more_suite (one_stmt 2 (place 3 5) no_span (def_form (codes "__init__") ((codes "self") ∷ (codes "x") ∷ []) ([]) (more_suite (one_stmt 3 (place 4 9) no_span (assign_form (field_target (place 4 13) (var_expr (place 4 9) (codes "self")) (codes "x")) (var_expr (place 4 18) (codes "x")))) end_suite))) (more_suite (one_stmt 4 (place 5 5) no_span (def_form (codes "get") ((codes "self") ∷ []) ([]) (more_suite (one_stmt 5 (place 6 9) no_span (return_form (Some (attr_expr (place 6 20) (var_expr (place 6 16) (codes "self")) (codes "x"))))) end_suite))) (more_suite (one_stmt 6 (place 7 5) no_span (def_form (codes "twice") ((codes "self") ∷ []) ([]) (more_suite (one_stmt 7 (place 8 9) no_span (return_form (Some (binary_expr (place 8 27) Mul (call_expr (place 8 24) (attr_expr (place 8 20) (var_expr (place 8 16) (codes "self")) (codes "get")) end_exprs) (const_expr (place 8 29) (int_atom (pos 2))))))) end_suite))) end_suite)))))) (more_suite (one_stmt 8 (place 10 1) no_span (class_form (codes "Sub") (Some (var_expr (place 10 11) (codes "Base"))) (more_suite (one_stmt 9 (place 11 5) no_span (def_form (codes "get") ((codes "self") ∷ []) ([]) (more_suite (one_stmt 10 (place 12 9) no_span (return_form (Some (binary_expr (place 12 23) Add (attr_expr (place 12 20) (var_expr (place 12 16) (codes "self")) (codes "x")) (const_expr (place 12 25) (int_atom (pos 1))))))) end_suite))) end_suite))) (more_suite (one_stmt 11 (place 14 1) no_span (class_form (codes "Bare") None (more_suite (one_stmt 12 (place 15 5) no_span pass_form) end_suite))) (more_suite (one_stmt 13 (place 17 1) no_span (assign_form (var_target (place 17 1) (codes "a")) (call_expr (place 17 9) (var_expr (place 17 5) (codes "Base")) (more_exprs (const_expr (place 17 10) (int_atom (pos 5))) end_exprs)))) (more_suite (one_stmt 14 (place 18 1) no_span (assign_form (var_target (place 18 1) (codes "b")) (call_expr (place 18 8) (var_expr (place 18 5) (codes "Sub")) (more_exprs (const_expr (place 18 9) (int_atom (pos 5))) end_exprs)))) (more_suite (one_stmt 15 (place 19 1) no_span (assign_form (field_target (place 19 2) (var_expr (place 19 1) (codes "b")) (codes "y")) (list_expr (place 19 7) (more_exprs (var_expr (place 19 8) (codes "a")) end_exprs)))) (more_suite (one_stmt 16 (place 20 1) no_span (aug_form (field_target (place 20 2) (var_expr (place 20 1) (codes "b")) (codes "x")) Add (place 20 5) (const_expr (place 20 8) (int_atom (pos 10))))) (more_suite (one_stmt 17 (place 21 1) no_span (do_form (call_expr (place 21 6) (var_expr (place 21 1) (codes "print")) (more_exprs (call_expr (place 21 12) (attr_expr (place 21 8) (var_expr (place 21 7) (codes "a")) (codes "get")) end_exprs) (more_exprs (call_expr (place 21 21) (attr_expr (place 21 17) (var_expr (place 21 16) (codes "b")) (codes "get")) end_exprs) (more_exprs (call_expr (place 21 32) (attr_expr (place 21 26) (var_expr (place 21 25) (codes "b")) (codes "twice")) end_exprs) (more_exprs (call_expr (place 21 44) (attr_expr (place 21 40) (var_expr (place 21 36) (codes "Base")) (codes "get")) (more_exprs (var_expr (place 21 45) (codes "b")) end_exprs)) (more_exprs (call_expr (place 21 59) (var_expr (place 21 49) (codes "isinstance")) (more_exprs (var_expr (place 21 60) (codes "b")) (more_exprs (var_expr (place 21 63) (codes "Base")) end_exprs))) (more_exprs (call_expr (place 21 80) (var_expr (place 21 70) (codes "isinstance")) (more_exprs (var_expr (place 21 81) (codes "a")) (more_exprs (tuple_expr (place 21 88) (more_exprs (var_expr (place 21 85) (codes "int")) (more_exprs (var_expr (place 21 90) (codes "Sub")) end_exprs))) end_exprs))) (more_exprs (call_expr (place 21 107) (var_expr (place 21 97) (codes "isinstance")) (more_exprs (list_expr (place 21 108) end_exprs) (more_exprs (var_expr (place 21 112) (codes "list")) end_exprs))) end_exprs)))))))))) (more_suite (one_stmt 18 (place 22 1) no_span (do_form (call_expr (place 22 6) (var_expr (place 22 1) (codes "print")) (more_exprs (var_expr (place 22 7) (codes "b")) (more_exprs (var_expr (place 22 10) (codes "Sub")) (more_exprs (attr_expr (place 22 16) (var_expr (place 22 15) (codes "a")) (codes "x")) (more_exprs (attr_expr (place 22 26) (part_expr (place 22 23) (attr_expr (place 22 21) (var_expr (place 22 20) (codes "b")) (codes "y")) (const_expr (place 22 24) (int_atom (pos 0)))) (codes "x")) end_exprs))))))) (more_suite (one_stmt 19 (place 23 1) no_span (assign_form (var_target (place 23 1) (codes "c")) (call_expr (place 23 9) (var_expr (place 23 5) (codes "Bare")) end_exprs))) (more_suite (one_stmt 20 (place 24 1) no_span (assign_form (field_target (place 24 2) (var_expr (place 24 1) (codes "c")) (codes "f")) (var_expr (place 24 7) (codes "len")))) (more_suite (one_stmt 21 (place 25 1) no_span (do_form (call_expr (place 25 6) (var_expr (place 25 1) (codes "print")) (more_exprs (call_expr (place 25 10) (attr_expr (place 25 8) (var_expr (place 25 7) (codes "c")) (codes "f")) (more_exprs (list_expr (place 25 11) (more_exprs (const_expr (place 25 12) (int_atom (pos 1))) (more_exprs (const_expr (place 25 15) (int_atom (pos 2))) end_exprs))) end_exprs)) (more_exprs (call_expr (place 25 30) (var_expr (place 25 20) (codes "isinstance")) (more_exprs (const_expr (place 25 31) (truth_atom true)) (more_exprs (var_expr (place 25 37) (codes "int")) end_exprs))) (more_exprs (call_expr (place 25 53) (var_expr (place 25 43) (codes "isinstance")) (more_exprs (const_expr (place 25 54) (text_atom (codes "s"))) (more_exprs (var_expr (place 25 59) (codes "str")) end_exprs))) (more_exprs (call_expr (place 25 75) (var_expr (place 25 65) (codes "isinstance")) (more_exprs (dict_expr (place 25 76) end_pairs) (more_exprs (var_expr (place 25 80) (codes "dict")) end_exprs))) (more_exprs (call_expr (place 25 97) (var_expr (place 25 87) (codes "isinstance")) (more_exprs (tuple_expr (place 25 98) end_exprs) (more_exprs (var_expr (place 25 102) (codes "tuple")) end_exprs))) (more_exprs (call_expr (place 25 120) (var_expr (place 25 110) (codes "isinstance")) (more_exprs (const_expr (place 25 121) (int_atom (pos 1))) (more_exprs (var_expr (place 25 124) (codes "bool")) end_exprs))) end_exprs))))))))) (more_suite (one_stmt 22 (place 26 1) no_span (try_form (more_suite (one_stmt 23 (place 27 5) no_span (do_form (attr_expr (place 27 6) (var_expr (place 27 5) (codes "c")) (codes "nothing")))) end_suite) (more_handlers (Some (var_expr (place 28 8) (codes "AttributeError"))) (Some (record { at = (place 28 26); name = (codes "e") })) (more_suite (one_stmt 24 (place 29 5) no_span (do_form (call_expr (place 29 10) (var_expr (place 29 5) (codes "print")) (more_exprs (var_expr (place 29 11) (codes "e")) end_exprs)))) end_suite) end_handlers))) (more_suite (one_stmt 25 (place 30 1) no_span (try_form (more_suite (one_stmt 26 (place 31 5) no_span (do_form (call_expr (place 31 9) (var_expr (place 31 5) (codes "Base")) end_exprs))) end_suite) (more_handlers (Some (var_expr (place 32 8) (codes "TypeError"))) (Some (record { at = (place 32 21); name = (codes "e") })) (more_suite (one_stmt 27 (place 33 5) no_span (do_form (call_expr (place 33 10) (var_expr (place 33 5) (codes "print")) (more_exprs (var_expr (place 33 11) (codes "e")) end_exprs)))) end_suite) end_handlers))) (more_suite (one_stmt 28 (place 34 1) no_span (try_form (more_suite (one_stmt 29 (place 35 5) no_span (do_form (call_expr (place 35 9) (var_expr (place 35 5) (codes "Bare")) (more_exprs (const_expr (place 35 10) (int_atom (pos 1))) end_exprs)))) end_suite) (more_handlers (Some (var_expr (place 36 8) (codes "TypeError"))) (Some (record { at = (place 36 21); name = (codes "e") })) (more_suite (one_stmt 30 (place 37 5) no_span (do_form (call_expr (place 37 10) (var_expr (place 37 5) (codes "print")) (more_exprs (var_expr (place 37 11) (codes "e")) end_exprs)))) end_suite) end_handlers))) (more_suite (one_stmt 31 (place 38 1) no_span (try_form (more_suite (one_stmt 32 (place 39 5) no_span (do_form (attr_expr (place 39 6) (var_expr (place 39 5) (codes "a")) (codes "get")))) end_suite) (more_handlers (Some (var_expr (place 40 8) (codes "NotImplementedError"))) (Some (record { at = (place 40 31); name = (codes "e") })) (more_suite (one_stmt 33 (place 41 5) no_span (do_form (call_expr (place 41 10) (var_expr (place 41 5) (codes "print")) (more_exprs (var_expr (place 41 11) (codes "e")) end_exprs)))) end_suite) end_handlers))) end_suite)))))))))))))))); count = 34 }

abbrev pub r_classes_capture : Capture
r_classes_capture = record { answers = ([]); files = ([]); ends = silent }

abbrev pub r_classes_run : Run
r_classes_run = run r_classes_tree (codes "s.py") ([]) r_classes_capture 1000000

r_classes : summary r_classes_run ≡ record { end = finished; steps = 410; output = (codes "5 16 32 15 True False True" ++ (10 ∷ []) ++ codes "<Sub object> <class Sub> 5 5" ++ (10 ∷ []) ++ codes "2 True True True True False" ++ (10 ∷ []) ++ codes "no attribute 'nothing'" ++ (10 ∷ []) ++ codes "wrong number of arguments" ++ (10 ∷ []) ++ codes "wrong number of arguments" ++ (10 ∷ []) ++ codes "not in this profile" ++ (10 ∷ [])); finals = ([]) }
unfolding is_utf8 chars encode_utf8 level
r_classes = refl

r_classes_moments : r_classes_run.moments ≡
    begins 0
    ∷ does (place 1 1) 43 ([]) (value (class (place 1 1))) None ((sets (base_at (place 1 1)) (base_is None)) ∷ []) 0
    ∷ begins 1
    ∷ does (place 2 5) 0 ([]) (value (text (codes "a base"))) None ([]) 0
    ∷ ends 1 normal_end
    ∷ begins 2
    ∷ does (place 3 5) 42 ((class (place 1 1)) ∷ []) (value nothing) None ((sets (method_at (place 1 1) (codes "__init__")) (method_is (place 3 5))) ∷ []) 0
    ∷ ends 2 normal_end
    ∷ begins 4
    ∷ does (place 5 5) 42 ((class (place 1 1)) ∷ []) (value nothing) None ((sets (method_at (place 1 1) (codes "get")) (method_is (place 5 5))) ∷ []) 0
    ∷ ends 4 normal_end
    ∷ begins 6
    ∷ does (place 7 5) 42 ((class (place 1 1)) ∷ []) (value nothing) None ((sets (method_at (place 1 1) (codes "twice")) (method_is (place 7 5))) ∷ []) 0
    ∷ ends 6 normal_end
    ∷ does (place 1 1) 33 ((class (place 1 1)) ∷ []) (value nothing) None ((sets (var_at 0 (codes "Base")) (var_is (Some (class (place 1 1))))) ∷ []) 0
    ∷ ends 0 normal_end
    ∷ begins 8
    ∷ does (place 10 11) 1 ([]) (value (class (place 1 1))) None ((reads (var_at 0 (codes "Base"))) ∷ []) 0
    ∷ does (place 10 1) 43 ((class (place 1 1)) ∷ []) (value (class (place 10 1))) None ((sets (base_at (place 10 1)) (base_is (Some (class (place 1 1))))) ∷ []) 0
    ∷ begins 9
    ∷ does (place 11 5) 42 ((class (place 10 1)) ∷ []) (value nothing) None ((sets (method_at (place 10 1) (codes "get")) (method_is (place 11 5))) ∷ []) 0
    ∷ ends 9 normal_end
    ∷ does (place 10 1) 33 ((class (place 10 1)) ∷ []) (value nothing) None ((sets (var_at 0 (codes "Sub")) (var_is (Some (class (place 10 1))))) ∷ []) 0
    ∷ ends 8 normal_end
    ∷ begins 11
    ∷ does (place 14 1) 43 ([]) (value (class (place 14 1))) None ((sets (base_at (place 14 1)) (base_is None)) ∷ []) 0
    ∷ begins 12
    ∷ ends 12 normal_end
    ∷ does (place 14 1) 33 ((class (place 14 1)) ∷ []) (value nothing) None ((sets (var_at 0 (codes "Bare")) (var_is (Some (class (place 14 1))))) ∷ []) 0
    ∷ ends 11 normal_end
    ∷ begins 13
    ∷ does (place 17 5) 1 ([]) (value (class (place 1 1))) None ((reads (var_at 0 (codes "Base"))) ∷ []) 0
    ∷ does (place 17 10) 0 ([]) (value (int (pos 5))) None ([]) 0
    ∷ does (place 17 9) 39 ((class (place 1 1)) ∷ (int (pos 5)) ∷ []) (value (object 1)) (Some (an_instance (class (place 1 1)))) ((reads (method_at (place 1 1) (codes "__init__"))) ∷ (reads (base_at (place 1 1))) ∷ (sets (order_at 1) (order_is ([]))) ∷ []) 0
    ∷ enters (place 17 9) (place 3 5) ((object 1) ∷ (int (pos 5)) ∷ []) ((sets (var_at 1 (codes "self")) (var_is (Some (object 1)))) ∷ (sets (var_at 1 (codes "x")) (var_is (Some (int (pos 5))))) ∷ [])
    ∷ begins 3
    ∷ does (place 4 18) 1 ([]) (value (int (pos 5))) None ((reads (var_at 1 (codes "x"))) ∷ []) 0
    ∷ does (place 4 9) 1 ([]) (value (object 1)) None ((reads (var_at 1 (codes "self"))) ∷ []) 0
    ∷ does (place 4 13) 31 ((object 1) ∷ (int (pos 5)) ∷ []) (value nothing) None ((reads (entry_at 1 (text (codes "x")))) ∷ (sets (entry_at 1 (text (codes "x"))) (entry_is (Some ((text (codes "x")), (int (pos 5)))))) ∷ (updates (order_at 1) (key_inserted (text (codes "x")))) ∷ []) 0
    ∷ ends 3 normal_end
    ∷ leaves nothing
    ∷ does (place 17 9) 2 ((object 1) ∷ []) (value (object 1)) None ([]) 0
    ∷ does (place 17 1) 33 ((object 1) ∷ []) (value nothing) None ((sets (var_at 0 (codes "a")) (var_is (Some (object 1)))) ∷ []) 0
    ∷ ends 13 normal_end
    ∷ begins 14
    ∷ does (place 18 5) 1 ([]) (value (class (place 10 1))) None ((reads (var_at 0 (codes "Sub"))) ∷ []) 0
    ∷ does (place 18 9) 0 ([]) (value (int (pos 5))) None ([]) 0
    ∷ does (place 18 8) 39 ((class (place 10 1)) ∷ (int (pos 5)) ∷ []) (value (object 2)) (Some (an_instance (class (place 10 1)))) ((reads (method_at (place 10 1) (codes "__init__"))) ∷ (reads (base_at (place 10 1))) ∷ (reads (method_at (place 1 1) (codes "__init__"))) ∷ (reads (base_at (place 10 1))) ∷ (reads (base_at (place 1 1))) ∷ (sets (order_at 2) (order_is ([]))) ∷ []) 0
    ∷ enters (place 18 8) (place 3 5) ((object 2) ∷ (int (pos 5)) ∷ []) ((sets (var_at 2 (codes "self")) (var_is (Some (object 2)))) ∷ (sets (var_at 2 (codes "x")) (var_is (Some (int (pos 5))))) ∷ [])
    ∷ begins 3
    ∷ does (place 4 18) 1 ([]) (value (int (pos 5))) None ((reads (var_at 2 (codes "x"))) ∷ []) 0
    ∷ does (place 4 9) 1 ([]) (value (object 2)) None ((reads (var_at 2 (codes "self"))) ∷ []) 0
    ∷ does (place 4 13) 31 ((object 2) ∷ (int (pos 5)) ∷ []) (value nothing) None ((reads (entry_at 2 (text (codes "x")))) ∷ (sets (entry_at 2 (text (codes "x"))) (entry_is (Some ((text (codes "x")), (int (pos 5)))))) ∷ (updates (order_at 2) (key_inserted (text (codes "x")))) ∷ []) 0
    ∷ ends 3 normal_end
    ∷ leaves nothing
    ∷ does (place 18 8) 2 ((object 2) ∷ []) (value (object 2)) None ([]) 0
    ∷ does (place 18 1) 33 ((object 2) ∷ []) (value nothing) None ((sets (var_at 0 (codes "b")) (var_is (Some (object 2)))) ∷ []) 0
    ∷ ends 14 normal_end
    ∷ begins 15
    ∷ does (place 19 8) 1 ([]) (value (object 1)) None ((reads (var_at 0 (codes "a"))) ∷ []) 0
    ∷ does (place 19 7) 23 ((object 1) ∷ []) (value (object 3)) (Some a_list) ((sets (len_at 3) (len_is 1)) ∷ (sets (item_at 3 0) (item_is (object 1))) ∷ []) 0
    ∷ does (place 19 1) 1 ([]) (value (object 2)) None ((reads (var_at 0 (codes "b"))) ∷ []) 0
    ∷ does (place 19 2) 31 ((object 2) ∷ (object 3) ∷ []) (value nothing) None ((reads (entry_at 2 (text (codes "y")))) ∷ (sets (entry_at 2 (text (codes "y"))) (entry_is (Some ((text (codes "y")), (object 3))))) ∷ (updates (order_at 2) (key_inserted (text (codes "y")))) ∷ []) 0
    ∷ ends 15 normal_end
    ∷ begins 16
    ∷ does (place 20 1) 1 ([]) (value (object 2)) None ((reads (var_at 0 (codes "b"))) ∷ []) 0
    ∷ does (place 20 2) 30 ((object 2) ∷ []) (value (int (pos 5))) None ((reads (entry_at 2 (text (codes "x")))) ∷ []) 0
    ∷ does (place 20 8) 0 ([]) (value (int (pos 10))) None ([]) 0
    ∷ does (place 20 5) 22 ((int (pos 5)) ∷ (int (pos 10)) ∷ []) (value (int (pos 15))) None ([]) 0
    ∷ does (place 20 2) 31 ((object 2) ∷ (int (pos 15)) ∷ []) (value nothing) None ((reads (entry_at 2 (text (codes "x")))) ∷ (sets (entry_at 2 (text (codes "x"))) (entry_is (Some ((text (codes "x")), (int (pos 15)))))) ∷ []) 0
    ∷ ends 16 normal_end
    ∷ begins 17
    ∷ does (place 21 1) 1 ([]) (value (builtin 14)) None ((reads (var_at 0 (codes "print"))) ∷ []) 0
    ∷ does (place 21 7) 1 ([]) (value (object 1)) None ((reads (var_at 0 (codes "a"))) ∷ []) 0
    ∷ does (place 21 8) 32 ((object 1) ∷ []) (value (function (place 5 5))) None ((reads (entry_at 1 (text (codes "get")))) ∷ (reads (method_at (place 1 1) (codes "get"))) ∷ []) 0
    ∷ enters (place 21 12) (place 5 5) ((object 1) ∷ []) ((sets (var_at 3 (codes "self")) (var_is (Some (object 1)))) ∷ [])
    ∷ begins 5
    ∷ does (place 6 16) 1 ([]) (value (object 1)) None ((reads (var_at 3 (codes "self"))) ∷ []) 0
    ∷ does (place 6 20) 30 ((object 1) ∷ []) (value (int (pos 5))) None ((reads (entry_at 1 (text (codes "x")))) ∷ []) 0
    ∷ ends 5 return_end
    ∷ leaves (int (pos 5))
    ∷ does (place 21 12) 2 ((int (pos 5)) ∷ []) (value (int (pos 5))) None ([]) 0
    ∷ does (place 21 16) 1 ([]) (value (object 2)) None ((reads (var_at 0 (codes "b"))) ∷ []) 0
    ∷ does (place 21 17) 32 ((object 2) ∷ []) (value (function (place 11 5))) None ((reads (entry_at 2 (text (codes "get")))) ∷ (reads (method_at (place 10 1) (codes "get"))) ∷ []) 0
    ∷ enters (place 21 21) (place 11 5) ((object 2) ∷ []) ((sets (var_at 4 (codes "self")) (var_is (Some (object 2)))) ∷ [])
    ∷ begins 10
    ∷ does (place 12 16) 1 ([]) (value (object 2)) None ((reads (var_at 4 (codes "self"))) ∷ []) 0
    ∷ does (place 12 20) 30 ((object 2) ∷ []) (value (int (pos 15))) None ((reads (entry_at 2 (text (codes "x")))) ∷ []) 0
    ∷ does (place 12 25) 0 ([]) (value (int (pos 1))) None ([]) 0
    ∷ does (place 12 23) 7 ((int (pos 15)) ∷ (int (pos 1)) ∷ []) (value (int (pos 16))) None ([]) 0
    ∷ ends 10 return_end
    ∷ leaves (int (pos 16))
    ∷ does (place 21 21) 2 ((int (pos 16)) ∷ []) (value (int (pos 16))) None ([]) 0
    ∷ does (place 21 25) 1 ([]) (value (object 2)) None ((reads (var_at 0 (codes "b"))) ∷ []) 0
    ∷ does (place 21 26) 32 ((object 2) ∷ []) (value (function (place 7 5))) None ((reads (entry_at 2 (text (codes "twice")))) ∷ (reads (method_at (place 10 1) (codes "twice"))) ∷ (reads (base_at (place 10 1))) ∷ (reads (method_at (place 1 1) (codes "twice"))) ∷ []) 0
    ∷ enters (place 21 32) (place 7 5) ((object 2) ∷ []) ((sets (var_at 5 (codes "self")) (var_is (Some (object 2)))) ∷ [])
    ∷ begins 7
    ∷ does (place 8 16) 1 ([]) (value (object 2)) None ((reads (var_at 5 (codes "self"))) ∷ []) 0
    ∷ does (place 8 20) 32 ((object 2) ∷ []) (value (function (place 11 5))) None ((reads (entry_at 2 (text (codes "get")))) ∷ (reads (method_at (place 10 1) (codes "get"))) ∷ []) 0
    ∷ enters (place 8 24) (place 11 5) ((object 2) ∷ []) ((sets (var_at 6 (codes "self")) (var_is (Some (object 2)))) ∷ [])
    ∷ begins 10
    ∷ does (place 12 16) 1 ([]) (value (object 2)) None ((reads (var_at 6 (codes "self"))) ∷ []) 0
    ∷ does (place 12 20) 30 ((object 2) ∷ []) (value (int (pos 15))) None ((reads (entry_at 2 (text (codes "x")))) ∷ []) 0
    ∷ does (place 12 25) 0 ([]) (value (int (pos 1))) None ([]) 0
    ∷ does (place 12 23) 7 ((int (pos 15)) ∷ (int (pos 1)) ∷ []) (value (int (pos 16))) None ([]) 0
    ∷ ends 10 return_end
    ∷ leaves (int (pos 16))
    ∷ does (place 8 24) 2 ((int (pos 16)) ∷ []) (value (int (pos 16))) None ([]) 0
    ∷ does (place 8 29) 0 ([]) (value (int (pos 2))) None ([]) 0
    ∷ does (place 8 27) 9 ((int (pos 16)) ∷ (int (pos 2)) ∷ []) (value (int (pos 32))) None ([]) 0
    ∷ ends 7 return_end
    ∷ leaves (int (pos 32))
    ∷ does (place 21 32) 2 ((int (pos 32)) ∷ []) (value (int (pos 32))) None ([]) 0
    ∷ does (place 21 36) 1 ([]) (value (class (place 1 1))) None ((reads (var_at 0 (codes "Base"))) ∷ []) 0
    ∷ does (place 21 40) 32 ((class (place 1 1)) ∷ []) (value (function (place 5 5))) None ((reads (method_at (place 1 1) (codes "get"))) ∷ []) 0
    ∷ does (place 21 45) 1 ([]) (value (object 2)) None ((reads (var_at 0 (codes "b"))) ∷ []) 0
    ∷ enters (place 21 44) (place 5 5) ((object 2) ∷ []) ((sets (var_at 7 (codes "self")) (var_is (Some (object 2)))) ∷ [])
    ∷ begins 5
    ∷ does (place 6 16) 1 ([]) (value (object 2)) None ((reads (var_at 7 (codes "self"))) ∷ []) 0
    ∷ does (place 6 20) 30 ((object 2) ∷ []) (value (int (pos 15))) None ((reads (entry_at 2 (text (codes "x")))) ∷ []) 0
    ∷ ends 5 return_end
    ∷ leaves (int (pos 15))
    ∷ does (place 21 44) 2 ((int (pos 15)) ∷ []) (value (int (pos 15))) None ([]) 0
    ∷ does (place 21 49) 1 ([]) (value (builtin 7)) None ((reads (var_at 0 (codes "isinstance"))) ∷ []) 0
    ∷ does (place 21 60) 1 ([]) (value (object 2)) None ((reads (var_at 0 (codes "b"))) ∷ []) 0
    ∷ does (place 21 63) 1 ([]) (value (class (place 1 1))) None ((reads (var_at 0 (codes "Base"))) ∷ []) 0
    ∷ does (place 21 59) 57 ((object 2) ∷ (class (place 1 1)) ∷ []) (value (truth true)) None ((reads (base_at (place 10 1))) ∷ []) 0
    ∷ does (place 21 70) 1 ([]) (value (builtin 7)) None ((reads (var_at 0 (codes "isinstance"))) ∷ []) 0
    ∷ does (place 21 81) 1 ([]) (value (object 1)) None ((reads (var_at 0 (codes "a"))) ∷ []) 0
    ∷ does (place 21 85) 1 ([]) (value (builtin 6)) None ((reads (var_at 0 (codes "int"))) ∷ []) 0
    ∷ does (place 21 90) 1 ([]) (value (class (place 10 1))) None ((reads (var_at 0 (codes "Sub"))) ∷ []) 0
    ∷ does (place 21 88) 25 ((builtin 6) ∷ (class (place 10 1)) ∷ []) (value (tuple (part (builtin 6) (part (class (place 10 1)) no_parts)))) None ([]) 0
    ∷ does (place 21 80) 57 ((object 1) ∷ (tuple (part (builtin 6) (part (class (place 10 1)) no_parts))) ∷ []) (value (truth false)) None ((reads (base_at (place 1 1))) ∷ []) 2
    ∷ does (place 21 97) 1 ([]) (value (builtin 7)) None ((reads (var_at 0 (codes "isinstance"))) ∷ []) 0
    ∷ does (place 21 108) 23 ([]) (value (object 4)) (Some a_list) ((sets (len_at 4) (len_is 0)) ∷ []) 0
    ∷ does (place 21 112) 1 ([]) (value (builtin 9)) None ((reads (var_at 0 (codes "list"))) ∷ []) 0
    ∷ does (place 21 107) 57 ((object 4) ∷ (builtin 9) ∷ []) (value (truth true)) None ([]) 0
    ∷ does (place 21 6) 64 ((int (pos 5)) ∷ (int (pos 16)) ∷ (int (pos 32)) ∷ (int (pos 15)) ∷ (truth true) ∷ (truth false) ∷ (truth true) ∷ []) (value nothing) None ([]) 1
    ∷ ends 17 normal_end
    ∷ begins 18
    ∷ does (place 22 1) 1 ([]) (value (builtin 14)) None ((reads (var_at 0 (codes "print"))) ∷ []) 0
    ∷ does (place 22 7) 1 ([]) (value (object 2)) None ((reads (var_at 0 (codes "b"))) ∷ []) 0
    ∷ does (place 22 10) 1 ([]) (value (class (place 10 1))) None ((reads (var_at 0 (codes "Sub"))) ∷ []) 0
    ∷ does (place 22 15) 1 ([]) (value (object 1)) None ((reads (var_at 0 (codes "a"))) ∷ []) 0
    ∷ does (place 22 16) 30 ((object 1) ∷ []) (value (int (pos 5))) None ((reads (entry_at 1 (text (codes "x")))) ∷ []) 0
    ∷ does (place 22 20) 1 ([]) (value (object 2)) None ((reads (var_at 0 (codes "b"))) ∷ []) 0
    ∷ does (place 22 21) 30 ((object 2) ∷ []) (value (object 3)) None ((reads (entry_at 2 (text (codes "y")))) ∷ []) 0
    ∷ does (place 22 24) 0 ([]) (value (int (pos 0))) None ([]) 0
    ∷ does (place 22 23) 26 ((object 3) ∷ (int (pos 0)) ∷ []) (value (object 1)) None ((reads (len_at 3)) ∷ (reads (item_at 3 0)) ∷ []) 0
    ∷ does (place 22 26) 30 ((object 1) ∷ []) (value (int (pos 5))) None ((reads (entry_at 1 (text (codes "x")))) ∷ []) 0
    ∷ does (place 22 6) 64 ((object 2) ∷ (class (place 10 1)) ∷ (int (pos 5)) ∷ (int (pos 5)) ∷ []) (value nothing) None ((reads (base_at (place 10 1))) ∷ (reads (base_at (place 1 1))) ∷ []) 1
    ∷ ends 18 normal_end
    ∷ begins 19
    ∷ does (place 23 5) 1 ([]) (value (class (place 14 1))) None ((reads (var_at 0 (codes "Bare"))) ∷ []) 0
    ∷ does (place 23 9) 39 ((class (place 14 1)) ∷ []) (value (object 5)) (Some (an_instance (class (place 14 1)))) ((reads (method_at (place 14 1) (codes "__init__"))) ∷ (reads (base_at (place 14 1))) ∷ (reads (base_at (place 14 1))) ∷ (sets (order_at 5) (order_is ([]))) ∷ []) 0
    ∷ does (place 23 9) 2 ((object 5) ∷ []) (value (object 5)) None ([]) 0
    ∷ does (place 23 1) 33 ((object 5) ∷ []) (value nothing) None ((sets (var_at 0 (codes "c")) (var_is (Some (object 5)))) ∷ []) 0
    ∷ ends 19 normal_end
    ∷ begins 20
    ∷ does (place 24 7) 1 ([]) (value (builtin 8)) None ((reads (var_at 0 (codes "len"))) ∷ []) 0
    ∷ does (place 24 1) 1 ([]) (value (object 5)) None ((reads (var_at 0 (codes "c"))) ∷ []) 0
    ∷ does (place 24 2) 31 ((object 5) ∷ (builtin 8) ∷ []) (value nothing) None ((reads (entry_at 5 (text (codes "f")))) ∷ (sets (entry_at 5 (text (codes "f"))) (entry_is (Some ((text (codes "f")), (builtin 8))))) ∷ (updates (order_at 5) (key_inserted (text (codes "f")))) ∷ []) 0
    ∷ ends 20 normal_end
    ∷ begins 21
    ∷ does (place 25 1) 1 ([]) (value (builtin 14)) None ((reads (var_at 0 (codes "print"))) ∷ []) 0
    ∷ does (place 25 7) 1 ([]) (value (object 5)) None ((reads (var_at 0 (codes "c"))) ∷ []) 0
    ∷ does (place 25 8) 32 ((object 5) ∷ []) (value (builtin 8)) None ((reads (entry_at 5 (text (codes "f")))) ∷ []) 0
    ∷ does (place 25 12) 0 ([]) (value (int (pos 1))) None ([]) 0
    ∷ does (place 25 15) 0 ([]) (value (int (pos 2))) None ([]) 0
    ∷ does (place 25 11) 23 ((int (pos 1)) ∷ (int (pos 2)) ∷ []) (value (object 6)) (Some a_list) ((sets (len_at 6) (len_is 2)) ∷ (sets (item_at 6 0) (item_is (int (pos 1)))) ∷ (sets (item_at 6 1) (item_is (int (pos 2)))) ∷ []) 0
    ∷ does (place 25 10) 58 ((object 6) ∷ []) (value (int (pos 2))) None ((reads (len_at 6)) ∷ []) 0
    ∷ does (place 25 20) 1 ([]) (value (builtin 7)) None ((reads (var_at 0 (codes "isinstance"))) ∷ []) 0
    ∷ does (place 25 31) 0 ([]) (value (truth true)) None ([]) 0
    ∷ does (place 25 37) 1 ([]) (value (builtin 6)) None ((reads (var_at 0 (codes "int"))) ∷ []) 0
    ∷ does (place 25 30) 57 ((truth true) ∷ (builtin 6) ∷ []) (value (truth true)) None ([]) 0
    ∷ does (place 25 43) 1 ([]) (value (builtin 7)) None ((reads (var_at 0 (codes "isinstance"))) ∷ []) 0
    ∷ does (place 25 54) 0 ([]) (value (text (codes "s"))) None ([]) 0
    ∷ does (place 25 59) 1 ([]) (value (builtin 18)) None ((reads (var_at 0 (codes "str"))) ∷ []) 0
    ∷ does (place 25 53) 57 ((text (codes "s")) ∷ (builtin 18) ∷ []) (value (truth true)) None ([]) 0
    ∷ does (place 25 65) 1 ([]) (value (builtin 7)) None ((reads (var_at 0 (codes "isinstance"))) ∷ []) 0
    ∷ does (place 25 76) 24 ([]) (value (object 7)) (Some a_dict) ((sets (order_at 7) (order_is ([]))) ∷ []) 0
    ∷ does (place 25 80) 1 ([]) (value (builtin 3)) None ((reads (var_at 0 (codes "dict"))) ∷ []) 0
    ∷ does (place 25 75) 57 ((object 7) ∷ (builtin 3) ∷ []) (value (truth true)) None ([]) 0
    ∷ does (place 25 87) 1 ([]) (value (builtin 7)) None ((reads (var_at 0 (codes "isinstance"))) ∷ []) 0
    ∷ does (place 25 98) 25 ([]) (value (tuple no_parts)) None ([]) 0
    ∷ does (place 25 102) 1 ([]) (value (builtin 20)) None ((reads (var_at 0 (codes "tuple"))) ∷ []) 0
    ∷ does (place 25 97) 57 ((tuple no_parts) ∷ (builtin 20) ∷ []) (value (truth true)) None ([]) 0
    ∷ does (place 25 110) 1 ([]) (value (builtin 7)) None ((reads (var_at 0 (codes "isinstance"))) ∷ []) 0
    ∷ does (place 25 121) 0 ([]) (value (int (pos 1))) None ([]) 0
    ∷ does (place 25 124) 1 ([]) (value (builtin 1)) None ((reads (var_at 0 (codes "bool"))) ∷ []) 0
    ∷ does (place 25 120) 57 ((int (pos 1)) ∷ (builtin 1) ∷ []) (value (truth false)) None ([]) 0
    ∷ does (place 25 6) 64 ((int (pos 2)) ∷ (truth true) ∷ (truth true) ∷ (truth true) ∷ (truth true) ∷ (truth false) ∷ []) (value nothing) None ([]) 1
    ∷ ends 21 normal_end
    ∷ begins 22
    ∷ begins 23
    ∷ does (place 27 5) 1 ([]) (value (object 5)) None ((reads (var_at 0 (codes "c"))) ∷ []) 0
    ∷ does (place 27 6) 30 ((object 5) ∷ []) (raised 8) (Some (an_instance (exception_class 11))) ((reads (entry_at 5 (text (codes "nothing")))) ∷ (reads (method_at (place 14 1) (codes "nothing"))) ∷ (reads (base_at (place 14 1))) ∷ (sets (order_at 8) (order_is ((text (codes "args")) ∷ []))) ∷ (sets (entry_at 8 (text (codes "args"))) (entry_is (Some ((text (codes "args")), (tuple (part (text (codes "no attribute 'nothing'")) no_parts)))))) ∷ []) 0
    ∷ ends 23 raise_end
    ∷ does (place 28 8) 1 ([]) (value (exception_class 11)) None ((reads (var_at 0 (codes "AttributeError"))) ∷ []) 0
    ∷ does (place 26 1) 41 ((object 8) ∷ (exception_class 11) ∷ []) (value (truth true)) None ([]) 0
    ∷ does (place 28 26) 33 ((object 8) ∷ []) (value nothing) None ((sets (var_at 0 (codes "e")) (var_is (Some (object 8)))) ∷ []) 0
    ∷ begins 24
    ∷ does (place 29 5) 1 ([]) (value (builtin 14)) None ((reads (var_at 0 (codes "print"))) ∷ []) 0
    ∷ does (place 29 11) 1 ([]) (value (object 8)) None ((reads (var_at 0 (codes "e"))) ∷ []) 0
    ∷ does (place 29 10) 64 ((object 8) ∷ []) (value nothing) None ((reads (entry_at 8 (text (codes "args")))) ∷ []) 2
    ∷ ends 24 normal_end
    ∷ does (place 28 26) 34 ([]) (value nothing) None ((reads (var_at 0 (codes "e"))) ∷ (sets (var_at 0 (codes "e")) (var_is None)) ∷ []) 0
    ∷ ends 22 normal_end
    ∷ begins 25
    ∷ begins 26
    ∷ does (place 31 5) 1 ([]) (value (class (place 1 1))) None ((reads (var_at 0 (codes "Base"))) ∷ []) 0
    ∷ does (place 31 9) 39 ((class (place 1 1)) ∷ []) (value (object 9)) (Some (an_instance (class (place 1 1)))) ((reads (method_at (place 1 1) (codes "__init__"))) ∷ (reads (base_at (place 1 1))) ∷ (sets (order_at 9) (order_is ([]))) ∷ []) 0
    ∷ does (place 31 9) 38 ((function (place 3 5)) ∷ (object 9) ∷ []) (raised 10) (Some (an_instance (exception_class 9))) ((sets (order_at 10) (order_is ((text (codes "args")) ∷ []))) ∷ (sets (entry_at 10 (text (codes "args"))) (entry_is (Some ((text (codes "args")), (tuple (part (text (codes "wrong number of arguments")) no_parts)))))) ∷ []) 0
    ∷ ends 26 raise_end
    ∷ does (place 32 8) 1 ([]) (value (exception_class 9)) None ((reads (var_at 0 (codes "TypeError"))) ∷ []) 0
    ∷ does (place 30 1) 41 ((object 10) ∷ (exception_class 9) ∷ []) (value (truth true)) None ([]) 0
    ∷ does (place 32 21) 33 ((object 10) ∷ []) (value nothing) None ((sets (var_at 0 (codes "e")) (var_is (Some (object 10)))) ∷ []) 0
    ∷ begins 27
    ∷ does (place 33 5) 1 ([]) (value (builtin 14)) None ((reads (var_at 0 (codes "print"))) ∷ []) 0
    ∷ does (place 33 11) 1 ([]) (value (object 10)) None ((reads (var_at 0 (codes "e"))) ∷ []) 0
    ∷ does (place 33 10) 64 ((object 10) ∷ []) (value nothing) None ((reads (entry_at 10 (text (codes "args")))) ∷ []) 2
    ∷ ends 27 normal_end
    ∷ does (place 32 21) 34 ([]) (value nothing) None ((reads (var_at 0 (codes "e"))) ∷ (sets (var_at 0 (codes "e")) (var_is None)) ∷ []) 0
    ∷ ends 25 normal_end
    ∷ begins 28
    ∷ begins 29
    ∷ does (place 35 5) 1 ([]) (value (class (place 14 1))) None ((reads (var_at 0 (codes "Bare"))) ∷ []) 0
    ∷ does (place 35 10) 0 ([]) (value (int (pos 1))) None ([]) 0
    ∷ does (place 35 9) 39 ((class (place 14 1)) ∷ (int (pos 1)) ∷ []) (value (object 11)) (Some (an_instance (class (place 14 1)))) ((reads (method_at (place 14 1) (codes "__init__"))) ∷ (reads (base_at (place 14 1))) ∷ (reads (base_at (place 14 1))) ∷ (sets (order_at 11) (order_is ([]))) ∷ []) 0
    ∷ does (place 35 9) 38 ((class (place 14 1)) ∷ (int (pos 1)) ∷ []) (raised 12) (Some (an_instance (exception_class 9))) ((sets (order_at 12) (order_is ((text (codes "args")) ∷ []))) ∷ (sets (entry_at 12 (text (codes "args"))) (entry_is (Some ((text (codes "args")), (tuple (part (text (codes "wrong number of arguments")) no_parts)))))) ∷ []) 0
    ∷ ends 29 raise_end
    ∷ does (place 36 8) 1 ([]) (value (exception_class 9)) None ((reads (var_at 0 (codes "TypeError"))) ∷ []) 0
    ∷ does (place 34 1) 41 ((object 12) ∷ (exception_class 9) ∷ []) (value (truth true)) None ([]) 0
    ∷ does (place 36 21) 33 ((object 12) ∷ []) (value nothing) None ((sets (var_at 0 (codes "e")) (var_is (Some (object 12)))) ∷ []) 0
    ∷ begins 30
    ∷ does (place 37 5) 1 ([]) (value (builtin 14)) None ((reads (var_at 0 (codes "print"))) ∷ []) 0
    ∷ does (place 37 11) 1 ([]) (value (object 12)) None ((reads (var_at 0 (codes "e"))) ∷ []) 0
    ∷ does (place 37 10) 64 ((object 12) ∷ []) (value nothing) None ((reads (entry_at 12 (text (codes "args")))) ∷ []) 2
    ∷ ends 30 normal_end
    ∷ does (place 36 21) 34 ([]) (value nothing) None ((reads (var_at 0 (codes "e"))) ∷ (sets (var_at 0 (codes "e")) (var_is None)) ∷ []) 0
    ∷ ends 28 normal_end
    ∷ begins 31
    ∷ begins 32
    ∷ does (place 39 5) 1 ([]) (value (object 1)) None ((reads (var_at 0 (codes "a"))) ∷ []) 0
    ∷ does (place 39 6) 30 ((object 1) ∷ []) (raised 13) (Some (an_instance (exception_class 13))) ((reads (entry_at 1 (text (codes "get")))) ∷ (reads (method_at (place 1 1) (codes "get"))) ∷ (sets (order_at 13) (order_is ((text (codes "args")) ∷ []))) ∷ (sets (entry_at 13 (text (codes "args"))) (entry_is (Some ((text (codes "args")), (tuple (part (text (codes "not in this profile")) no_parts)))))) ∷ []) 0
    ∷ ends 32 raise_end
    ∷ does (place 40 8) 1 ([]) (value (exception_class 13)) None ((reads (var_at 0 (codes "NotImplementedError"))) ∷ []) 0
    ∷ does (place 38 1) 41 ((object 13) ∷ (exception_class 13) ∷ []) (value (truth true)) None ([]) 0
    ∷ does (place 40 31) 33 ((object 13) ∷ []) (value nothing) None ((sets (var_at 0 (codes "e")) (var_is (Some (object 13)))) ∷ []) 0
    ∷ begins 33
    ∷ does (place 41 5) 1 ([]) (value (builtin 14)) None ((reads (var_at 0 (codes "print"))) ∷ []) 0
    ∷ does (place 41 11) 1 ([]) (value (object 13)) None ((reads (var_at 0 (codes "e"))) ∷ []) 0
    ∷ does (place 41 10) 64 ((object 13) ∷ []) (value nothing) None ((reads (entry_at 13 (text (codes "args")))) ∷ []) 2
    ∷ ends 33 normal_end
    ∷ does (place 40 31) 34 ([]) (value nothing) None ((reads (var_at 0 (codes "e"))) ∷ (sets (var_at 0 (codes "e")) (var_is None)) ∷ []) 0
    ∷ ends 31 normal_end
    ∷ []
unfolding is_utf8 chars encode_utf8 level
r_classes_moments = refl

r_classes_values : evaluated r_classes_tree (opening_in r_classes_capture (codes "s.py") ([])) (reverse r_classes_run.moments) ((place 2 5, 1) ∷ (place 21 32, 1) ∷ (place 21 112, 1) ∷ (place 25 43, 1) ∷ (place 41 10, 1) ∷ []) ≡ (Some ((codes "'a base'"), 5) ∷ Some ((codes "32"), 162) ∷ Some ((codes "<built-in list>"), 203) ∷ Some ((codes "<built-in isinstance>"), 274) ∷ Some ((codes "None"), 407) ∷ [])
unfolding is_utf8 chars encode_utf8 level
r_classes_values = refl
