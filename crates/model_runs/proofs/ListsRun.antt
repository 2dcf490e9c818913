-- Runs of scripts, as theorems that hold by computation: their ends, steps, output and files, and all of their moments.
-- Written by tools/run_vectors.py from scripts with what is expected of them.
use Rattle.std.proofs.Common.{◌≡◌, [], ◌∷◌, ◌++◌, Some, None, codes, refl}
use Rattle.std.specs.Prelude.{pos, negsuc, true, false, reverse}
use Rattle.std.specs.Str.{chars, is_utf8}
use Rattle.std.specs.Char.{encode_utf8}
use Rattle.py_tree.specs.declared.expr.Atom.TheVariants.{Int as int_atom, Text as text_atom}
use Rattle.py_tree.specs.declared.expr.UnOp.TheVariants.{Minus}
use Rattle.py_tree.specs.declared.expr.BinOp.TheVariants.{Add, Mul}
use Rattle.py_tree.specs.declared.expr.CmpOp.TheVariants.{Eq, Lt, In, NotIn, Is}
use Rattle.py_tree.specs.Tree.{const_expr, var_expr, unary_expr, binary_expr, compare_expr, call_expr, attr_expr, part_expr, range_expr, list_expr, dict_expr, tuple_expr, no_expr, some_expr, end_exprs, more_exprs, end_pairs, more_pairs, var_target, part_target, one_stmt, do_form, assign_form, aug_form, del_form, continue_form, if_form, for_form, try_form, end_suite, more_suite, end_branches, more_branches, no_else, end_handlers, more_handlers, ScriptTree}
use Rattle.py_value.specs.Contents.{nothing, truth, int, text, tuple, range, exception_class, builtin, object, no_parts, part}
use Rattle.py_value.specs.Seen.{a_list, a_dict, an_instance, var_at, len_at, item_at, entry_at, order_at, var_is, len_is, item_is, entry_is, order_is, reads, sets}
use Rattle.py_model.specs.Capture.{Capture, opening_in}
use Rattle.py_model.specs.Meaning.{Run, run, level, finished}
use Rattle.py_model.specs.Moment.{begins, does, ends, normal_end, continue_end, raise_end}
use Rattle.py_model.specs.Plan.{value, raised, at_end}
use Rattle.model_runs.specs.Words.{place, no_span, silent, summary, evaluated}

abbrev pub r_lists_tree : ScriptTree
r_lists_tree = record { body = (more_suite (one_stmt 0 (place 1 1) no_span (assign_form (var_target (place 1 1) (codes "a")) (list_expr (place 1 5) (more_exprs (const_expr (place 1 6) (int_atom (pos 3))) (more_exprs (const_expr (place 1 9) (int_atom (pos 1))) (more_exprs (const_expr (place 1 12) (int_atom (pos 2))) end_exprs)))))) (more_suite (one_stmt 1 (place 2 1) no_span (assign_form (var_target (place 2 1) (codes "b")) (var_expr (place 2 5) (codes "a")))) (more_suite (one_stmt 2 (place 3 1) no_span (aug_form (var_target (place 3 1) (codes "a")) Add (place 3 3) (list_expr (place 3 6) (more_exprs (const_expr (place 3 7) (int_atom (pos 5))) end_exprs)))) (more_suite (one_stmt 3 (place 4 1) no_span (do_form (call_expr (place 4 9) (attr_expr (place 4 2) (var_expr (place 4 1) (codes "a")) (codes "append")) (more_exprs (const_expr (place 4 10) (int_atom (pos 4))) end_exprs)))) (more_suite (one_stmt 4 (place 5 1) no_span (do_form (call_expr (place 5 9) (attr_expr (place 5 2) (var_expr (place 5 1) (codes "a")) (codes "extend")) (more_exprs (tuple_expr (place 5 12) (more_exprs (const_expr (place 5 11) (int_atom (pos 7))) (more_exprs (const_expr (place 5 14) (int_atom (pos 8))) end_exprs))) end_exprs)))) (more_suite (one_stmt 5 (place 6 1) no_span (do_form (call_expr (place 6 9) (attr_expr (place 6 2) (var_expr (place 6 1) (codes "a")) (codes "insert")) (more_exprs (const_expr (place 6 10) (int_atom (pos 1))) (more_exprs (const_expr (place 6 13) (int_atom (pos 9))) end_exprs))))) (more_suite (one_stmt 6 (place 7 1) no_span (do_form (call_expr (place 7 9) (attr_expr (place 7 2) (var_expr (place 7 1) (codes "a")) (codes "insert")) (more_exprs (unary_expr (place 7 10) Minus (const_expr (place 7 11) (int_atom (pos 100)))) (more_exprs (const_expr (place 7 16) (int_atom (pos 0))) end_exprs))))) (more_suite (one_stmt 7 (place 8 1) no_span (do_form (call_expr (place 8 6) (var_expr (place 8 1) (codes "print")) (more_exprs (call_expr (place 8 12) (attr_expr (place 8 8) (var_expr (place 8 7) (codes "a")) (codes "pop")) end_exprs) (more_exprs (call_expr (place 8 21) (attr_expr (place 8 17) (var_expr (place 8 16) (codes "a")) (codes "pop")) (more_exprs (const_expr (place 8 22) (int_atom (pos 0))) end_exprs)) (more_exprs (call_expr (place 8 33) (attr_expr (place 8 27) (var_expr (place 8 26) (codes "a")) (codes "index")) (more_exprs (const_expr (place 8 34) (int_atom (pos 9))) end_exprs)) (more_exprs (var_expr (place 8 38) (codes "a")) end_exprs))))))) (more_suite (one_stmt 8 (place 9 1) no_span (do_form (call_expr (place 9 10) (attr_expr (place 9 2) (var_expr (place 9 1) (codes "a")) (codes "reverse")) end_exprs))) (more_suite (one_stmt 9 (place 10 1) no_span (do_form (call_expr (place 10 6) (var_expr (place 10 1) (codes "print")) (more_exprs (var_expr (place 10 7) (codes "a")) (more_exprs (compare_expr (place 10 12) Is (var_expr (place 10 10) (codes "b")) (var_expr (place 10 15) (codes "a"))) (more_exprs (call_expr (place 10 21) (var_expr (place 10 18) (codes "len")) (more_exprs (var_expr (place 10 22) (codes "b")) end_exprs)) end_exprs)))))) (more_suite (one_stmt 10 (place 11 1) no_span (do_form (call_expr (place 11 7) (attr_expr (place 11 2) (var_expr (place 11 1) (codes "a")) (codes "sort")) end_exprs))) (more_suite (one_stmt 11 (place 12 1) no_span (do_form (call_expr (place 12 6) (var_expr (place 12 1) (codes "print")) (more_exprs (var_expr (place 12 7) (codes "a")) (more_exprs (call_expr (place 12 16) (var_expr (place 12 10) (codes "sorted")) (more_exprs (list_expr (place 12 17) (more_exprs (tuple_expr (place 12 20) (more_exprs (const_expr (place 12 19) (int_atom (pos 2))) (more_exprs (const_expr (place 12 22) (text_atom (codes "b"))) end_exprs))) (more_exprs (tuple_expr (place 12 30) (more_exprs (const_expr (place 12 29) (int_atom (pos 1))) (more_exprs (const_expr (place 12 32) (text_atom (codes "z"))) end_exprs))) (more_exprs (tuple_expr (place 12 40) (more_exprs (const_expr (place 12 39) (int_atom (pos 2))) (more_exprs (const_expr (place 12 42) (text_atom (codes "a"))) end_exprs))) end_exprs)))) end_exprs)) (more_exprs (range_expr (place 12 51) (var_expr (place 12 50) (codes "a")) (some_expr (const_expr (place 12 52) (int_atom (pos 1)))) (some_expr (const_expr (place 12 54) (int_atom (pos 3))))) (more_exprs (range_expr (place 12 59) (var_expr (place 12 58) (codes "a")) (some_expr (unary_expr (place 12 60) Minus (const_expr (place 12 61) (int_atom (pos 2))))) no_expr) (more_exprs (range_expr (place 12 67) (var_expr (place 12 66) (codes "a")) no_expr no_expr) end_exprs)))))))) (more_suite (one_stmt 12 (place 13 1) no_span (del_form (part_target (place 13 6) (var_expr (place 13 5) (codes "a")) (const_expr (place 13 7) (int_atom (pos 0)))))) (more_suite (one_stmt 13 (place 14 1) no_span (assign_form (part_target (place 14 2) (var_expr (place 14 1) (codes "a")) (const_expr (place 14 3) (int_atom (pos 0)))) (const_expr (place 14 8) (text_atom (codes "first"))))) (more_suite (one_stmt 14 (place 15 1) no_span (aug_form (part_target (place 15 2) (var_expr (place 15 1) (codes "a")) (unary_expr (place 15 3) Minus (const_expr (place 15 4) (int_atom (pos 1))))) Add (place 15 7) (const_expr (place 15 10) (int_atom (pos 1))))) (more_suite (one_stmt 15 (place 16 1) no_span (do_form (call_expr (place 16 6) (var_expr (place 16 1) (codes "print")) (more_exprs (binary_expr (place 16 9) Add (var_expr (place 16 7) (codes "a")) (list_expr (place 16 11) (more_exprs (const_expr (place 16 12) (int_atom (pos 1))) end_exprs))) (more_exprs (binary_expr (place 16 20) Mul (list_expr (place 16 16) (more_exprs (const_expr (place 16 17) (int_atom (pos 0))) end_exprs)) (const_expr (place 16 22) (int_atom (pos 3)))) (more_exprs (binary_expr (place 16 27) Mul (const_expr (place 16 25) (int_atom (pos 2))) (list_expr (place 16 29) (more_exprs (const_expr (place 16 30) (int_atom (pos 1))) (more_exprs (const_expr (place 16 33) (int_atom (pos 2))) end_exprs)))) (more_exprs (compare_expr (place 16 39) Eq (var_expr (place 16 37) (codes "a")) (var_expr (place 16 42) (codes "b"))) (more_exprs (compare_expr (place 16 54) Eq (list_expr (place 16 45) (more_exprs (const_expr (place 16 46) (int_atom (pos 1))) (more_exprs (list_expr (place 16 49) (more_exprs (const_expr (place 16 50) (int_atom (pos 2))) end_exprs)) end_exprs))) (list_expr (place 16 57) (more_exprs (const_expr (place 16 58) (int_atom (pos 1))) (more_exprs (list_expr (place 16 61) (more_exprs (const_expr (place 16 62) (int_atom (pos 2))) end_exprs)) end_exprs)))) (more_exprs (compare_expr (place 16 74) Lt (list_expr (place 16 67) (more_exprs (const_expr (place 16 68) (int_atom (pos 1))) (more_exprs (const_expr (place 16 71) (int_atom (pos 2))) end_exprs))) (list_expr (place 16 76) (more_exprs (const_expr (place 16 77) (int_atom (pos 1))) (more_exprs (const_expr (place 16 80) (int_atom (pos 3))) end_exprs)))) end_exprs))))))))) (more_suite (one_stmt 16 (place 17 1) no_span (do_form (call_expr (place 17 6) (var_expr (place 17 1) (codes "print")) (more_exprs (call_expr (place 17 11) (var_expr (place 17 7) (codes "list")) (more_exprs (const_expr (place 17 12) (text_atom (codes "ab"))) end_exprs)) (more_exprs (call_expr (place 17 23) (var_expr (place 17 19) (codes "list")) (more_exprs (dict_expr (place 17 24) (more_pairs (const_expr (place 17 25) (text_atom (codes "k"))) (const_expr (place 17 30) (int_atom (pos 1))) end_pairs)) end_exprs)) (more_exprs (call_expr (place 17 39) (var_expr (place 17 35) (codes "list")) (more_exprs (call_expr (place 17 45) (var_expr (place 17 40) (codes "range")) (more_exprs (const_expr (place 17 46) (int_atom (pos 3))) end_exprs)) end_exprs)) (more_exprs (call_expr (place 17 56) (var_expr (place 17 51) (codes "tuple")) (more_exprs (list_expr (place 17 57) (more_exprs (const_expr (place 17 58) (int_atom (pos 1))) (more_exprs (const_expr (place 17 61) (int_atom (pos 2))) end_exprs))) end_exprs)) (more_exprs (call_expr (place 17 75) (var_expr (place 17 66) (codes "enumerate")) (more_exprs (const_expr (place 17 76) (text_atom (codes "ab"))) end_exprs)) (more_exprs (call_expr (place 17 86) (var_expr (place 17 83) (codes "zip")) (more_exprs (list_expr (place 17 87) (more_exprs (const_expr (place 17 88) (int_atom (pos 1))) (more_exprs (const_expr (place 17 91) (int_atom (pos 2))) end_exprs))) (more_exprs (const_expr (place 17 95) (text_atom (codes "ab"))) end_exprs))) end_exprs))))))))) (more_suite (one_stmt 17 (place 18 1) no_span (for_form (var_target (place 18 5) (codes "i")) (var_expr (place 18 10) (codes "a")) (more_suite (one_stmt 18 (place 19 5) no_span (if_form (more_branches (compare_expr (place 19 10) Eq (var_expr (place 19 8) (codes "i")) (const_expr (place 19 13) (int_atom (pos 5)))) (more_suite (one_stmt 19 (place 20 9) no_span continue_form) end_suite) end_branches) no_else)) (more_suite (one_stmt 20 (place 21 5) no_span (if_form (more_branches (compare_expr (place 21 15) Lt (call_expr (place 21 11) (var_expr (place 21 8) (codes "len")) (more_exprs (var_expr (place 21 12) (codes "a")) end_exprs)) (const_expr (place 21 17) (int_atom (pos 8)))) (more_suite (one_stmt 21 (place 22 9) no_span (do_form (call_expr (place 22 17) (attr_expr (place 22 10) (var_expr (place 22 9) (codes "a")) (codes "append")) (more_exprs (const_expr (place 22 18) (int_atom (pos 0))) end_exprs)))) end_suite) end_branches) no_else)) end_suite)))) (more_suite (one_stmt 22 (place 23 1) no_span (do_form (call_expr (place 23 6) (var_expr (place 23 1) (codes "print")) (more_exprs (var_expr (place 23 7) (codes "a")) (more_exprs (compare_expr (place 23 12) In (const_expr (place 23 10) (int_atom (pos 2))) (var_expr (place 23 15) (codes "a"))) (more_exprs (compare_expr (place 23 21) NotIn (const_expr (place 23 18) (int_atom (pos 99))) (var_expr (place 23 28) (codes "a"))) (more_exprs (call_expr (place 23 34) (var_expr (place 23 31) (codes "max")) (more_exprs (list_expr (place 23 35) (more_exprs (const_expr (place 23 36) (text_atom (codes "a"))) (more_exprs (const_expr (place 23 41) (text_atom (codes "b"))) end_exprs))) end_exprs)) (more_exprs (call_expr (place 23 51) (var_expr (place 23 48) (codes "min")) (more_exprs (tuple_expr (place 23 54) (more_exprs (const_expr (place 23 53) (int_atom (pos 4))) (more_exprs (const_expr (place 23 56) (int_atom (pos 3))) end_exprs))) end_exprs)) end_exprs)))))))) (more_suite (one_stmt 23 (place 24 1) no_span (try_form (more_suite (one_stmt 24 (place 25 5) no_span (do_form (call_expr (place 25 10) (var_expr (place 25 5) (codes "print")) (more_exprs (part_expr (place 25 12) (var_expr (place 25 11) (codes "a")) (const_expr (place 25 13) (int_atom (pos 100)))) end_exprs)))) end_suite) (more_handlers (Some (var_expr (place 26 8) (codes "IndexError"))) (Some (record { at = (place 26 22); name = (codes "e") })) (more_suite (one_stmt 25 (place 27 5) no_span (do_form (call_expr (place 27 10) (var_expr (place 27 5) (codes "print")) (more_exprs (var_expr (place 27 11) (codes "e")) end_exprs)))) end_suite) end_handlers))) (more_suite (one_stmt 26 (place 28 1) no_span (try_form (more_suite (one_stmt 27 (place 29 5) no_span (do_form (call_expr (place 29 12) (attr_expr (place 29 6) (var_expr (place 29 5) (codes "a")) (codes "index")) (more_exprs (const_expr (place 29 13) (text_atom (codes "none"))) end_exprs)))) end_suite) (more_handlers (Some (var_expr (place 30 8) (codes "ValueError"))) (Some (record { at = (place 30 22); name = (codes "e") })) (more_suite (one_stmt 28 (place 31 5) no_span (do_form (call_expr (place 31 10) (var_expr (place 31 5) (codes "print")) (more_exprs (var_expr (place 31 11) (codes "e")) end_exprs)))) end_suite) end_handlers))) end_suite))))))))))))))))))))); count = 29 }

abbrev pub r_lists_capture : Capture
r_lists_capture = record { answers = ([]); files = ([]); ends = silent }

abbrev pub r_lists_run : Run
r_lists_run = run r_lists_tree (codes "s.py") ([]) r_lists_capture 1000000

r_lists : summary r_lists_run ≡ record { end = finished; steps = 905; output = (codes "8 0 1 [3, 9, 1, 2, 5, 4, 7]" ++ (10 ∷ []) ++ codes "[7, 4, 5, 2, 1, 9, 3] True 7" ++ (10 ∷ []) ++ codes "[1, 2, 3, 4, 5, 7, 9] [(1, 'z'), (2, 'a'), (2, 'b')] [2, 3] [7, 9] [1, 2, 3, 4, 5, 7, 9]" ++ (10 ∷ []) ++ codes "['first', 3, 4, 5, 7, 10, 1] [0, 0, 0] [1, 2, 1, 2] True True True" ++ (10 ∷ []) ++ codes "['a', 'b'] ['k'] [0, 1, 2] (1, 2) [(0, 'a'), (1, 'b')] [(1, 'a'), (2, 'b')]" ++ (10 ∷ []) ++ codes "['first', 3, 4, 5, 7, 10, 0, 0] False True b 3" ++ (10 ∷ []) ++ codes "index out of range" ++ (10 ∷ []) ++ codes "not found" ++ (10 ∷ [])); finals = ([]) }
unfolding is_utf8 chars encode_utf8 level
r_lists = refl

r_lists_moments : r_lists_run.moments ≡
    begins 0
    ∷ does (place 1 6) 0 ([]) (value (int (pos 3))) None ([]) 0
    ∷ does (place 1 9) 0 ([]) (value (int (pos 1))) None ([]) 0
    ∷ does (place 1 12) 0 ([]) (value (int (pos 2))) None ([]) 0
    ∷ does (place 1 5) 23 ((int (pos 3)) ∷ (int (pos 1)) ∷ (int (pos 2)) ∷ []) (value (object 1)) (Some a_list) ((sets (len_at 1) (len_is 3)) ∷ (sets (item_at 1 0) (item_is (int (pos 3)))) ∷ (sets (item_at 1 1) (item_is (int (pos 1)))) ∷ (sets (item_at 1 2) (item_is (int (pos 2)))) ∷ []) 0
    ∷ does (place 1 1) 33 ((object 1) ∷ []) (value nothing) None ((sets (var_at 0 (codes "a")) (var_is (Some (object 1)))) ∷ []) 0
    ∷ ends 0 normal_end
    ∷ begins 1
    ∷ does (place 2 5) 1 ([]) (value (object 1)) None ((reads (var_at 0 (codes "a"))) ∷ []) 0
    ∷ does (place 2 1) 33 ((object 1) ∷ []) (value nothing) None ((sets (var_at 0 (codes "b")) (var_is (Some (object 1)))) ∷ []) 0
    ∷ ends 1 normal_end
    ∷ begins 2
    ∷ does (place 3 1) 1 ([]) (value (object 1)) None ((reads (var_at 0 (codes "a"))) ∷ []) 0
    ∷ does (place 3 7) 0 ([]) (value (int (pos 5))) None ([]) 0
    ∷ does (place 3 6) 23 ((int (pos 5)) ∷ []) (value (object 2)) (Some a_list) ((sets (len_at 2) (len_is 1)) ∷ (sets (item_at 2 0) (item_is (int (pos 5)))) ∷ []) 0
    ∷ does (place 3 3) 22 ((object 1) ∷ (object 2) ∷ []) (value (object 1)) None ((reads (len_at 1)) ∷ (reads (len_at 2)) ∷ (reads (item_at 2 0)) ∷ (sets (item_at 1 3) (item_is (int (pos 5)))) ∷ (sets (len_at 1) (len_is 4)) ∷ []) 0
    ∷ does (place 3 1) 33 ((object 1) ∷ []) (value nothing) None ((sets (var_at 0 (codes "a")) (var_is (Some (object 1)))) ∷ []) 0
    ∷ ends 2 normal_end
    ∷ begins 3
    ∷ does (place 4 1) 1 ([]) (value (object 1)) None ((reads (var_at 0 (codes "a"))) ∷ []) 0
    ∷ does (place 4 2) 32 ((object 1) ∷ []) (value (builtin 80)) None ([]) 0
    ∷ does (place 4 10) 0 ([]) (value (int (pos 4))) None ([]) 0
    ∷ does (place 4 9) 80 ((object 1) ∷ (int (pos 4)) ∷ []) (value nothing) None ((reads (len_at 1)) ∷ (sets (item_at 1 4) (item_is (int (pos 4)))) ∷ (sets (len_at 1) (len_is 5)) ∷ []) 0
    ∷ ends 3 normal_end
    ∷ begins 4
    ∷ does (place 5 1) 1 ([]) (value (object 1)) None ((reads (var_at 0 (codes "a"))) ∷ []) 0
    ∷ does (place 5 2) 32 ((object 1) ∷ []) (value (builtin 81)) None ([]) 0
    ∷ does (place 5 11) 0 ([]) (value (int (pos 7))) None ([]) 0
    ∷ does (place 5 14) 0 ([]) (value (int (pos 8))) None ([]) 0
    ∷ does (place 5 12) 25 ((int (pos 7)) ∷ (int (pos 8)) ∷ []) (value (tuple (part (int (pos 7)) (part (int (pos 8)) no_parts)))) None ([]) 0
    ∷ does (place 5 9) 81 ((object 1) ∷ (tuple (part (int (pos 7)) (part (int (pos 8)) no_parts))) ∷ []) (value nothing) None ((reads (len_at 1)) ∷ (sets (item_at 1 5) (item_is (int (pos 7)))) ∷ (sets (item_at 1 6) (item_is (int (pos 8)))) ∷ (sets (len_at 1) (len_is 7)) ∷ []) 2
    ∷ ends 4 normal_end
    ∷ begins 5
    ∷ does (place 6 1) 1 ([]) (value (object 1)) None ((reads (var_at 0 (codes "a"))) ∷ []) 0
    ∷ does (place 6 2) 32 ((object 1) ∷ []) (value (builtin 82)) None ([]) 0
    ∷ does (place 6 10) 0 ([]) (value (int (pos 1))) None ([]) 0
    ∷ does (place 6 13) 0 ([]) (value (int (pos 9))) None ([]) 0
    ∷ does (place 6 9) 82 ((object 1) ∷ (int (pos 1)) ∷ (int (pos 9)) ∷ []) (value nothing) None ((reads (len_at 1)) ∷ (reads (item_at 1 1)) ∷ (sets (item_at 1 2) (item_is (int (pos 1)))) ∷ (reads (item_at 1 2)) ∷ (sets (item_at 1 3) (item_is (int (pos 2)))) ∷ (reads (item_at 1 3)) ∷ (sets (item_at 1 4) (item_is (int (pos 5)))) ∷ (reads (item_at 1 4)) ∷ (sets (item_at 1 5) (item_is (int (pos 4)))) ∷ (reads (item_at 1 5)) ∷ (sets (item_at 1 6) (item_is (int (pos 7)))) ∷ (reads (item_at 1 6)) ∷ (sets (item_at 1 7) (item_is (int (pos 8)))) ∷ (sets (item_at 1 1) (item_is (int (pos 9)))) ∷ (sets (len_at 1) (len_is 8)) ∷ []) 0
    ∷ ends 5 normal_end
    ∷ begins 6
    ∷ does (place 7 1) 1 ([]) (value (object 1)) None ((reads (var_at 0 (codes "a"))) ∷ []) 0
    ∷ does (place 7 2) 32 ((object 1) ∷ []) (value (builtin 82)) None ([]) 0
    ∷ does (place 7 11) 0 ([]) (value (int (pos 100))) None ([]) 0
    ∷ does (place 7 10) 5 ((int (pos 100)) ∷ []) (value (int (negsuc 99))) None ([]) 0
    ∷ does (place 7 16) 0 ([]) (value (int (pos 0))) None ([]) 0
    ∷ does (place 7 9) 82 ((object 1) ∷ (int (negsuc 99)) ∷ (int (pos 0)) ∷ []) (value nothing) None ((reads (len_at 1)) ∷ (reads (item_at 1 0)) ∷ (sets (item_at 1 1) (item_is (int (pos 3)))) ∷ (reads (item_at 1 1)) ∷ (sets (item_at 1 2) (item_is (int (pos 9)))) ∷ (reads (item_at 1 2)) ∷ (sets (item_at 1 3) (item_is (int (pos 1)))) ∷ (reads (item_at 1 3)) ∷ (sets (item_at 1 4) (item_is (int (pos 2)))) ∷ (reads (item_at 1 4)) ∷ (sets (item_at 1 5) (item_is (int (pos 5)))) ∷ (reads (item_at 1 5)) ∷ (sets (item_at 1 6) (item_is (int (pos 4)))) ∷ (reads (item_at 1 6)) ∷ (sets (item_at 1 7) (item_is (int (pos 7)))) ∷ (reads (item_at 1 7)) ∷ (sets (item_at 1 8) (item_is (int (pos 8)))) ∷ (sets (item_at 1 0) (item_is (int (pos 0)))) ∷ (sets (len_at 1) (len_is 9)) ∷ []) 0
    ∷ ends 6 normal_end
    ∷ begins 7
    ∷ does (place 8 1) 1 ([]) (value (builtin 14)) None ((reads (var_at 0 (codes "print"))) ∷ []) 0
    ∷ does (place 8 7) 1 ([]) (value (object 1)) None ((reads (var_at 0 (codes "a"))) ∷ []) 0
    ∷ does (place 8 8) 32 ((object 1) ∷ []) (value (builtin 83)) None ([]) 0
    ∷ does (place 8 12) 83 ((object 1) ∷ []) (value (int (pos 8))) None ((reads (len_at 1)) ∷ (reads (item_at 1 8)) ∷ (sets (len_at 1) (len_is 8)) ∷ []) 0
    ∷ does (place 8 16) 1 ([]) (value (object 1)) None ((reads (var_at 0 (codes "a"))) ∷ []) 0
    ∷ does (place 8 17) 32 ((object 1) ∷ []) (value (builtin 83)) None ([]) 0
    ∷ does (place 8 22) 0 ([]) (value (int (pos 0))) None ([]) 0
    ∷ does (place 8 21) 83 ((object 1) ∷ (int (pos 0)) ∷ []) (value (int (pos 0))) None ((reads (len_at 1)) ∷ (reads (item_at 1 0)) ∷ (reads (item_at 1 1)) ∷ (sets (item_at 1 0) (item_is (int (pos 3)))) ∷ (reads (item_at 1 2)) ∷ (sets (item_at 1 1) (item_is (int (pos 9)))) ∷ (reads (item_at 1 3)) ∷ (sets (item_at 1 2) (item_is (int (pos 1)))) ∷ (reads (item_at 1 4)) ∷ (sets (item_at 1 3) (item_is (int (pos 2)))) ∷ (reads (item_at 1 5)) ∷ (sets (item_at 1 4) (item_is (int (pos 5)))) ∷ (reads (item_at 1 6)) ∷ (sets (item_at 1 5) (item_is (int (pos 4)))) ∷ (reads (item_at 1 7)) ∷ (sets (item_at 1 6) (item_is (int (pos 7)))) ∷ (sets (len_at 1) (len_is 7)) ∷ []) 0
    ∷ does (place 8 26) 1 ([]) (value (object 1)) None ((reads (var_at 0 (codes "a"))) ∷ []) 0
    ∷ does (place 8 27) 32 ((object 1) ∷ []) (value (builtin 84)) None ([]) 0
    ∷ does (place 8 34) 0 ([]) (value (int (pos 9))) None ([]) 0
    ∷ does (place 8 33) 84 ((object 1) ∷ (int (pos 9)) ∷ []) (value (int (pos 1))) None ((reads (len_at 1)) ∷ (reads (item_at 1 0)) ∷ (reads (item_at 1 1)) ∷ []) 0
    ∷ does (place 8 38) 1 ([]) (value (object 1)) None ((reads (var_at 0 (codes "a"))) ∷ []) 0
    ∷ does (place 8 6) 64 ((int (pos 8)) ∷ (int (pos 0)) ∷ (int (pos 1)) ∷ (object 1) ∷ []) (value nothing) None ((reads (len_at 1)) ∷ (reads (item_at 1 0)) ∷ (reads (item_at 1 1)) ∷ (reads (item_at 1 2)) ∷ (reads (item_at 1 3)) ∷ (reads (item_at 1 4)) ∷ (reads (item_at 1 5)) ∷ (reads (item_at 1 6)) ∷ []) 1
    ∷ ends 7 normal_end
    ∷ begins 8
    ∷ does (place 9 1) 1 ([]) (value (object 1)) None ((reads (var_at 0 (codes "a"))) ∷ []) 0
    ∷ does (place 9 2) 32 ((object 1) ∷ []) (value (builtin 85)) None ([]) 0
    ∷ does (place 9 10) 85 ((object 1) ∷ []) (value nothing) None ((reads (len_at 1)) ∷ (reads (item_at 1 0)) ∷ (reads (item_at 1 1)) ∷ (reads (item_at 1 2)) ∷ (reads (item_at 1 3)) ∷ (reads (item_at 1 4)) ∷ (reads (item_at 1 5)) ∷ (reads (item_at 1 6)) ∷ (sets (item_at 1 0) (item_is (int (pos 7)))) ∷ (sets (item_at 1 1) (item_is (int (pos 4)))) ∷ (sets (item_at 1 2) (item_is (int (pos 5)))) ∷ (sets (item_at 1 3) (item_is (int (pos 2)))) ∷ (sets (item_at 1 4) (item_is (int (pos 1)))) ∷ (sets (item_at 1 5) (item_is (int (pos 9)))) ∷ (sets (item_at 1 6) (item_is (int (pos 3)))) ∷ []) 0
    ∷ ends 8 normal_end
    ∷ begins 9
    ∷ does (place 10 1) 1 ([]) (value (builtin 14)) None ((reads (var_at 0 (codes "print"))) ∷ []) 0
    ∷ does (place 10 7) 1 ([]) (value (object 1)) None ((reads (var_at 0 (codes "a"))) ∷ []) 0
    ∷ does (place 10 10) 1 ([]) (value (object 1)) None ((reads (var_at 0 (codes "b"))) ∷ []) 0
    ∷ does (place 10 15) 1 ([]) (value (object 1)) None ((reads (var_at 0 (codes "a"))) ∷ []) 0
    ∷ does (place 10 12) 20 ((object 1) ∷ (object 1) ∷ []) (value (truth true)) None ([]) 0
    ∷ does (place 10 18) 1 ([]) (value (builtin 8)) None ((reads (var_at 0 (codes "len"))) ∷ []) 0
    ∷ does (place 10 22) 1 ([]) (value (object 1)) None ((reads (var_at 0 (codes "b"))) ∷ []) 0
    ∷ does (place 10 21) 58 ((object 1) ∷ []) (value (int (pos 7))) None ((reads (len_at 1)) ∷ []) 0
    ∷ does (place 10 6) 64 ((object 1) ∷ (truth true) ∷ (int (pos 7)) ∷ []) (value nothing) None ((reads (len_at 1)) ∷ (reads (item_at 1 0)) ∷ (reads (item_at 1 1)) ∷ (reads (item_at 1 2)) ∷ (reads (item_at 1 3)) ∷ (reads (item_at 1 4)) ∷ (reads (item_at 1 5)) ∷ (reads (item_at 1 6)) ∷ []) 1
    ∷ ends 9 normal_end
    ∷ begins 10
    ∷ does (place 11 1) 1 ([]) (value (object 1)) None ((reads (var_at 0 (codes "a"))) ∷ []) 0
    ∷ does (place 11 2) 32 ((object 1) ∷ []) (value (builtin 86)) None ([]) 0
    ∷ does (place 11 7) 86 ((object 1) ∷ []) (value nothing) None ((reads (len_at 1)) ∷ (reads (item_at 1 0)) ∷ (reads (item_at 1 1)) ∷ (reads (item_at 1 2)) ∷ (reads (item_at 1 3)) ∷ (reads (item_at 1 4)) ∷ (reads (item_at 1 5)) ∷ (reads (item_at 1 6)) ∷ (sets (item_at 1 0) (item_is (int (pos 1)))) ∷ (sets (item_at 1 1) (item_is (int (pos 2)))) ∷ (sets (item_at 1 2) (item_is (int (pos 3)))) ∷ (sets (item_at 1 3) (item_is (int (pos 4)))) ∷ (sets (item_at 1 4) (item_is (int (pos 5)))) ∷ (sets (item_at 1 5) (item_is (int (pos 7)))) ∷ (sets (item_at 1 6) (item_is (int (pos 9)))) ∷ []) 0
    ∷ ends 10 normal_end
    ∷ begins 11
    ∷ does (place 12 1) 1 ([]) (value (builtin 14)) None ((reads (var_at 0 (codes "print"))) ∷ []) 0
    ∷ does (place 12 7) 1 ([]) (value (object 1)) None ((reads (var_at 0 (codes "a"))) ∷ []) 0
    ∷ does (place 12 10) 1 ([]) (value (builtin 17)) None ((reads (var_at 0 (codes "sorted"))) ∷ []) 0
    ∷ does (place 12 19) 0 ([]) (value (int (pos 2))) None ([]) 0
    ∷ does (place 12 22) 0 ([]) (value (text (codes "b"))) None ([]) 0
    ∷ does (place 12 20) 25 ((int (pos 2)) ∷ (text (codes "b")) ∷ []) (value (tuple (part (int (pos 2)) (part (text (codes "b")) no_parts)))) None ([]) 0
    ∷ does (place 12 29) 0 ([]) (value (int (pos 1))) None ([]) 0
    ∷ does (place 12 32) 0 ([]) (value (text (codes "z"))) None ([]) 0
    ∷ does (place 12 30) 25 ((int (pos 1)) ∷ (text (codes "z")) ∷ []) (value (tuple (part (int (pos 1)) (part (text (codes "z")) no_parts)))) None ([]) 0
    ∷ does (place 12 39) 0 ([]) (value (int (pos 2))) None ([]) 0
    ∷ does (place 12 42) 0 ([]) (value (text (codes "a"))) None ([]) 0
    ∷ does (place 12 40) 25 ((int (pos 2)) ∷ (text (codes "a")) ∷ []) (value (tuple (part (int (pos 2)) (part (text (codes "a")) no_parts)))) None ([]) 0
    ∷ does (place 12 17) 23 ((tuple (part (int (pos 2)) (part (text (codes "b")) no_parts))) ∷ (tuple (part (int (pos 1)) (part (text (codes "z")) no_parts))) ∷ (tuple (part (int (pos 2)) (part (text (codes "a")) no_parts))) ∷ []) (value (object 3)) (Some a_list) ((sets (len_at 3) (len_is 3)) ∷ (sets (item_at 3 0) (item_is (tuple (part (int (pos 2)) (part (text (codes "b")) no_parts))))) ∷ (sets (item_at 3 1) (item_is (tuple (part (int (pos 1)) (part (text (codes "z")) no_parts))))) ∷ (sets (item_at 3 2) (item_is (tuple (part (int (pos 2)) (part (text (codes "a")) no_parts))))) ∷ []) 0
    ∷ does (place 12 16) 67 ((object 3) ∷ []) (value (object 4)) (Some a_list) ((reads (len_at 3)) ∷ (reads (item_at 3 0)) ∷ (reads (item_at 3 1)) ∷ (reads (item_at 3 2)) ∷ (sets (len_at 4) (len_is 3)) ∷ (sets (item_at 4 0) (item_is (tuple (part (int (pos 1)) (part (text (codes "z")) no_parts))))) ∷ (sets (item_at 4 1) (item_is (tuple (part (int (pos 2)) (part (text (codes "a")) no_parts))))) ∷ (sets (item_at 4 2) (item_is (tuple (part (int (pos 2)) (part (text (codes "b")) no_parts))))) ∷ []) 0
    ∷ does (place 12 50) 1 ([]) (value (object 1)) None ((reads (var_at 0 (codes "a"))) ∷ []) 0
    ∷ does (place 12 52) 0 ([]) (value (int (pos 1))) None ([]) 0
    ∷ does (place 12 54) 0 ([]) (value (int (pos 3))) None ([]) 0
    ∷ does (place 12 51) 27 ((object 1) ∷ (int (pos 1)) ∷ (int (pos 3)) ∷ []) (value (object 5)) (Some a_list) ((reads (len_at 1)) ∷ (reads (item_at 1 1)) ∷ (reads (item_at 1 2)) ∷ (sets (len_at 5) (len_is 2)) ∷ (sets (item_at 5 0) (item_is (int (pos 2)))) ∷ (sets (item_at 5 1) (item_is (int (pos 3)))) ∷ []) 0
    ∷ does (place 12 58) 1 ([]) (value (object 1)) None ((reads (var_at 0 (codes "a"))) ∷ []) 0
    ∷ does (place 12 61) 0 ([]) (value (int (pos 2))) None ([]) 0
    ∷ does (place 12 60) 5 ((int (pos 2)) ∷ []) (value (int (negsuc 1))) None ([]) 0
    ∷ does (place 12 59) 27 ((object 1) ∷ (int (negsuc 1)) ∷ nothing ∷ []) (value (object 6)) (Some a_list) ((reads (len_at 1)) ∷ (reads (item_at 1 5)) ∷ (reads (item_at 1 6)) ∷ (sets (len_at 6) (len_is 2)) ∷ (sets (item_at 6 0) (item_is (int (pos 7)))) ∷ (sets (item_at 6 1) (item_is (int (pos 9)))) ∷ []) 0
    ∷ does (place 12 66) 1 ([]) (value (object 1)) None ((reads (var_at 0 (codes "a"))) ∷ []) 0
    ∷ does (place 12 67) 27 ((object 1) ∷ nothing ∷ nothing ∷ []) (value (object 7)) (Some a_list) ((reads (len_at 1)) ∷ (reads (item_at 1 0)) ∷ (reads (item_at 1 1)) ∷ (reads (item_at 1 2)) ∷ (reads (item_at 1 3)) ∷ (reads (item_at 1 4)) ∷ (reads (item_at 1 5)) ∷ (reads (item_at 1 6)) ∷ (sets (len_at 7) (len_is 7)) ∷ (sets (item_at 7 0) (item_is (int (pos 1)))) ∷ (sets (item_at 7 1) (item_is (int (pos 2)))) ∷ (sets (item_at 7 2) (item_is (int (pos 3)))) ∷ (sets (item_at 7 3) (item_is (int (pos 4)))) ∷ (sets (item_at 7 4) (item_is (int (pos 5)))) ∷ (sets (item_at 7 5) (item_is (int (pos 7)))) ∷ (sets (item_at 7 6) (item_is (int (pos 9)))) ∷ []) 0
    ∷ does (place 12 6) 64 ((object 1) ∷ (object 4) ∷ (object 5) ∷ (object 6) ∷ (object 7) ∷ []) (value nothing) None ((reads (len_at 1)) ∷ (reads (item_at 1 0)) ∷ (reads (item_at 1 1)) ∷ (reads (item_at 1 2)) ∷ (reads (item_at 1 3)) ∷ (reads (item_at 1 4)) ∷ (reads (item_at 1 5)) ∷ (reads (item_at 1 6)) ∷ (reads (len_at 4)) ∷ (reads (item_at 4 0)) ∷ (reads (item_at 4 1)) ∷ (reads (item_at 4 2)) ∷ (reads (len_at 5)) ∷ (reads (item_at 5 0)) ∷ (reads (item_at 5 1)) ∷ (reads (len_at 6)) ∷ (reads (item_at 6 0)) ∷ (reads (item_at 6 1)) ∷ (reads (len_at 7)) ∷ (reads (item_at 7 0)) ∷ (reads (item_at 7 1)) ∷ (reads (item_at 7 2)) ∷ (reads (item_at 7 3)) ∷ (reads (item_at 7 4)) ∷ (reads (item_at 7 5)) ∷ (reads (item_at 7 6)) ∷ []) 8
    ∷ ends 11 normal_end
    ∷ begins 12
    ∷ does (place 13 5) 1 ([]) (value (object 1)) None ((reads (var_at 0 (codes "a"))) ∷ []) 0
    ∷ does (place 13 7) 0 ([]) (value (int (pos 0))) None ([]) 0
    ∷ does (place 13 6) 29 ((object 1) ∷ (int (pos 0)) ∷ []) (value nothing) None ((reads (len_at 1)) ∷ (reads (item_at 1 1)) ∷ (sets (item_at 1 0) (item_is (int (pos 2)))) ∷ (reads (item_at 1 2)) ∷ (sets (item_at 1 1) (item_is (int (pos 3)))) ∷ (reads (item_at 1 3)) ∷ (sets (item_at 1 2) (item_is (int (pos 4)))) ∷ (reads (item_at 1 4)) ∷ (sets (item_at 1 3) (item_is (int (pos 5)))) ∷ (reads (item_at 1 5)) ∷ (sets (item_at 1 4) (item_is (int (pos 7)))) ∷ (reads (item_at 1 6)) ∷ (sets (item_at 1 5) (item_is (int (pos 9)))) ∷ (sets (len_at 1) (len_is 6)) ∷ []) 0
    ∷ ends 12 normal_end
    ∷ begins 13
    ∷ does (place 14 8) 0 ([]) (value (text (codes "first"))) None ([]) 0
    ∷ does (place 14 1) 1 ([]) (value (object 1)) None ((reads (var_at 0 (codes "a"))) ∷ []) 0
    ∷ does (place 14 3) 0 ([]) (value (int (pos 0))) None ([]) 0
    ∷ does (place 14 2) 28 ((object 1) ∷ (int (pos 0)) ∷ (text (codes "first")) ∷ []) (value nothing) None ((reads (len_at 1)) ∷ (sets (item_at 1 0) (item_is (text (codes "first")))) ∷ []) 0
    ∷ ends 13 normal_end
    ∷ begins 14
    ∷ does (place 15 1) 1 ([]) (value (object 1)) None ((reads (var_at 0 (codes "a"))) ∷ []) 0
    ∷ does (place 15 4) 0 ([]) (value (int (pos 1))) None ([]) 0
    ∷ does (place 15 3) 5 ((int (pos 1)) ∷ []) (value (int (negsuc 0))) None ([]) 0
    ∷ does (place 15 2) 26 ((object 1) ∷ (int (negsuc 0)) ∷ []) (value (int (pos 9))) None ((reads (len_at 1)) ∷ (reads (item_at 1 5)) ∷ []) 0
    ∷ does (place 15 10) 0 ([]) (value (int (pos 1))) None ([]) 0
    ∷ does (place 15 7) 22 ((int (pos 9)) ∷ (int (pos 1)) ∷ []) (value (int (pos 10))) None ([]) 0
    ∷ does (place 15 2) 28 ((object 1) ∷ (int (negsuc 0)) ∷ (int (pos 10)) ∷ []) (value nothing) None ((reads (len_at 1)) ∷ (sets (item_at 1 5) (item_is (int (pos 10)))) ∷ []) 0
    ∷ ends 14 normal_end
    ∷ begins 15
    ∷ does (place 16 1) 1 ([]) (value (builtin 14)) None ((reads (var_at 0 (codes "print"))) ∷ []) 0
    ∷ does (place 16 7) 1 ([]) (value (object 1)) None ((reads (var_at 0 (codes "a"))) ∷ []) 0
    ∷ does (place 16 12) 0 ([]) (value (int (pos 1))) None ([]) 0
    ∷ does (place 16 11) 23 ((int (pos 1)) ∷ []) (value (object 8)) (Some a_list) ((sets (len_at 8) (len_is 1)) ∷ (sets (item_at 8 0) (item_is (int (pos 1)))) ∷ []) 0
    ∷ does (place 16 9) 7 ((object 1) ∷ (object 8) ∷ []) (value (object 9)) (Some a_list) ((reads (len_at 1)) ∷ (reads (item_at 1 0)) ∷ (reads (item_at 1 1)) ∷ (reads (item_at 1 2)) ∷ (reads (item_at 1 3)) ∷ (reads (item_at 1 4)) ∷ (reads (item_at 1 5)) ∷ (reads (len_at 8)) ∷ (reads (item_at 8 0)) ∷ (sets (len_at 9) (len_is 7)) ∷ (sets (item_at 9 0) (item_is (text (codes "first")))) ∷ (sets (item_at 9 1) (item_is (int (pos 3)))) ∷ (sets (item_at 9 2) (item_is (int (pos 4)))) ∷ (sets (item_at 9 3) (item_is (int (pos 5)))) ∷ (sets (item_at 9 4) (item_is (int (pos 7)))) ∷ (sets (item_at 9 5) (item_is (int (pos 10)))) ∷ (sets (item_at 9 6) (item_is (int (pos 1)))) ∷ []) 0
    ∷ does (place 16 17) 0 ([]) (value (int (pos 0))) None ([]) 0
    ∷ does (place 16 16) 23 ((int (pos 0)) ∷ []) (value (object 10)) (Some a_list) ((sets (len_at 10) (len_is 1)) ∷ (sets (item_at 10 0) (item_is (int (pos 0)))) ∷ []) 0
    ∷ does (place 16 22) 0 ([]) (value (int (pos 3))) None ([]) 0
    ∷ does (place 16 20) 9 ((object 10) ∷ (int (pos 3)) ∷ []) (value (object 11)) (Some a_list) ((reads (len_at 10)) ∷ (reads (item_at 10 0)) ∷ (sets (len_at 11) (len_is 3)) ∷ (sets (item_at 11 0) (item_is (int (pos 0)))) ∷ (sets (item_at 11 1) (item_is (int (pos 0)))) ∷ (sets (item_at 11 2) (item_is (int (pos 0)))) ∷ []) 0
    ∷ does (place 16 25) 0 ([]) (value (int (pos 2))) None ([]) 0
    ∷ does (place 16 30) 0 ([]) (value (int (pos 1))) None ([]) 0
    ∷ does (place 16 33) 0 ([]) (value (int (pos 2))) None ([]) 0
    ∷ does (place 16 29) 23 ((int (pos 1)) ∷ (int (pos 2)) ∷ []) (value (object 12)) (Some a_list) ((sets (len_at 12) (len_is 2)) ∷ (sets (item_at 12 0) (item_is (int (pos 1)))) ∷ (sets (item_at 12 1) (item_is (int (pos 2)))) ∷ []) 0
    ∷ does (place 16 27) 9 ((int (pos 2)) ∷ (object 12) ∷ []) (value (object 13)) (Some a_list) ((reads (len_at 12)) ∷ (reads (item_at 12 0)) ∷ (reads (item_at 12 1)) ∷ (sets (len_at 13) (len_is 4)) ∷ (sets (item_at 13 0) (item_is (int (pos 1)))) ∷ (sets (item_at 13 1) (item_is (int (pos 2)))) ∷ (sets (item_at 13 2) (item_is (int (pos 1)))) ∷ (sets (item_at 13 3) (item_is (int (pos 2)))) ∷ []) 0
    ∷ does (place 16 37) 1 ([]) (value (object 1)) None ((reads (var_at 0 (codes "a"))) ∷ []) 0
    ∷ does (place 16 42) 1 ([]) (value (object 1)) None ((reads (var_at 0 (codes "b"))) ∷ []) 0
    ∷ does (place 16 39) 12 ((object 1) ∷ (object 1) ∷ []) (value (truth true)) None ([]) 0
    ∷ does (place 16 46) 0 ([]) (value (int (pos 1))) None ([]) 0
    ∷ does (place 16 50) 0 ([]) (value (int (pos 2))) None ([]) 0
    ∷ does (place 16 49) 23 ((int (pos 2)) ∷ []) (value (object 14)) (Some a_list) ((sets (len_at 14) (len_is 1)) ∷ (sets (item_at 14 0) (item_is (int (pos 2)))) ∷ []) 0
    ∷ does (place 16 45) 23 ((int (pos 1)) ∷ (object 14) ∷ []) (value (object 15)) (Some a_list) ((sets (len_at 15) (len_is 2)) ∷ (sets (item_at 15 0) (item_is (int (pos 1)))) ∷ (sets (item_at 15 1) (item_is (object 14))) ∷ []) 0
    ∷ does (place 16 58) 0 ([]) (value (int (pos 1))) None ([]) 0
    ∷ does (place 16 62) 0 ([]) (value (int (pos 2))) None ([]) 0
    ∷ does (place 16 61) 23 ((int (pos 2)) ∷ []) (value (object 16)) (Some a_list) ((sets (len_at 16) (len_is 1)) ∷ (sets (item_at 16 0) (item_is (int (pos 2)))) ∷ []) 0
    ∷ does (place 16 57) 23 ((int (pos 1)) ∷ (object 16) ∷ []) (value (object 17)) (Some a_list) ((sets (len_at 17) (len_is 2)) ∷ (sets (item_at 17 0) (item_is (int (pos 1)))) ∷ (sets (item_at 17 1) (item_is (object 16))) ∷ []) 0
    ∷ does (place 16 54) 12 ((object 15) ∷ (object 17) ∷ []) (value (truth true)) None ((reads (len_at 15)) ∷ (reads (len_at 17)) ∷ (reads (item_at 15 0)) ∷ (reads (item_at 17 0)) ∷ (reads (item_at 15 1)) ∷ (reads (item_at 17 1)) ∷ (reads (len_at 14)) ∷ (reads (len_at 16)) ∷ (reads (item_at 14 0)) ∷ (reads (item_at 16 0)) ∷ []) 0
    ∷ does (place 16 68) 0 ([]) (value (int (pos 1))) None ([]) 0
    ∷ does (place 16 71) 0 ([]) (value (int (pos 2))) None ([]) 0
    ∷ does (place 16 67) 23 ((int (pos 1)) ∷ (int (pos 2)) ∷ []) (value (object 18)) (Some a_list) ((sets (len_at 18) (len_is 2)) ∷ (sets (item_at 18 0) (item_is (int (pos 1)))) ∷ (sets (item_at 18 1) (item_is (int (pos 2)))) ∷ []) 0
    ∷ does (place 16 77) 0 ([]) (value (int (pos 1))) None ([]) 0
    ∷ does (place 16 80) 0 ([]) (value (int (pos 3))) None ([]) 0
    ∷ does (place 16 76) 23 ((int (pos 1)) ∷ (int (pos 3)) ∷ []) (value (object 19)) (Some a_list) ((sets (len_at 19) (len_is 2)) ∷ (sets (item_at 19 0) (item_is (int (pos 1)))) ∷ (sets (item_at 19 1) (item_is (int (pos 3)))) ∷ []) 0
    ∷ does (place 16 74) 14 ((object 18) ∷ (object 19) ∷ []) (value (truth true)) None ((reads (len_at 18)) ∷ (reads (len_at 19)) ∷ (reads (item_at 18 0)) ∷ (reads (item_at 19 0)) ∷ (reads (item_at 18 1)) ∷ (reads (item_at 19 1)) ∷ []) 0
    ∷ does (place 16 6) 64 ((object 9) ∷ (object 11) ∷ (object 13) ∷ (truth true) ∷ (truth true) ∷ (truth true) ∷ []) (value nothing) None ((reads (len_at 9)) ∷ (reads (item_at 9 0)) ∷ (reads (item_at 9 1)) ∷ (reads (item_at 9 2)) ∷ (reads (item_at 9 3)) ∷ (reads (item_at 9 4)) ∷ (reads (item_at 9 5)) ∷ (reads (item_at 9 6)) ∷ (reads (len_at 11)) ∷ (reads (item_at 11 0)) ∷ (reads (item_at 11 1)) ∷ (reads (item_at 11 2)) ∷ (reads (len_at 13)) ∷ (reads (item_at 13 0)) ∷ (reads (item_at 13 1)) ∷ (reads (item_at 13 2)) ∷ (reads (item_at 13 3)) ∷ []) 2
    ∷ ends 15 normal_end
    ∷ begins 16
    ∷ does (place 17 1) 1 ([]) (value (builtin 14)) None ((reads (var_at 0 (codes "print"))) ∷ []) 0
    ∷ does (place 17 7) 1 ([]) (value (builtin 9)) None ((reads (var_at 0 (codes "list"))) ∷ []) 0
    ∷ does (place 17 12) 0 ([]) (value (text (codes "ab"))) None ([]) 0
    ∷ does (place 17 11) 59 ((text (codes "ab")) ∷ []) (value (object 20)) (Some a_list) ((sets (len_at 20) (len_is 2)) ∷ (sets (item_at 20 0) (item_is (text (codes "a")))) ∷ (sets (item_at 20 1) (item_is (text (codes "b")))) ∷ []) 1
    ∷ does (place 17 19) 1 ([]) (value (builtin 9)) None ((reads (var_at 0 (codes "list"))) ∷ []) 0
    ∷ does (place 17 25) 0 ([]) (value (text (codes "k"))) None ([]) 0
    ∷ does (place 17 30) 0 ([]) (value (int (pos 1))) None ([]) 0
    ∷ does (place 17 24) 24 ((text (codes "k")) ∷ (int (pos 1)) ∷ []) (value (object 21)) (Some a_dict) ((sets (order_at 21) (order_is ((text (codes "k")) ∷ []))) ∷ (sets (entry_at 21 (text (codes "k"))) (entry_is (Some ((text (codes "k")), (int (pos 1)))))) ∷ []) 0
    ∷ does (place 17 23) 59 ((object 21) ∷ []) (value (object 22)) (Some a_list) ((reads (order_at 21)) ∷ (sets (len_at 22) (len_is 1)) ∷ (sets (item_at 22 0) (item_is (text (codes "k")))) ∷ []) 0
    ∷ does (place 17 35) 1 ([]) (value (builtin 9)) None ((reads (var_at 0 (codes "list"))) ∷ []) 0
    ∷ does (place 17 40) 1 ([]) (value (builtin 15)) None ((reads (var_at 0 (codes "range"))) ∷ []) 0
    ∷ does (place 17 46) 0 ([]) (value (int (pos 3))) None ([]) 0
    ∷ does (place 17 45) 65 ((int (pos 3)) ∷ []) (value (range (pos 0) (pos 3) (pos 1))) None ([]) 0
    ∷ does (place 17 39) 59 ((range (pos 0) (pos 3) (pos 1)) ∷ []) (value (object 23)) (Some a_list) ((sets (len_at 23) (len_is 3)) ∷ (sets (item_at 23 0) (item_is (int (pos 0)))) ∷ (sets (item_at 23 1) (item_is (int (pos 1)))) ∷ (sets (item_at 23 2) (item_is (int (pos 2)))) ∷ []) 3
    ∷ does (place 17 51) 1 ([]) (value (builtin 20)) None ((reads (var_at 0 (codes "tuple"))) ∷ []) 0
    ∷ does (place 17 58) 0 ([]) (value (int (pos 1))) None ([]) 0
    ∷ does (place 17 61) 0 ([]) (value (int (pos 2))) None ([]) 0
    ∷ does (place 17 57) 23 ((int (pos 1)) ∷ (int (pos 2)) ∷ []) (value (object 24)) (Some a_list) ((sets (len_at 24) (len_is 2)) ∷ (sets (item_at 24 0) (item_is (int (pos 1)))) ∷ (sets (item_at 24 1) (item_is (int (pos 2)))) ∷ []) 0
    ∷ does (place 17 56) 70 ((object 24) ∷ []) (value (tuple (part (int (pos 1)) (part (int (pos 2)) no_parts)))) None ((reads (len_at 24)) ∷ (reads (item_at 24 0)) ∷ (reads (item_at 24 1)) ∷ []) 0
    ∷ does (place 17 66) 1 ([]) (value (builtin 4)) None ((reads (var_at 0 (codes "enumerate"))) ∷ []) 0
    ∷ does (place 17 76) 0 ([]) (value (text (codes "ab"))) None ([]) 0
    ∷ does (place 17 75) 54 ((text (codes "ab")) ∷ []) (value (object 25)) (Some a_list) ((sets (len_at 25) (len_is 2)) ∷ (sets (item_at 25 0) (item_is (tuple (part (int (pos 0)) (part (text (codes "a")) no_parts))))) ∷ (sets (item_at 25 1) (item_is (tuple (part (int (pos 1)) (part (text (codes "b")) no_parts))))) ∷ []) 1
    ∷ does (place 17 83) 1 ([]) (value (builtin 21)) None ((reads (var_at 0 (codes "zip"))) ∷ []) 0
    ∷ does (place 17 88) 0 ([]) (value (int (pos 1))) None ([]) 0
    ∷ does (place 17 91) 0 ([]) (value (int (pos 2))) None ([]) 0
    ∷ does (place 17 87) 23 ((int (pos 1)) ∷ (int (pos 2)) ∷ []) (value (object 26)) (Some a_list) ((sets (len_at 26) (len_is 2)) ∷ (sets (item_at 26 0) (item_is (int (pos 1)))) ∷ (sets (item_at 26 1) (item_is (int (pos 2)))) ∷ []) 0
    ∷ does (place 17 95) 0 ([]) (value (text (codes "ab"))) None ([]) 0
    ∷ does (place 17 86) 71 ((object 26) ∷ (text (codes "ab")) ∷ []) (value (object 27)) (Some a_list) ((reads (len_at 26)) ∷ (reads (item_at 26 0)) ∷ (reads (item_at 26 1)) ∷ (sets (len_at 27) (len_is 2)) ∷ (sets (item_at 27 0) (item_is (tuple (part (int (pos 1)) (part (text (codes "a")) no_parts))))) ∷ (sets (item_at 27 1) (item_is (tuple (part (int (pos 2)) (part (text (codes "b")) no_parts))))) ∷ []) 1
    ∷ does (place 17 6) 64 ((object 20) ∷ (object 22) ∷ (object 23) ∷ (tuple (part (int (pos 1)) (part (int (pos 2)) no_parts))) ∷ (object 25) ∷ (object 27) ∷ []) (value nothing) None ((reads (len_at 20)) ∷ (reads (item_at 20 0)) ∷ (reads (item_at 20 1)) ∷ (reads (len_at 22)) ∷ (reads (item_at 22 0)) ∷ (reads (len_at 23)) ∷ (reads (item_at 23 0)) ∷ (reads (item_at 23 1)) ∷ (reads (item_at 23 2)) ∷ (reads (len_at 25)) ∷ (reads (item_at 25 0)) ∷ (reads (item_at 25 1)) ∷ (reads (len_at 27)) ∷ (reads (item_at 27 0)) ∷ (reads (item_at 27 1)) ∷ []) 12
    ∷ ends 16 normal_end
    ∷ begins 17
    ∷ does (place 18 10) 1 ([]) (value (object 1)) None ((reads (var_at 0 (codes "a"))) ∷ []) 0
    ∷ does (place 18 1) 36 ((object 1) ∷ []) (value nothing) None ([]) 0
    ∷ does (place 18 1) 37 ((object 1) ∷ (int (pos 0)) ∷ nothing ∷ []) (value (text (codes "first"))) None ((reads (len_at 1)) ∷ (reads (item_at 1 0)) ∷ []) 0
    ∷ does (place 18 5) 33 ((text (codes "first")) ∷ []) (value nothing) None ((sets (var_at 0 (codes "i")) (var_is (Some (text (codes "first"))))) ∷ []) 0
    ∷ begins 18
    ∷ does (place 19 8) 1 ([]) (value (text (codes "first"))) None ((reads (var_at 0 (codes "i"))) ∷ []) 0
    ∷ does (place 19 13) 0 ([]) (value (int (pos 5))) None ([]) 0
    ∷ does (place 19 10) 12 ((text (codes "first")) ∷ (int (pos 5)) ∷ []) (value (truth false)) None ([]) 0
    ∷ does (place 19 10) 3 ((truth false) ∷ []) (value (truth false)) None ([]) 0
    ∷ ends 18 normal_end
    ∷ begins 20
    ∷ does (place 21 8) 1 ([]) (value (builtin 8)) None ((reads (var_at 0 (codes "len"))) ∷ []) 0
    ∷ does (place 21 12) 1 ([]) (value (object 1)) None ((reads (var_at 0 (codes "a"))) ∷ []) 0
    ∷ does (place 21 11) 58 ((object 1) ∷ []) (value (int (pos 6))) None ((reads (len_at 1)) ∷ []) 0
    ∷ does (place 21 17) 0 ([]) (value (int (pos 8))) None ([]) 0
    ∷ does (place 21 15) 14 ((int (pos 6)) ∷ (int (pos 8)) ∷ []) (value (truth true)) None ([]) 0
    ∷ does (place 21 15) 3 ((truth true) ∷ []) (value (truth true)) None ([]) 0
    ∷ begins 21
    ∷ does (place 22 9) 1 ([]) (value (object 1)) None ((reads (var_at 0 (codes "a"))) ∷ []) 0
    ∷ does (place 22 10) 32 ((object 1) ∷ []) (value (builtin 80)) None ([]) 0
    ∷ does (place 22 18) 0 ([]) (value (int (pos 0))) None ([]) 0
    ∷ does (place 22 17) 80 ((object 1) ∷ (int (pos 0)) ∷ []) (value nothing) None ((reads (len_at 1)) ∷ (sets (item_at 1 6) (item_is (int (pos 0)))) ∷ (sets (len_at 1) (len_is 7)) ∷ []) 0
    ∷ ends 21 normal_end
    ∷ ends 20 normal_end
    ∷ does (place 18 1) 37 ((object 1) ∷ (int (pos 1)) ∷ nothing ∷ []) (value (int (pos 3))) None ((reads (len_at 1)) ∷ (reads (item_at 1 1)) ∷ []) 0
    ∷ does (place 18 5) 33 ((int (pos 3)) ∷ []) (value nothing) None ((sets (var_at 0 (codes "i")) (var_is (Some (int (pos 3))))) ∷ []) 0
    ∷ begins 18
    ∷ does (place 19 8) 1 ([]) (value (int (pos 3))) None ((reads (var_at 0 (codes "i"))) ∷ []) 0
    ∷ does (place 19 13) 0 ([]) (value (int (pos 5))) None ([]) 0
    ∷ does (place 19 10) 12 ((int (pos 3)) ∷ (int (pos 5)) ∷ []) (value (truth false)) None ([]) 0
    ∷ does (place 19 10) 3 ((truth false) ∷ []) (value (truth false)) None ([]) 0
    ∷ ends 18 normal_end
    ∷ begins 20
    ∷ does (place 21 8) 1 ([]) (value (builtin 8)) None ((reads (var_at 0 (codes "len"))) ∷ []) 0
    ∷ does (place 21 12) 1 ([]) (value (object 1)) None ((reads (var_at 0 (codes "a"))) ∷ []) 0
    ∷ does (place 21 11) 58 ((object 1) ∷ []) (value (int (pos 7))) None ((reads (len_at 1)) ∷ []) 0
    ∷ does (place 21 17) 0 ([]) (value (int (pos 8))) None ([]) 0
    ∷ does (place 21 15) 14 ((int (pos 7)) ∷ (int (pos 8)) ∷ []) (value (truth true)) None ([]) 0
    ∷ does (place 21 15) 3 ((truth true) ∷ []) (value (truth true)) None ([]) 0
    ∷ begins 21
    ∷ does (place 22 9) 1 ([]) (value (object 1)) None ((reads (var_at 0 (codes "a"))) ∷ []) 0
    ∷ does (place 22 10) 32 ((object 1) ∷ []) (value (builtin 80)) None ([]) 0
    ∷ does (place 22 18) 0 ([]) (value (int (pos 0))) None ([]) 0
    ∷ does (place 22 17) 80 ((object 1) ∷ (int (pos 0)) ∷ []) (value nothing) None ((reads (len_at 1)) ∷ (sets (item_at 1 7) (item_is (int (pos 0)))) ∷ (sets (len_at 1) (len_is 8)) ∷ []) 0
    ∷ ends 21 normal_end
    ∷ ends 20 normal_end
    ∷ does (place 18 1) 37 ((object 1) ∷ (int (pos 2)) ∷ nothing ∷ []) (value (int (pos 4))) None ((reads (len_at 1)) ∷ (reads (item_at 1 2)) ∷ []) 0
    ∷ does (place 18 5) 33 ((int (pos 4)) ∷ []) (value nothing) None ((sets (var_at 0 (codes "i")) (var_is (Some (int (pos 4))))) ∷ []) 0
    ∷ begins 18
    ∷ does (place 19 8) 1 ([]) (value (int (pos 4))) None ((reads (var_at 0 (codes "i"))) ∷ []) 0
    ∷ does (place 19 13) 0 ([]) (value (int (pos 5))) None ([]) 0
    ∷ does (place 19 10) 12 ((int (pos 4)) ∷ (int (pos 5)) ∷ []) (value (truth false)) None ([]) 0
    ∷ does (place 19 10) 3 ((truth false) ∷ []) (value (truth false)) None ([]) 0
    ∷ ends 18 normal_end
    ∷ begins 20
    ∷ does (place 21 8) 1 ([]) (value (builtin 8)) None ((reads (var_at 0 (codes "len"))) ∷ []) 0
    ∷ does (place 21 12) 1 ([]) (value (object 1)) None ((reads (var_at 0 (codes "a"))) ∷ []) 0
    ∷ does (place 21 11) 58 ((object 1) ∷ []) (value (int (pos 8))) None ((reads (len_at 1)) ∷ []) 0
    ∷ does (place 21 17) 0 ([]) (value (int (pos 8))) None ([]) 0
    ∷ does (place 21 15) 14 ((int (pos 8)) ∷ (int (pos 8)) ∷ []) (value (truth false)) None ([]) 0
    ∷ does (place 21 15) 3 ((truth false) ∷ []) (value (truth false)) None ([]) 0
    ∷ ends 20 normal_end
    ∷ does (place 18 1) 37 ((object 1) ∷ (int (pos 3)) ∷ nothing ∷ []) (value (int (pos 5))) None ((reads (len_at 1)) ∷ (reads (item_at 1 3)) ∷ []) 0
    ∷ does (place 18 5) 33 ((int (pos 5)) ∷ []) (value nothing) None ((sets (var_at 0 (codes "i")) (var_is (Some (int (pos 5))))) ∷ []) 0
    ∷ begins 18
    ∷ does (place 19 8) 1 ([]) (value (int (pos 5))) None ((reads (var_at 0 (codes "i"))) ∷ []) 0
    ∷ does (place 19 13) 0 ([]) (value (int (pos 5))) None ([]) 0
    ∷ does (place 19 10) 12 ((int (pos 5)) ∷ (int (pos 5)) ∷ []) (value (truth true)) None ([]) 0
    ∷ does (place 19 10) 3 ((truth true) ∷ []) (value (truth true)) None ([]) 0
    ∷ begins 19
    ∷ ends 19 continue_end
    ∷ ends 18 continue_end
    ∷ does (place 18 1) 37 ((object 1) ∷ (int (pos 4)) ∷ nothing ∷ []) (value (int (pos 7))) None ((reads (len_at 1)) ∷ (reads (item_at 1 4)) ∷ []) 0
    ∷ does (place 18 5) 33 ((int (pos 7)) ∷ []) (value nothing) None ((sets (var_at 0 (codes "i")) (var_is (Some (int (pos 7))))) ∷ []) 0
    ∷ begins 18
    ∷ does (place 19 8) 1 ([]) (value (int (pos 7))) None ((reads (var_at 0 (codes "i"))) ∷ []) 0
    ∷ does (place 19 13) 0 ([]) (value (int (pos 5))) None ([]) 0
    ∷ does (place 19 10) 12 ((int (pos 7)) ∷ (int (pos 5)) ∷ []) (value (truth false)) None ([]) 0
    ∷ does (place 19 10) 3 ((truth false) ∷ []) (value (truth false)) None ([]) 0
    ∷ ends 18 normal_end
    ∷ begins 20
    ∷ does (place 21 8) 1 ([]) (value (builtin 8)) None ((reads (var_at 0 (codes "len"))) ∷ []) 0
    ∷ does (place 21 12) 1 ([]) (value (object 1)) None ((reads (var_at 0 (codes "a"))) ∷ []) 0
    ∷ does (place 21 11) 58 ((object 1) ∷ []) (value (int (pos 8))) None ((reads (len_at 1)) ∷ []) 0
    ∷ does (place 21 17) 0 ([]) (value (int (pos 8))) None ([]) 0
    ∷ does (place 21 15) 14 ((int (pos 8)) ∷ (int (pos 8)) ∷ []) (value (truth false)) None ([]) 0
    ∷ does (place 21 15) 3 ((truth false) ∷ []) (value (truth false)) None ([]) 0
    ∷ ends 20 normal_end
    ∷ does (place 18 1) 37 ((object 1) ∷ (int (pos 5)) ∷ nothing ∷ []) (value (int (pos 10))) None ((reads (len_at 1)) ∷ (reads (item_at 1 5)) ∷ []) 0
    ∷ does (place 18 5) 33 ((int (pos 10)) ∷ []) (value nothing) None ((sets (var_at 0 (codes "i")) (var_is (Some (int (pos 10))))) ∷ []) 0
    ∷ begins 18
    ∷ does (place 19 8) 1 ([]) (value (int (pos 10))) None ((reads (var_at 0 (codes "i"))) ∷ []) 0
    ∷ does (place 19 13) 0 ([]) (value (int (pos 5))) None ([]) 0
    ∷ does (place 19 10) 12 ((int (pos 10)) ∷ (int (pos 5)) ∷ []) (value (truth false)) None ([]) 0
    ∷ does (place 19 10) 3 ((truth false) ∷ []) (value (truth false)) None ([]) 0
    ∷ ends 18 normal_end
    ∷ begins 20
    ∷ does (place 21 8) 1 ([]) (value (builtin 8)) None ((reads (var_at 0 (codes "len"))) ∷ []) 0
    ∷ does (place 21 12) 1 ([]) (value (object 1)) None ((reads (var_at 0 (codes "a"))) ∷ []) 0
    ∷ does (place 21 11) 58 ((object 1) ∷ []) (value (int (pos 8))) None ((reads (len_at 1)) ∷ []) 0
    ∷ does (place 21 17) 0 ([]) (value (int (pos 8))) None ([]) 0
    ∷ does (place 21 15) 14 ((int (pos 8)) ∷ (int (pos 8)) ∷ []) (value (truth false)) None ([]) 0
    ∷ does (place 21 15) 3 ((truth false) ∷ []) (value (truth false)) None ([]) 0
    ∷ ends 20 normal_end
    ∷ does (place 18 1) 37 ((object 1) ∷ (int (pos 6)) ∷ nothing ∷ []) (value (int (pos 0))) None ((reads (len_at 1)) ∷ (reads (item_at 1 6)) ∷ []) 0
    ∷ does (place 18 5) 33 ((int (pos 0)) ∷ []) (value nothing) None ((sets (var_at 0 (codes "i")) (var_is (Some (int (pos 0))))) ∷ []) 0
    ∷ begins 18
    ∷ does (place 19 8) 1 ([]) (value (int (pos 0))) None ((reads (var_at 0 (codes "i"))) ∷ []) 0
    ∷ does (place 19 13) 0 ([]) (value (int (pos 5))) None ([]) 0
    ∷ does (place 19 10) 12 ((int (pos 0)) ∷ (int (pos 5)) ∷ []) (value (truth false)) None ([]) 0
    ∷ does (place 19 10) 3 ((truth false) ∷ []) (value (truth false)) None ([]) 0
    ∷ ends 18 normal_end
    ∷ begins 20
    ∷ does (place 21 8) 1 ([]) (value (builtin 8)) None ((reads (var_at 0 (codes "len"))) ∷ []) 0
    ∷ does (place 21 12) 1 ([]) (value (object 1)) None ((reads (var_at 0 (codes "a"))) ∷ []) 0
    ∷ does (place 21 11) 58 ((object 1) ∷ []) (value (int (pos 8))) None ((reads (len_at 1)) ∷ []) 0
    ∷ does (place 21 17) 0 ([]) (value (int (pos 8))) None ([]) 0
    ∷ does (place 21 15) 14 ((int (pos 8)) ∷ (int (pos 8)) ∷ []) (value (truth false)) None ([]) 0
    ∷ does (place 21 15) 3 ((truth false) ∷ []) (value (truth false)) None ([]) 0
    ∷ ends 20 normal_end
    ∷ does (place 18 1) 37 ((object 1) ∷ (int (pos 7)) ∷ nothing ∷ []) (value (int (pos 0))) None ((reads (len_at 1)) ∷ (reads (item_at 1 7)) ∷ []) 0
    ∷ does (place 18 5) 33 ((int (pos 0)) ∷ []) (value nothing) None ((sets (var_at 0 (codes "i")) (var_is (Some (int (pos 0))))) ∷ []) 0
    ∷ begins 18
    ∷ does (place 19 8) 1 ([]) (value (int (pos 0))) None ((reads (var_at 0 (codes "i"))) ∷ []) 0
    ∷ does (place 19 13) 0 ([]) (value (int (pos 5))) None ([]) 0
    ∷ does (place 19 10) 12 ((int (pos 0)) ∷ (int (pos 5)) ∷ []) (value (truth false)) None ([]) 0
    ∷ does (place 19 10) 3 ((truth false) ∷ []) (value (truth false)) None ([]) 0
    ∷ ends 18 normal_end
    ∷ begins 20
    ∷ does (place 21 8) 1 ([]) (value (builtin 8)) None ((reads (var_at 0 (codes "len"))) ∷ []) 0
    ∷ does (place 21 12) 1 ([]) (value (object 1)) None ((reads (var_at 0 (codes "a"))) ∷ []) 0
    ∷ does (place 21 11) 58 ((object 1) ∷ []) (value (int (pos 8))) None ((reads (len_at 1)) ∷ []) 0
    ∷ does (place 21 17) 0 ([]) (value (int (pos 8))) None ([]) 0
    ∷ does (place 21 15) 14 ((int (pos 8)) ∷ (int (pos 8)) ∷ []) (value (truth false)) None ([]) 0
    ∷ does (place 21 15) 3 ((truth false) ∷ []) (value (truth false)) None ([]) 0
    ∷ ends 20 normal_end
    ∷ does (place 18 1) 37 ((object 1) ∷ (int (pos 8)) ∷ nothing ∷ []) at_end None ((reads (len_at 1)) ∷ []) 0
    ∷ ends 17 normal_end
    ∷ begins 22
    ∷ does (place 23 1) 1 ([]) (value (builtin 14)) None ((reads (var_at 0 (codes "print"))) ∷ []) 0
    ∷ does (place 23 7) 1 ([]) (value (object 1)) None ((reads (var_at 0 (codes "a"))) ∷ []) 0
    ∷ does (place 23 10) 0 ([]) (value (int (pos 2))) None ([]) 0
    ∷ does (place 23 15) 1 ([]) (value (object 1)) None ((reads (var_at 0 (codes "a"))) ∷ []) 0
    ∷ does (place 23 12) 18 ((int (pos 2)) ∷ (object 1) ∷ []) (value (truth false)) None ((reads (len_at 1)) ∷ (reads (item_at 1 0)) ∷ (reads (item_at 1 1)) ∷ (reads (item_at 1 2)) ∷ (reads (item_at 1 3)) ∷ (reads (item_at 1 4)) ∷ (reads (item_at 1 5)) ∷ (reads (item_at 1 6)) ∷ (reads (item_at 1 7)) ∷ []) 0
    ∷ does (place 23 18) 0 ([]) (value (int (pos 99))) None ([]) 0
    ∷ does (place 23 28) 1 ([]) (value (object 1)) None ((reads (var_at 0 (codes "a"))) ∷ []) 0
    ∷ does (place 23 21) 19 ((int (pos 99)) ∷ (object 1) ∷ []) (value (truth true)) None ((reads (len_at 1)) ∷ (reads (item_at 1 0)) ∷ (reads (item_at 1 1)) ∷ (reads (item_at 1 2)) ∷ (reads (item_at 1 3)) ∷ (reads (item_at 1 4)) ∷ (reads (item_at 1 5)) ∷ (reads (item_at 1 6)) ∷ (reads (item_at 1 7)) ∷ []) 0
    ∷ does (place 23 31) 1 ([]) (value (builtin 10)) None ((reads (var_at 0 (codes "max"))) ∷ []) 0
    ∷ does (place 23 36) 0 ([]) (value (text (codes "a"))) None ([]) 0
    ∷ does (place 23 41) 0 ([]) (value (text (codes "b"))) None ([]) 0
    ∷ does (place 23 35) 23 ((text (codes "a")) ∷ (text (codes "b")) ∷ []) (value (object 28)) (Some a_list) ((sets (len_at 28) (len_is 2)) ∷ (sets (item_at 28 0) (item_is (text (codes "a")))) ∷ (sets (item_at 28 1) (item_is (text (codes "b")))) ∷ []) 0
    ∷ does (place 23 34) 60 ((object 28) ∷ []) (value (text (codes "b"))) None ((reads (len_at 28)) ∷ (reads (item_at 28 0)) ∷ (reads (item_at 28 1)) ∷ []) 1
    ∷ does (place 23 48) 1 ([]) (value (builtin 11)) None ((reads (var_at 0 (codes "min"))) ∷ []) 0
    ∷ does (place 23 53) 0 ([]) (value (int (pos 4))) None ([]) 0
    ∷ does (place 23 56) 0 ([]) (value (int (pos 3))) None ([]) 0
    ∷ does (place 23 54) 25 ((int (pos 4)) ∷ (int (pos 3)) ∷ []) (value (tuple (part (int (pos 4)) (part (int (pos 3)) no_parts)))) None ([]) 0
    ∷ does (place 23 51) 61 ((tuple (part (int (pos 4)) (part (int (pos 3)) no_parts))) ∷ []) (value (int (pos 3))) None ([]) 2
    ∷ does (place 23 6) 64 ((object 1) ∷ (truth false) ∷ (truth true) ∷ (text (codes "b")) ∷ (int (pos 3)) ∷ []) (value nothing) None ((reads (len_at 1)) ∷ (reads (item_at 1 0)) ∷ (reads (item_at 1 1)) ∷ (reads (item_at 1 2)) ∷ (reads (item_at 1 3)) ∷ (reads (item_at 1 4)) ∷ (reads (item_at 1 5)) ∷ (reads (item_at 1 6)) ∷ (reads (item_at 1 7)) ∷ []) 1
    ∷ ends 22 normal_end
    ∷ begins 23
    ∷ begins 24
    ∷ does (place 25 5) 1 ([]) (value (builtin 14)) None ((reads (var_at 0 (codes "print"))) ∷ []) 0
    ∷ does (place 25 11) 1 ([]) (value (object 1)) None ((reads (var_at 0 (codes "a"))) ∷ []) 0
    ∷ does (place 25 13) 0 ([]) (value (int (pos 100))) None ([]) 0
    ∷ does (place 25 12) 26 ((object 1) ∷ (int (pos 100)) ∷ []) (raised 29) (Some (an_instance (exception_class 5))) ((reads (len_at 1)) ∷ (sets (order_at 29) (order_is ((text (codes "args")) ∷ []))) ∷ (sets (entry_at 29 (text (codes "args"))) (entry_is (Some ((text (codes "args")), (tuple (part (text (codes "index out of range")) no_parts)))))) ∷ []) 0
    ∷ ends 24 raise_end
    ∷ does (place 26 8) 1 ([]) (value (exception_class 5)) None ((reads (var_at 0 (codes "IndexError"))) ∷ []) 0
    ∷ does (place 24 1) 41 ((object 29) ∷ (exception_class 5) ∷ []) (value (truth true)) None ([]) 0
    ∷ does (place 26 22) 33 ((object 29) ∷ []) (value nothing) None ((sets (var_at 0 (codes "e")) (var_is (Some (object 29)))) ∷ []) 0
    ∷ begins 25
    ∷ does (place 27 5) 1 ([]) (value (builtin 14)) None ((reads (var_at 0 (codes "print"))) ∷ []) 0
    ∷ does (place 27 11) 1 ([]) (value (object 29)) None ((reads (var_at 0 (codes "e"))) ∷ []) 0
    ∷ does (place 27 10) 64 ((object 29) ∷ []) (value nothing) None ((reads (entry_at 29 (text (codes "args")))) ∷ []) 2
    ∷ ends 25 normal_end
    ∷ does (place 26 22) 34 ([]) (value nothing) None ((reads (var_at 0 (codes "e"))) ∷ (sets (var_at 0 (codes "e")) (var_is None)) ∷ []) 0
    ∷ ends 23 normal_end
    ∷ begins 26
    ∷ begins 27
    ∷ does (place 29 5) 1 ([]) (value (object 1)) None ((reads (var_at 0 (codes "a"))) ∷ []) 0
    ∷ does (place 29 6) 32 ((object 1) ∷ []) (value (builtin 84)) None ([]) 0
    ∷ does (place 29 13) 0 ([]) (value (text (codes "none"))) None ([]) 0
    ∷ does (place 29 12) 84 ((object 1) ∷ (text (codes "none")) ∷ []) (raised 30) (Some (an_instance (exception_class 10))) ((reads (len_at 1)) ∷ (reads (item_at 1 0)) ∷ (reads (item_at 1 1)) ∷ (reads (item_at 1 2)) ∷ (reads (item_at 1 3)) ∷ (reads (item_at 1 4)) ∷ (reads (item_at 1 5)) ∷ (reads (item_at 1 6)) ∷ (reads (item_at 1 7)) ∷ (sets (order_at 30) (order_is ((text (codes "args")) ∷ []))) ∷ (sets (entry_at 30 (text (codes "args"))) (entry_is (Some ((text (codes "args")), (tuple (part (text (codes "not found")) no_parts)))))) ∷ []) 0
    ∷ ends 27 raise_end
    ∷ does (place 30 8) 1 ([]) (value (exception_class 10)) None ((reads (var_at 0 (codes "ValueError"))) ∷ []) 0
    ∷ does (place 28 1) 41 ((object 30) ∷ (exception_class 10) ∷ []) (value (truth true)) None ([]) 0
    ∷ does (place 30 22) 33 ((object 30) ∷ []) (value nothing) None ((sets (var_at 0 (codes "e")) (var_is (Some (object 30)))) ∷ []) 0
    ∷ begins 28
    ∷ does (place 31 5) 1 ([]) (value (builtin 14)) None ((reads (var_at 0 (codes "print"))) ∷ []) 0
    ∷ does (place 31 11) 1 ([]) (value (object 30)) None ((reads (var_at 0 (codes "e"))) ∷ []) 0
    ∷ does (place 31 10) 64 ((object 30) ∷ []) (value nothing) None ((reads (entry_at 30 (text (codes "args")))) ∷ []) 2
    ∷ ends 28 normal_end
    ∷ does (place 30 22) 34 ([]) (value nothing) None ((reads (var_at 0 (codes "e"))) ∷ (sets (var_at 0 (codes "e")) (var_is None)) ∷ []) 0
    ∷ ends 26 normal_end
    ∷ []
unfolding is_utf8 chars encode_utf8 level
r_lists_moments = refl

r_lists_values : evaluated r_lists_tree (opening_in r_lists_capture (codes "s.py") ([])) (reverse r_lists_run.moments) ((place 3 3, 1) ∷ (place 13 5, 1) ∷ (place 17 61, 1) ∷ (place 22 17, 2) ∷ (place 31 10, 1) ∷ []) ≡ (Some ((codes "#1=[3, 1, 2, 5]"), 29) ∷ Some ((codes "#1=[1, 2, 3, 4, 5, 7, 9]"), 330) ∷ Some ((codes "2"), 535) ∷ Some ((codes "None"), 660) ∷ Some ((codes "None"), 902) ∷ [])
unfolding is_utf8 chars encode_utf8 level
r_lists_values = refl
