-- Runs of scripts, as theorems that hold by computation: their ends, steps, output and files, and all of their moments.
-- Written by tools/run_vectors.py from scripts with what is expected of them.
use Rattle.std.proofs.Common.{◌≡◌, [], ◌∷◌, ◌++◌, Some, None, codes, refl}
use Rattle.std.specs.Prelude.{pos, negsuc, true, false, reverse}
use Rattle.std.specs.Str.{chars, is_utf8}
use Rattle.std.specs.Char.{encode_utf8}
use Rattle.py_tree.specs.declared.expr.Atom.TheVariants.{Int as int_atom, Text as text_atom}
use Rattle.py_tree.specs.declared.expr.UnOp.TheVariants.{Minus}
use Rattle.py_tree.specs.declared.expr.BinOp.TheVariants.{Add, Mul}
use Rattle.py_tree.specs.declared.expr.CmpOp.TheVariants.{Eq, Lt, Le, In}
use Rattle.py_tree.specs.Tree.{const_expr, var_expr, unary_expr, binary_expr, compare_expr, call_expr, part_expr, range_expr, list_expr, tuple_expr, no_expr, some_expr, end_exprs, more_exprs, var_target, part_target, many_target, end_targets, more_targets, one_stmt, do_form, assign_form, pass_form, for_form, try_form, end_suite, more_suite, end_handlers, more_handlers, ScriptTree}
use Rattle.py_value.specs.Contents.{nothing, truth, int, text, tuple, exception_class, builtin, object, no_parts, part}
use Rattle.py_value.specs.Seen.{a_list, an_instance, var_at, len_at, item_at, entry_at, order_at, var_is, len_is, item_is, entry_is, order_is, reads, sets}
use Rattle.py_model.specs.Capture.{Capture, opening_in}
use Rattle.py_model.specs.Meaning.{Run, run, level, finished}
use Rattle.py_model.specs.Moment.{begins, does, ends, normal_end, raise_end}
use Rattle.py_model.specs.Plan.{value, raised, at_end}
use Rattle.model_runs.specs.Words.{place, no_span, silent, summary, evaluated, depends, replayed}
use Rattle.slice_law.specs.Edges.{edge, by_data, by_control, by_jump}

abbrev pub r_tuples_and_unpacking_tree : ScriptTree
r_tuples_and_unpacking_tree = record { body = (more_suite (one_stmt 0 (place 1 1) no_span (assign_form (var_target (place 1 1) (codes "t")) (tuple_expr (place 1 7) (more_exprs (const_expr (place 1 6) (int_atom (pos 1))) (more_exprs (const_expr (place 1 9) (text_atom (codes "b"))) (more_exprs (tuple_expr (place 1 16) (more_exprs (const_expr (place 1 15) (int_atom (pos 2))) (more_exprs (const_expr (place 1 18) (int_atom (pos 3))) end_exprs))) end_exprs)))))) (more_suite (one_stmt 1 (place 2 1) no_span (assign_form (many_target (more_targets (var_target (place 2 1) (codes "a")) (more_targets (var_target (place 2 4) (codes "b")) (more_targets (var_target (place 2 7) (codes "c")) end_targets)))) (var_expr (place 2 11) (codes "t")))) (more_suite (one_stmt 2 (place 3 1) no_span (assign_form (many_target (more_targets (var_target (place 3 1) (codes "x")) end_targets)) (list_expr (place 3 6) (more_exprs (const_expr (place 3 7) (int_atom (pos 9))) end_exprs)))) (more_suite (one_stmt 3 (place 4 1) no_span (assign_form (many_target (more_targets (var_target (place 4 1) (codes "p")) (more_targets (var_target (place 4 4) (codes "q")) end_targets))) (tuple_expr (place 4 9) (more_exprs (const_expr (place 4 8) (int_atom (pos 1))) (more_exprs (const_expr (place 4 11) (int_atom (pos 2))) end_exprs))))) (more_suite (one_stmt 4 (place 5 1) no_span (assign_form (many_target (more_targets (var_target (place 5 1) (codes "p")) (more_targets (var_target (place 5 4) (codes "q")) end_targets))) (tuple_expr (place 5 9) (more_exprs (var_expr (place 5 8) (codes "q")) (more_exprs (var_expr (place 5 11) (codes "p")) end_exprs))))) (more_suite (one_stmt 5 (place 6 1) no_span (assign_form (var_target (place 6 1) (codes "l")) (list_expr (place 6 5) (more_exprs (const_expr (place 6 6) (int_atom (pos 0))) (more_exprs (const_expr (place 6 9) (int_atom (pos 0))) end_exprs))))) (more_suite (one_stmt 6 (place 7 1) no_span (assign_form (many_target (more_targets (part_target (place 7 2) (var_expr (place 7 1) (codes "l")) (const_expr (place 7 3) (int_atom (pos 0)))) (more_targets (part_target (place 7 8) (var_expr (place 7 7) (codes "l")) (const_expr (place 7 9) (int_atom (pos 1)))) end_targets))) (tuple_expr (place 7 15) (more_exprs (var_expr (place 7 14) (codes "p")) (more_exprs (var_expr (place 7 17) (codes "q")) end_exprs))))) (more_suite (one_stmt 7 (place 8 1) no_span (do_form (call_expr (place 8 6) (var_expr (place 8 1) (codes "print")) (more_exprs (var_expr (place 8 7) (codes "a")) (more_exprs (var_expr (place 8 10) (codes "b")) (more_exprs (var_expr (place 8 13) (codes "c")) (more_exprs (var_expr (place 8 16) (codes "x")) (more_exprs (var_expr (place 8 19) (codes "l")) (more_exprs (binary_expr (place 8 24) Add (var_expr (place 8 22) (codes "t")) (tuple_expr (place 8 28) (more_exprs (const_expr (place 8 27) (int_atom (pos 4))) end_exprs))) (more_exprs (range_expr (place 8 33) (var_expr (place 8 32) (codes "t")) (some_expr (const_expr (place 8 34) (int_atom (pos 1)))) no_expr) (more_exprs (binary_expr (place 8 41) Mul (var_expr (place 8 39) (codes "t")) (const_expr (place 8 43) (int_atom (pos 2)))) (more_exprs (tuple_expr (place 8 48) (more_exprs (const_expr (place 8 47) (int_atom (pos 5))) end_exprs)) (more_exprs (tuple_expr (place 8 52) end_exprs) (more_exprs (part_expr (place 8 61) (part_expr (place 8 57) (var_expr (place 8 56) (codes "t")) (unary_expr (place 8 58) Minus (const_expr (place 8 59) (int_atom (pos 1))))) (const_expr (place 8 62) (int_atom (pos 0)))) end_exprs)))))))))))))) (more_suite (one_stmt 8 (place 9 1) no_span (for_form (many_target (more_targets (var_target (place 9 5) (codes "i")) (more_targets (var_target (place 9 8) (codes "j")) end_targets))) (list_expr (place 9 13) (more_exprs (tuple_expr (place 9 16) (more_exprs (const_expr (place 9 15) (int_atom (pos 1))) (more_exprs (const_expr (place 9 18) (int_atom (pos 2))) end_exprs))) end_exprs)) (more_suite (one_stmt 9 (place 10 5) no_span pass_form) end_suite))) (more_suite (one_stmt 10 (place 11 1) no_span (do_form (call_expr (place 11 6) (var_expr (place 11 1) (codes "print")) (more_exprs (var_expr (place 11 7) (codes "i")) (more_exprs (var_expr (place 11 10) (codes "j")) (more_exprs (compare_expr (place 11 20) Eq (tuple_expr (place 11 15) (more_exprs (const_expr (place 11 14) (int_atom (pos 1))) (more_exprs (const_expr (place 11 17) (int_atom (pos 2))) end_exprs))) (tuple_expr (place 11 25) (more_exprs (const_expr (place 11 24) (int_atom (pos 1))) (more_exprs (const_expr (place 11 27) (int_atom (pos 2))) (more_exprs (const_expr (place 11 30) (int_atom (pos 3))) end_exprs))))) (more_exprs (compare_expr (place 11 41) Lt (tuple_expr (place 11 36) (more_exprs (const_expr (place 11 35) (int_atom (pos 1))) (more_exprs (const_expr (place 11 38) (int_atom (pos 2))) end_exprs))) (tuple_expr (place 11 45) (more_exprs (const_expr (place 11 44) (int_atom (pos 1))) (more_exprs (const_expr (place 11 47) (int_atom (pos 2))) (more_exprs (const_expr (place 11 50) (int_atom (pos 3))) end_exprs))))) (more_exprs (compare_expr (place 11 63) Le (tuple_expr (place 11 56) (more_exprs (const_expr (place 11 55) (int_atom (pos 1))) (more_exprs (const_expr (place 11 58) (text_atom (codes "a"))) end_exprs))) (tuple_expr (place 11 68) (more_exprs (const_expr (place 11 67) (int_atom (pos 1))) (more_exprs (const_expr (place 11 70) (text_atom (codes "b"))) end_exprs)))) (more_exprs (compare_expr (place 11 78) In (const_expr (place 11 76) (int_atom (pos 2))) (tuple_expr (place 11 83) (more_exprs (const_expr (place 11 82) (int_atom (pos 1))) (more_exprs (const_expr (place 11 85) (int_atom (pos 2))) end_exprs)))) end_exprs))))))))) (more_suite (one_stmt 11 (place 12 1) no_span (try_form (more_suite (one_stmt 12 (place 13 5) no_span (assign_form (many_target (more_targets (var_target (place 13 5) (codes "a")) (more_targets (var_target (place 13 8) (codes "b")) end_targets))) (var_expr (place 13 12) (codes "t")))) end_suite) (more_handlers (Some (var_expr (place 14 8) (codes "ValueError"))) (Some (record { at = (place 14 22); name = (codes "e") })) (more_suite (one_stmt 13 (place 15 5) no_span (do_form (call_expr (place 15 10) (var_expr (place 15 5) (codes "print")) (more_exprs (var_expr (place 15 11) (codes "e")) end_exprs)))) end_suite) end_handlers))) (more_suite (one_stmt 14 (place 16 1) no_span (try_form (more_suite (one_stmt 15 (place 17 5) no_span (assign_form (many_target (more_targets (var_target (place 17 5) (codes "a")) (more_targets (var_target (place 17 8) (codes "b")) end_targets))) (const_expr (place 17 12) (int_atom (pos 5))))) end_suite) (more_handlers (Some (var_expr (place 18 8) (codes "TypeError"))) (Some (record { at = (place 18 21); name = (codes "e") })) (more_suite (one_stmt 16 (place 19 5) no_span (do_form (call_expr (place 19 10) (var_expr (place 19 5) (codes "print")) (more_exprs (var_expr (place 19 11) (codes "e")) end_exprs)))) end_suite) end_handlers))) (more_suite (one_stmt 17 (place 20 1) no_span (do_form (call_expr (place 20 6) (var_expr (place 20 1) (codes "print")) (more_exprs (call_expr (place 20 13) (var_expr (place 20 7) (codes "sorted")) (more_exprs (part_expr (place 20 15) (var_expr (place 20 14) (codes "t")) (const_expr (place 20 16) (int_atom (pos 2)))) end_exprs)) (more_exprs (call_expr (place 20 26) (var_expr (place 20 21) (codes "tuple")) (more_exprs (const_expr (place 20 27) (text_atom (codes "ab"))) end_exprs)) (more_exprs (call_expr (place 20 37) (var_expr (place 20 34) (codes "len")) (more_exprs (var_expr (place 20 38) (codes "t")) end_exprs)) (more_exprs (call_expr (place 20 46) (var_expr (place 20 42) (codes "bool")) (more_exprs (tuple_expr (place 20 47) end_exprs) end_exprs)) end_exprs))))))) end_suite))))))))))))); count = 18 }

abbrev pub r_tuples_and_unpacking_capture : Capture
r_tuples_and_unpacking_capture = record { answers = ([]); files = ([]); ends = silent }

abbrev pub r_tuples_and_unpacking_run : Run
r_tuples_and_unpacking_run = run r_tuples_and_unpacking_tree (codes "s.py") ([]) r_tuples_and_unpacking_capture 1000000

r_tuples_and_unpacking : summary r_tuples_and_unpacking_run ≡ record { end = finished; steps = 322; output = (codes "1 b (2, 3) 9 [2, 1] (1, 'b', (2, 3), 4) ('b', (2, 3)) (1, 'b', (2, 3), 1, 'b', (2, 3)) (5,) () 2" ++ (10 ∷ []) ++ codes "1 2 False True True True" ++ (10 ∷ []) ++ codes "wrong number of values" ++ (10 ∷ []) ++ codes "wrong kind of value" ++ (10 ∷ []) ++ codes "[2, 3] ('a', 'b') 3 False" ++ (10 ∷ [])); finals = ([]) }
unfolding is_utf8 chars encode_utf8 level
r_tuples_and_unpacking = refl

r_tuples_and_unpacking_moments : r_tuples_and_unpacking_run.moments ≡
    begins 0
    ∷ does (place 1 6) 0 ([]) (value (int (pos 1))) None ([]) 0
    ∷ does (place 1 9) 0 ([]) (value (text (codes "b"))) None ([]) 0
    ∷ does (place 1 15) 0 ([]) (value (int (pos 2))) None ([]) 0
    ∷ does (place 1 18) 0 ([]) (value (int (pos 3))) None ([]) 0
    ∷ does (place 1 16) 25 ((int (pos 2)) ∷ (int (pos 3)) ∷ []) (value (tuple (part (int (pos 2)) (part (int (pos 3)) no_parts)))) None ([]) 0
    ∷ does (place 1 7) 25 ((int (pos 1)) ∷ (text (codes "b")) ∷ (tuple (part (int (pos 2)) (part (int (pos 3)) no_parts))) ∷ []) (value (tuple (part (int (pos 1)) (part (text (codes "b")) (part (tuple (part (int (pos 2)) (part (int (pos 3)) no_parts))) no_parts))))) None ([]) 0
    ∷ does (place 1 1) 33 ((tuple (part (int (pos 1)) (part (text (codes "b")) (part (tuple (part (int (pos 2)) (part (int (pos 3)) no_parts))) no_parts)))) ∷ []) (value nothing) None ((sets (var_at 0 (codes "t")) (var_is (Some (tuple (part (int (pos 1)) (part (text (codes "b")) (part (tuple (part (int (pos 2)) (part (int (pos 3)) no_parts))) no_parts))))))) ∷ []) 0
    ∷ ends 0 normal_end
    ∷ begins 1
    ∷ does (place 2 11) 1 ([]) (value (tuple (part (int (pos 1)) (part (text (codes "b")) (part (tuple (part (int (pos 2)) (part (int (pos 3)) no_parts))) no_parts))))) None ((reads (var_at 0 (codes "t"))) ∷ []) 0
    ∷ does (place 2 1) 35 ((tuple (part (int (pos 1)) (part (text (codes "b")) (part (tuple (part (int (pos 2)) (part (int (pos 3)) no_parts))) no_parts)))) ∷ []) (value (tuple (part (int (pos 1)) (part (text (codes "b")) (part (tuple (part (int (pos 2)) (part (int (pos 3)) no_parts))) no_parts))))) None ([]) 3
    ∷ does (place 2 1) 33 ((int (pos 1)) ∷ []) (value nothing) None ((sets (var_at 0 (codes "a")) (var_is (Some (int (pos 1))))) ∷ []) 0
    ∷ does (place 2 4) 33 ((text (codes "b")) ∷ []) (value nothing) None ((sets (var_at 0 (codes "b")) (var_is (Some (text (codes "b"))))) ∷ []) 0
    ∷ does (place 2 7) 33 ((tuple (part (int (pos 2)) (part (int (pos 3)) no_parts))) ∷ []) (value nothing) None ((sets (var_at 0 (codes "c")) (var_is (Some (tuple (part (int (pos 2)) (part (int (pos 3)) no_parts)))))) ∷ []) 0
    ∷ ends 1 normal_end
    ∷ begins 2
    ∷ does (place 3 7) 0 ([]) (value (int (pos 9))) None ([]) 0
    ∷ does (place 3 6) 23 ((int (pos 9)) ∷ []) (value (object 1)) (Some a_list) ((sets (len_at 1) (len_is 1)) ∷ (sets (item_at 1 0) (item_is (int (pos 9)))) ∷ []) 0
    ∷ does (place 3 1) 35 ((object 1) ∷ []) (value (tuple (part (int (pos 9)) no_parts))) None ((reads (len_at 1)) ∷ (reads (item_at 1 0)) ∷ []) 0
    ∷ does (place 3 1) 33 ((int (pos 9)) ∷ []) (value nothing) None ((sets (var_at 0 (codes "x")) (var_is (Some (int (pos 9))))) ∷ []) 0
    ∷ ends 2 normal_end
    ∷ begins 3
    ∷ does (place 4 8) 0 ([]) (value (int (pos 1))) None ([]) 0
    ∷ does (place 4 11) 0 ([]) (value (int (pos 2))) None ([]) 0
    ∷ does (place 4 9) 25 ((int (pos 1)) ∷ (int (pos 2)) ∷ []) (value (tuple (part (int (pos 1)) (part (int (pos 2)) no_parts)))) None ([]) 0
    ∷ does (place 4 1) 35 ((tuple (part (int (pos 1)) (part (int (pos 2)) no_parts))) ∷ []) (value (tuple (part (int (pos 1)) (part (int (pos 2)) no_parts)))) None ([]) 2
    ∷ does (place 4 1) 33 ((int (pos 1)) ∷ []) (value nothing) None ((sets (var_at 0 (codes "p")) (var_is (Some (int (pos 1))))) ∷ []) 0
    ∷ does (place 4 4) 33 ((int (pos 2)) ∷ []) (value nothing) None ((sets (var_at 0 (codes "q")) (var_is (Some (int (pos 2))))) ∷ []) 0
    ∷ ends 3 normal_end
    ∷ begins 4
    ∷ does (place 5 8) 1 ([]) (value (int (pos 2))) None ((reads (var_at 0 (codes "q"))) ∷ []) 0
    ∷ does (place 5 11) 1 ([]) (value (int (pos 1))) None ((reads (var_at 0 (codes "p"))) ∷ []) 0
    ∷ does (place 5 9) 25 ((int (pos 2)) ∷ (int (pos 1)) ∷ []) (value (tuple (part (int (pos 2)) (part (int (pos 1)) no_parts)))) None ([]) 0
    ∷ does (place 5 1) 35 ((tuple (part (int (pos 2)) (part (int (pos 1)) no_parts))) ∷ []) (value (tuple (part (int (pos 2)) (part (int (pos 1)) no_parts)))) None ([]) 2
    ∷ does (place 5 1) 33 ((int (pos 2)) ∷ []) (value nothing) None ((sets (var_at 0 (codes "p")) (var_is (Some (int (pos 2))))) ∷ []) 0
    ∷ does (place 5 4) 33 ((int (pos 1)) ∷ []) (value nothing) None ((sets (var_at 0 (codes "q")) (var_is (Some (int (pos 1))))) ∷ []) 0
    ∷ ends 4 normal_end
    ∷ begins 5
    ∷ does (place 6 6) 0 ([]) (value (int (pos 0))) None ([]) 0
    ∷ does (place 6 9) 0 ([]) (value (int (pos 0))) None ([]) 0
    ∷ does (place 6 5) 23 ((int (pos 0)) ∷ (int (pos 0)) ∷ []) (value (object 2)) (Some a_list) ((sets (len_at 2) (len_is 2)) ∷ (sets (item_at 2 0) (item_is (int (pos 0)))) ∷ (sets (item_at 2 1) (item_is (int (pos 0)))) ∷ []) 0
    ∷ does (place 6 1) 33 ((object 2) ∷ []) (value nothing) None ((sets (var_at 0 (codes "l")) (var_is (Some (object 2)))) ∷ []) 0
    ∷ ends 5 normal_end
    ∷ begins 6
    ∷ does (place 7 14) 1 ([]) (value (int (pos 2))) None ((reads (var_at 0 (codes "p"))) ∷ []) 0
    ∷ does (place 7 17) 1 ([]) (value (int (pos 1))) None ((reads (var_at 0 (codes "q"))) ∷ []) 0
    ∷ does (place 7 15) 25 ((int (pos 2)) ∷ (int (pos 1)) ∷ []) (value (tuple (part (int (pos 2)) (part (int (pos 1)) no_parts)))) None ([]) 0
    ∷ does (place 7 1) 35 ((tuple (part (int (pos 2)) (part (int (pos 1)) no_parts))) ∷ []) (value (tuple (part (int (pos 2)) (part (int (pos 1)) no_parts)))) None ([]) 2
    ∷ does (place 7 1) 1 ([]) (value (object 2)) None ((reads (var_at 0 (codes "l"))) ∷ []) 0
    ∷ does (place 7 3) 0 ([]) (value (int (pos 0))) None ([]) 0
    ∷ does (place 7 2) 28 ((object 2) ∷ (int (pos 0)) ∷ (int (pos 2)) ∷ []) (value nothing) None ((reads (len_at 2)) ∷ (sets (item_at 2 0) (item_is (int (pos 2)))) ∷ []) 0
    ∷ does (place 7 7) 1 ([]) (value (object 2)) None ((reads (var_at 0 (codes "l"))) ∷ []) 0
    ∷ does (place 7 9) 0 ([]) (value (int (pos 1))) None ([]) 0
    ∷ does (place 7 8) 28 ((object 2) ∷ (int (pos 1)) ∷ (int (pos 1)) ∷ []) (value nothing) None ((reads (len_at 2)) ∷ (sets (item_at 2 1) (item_is (int (pos 1)))) ∷ []) 0
    ∷ ends 6 normal_end
    ∷ begins 7
    ∷ does (place 8 1) 1 ([]) (value (builtin 14)) None ((reads (var_at 0 (codes "print"))) ∷ []) 0
    ∷ does (place 8 7) 1 ([]) (value (int (pos 1))) None ((reads (var_at 0 (codes "a"))) ∷ []) 0
    ∷ does (place 8 10) 1 ([]) (value (text (codes "b"))) None ((reads (var_at 0 (codes "b"))) ∷ []) 0
    ∷ does (place 8 13) 1 ([]) (value (tuple (part (int (pos 2)) (part (int (pos 3)) no_parts)))) None ((reads (var_at 0 (codes "c"))) ∷ []) 0
    ∷ does (place 8 16) 1 ([]) (value (int (pos 9))) None ((reads (var_at 0 (codes "x"))) ∷ []) 0
    ∷ does (place 8 19) 1 ([]) (value (object 2)) None ((reads (var_at 0 (codes "l"))) ∷ []) 0
    ∷ does (place 8 22) 1 ([]) (value (tuple (part (int (pos 1)) (part (text (codes "b")) (part (tuple (part (int (pos 2)) (part (int (pos 3)) no_parts))) no_parts))))) None ((reads (var_at 0 (codes "t"))) ∷ []) 0
    ∷ does (place 8 27) 0 ([]) (value (int (pos 4))) None ([]) 0
    ∷ does (place 8 28) 25 ((int (pos 4)) ∷ []) (value (tuple (part (int (pos 4)) no_parts))) None ([]) 0
    ∷ does (place 8 24) 7 ((tuple (part (int (pos 1)) (part (text (codes "b")) (part (tuple (part (int (pos 2)) (part (int (pos 3)) no_parts))) no_parts)))) ∷ (tuple (part (int (pos 4)) no_parts)) ∷ []) (value (tuple (part (int (pos 1)) (part (text (codes "b")) (part (tuple (part (int (pos 2)) (part (int (pos 3)) no_parts))) (part (int (pos 4)) no_parts)))))) None ([]) 4
    ∷ does (place 8 32) 1 ([]) (value (tuple (part (int (pos 1)) (part (text (codes "b")) (part (tuple (part (int (pos 2)) (part (int (pos 3)) no_parts))) no_parts))))) None ((reads (var_at 0 (codes "t"))) ∷ []) 0
    ∷ does (place 8 34) 0 ([]) (value (int (pos 1))) None ([]) 0
    ∷ does (place 8 33) 27 ((tuple (part (int (pos 1)) (part (text (codes "b")) (part (tuple (part (int (pos 2)) (part (int (pos 3)) no_parts))) no_parts)))) ∷ (int (pos 1)) ∷ nothing ∷ []) (value (tuple (part (text (codes "b")) (part (tuple (part (int (pos 2)) (part (int (pos 3)) no_parts))) no_parts)))) None ([]) 2
    ∷ does (place 8 39) 1 ([]) (value (tuple (part (int (pos 1)) (part (text (codes "b")) (part (tuple (part (int (pos 2)) (part (int (pos 3)) no_parts))) no_parts))))) None ((reads (var_at 0 (codes "t"))) ∷ []) 0
    ∷ does (place 8 43) 0 ([]) (value (int (pos 2))) None ([]) 0
    ∷ does (place 8 41) 9 ((tuple (part (int (pos 1)) (part (text (codes "b")) (part (tuple (part (int (pos 2)) (part (int (pos 3)) no_parts))) no_parts)))) ∷ (int (pos 2)) ∷ []) (value (tuple (part (int (pos 1)) (part (text (codes "b")) (part (tuple (part (int (pos 2)) (part (int (pos 3)) no_parts))) (part (int (pos 1)) (part (text (codes "b")) (part (tuple (part (int (pos 2)) (part (int (pos 3)) no_parts))) no_parts)))))))) None ([]) 6
    ∷ does (place 8 47) 0 ([]) (value (int (pos 5))) None ([]) 0
    ∷ does (place 8 48) 25 ((int (pos 5)) ∷ []) (value (tuple (part (int (pos 5)) no_parts))) None ([]) 0
    ∷ does (place 8 52) 25 ([]) (value (tuple no_parts)) None ([]) 0
    ∷ does (place 8 56) 1 ([]) (value (tuple (part (int (pos 1)) (part (text (codes "b")) (part (tuple (part (int (pos 2)) (part (int (pos 3)) no_parts))) no_parts))))) None ((reads (var_at 0 (codes "t"))) ∷ []) 0
    ∷ does (place 8 59) 0 ([]) (value (int (pos 1))) None ([]) 0
    ∷ does (place 8 58) 5 ((int (pos 1)) ∷ []) (value (int (negsuc 0))) None ([]) 0
    ∷ does (place 8 57) 26 ((tuple (part (int (pos 1)) (part (text (codes "b")) (part (tuple (part (int (pos 2)) (part (int (pos 3)) no_parts))) no_parts)))) ∷ (int (negsuc 0)) ∷ []) (value (tuple (part (int (pos 2)) (part (int (pos 3)) no_parts)))) None ([]) 1
    ∷ does (place 8 62) 0 ([]) (value (int (pos 0))) None ([]) 0
    ∷ does (place 8 61) 26 ((tuple (part (int (pos 2)) (part (int (pos 3)) no_parts))) ∷ (int (pos 0)) ∷ []) (value (int (pos 2))) None ([]) 1
    ∷ does (place 8 6) 64 ((int (pos 1)) ∷ (text (codes "b")) ∷ (tuple (part (int (pos 2)) (part (int (pos 3)) no_parts))) ∷ (int (pos 9)) ∷ (object 2) ∷ (tuple (part (int (pos 1)) (part (text (codes "b")) (part (tuple (part (int (pos 2)) (part (int (pos 3)) no_parts))) (part (int (pos 4)) no_parts))))) ∷ (tuple (part (text (codes "b")) (part (tuple (part (int (pos 2)) (part (int (pos 3)) no_parts))) no_parts))) ∷ (tuple (part (int (pos 1)) (part (text (codes "b")) (part (tuple (part (int (pos 2)) (part (int (pos 3)) no_parts))) (part (int (pos 1)) (part (text (codes "b")) (part (tuple (part (int (pos 2)) (part (int (pos 3)) no_parts))) no_parts))))))) ∷ (tuple (part (int (pos 5)) no_parts)) ∷ (tuple no_parts) ∷ (int (pos 2)) ∷ []) (value nothing) None ((reads (len_at 2)) ∷ (reads (item_at 2 0)) ∷ (reads (item_at 2 1)) ∷ []) 25
    ∷ ends 7 normal_end
    ∷ begins 8
    ∷ does (place 9 15) 0 ([]) (value (int (pos 1))) None ([]) 0
    ∷ does (place 9 18) 0 ([]) (value (int (pos 2))) None ([]) 0
    ∷ does (place 9 16) 25 ((int (pos 1)) ∷ (int (pos 2)) ∷ []) (value (tuple (part (int (pos 1)) (part (int (pos 2)) no_parts)))) None ([]) 0
    ∷ does (place 9 13) 23 ((tuple (part (int (pos 1)) (part (int (pos 2)) no_parts))) ∷ []) (value (object 3)) (Some a_list) ((sets (len_at 3) (len_is 1)) ∷ (sets (item_at 3 0) (item_is (tuple (part (int (pos 1)) (part (int (pos 2)) no_parts))))) ∷ []) 0
    ∷ does (place 9 1) 36 ((object 3) ∷ []) (value nothing) None ([]) 0
    ∷ does (place 9 1) 37 ((object 3) ∷ (int (pos 0)) ∷ nothing ∷ []) (value (tuple (part (int (pos 1)) (part (int (pos 2)) no_parts)))) None ((reads (len_at 3)) ∷ (reads (item_at 3 0)) ∷ []) 0
    ∷ does (place 9 1) 35 ((tuple (part (int (pos 1)) (part (int (pos 2)) no_parts))) ∷ []) (value (tuple (part (int (pos 1)) (part (int (pos 2)) no_parts)))) None ([]) 2
    ∷ does (place 9 5) 33 ((int (pos 1)) ∷ []) (value nothing) None ((sets (var_at 0 (codes "i")) (var_is (Some (int (pos 1))))) ∷ []) 0
    ∷ does (place 9 8) 33 ((int (pos 2)) ∷ []) (value nothing) None ((sets (var_at 0 (codes "j")) (var_is (Some (int (pos 2))))) ∷ []) 0
    ∷ begins 9
    ∷ ends 9 normal_end
    ∷ does (place 9 1) 37 ((object 3) ∷ (int (pos 1)) ∷ nothing ∷ []) at_end None ((reads (len_at 3)) ∷ []) 0
    ∷ ends 8 normal_end
    ∷ begins 10
    ∷ does (place 11 1) 1 ([]) (value (builtin 14)) None ((reads (var_at 0 (codes "print"))) ∷ []) 0
    ∷ does (place 11 7) 1 ([]) (value (int (pos 1))) None ((reads (var_at 0 (codes "i"))) ∷ []) 0
    ∷ does (place 11 10) 1 ([]) (value (int (pos 2))) None ((reads (var_at 0 (codes "j"))) ∷ []) 0
    ∷ does (place 11 14) 0 ([]) (value (int (pos 1))) None ([]) 0
    ∷ does (place 11 17) 0 ([]) (value (int (pos 2))) None ([]) 0
    ∷ does (place 11 15) 25 ((int (pos 1)) ∷ (int (pos 2)) ∷ []) (value (tuple (part (int (pos 1)) (part (int (pos 2)) no_parts)))) None ([]) 0
    ∷ does (place 11 24) 0 ([]) (value (int (pos 1))) None ([]) 0
    ∷ does (place 11 27) 0 ([]) (value (int (pos 2))) None ([]) 0
    ∷ does (place 11 30) 0 ([]) (value (int (pos 3))) None ([]) 0
    ∷ does (place 11 25) 25 ((int (pos 1)) ∷ (int (pos 2)) ∷ (int (pos 3)) ∷ []) (value (tuple (part (int (pos 1)) (part (int (pos 2)) (part (int (pos 3)) no_parts))))) None ([]) 0
    ∷ does (place 11 20) 12 ((tuple (part (int (pos 1)) (part (int (pos 2)) no_parts))) ∷ (tuple (part (int (pos 1)) (part (int (pos 2)) (part (int (pos 3)) no_parts)))) ∷ []) (value (truth false)) None ([]) 4
    ∷ does (place 11 35) 0 ([]) (value (int (pos 1))) None ([]) 0
    ∷ does (place 11 38) 0 ([]) (value (int (pos 2))) None ([]) 0
    ∷ does (place 11 36) 25 ((int (pos 1)) ∷ (int (pos 2)) ∷ []) (value (tuple (part (int (pos 1)) (part (int (pos 2)) no_parts)))) None ([]) 0
    ∷ does (place 11 44) 0 ([]) (value (int (pos 1))) None ([]) 0
    ∷ does (place 11 47) 0 ([]) (value (int (pos 2))) None ([]) 0
    ∷ does (place 11 50) 0 ([]) (value (int (pos 3))) None ([]) 0
    ∷ does (place 11 45) 25 ((int (pos 1)) ∷ (int (pos 2)) ∷ (int (pos 3)) ∷ []) (value (tuple (part (int (pos 1)) (part (int (pos 2)) (part (int (pos 3)) no_parts))))) None ([]) 0
    ∷ does (place 11 41) 14 ((tuple (part (int (pos 1)) (part (int (pos 2)) no_parts))) ∷ (tuple (part (int (pos 1)) (part (int (pos 2)) (part (int (pos 3)) no_parts)))) ∷ []) (value (truth true)) None ([]) 4
    ∷ does (place 11 55) 0 ([]) (value (int (pos 1))) None ([]) 0
    ∷ does (place 11 58) 0 ([]) (value (text (codes "a"))) None ([]) 0
    ∷ does (place 11 56) 25 ((int (pos 1)) ∷ (text (codes "a")) ∷ []) (value (tuple (part (int (pos 1)) (part (text (codes "a")) no_parts)))) None ([]) 0
    ∷ does (place 11 67) 0 ([]) (value (int (pos 1))) None ([]) 0
    ∷ does (place 11 70) 0 ([]) (value (text (codes "b"))) None ([]) 0
    ∷ does (place 11 68) 25 ((int (pos 1)) ∷ (text (codes "b")) ∷ []) (value (tuple (part (int (pos 1)) (part (text (codes "b")) no_parts)))) None ([]) 0
    ∷ does (place 11 63) 15 ((tuple (part (int (pos 1)) (part (text (codes "a")) no_parts))) ∷ (tuple (part (int (pos 1)) (part (text (codes "b")) no_parts))) ∷ []) (value (truth true)) None ([]) 5
    ∷ does (place 11 76) 0 ([]) (value (int (pos 2))) None ([]) 0
    ∷ does (place 11 82) 0 ([]) (value (int (pos 1))) None ([]) 0
    ∷ does (place 11 85) 0 ([]) (value (int (pos 2))) None ([]) 0
    ∷ does (place 11 83) 25 ((int (pos 1)) ∷ (int (pos 2)) ∷ []) (value (tuple (part (int (pos 1)) (part (int (pos 2)) no_parts)))) None ([]) 0
    ∷ does (place 11 78) 18 ((int (pos 2)) ∷ (tuple (part (int (pos 1)) (part (int (pos 2)) no_parts))) ∷ []) (value (truth true)) None ([]) 2
    ∷ does (place 11 6) 64 ((int (pos 1)) ∷ (int (pos 2)) ∷ (truth false) ∷ (truth true) ∷ (truth true) ∷ (truth true) ∷ []) (value nothing) None ([]) 1
    ∷ ends 10 normal_end
    ∷ begins 11
    ∷ begins 12
    ∷ does (place 13 12) 1 ([]) (value (tuple (part (int (pos 1)) (part (text (codes "b")) (part (tuple (part (int (pos 2)) (part (int (pos 3)) no_parts))) no_parts))))) None ((reads (var_at 0 (codes "t"))) ∷ []) 0
    ∷ does (place 13 5) 35 ((tuple (part (int (pos 1)) (part (text (codes "b")) (part (tuple (part (int (pos 2)) (part (int (pos 3)) no_parts))) no_parts)))) ∷ []) (raised 4) (Some (an_instance (exception_class 10))) ((sets (order_at 4) (order_is ((text (codes "args")) ∷ []))) ∷ (sets (entry_at 4 (text (codes "args"))) (entry_is (Some ((text (codes "args")), (tuple (part (text (codes "wrong number of values")) no_parts)))))) ∷ []) 0
    ∷ ends 12 raise_end
    ∷ does (place 14 8) 1 ([]) (value (exception_class 10)) None ((reads (var_at 0 (codes "ValueError"))) ∷ []) 0
    ∷ does (place 12 1) 41 ((object 4) ∷ (exception_class 10) ∷ []) (value (truth true)) None ([]) 0
    ∷ does (place 14 22) 33 ((object 4) ∷ []) (value nothing) None ((sets (var_at 0 (codes "e")) (var_is (Some (object 4)))) ∷ []) 0
    ∷ begins 13
    ∷ does (place 15 5) 1 ([]) (value (builtin 14)) None ((reads (var_at 0 (codes "print"))) ∷ []) 0
    ∷ does (place 15 11) 1 ([]) (value (object 4)) None ((reads (var_at 0 (codes "e"))) ∷ []) 0
    ∷ does (place 15 10) 64 ((object 4) ∷ []) (value nothing) None ((reads (entry_at 4 (text (codes "args")))) ∷ []) 2
    ∷ ends 13 normal_end
    ∷ does (place 14 22) 34 ([]) (value nothing) None ((reads (var_at 0 (codes "e"))) ∷ (sets (var_at 0 (codes "e")) (var_is None)) ∷ []) 0
    ∷ ends 11 normal_end
    ∷ begins 14
    ∷ begins 15
    ∷ does (place 17 12) 0 ([]) (value (int (pos 5))) None ([]) 0
    ∷ does (place 17 5) 35 ((int (pos 5)) ∷ []) (raised 5) (Some (an_instance (exception_class 9))) ((sets (order_at 5) (order_is ((text (codes "args")) ∷ []))) ∷ (sets (entry_at 5 (text (codes "args"))) (entry_is (Some ((text (codes "args")), (tuple (part (text (codes "wrong kind of value")) no_parts)))))) ∷ []) 0
    ∷ ends 15 raise_end
    ∷ does (place 18 8) 1 ([]) (value (exception_class 9)) None ((reads (var_at 0 (codes "TypeError"))) ∷ []) 0
    ∷ does (place 16 1) 41 ((object 5) ∷ (exception_class 9) ∷ []) (value (truth true)) None ([]) 0
    ∷ does (place 18 21) 33 ((object 5) ∷ []) (value nothing) None ((sets (var_at 0 (codes "e")) (var_is (Some (object 5)))) ∷ []) 0
    ∷ begins 16
    ∷ does (place 19 5) 1 ([]) (value (builtin 14)) None ((reads (var_at 0 (codes "print"))) ∷ []) 0
    ∷ does (place 19 11) 1 ([]) (value (object 5)) None ((reads (var_at 0 (codes "e"))) ∷ []) 0
    ∷ does (place 19 10) 64 ((object 5) ∷ []) (value nothing) None ((reads (entry_at 5 (text (codes "args")))) ∷ []) 2
    ∷ ends 16 normal_end
    ∷ does (place 18 21) 34 ([]) (value nothing) None ((reads (var_at 0 (codes "e"))) ∷ (sets (var_at 0 (codes "e")) (var_is None)) ∷ []) 0
    ∷ ends 14 normal_end
    ∷ begins 17
    ∷ does (place 20 1) 1 ([]) (value (builtin 14)) None ((reads (var_at 0 (codes "print"))) ∷ []) 0
    ∷ does (place 20 7) 1 ([]) (value (builtin 17)) None ((reads (var_at 0 (codes "sorted"))) ∷ []) 0
    ∷ does (place 20 14) 1 ([]) (value (tuple (part (int (pos 1)) (part (text (codes "b")) (part (tuple (part (int (pos 2)) (part (int (pos 3)) no_parts))) no_parts))))) None ((reads (var_at 0 (codes "t"))) ∷ []) 0
    ∷ does (place 20 16) 0 ([]) (value (int (pos 2))) None ([]) 0
    ∷ does (place 20 15) 26 ((tuple (part (int (pos 1)) (part (text (codes "b")) (part (tuple (part (int (pos 2)) (part (int (pos 3)) no_parts))) no_parts)))) ∷ (int (pos 2)) ∷ []) (value (tuple (part (int (pos 2)) (part (int (pos 3)) no_parts)))) None ([]) 1
    ∷ does (place 20 13) 67 ((tuple (part (int (pos 2)) (part (int (pos 3)) no_parts))) ∷ []) (value (object 6)) (Some a_list) ((sets (len_at 6) (len_is 2)) ∷ (sets (item_at 6 0) (item_is (int (pos 2)))) ∷ (sets (item_at 6 1) (item_is (int (pos 3)))) ∷ []) 2
    ∷ does (place 20 21) 1 ([]) (value (builtin 20)) None ((reads (var_at 0 (codes "tuple"))) ∷ []) 0
    ∷ does (place 20 27) 0 ([]) (value (text (codes "ab"))) None ([]) 0
    ∷ does (place 20 26) 70 ((text (codes "ab")) ∷ []) (value (tuple (part (text (codes "a")) (part (text (codes "b")) no_parts)))) None ([]) 1
    ∷ does (place 20 34) 1 ([]) (value (builtin 8)) None ((reads (var_at 0 (codes "len"))) ∷ []) 0
    ∷ does (place 20 38) 1 ([]) (value (tuple (part (int (pos 1)) (part (text (codes "b")) (part (tuple (part (int (pos 2)) (part (int (pos 3)) no_parts))) no_parts))))) None ((reads (var_at 0 (codes "t"))) ∷ []) 0
    ∷ does (place 20 37) 58 ((tuple (part (int (pos 1)) (part (text (codes "b")) (part (tuple (part (int (pos 2)) (part (int (pos 3)) no_parts))) no_parts)))) ∷ []) (value (int (pos 3))) None ([]) 0
    ∷ does (place 20 42) 1 ([]) (value (builtin 1)) None ((reads (var_at 0 (codes "bool"))) ∷ []) 0
    ∷ does (place 20 47) 25 ([]) (value (tuple no_parts)) None ([]) 0
    ∷ does (place 20 46) 51 ((tuple no_parts) ∷ []) (value (truth false)) None ([]) 0
    ∷ does (place 20 6) 64 ((object 6) ∷ (tuple (part (text (codes "a")) (part (text (codes "b")) no_parts))) ∷ (int (pos 3)) ∷ (truth false) ∷ []) (value nothing) None ((reads (len_at 6)) ∷ (reads (item_at 6 0)) ∷ (reads (item_at 6 1)) ∷ []) 3
    ∷ ends 17 normal_end
    ∷ []
unfolding is_utf8 chars encode_utf8 level
r_tuples_and_unpacking_moments = refl

r_tuples_and_unpacking_values : evaluated r_tuples_and_unpacking_tree (opening_in r_tuples_and_unpacking_capture (codes "s.py") ([])) (reverse r_tuples_and_unpacking_run.moments) ((place 1 6, 1) ∷ (place 8 33, 1) ∷ (place 11 10, 1) ∷ (place 11 67, 1) ∷ (place 20 6, 1) ∷ []) ≡ (Some ((codes "1"), 2) ∷ Some ((codes "#1=('b', #2=(2, 3))"), 114) ∷ Some ((codes "2"), 193) ∷ Some ((codes "1"), 221) ∷ Some ((codes "None"), 322) ∷ [])
unfolding is_utf8 chars encode_utf8 level
r_tuples_and_unpacking_values = refl

r_tuples_and_unpacking_replays : replayed r_tuples_and_unpacking_tree r_tuples_and_unpacking_capture (codes "s.py") ([]) 322 (reverse r_tuples_and_unpacking_run.moments) ((place 1 6, 1) ∷ (place 8 33, 1) ∷ (place 11 10, 1) ∷ (place 11 67, 1) ∷ (place 20 6, 1) ∷ []) ≡ (Some ((codes "1"), 2) ∷ Some ((codes "#1=('b', #2=(2, 3))"), 69) ∷ Some ((codes "2"), 28) ∷ Some ((codes "1"), 56) ∷ Some ((codes "None"), 46) ∷ [])
unfolding is_utf8 chars encode_utf8 level
r_tuples_and_unpacking_replays = refl

r_tuples_and_unpacking_dataflow : depends r_tuples_and_unpacking_tree (reverse r_tuples_and_unpacking_run.moments) (edge by_data 1 0 ∷ edge by_data 2 2 ∷ edge by_data 4 3 ∷ edge by_data 6 4 ∷ edge by_data 6 5 ∷ edge by_data 7 0 ∷ edge by_data 7 1 ∷ edge by_data 7 2 ∷ edge by_data 7 5 ∷ edge by_data 7 6 ∷ edge by_data 8 8 ∷ edge by_control 9 8 ∷ edge by_data 10 8 ∷ edge by_data 11 11 ∷ edge by_jump 11 12 ∷ edge by_data 12 0 ∷ edge by_control 12 11 ∷ edge by_data 13 11 ∷ edge by_control 13 11 ∷ edge by_data 13 12 ∷ edge by_data 14 14 ∷ edge by_jump 14 15 ∷ edge by_control 15 14 ∷ edge by_data 16 14 ∷ edge by_control 16 14 ∷ edge by_data 16 15 ∷ edge by_data 17 0 ∷ edge by_data 17 17 ∷ []) ≡ (true, true)
unfolding is_utf8 chars encode_utf8 level
r_tuples_and_unpacking_dataflow = refl
