-- Runs of scripts, as theorems that hold by computation: their ends, steps, output and files, and all of their moments.
-- Written by tools/run_vectors.py from scripts with what is expected of them.
use Rattle.std.proofs.Common.{◌≡◌, [], ◌∷◌, ◌++◌, Some, None, codes, refl}
use Rattle.std.specs.Prelude.{pos, negsuc, true, false, reverse}
use Rattle.std.specs.Str.{chars, is_utf8}
use Rattle.std.specs.Char.{encode_utf8}
use Rattle.py_tree.specs.declared.expr.Atom.TheVariants.{None as none_atom, Bool as truth_atom, Int as int_atom, Text as text_atom}
use Rattle.py_tree.specs.declared.expr.UnOp.TheVariants.{Minus, Plus, Not as Negation}
use Rattle.py_tree.specs.declared.expr.LogicOp.TheVariants.{And as Both, Or as Either}
use Rattle.py_tree.specs.declared.expr.BinOp.TheVariants.{Add, Sub, Mul, FloorDiv, Mod}
use Rattle.py_tree.specs.declared.expr.CmpOp.TheVariants.{Eq, Ne, Lt, Le, Gt, Ge}
use Rattle.py_tree.specs.Tree.{const_expr, var_expr, unary_expr, binary_expr, compare_expr, logic_expr, call_expr, list_expr, end_exprs, more_exprs, var_target, one_stmt, do_form, assign_form, aug_form, try_form, end_suite, more_suite, end_handlers, more_handlers, ScriptTree}
use Rattle.py_value.specs.Contents.{nothing, truth, int, text, tuple, exception_class, builtin, object, no_parts, part}
use Rattle.py_value.specs.Seen.{a_list, an_instance, var_at, len_at, item_at, entry_at, order_at, var_is, len_is, item_is, entry_is, order_is, reads, sets}
use Rattle.py_model.specs.Capture.{Capture, opening_in}
use Rattle.py_model.specs.Meaning.{Run, run, level, finished}
use Rattle.py_model.specs.Moment.{begins, does, ends, normal_end, raise_end}
use Rattle.py_model.specs.Plan.{value, raised}
use Rattle.model_runs.specs.Words.{place, no_span, silent, summary, evaluated, kept, depends, replayed}
use Rattle.slice_law.specs.Edges.{edge, by_data, by_control, by_jump}

abbrev pub r_numbers_tree : ScriptTree
r_numbers_tree = record { body = (more_suite (one_stmt 0 (place 1 1) no_span (assign_form (var_target (place 1 1) (codes "a")) (const_expr (place 1 5) (int_atom (pos 7))))) (more_suite (one_stmt 1 (place 2 1) no_span (assign_form (var_target (place 2 1) (codes "b")) (unary_expr (place 2 5) Minus (const_expr (place 2 6) (int_atom (pos 2)))))) (more_suite (one_stmt 2 (place 3 1) no_span (do_form (call_expr (place 3 6) (var_expr (place 3 1) (codes "print")) (more_exprs (binary_expr (place 3 9) FloorDiv (var_expr (place 3 7) (codes "a")) (var_expr (place 3 12) (codes "b"))) (more_exprs (binary_expr (place 3 17) Mod (var_expr (place 3 15) (codes "a")) (var_expr (place 3 19) (codes "b"))) (more_exprs (binary_expr (place 3 24) Mul (var_expr (place 3 22) (codes "a")) (var_expr (place 3 26) (codes "b"))) (more_exprs (binary_expr (place 3 31) Sub (var_expr (place 3 29) (codes "a")) (var_expr (place 3 33) (codes "b"))) (more_exprs (binary_expr (place 3 38) Add (var_expr (place 3 36) (codes "a")) (var_expr (place 3 40) (codes "b"))) (more_exprs (unary_expr (place 3 43) Minus (var_expr (place 3 44) (codes "a"))) (more_exprs (unary_expr (place 3 47) Plus (const_expr (place 3 48) (truth_atom true))) end_exprs)))))))))) (more_suite (one_stmt 3 (place 4 1) no_span (do_form (call_expr (place 4 6) (var_expr (place 4 1) (codes "print")) (more_exprs (call_expr (place 4 10) (var_expr (place 4 7) (codes "abs")) (more_exprs (var_expr (place 4 11) (codes "b")) end_exprs)) (more_exprs (call_expr (place 4 18) (var_expr (place 4 15) (codes "int")) (more_exprs (const_expr (place 4 19) (text_atom (codes "  -12" ++ (10 ∷ [])))) end_exprs)) (more_exprs (call_expr (place 4 34) (var_expr (place 4 31) (codes "int")) (more_exprs (const_expr (place 4 35) (truth_atom true)) end_exprs)) (more_exprs (call_expr (place 4 46) (var_expr (place 4 42) (codes "bool")) (more_exprs (var_expr (place 4 47) (codes "a")) end_exprs)) (more_exprs (call_expr (place 4 55) (var_expr (place 4 51) (codes "bool")) (more_exprs (const_expr (place 4 56) (int_atom (pos 0))) end_exprs)) end_exprs)))))))) (more_suite (one_stmt 4 (place 5 1) no_span (do_form (call_expr (place 5 6) (var_expr (place 5 1) (codes "print")) (more_exprs (compare_expr (place 5 9) Eq (var_expr (place 5 7) (codes "a")) (const_expr (place 5 12) (int_atom (pos 7)))) (more_exprs (compare_expr (place 5 17) Ne (var_expr (place 5 15) (codes "a")) (var_expr (place 5 20) (codes "b"))) (more_exprs (compare_expr (place 5 25) Lt (var_expr (place 5 23) (codes "a")) (var_expr (place 5 27) (codes "b"))) (more_exprs (compare_expr (place 5 32) Le (var_expr (place 5 30) (codes "a")) (var_expr (place 5 35) (codes "b"))) (more_exprs (compare_expr (place 5 40) Gt (var_expr (place 5 38) (codes "a")) (var_expr (place 5 42) (codes "b"))) (more_exprs (compare_expr (place 5 47) Ge (var_expr (place 5 45) (codes "a")) (var_expr (place 5 50) (codes "b"))) end_exprs))))))))) (more_suite (one_stmt 5 (place 6 1) no_span (do_form (call_expr (place 6 6) (var_expr (place 6 1) (codes "print")) (more_exprs (unary_expr (place 6 7) Negation (var_expr (place 6 11) (codes "a"))) (more_exprs (logic_expr (place 6 16) Both (var_expr (place 6 14) (codes "a")) (var_expr (place 6 20) (codes "b"))) (more_exprs (logic_expr (place 6 25) Either (var_expr (place 6 23) (codes "b")) (var_expr (place 6 28) (codes "a"))) (more_exprs (logic_expr (place 6 33) Either (const_expr (place 6 31) (int_atom (pos 0))) (const_expr (place 6 36) (text_atom []))) (more_exprs (logic_expr (place 6 45) Both (const_expr (place 6 40) none_atom) (const_expr (place 6 49) (int_atom (pos 1)))) end_exprs)))))))) (more_suite (one_stmt 6 (place 7 1) no_span (assign_form (var_target (place 7 1) (codes "x")) (const_expr (place 7 5) (int_atom (pos 9223372036854775807))))) (more_suite (one_stmt 7 (place 8 1) no_span (try_form (more_suite (one_stmt 8 (place 9 5) no_span (do_form (call_expr (place 9 10) (var_expr (place 9 5) (codes "print")) (more_exprs (binary_expr (place 9 13) Mul (var_expr (place 9 11) (codes "x")) (const_expr (place 9 15) (int_atom (pos 2)))) end_exprs)))) end_suite) (more_handlers (Some (var_expr (place 10 8) (codes "ArithmeticError"))) (Some (record { at = (place 10 27); name = (codes "e") })) (more_suite (one_stmt 9 (place 11 5) no_span (do_form (call_expr (place 11 10) (var_expr (place 11 5) (codes "print")) (more_exprs (call_expr (place 11 15) (var_expr (place 11 11) (codes "repr")) (more_exprs (var_expr (place 11 16) (codes "e")) end_exprs)) end_exprs)))) end_suite) end_handlers))) (more_suite (one_stmt 10 (place 12 1) no_span (try_form (more_suite (one_stmt 11 (place 13 5) no_span (do_form (call_expr (place 13 10) (var_expr (place 13 5) (codes "print")) (more_exprs (binary_expr (place 13 13) Mod (var_expr (place 13 11) (codes "a")) (const_expr (place 13 15) (int_atom (pos 0)))) end_exprs)))) end_suite) (more_handlers (Some (var_expr (place 14 8) (codes "ZeroDivisionError"))) (Some (record { at = (place 14 29); name = (codes "e") })) (more_suite (one_stmt 12 (place 15 5) no_span (do_form (call_expr (place 15 10) (var_expr (place 15 5) (codes "print")) (more_exprs (var_expr (place 15 11) (codes "e")) end_exprs)))) end_suite) end_handlers))) (more_suite (one_stmt 13 (place 16 1) no_span (aug_form (var_target (place 16 1) (codes "x")) Sub (place 16 3) (const_expr (place 16 6) (int_atom (pos 1))))) (more_suite (one_stmt 14 (place 17 1) no_span (aug_form (var_target (place 17 1) (codes "x")) FloorDiv (place 17 3) (const_expr (place 17 7) (int_atom (pos 3))))) (more_suite (one_stmt 15 (place 18 1) no_span (aug_form (var_target (place 18 1) (codes "x")) Mod (place 18 3) (const_expr (place 18 6) (int_atom (pos 1000))))) (more_suite (one_stmt 16 (place 19 1) no_span (aug_form (var_target (place 19 1) (codes "x")) Mul (place 19 3) (const_expr (place 19 6) (int_atom (pos 2))))) (more_suite (one_stmt 17 (place 20 1) no_span (do_form (call_expr (place 20 6) (var_expr (place 20 1) (codes "print")) (more_exprs (var_expr (place 20 7) (codes "x")) (more_exprs (call_expr (place 20 13) (var_expr (place 20 10) (codes "max")) (more_exprs (const_expr (place 20 14) (int_atom (pos 3))) (more_exprs (var_expr (place 20 17) (codes "a")) (more_exprs (var_expr (place 20 20) (codes "b")) end_exprs)))) (more_exprs (call_expr (place 20 27) (var_expr (place 20 24) (codes "min")) (more_exprs (var_expr (place 20 28) (codes "a")) (more_exprs (var_expr (place 20 31) (codes "b")) (more_exprs (const_expr (place 20 34) (truth_atom true)) end_exprs)))) (more_exprs (call_expr (place 20 44) (var_expr (place 20 41) (codes "sum")) (more_exprs (list_expr (place 20 45) (more_exprs (const_expr (place 20 46) (int_atom (pos 1))) (more_exprs (const_expr (place 20 49) (truth_atom true)) (more_exprs (unary_expr (place 20 55) Minus (const_expr (place 20 56) (int_atom (pos 3)))) end_exprs)))) end_exprs)) end_exprs))))))) end_suite)))))))))))))); count = 18 }

abbrev pub r_numbers_capture : Capture
r_numbers_capture = record { answers = ([]); files = ([]); ends = silent }

abbrev pub r_numbers_run : Run
r_numbers_run = run r_numbers_tree (codes "s.py") ([]) r_numbers_capture 1000000

r_numbers : summary r_numbers_run ≡ record { end = finished; steps = 259; output = (codes "-4 -1 -14 9 5 -7 1" ++ (10 ∷ []) ++ codes "2 -12 1 True False" ++ (10 ∷ []) ++ codes "True True False False True True" ++ (10 ∷ []) ++ codes "False -2 -2  None" ++ (10 ∷ []) ++ codes "OverflowError('integer out of range')" ++ (10 ∷ []) ++ codes "division by zero" ++ (10 ∷ []) ++ codes "1204 7 -2 -1" ++ (10 ∷ [])); finals = ([]) }
unfolding is_utf8 chars encode_utf8 level
r_numbers = refl

r_numbers_moments : r_numbers_run.moments ≡
    begins 0
    ∷ does (place 1 5) 0 ([]) (value (int (pos 7))) None ([]) 0
    ∷ does (place 1 1) 33 ((int (pos 7)) ∷ []) (value nothing) None ((sets (var_at 0 (codes "a")) (var_is (Some (int (pos 7))))) ∷ []) 0
    ∷ ends 0 normal_end
    ∷ begins 1
    ∷ does (place 2 6) 0 ([]) (value (int (pos 2))) None ([]) 0
    ∷ does (place 2 5) 5 ((int (pos 2)) ∷ []) (value (int (negsuc 1))) None ([]) 0
    ∷ does (place 2 1) 33 ((int (negsuc 1)) ∷ []) (value nothing) None ((sets (var_at 0 (codes "b")) (var_is (Some (int (negsuc 1))))) ∷ []) 0
    ∷ ends 1 normal_end
    ∷ begins 2
    ∷ does (place 3 1) 1 ([]) (value (builtin 14)) None ((reads (var_at 0 (codes "print"))) ∷ []) 0
    ∷ does (place 3 7) 1 ([]) (value (int (pos 7))) None ((reads (var_at 0 (codes "a"))) ∷ []) 0
    ∷ does (place 3 12) 1 ([]) (value (int (negsuc 1))) None ((reads (var_at 0 (codes "b"))) ∷ []) 0
    ∷ does (place 3 9) 10 ((int (pos 7)) ∷ (int (negsuc 1)) ∷ []) (value (int (negsuc 3))) None ([]) 0
    ∷ does (place 3 15) 1 ([]) (value (int (pos 7))) None ((reads (var_at 0 (codes "a"))) ∷ []) 0
    ∷ does (place 3 19) 1 ([]) (value (int (negsuc 1))) None ((reads (var_at 0 (codes "b"))) ∷ []) 0
    ∷ does (place 3 17) 11 ((int (pos 7)) ∷ (int (negsuc 1)) ∷ []) (value (int (negsuc 0))) None ([]) 0
    ∷ does (place 3 22) 1 ([]) (value (int (pos 7))) None ((reads (var_at 0 (codes "a"))) ∷ []) 0
    ∷ does (place 3 26) 1 ([]) (value (int (negsuc 1))) None ((reads (var_at 0 (codes "b"))) ∷ []) 0
    ∷ does (place 3 24) 9 ((int (pos 7)) ∷ (int (negsuc 1)) ∷ []) (value (int (negsuc 13))) None ([]) 0
    ∷ does (place 3 29) 1 ([]) (value (int (pos 7))) None ((reads (var_at 0 (codes "a"))) ∷ []) 0
    ∷ does (place 3 33) 1 ([]) (value (int (negsuc 1))) None ((reads (var_at 0 (codes "b"))) ∷ []) 0
    ∷ does (place 3 31) 8 ((int (pos 7)) ∷ (int (negsuc 1)) ∷ []) (value (int (pos 9))) None ([]) 0
    ∷ does (place 3 36) 1 ([]) (value (int (pos 7))) None ((reads (var_at 0 (codes "a"))) ∷ []) 0
    ∷ does (place 3 40) 1 ([]) (value (int (negsuc 1))) None ((reads (var_at 0 (codes "b"))) ∷ []) 0
    ∷ does (place 3 38) 7 ((int (pos 7)) ∷ (int (negsuc 1)) ∷ []) (value (int (pos 5))) None ([]) 0
    ∷ does (place 3 44) 1 ([]) (value (int (pos 7))) None ((reads (var_at 0 (codes "a"))) ∷ []) 0
    ∷ does (place 3 43) 5 ((int (pos 7)) ∷ []) (value (int (negsuc 6))) None ([]) 0
    ∷ does (place 3 48) 0 ([]) (value (truth true)) None ([]) 0
    ∷ does (place 3 47) 6 ((truth true) ∷ []) (value (int (pos 1))) None ([]) 0
    ∷ does (place 3 6) 64 ((int (negsuc 3)) ∷ (int (negsuc 0)) ∷ (int (negsuc 13)) ∷ (int (pos 9)) ∷ (int (pos 5)) ∷ (int (negsuc 6)) ∷ (int (pos 1)) ∷ []) (value nothing) None ([]) 1
    ∷ ends 2 normal_end
    ∷ begins 3
    ∷ does (place 4 1) 1 ([]) (value (builtin 14)) None ((reads (var_at 0 (codes "print"))) ∷ []) 0
    ∷ does (place 4 7) 1 ([]) (value (builtin 0)) None ((reads (var_at 0 (codes "abs"))) ∷ []) 0
    ∷ does (place 4 11) 1 ([]) (value (int (negsuc 1))) None ((reads (var_at 0 (codes "b"))) ∷ []) 0
    ∷ does (place 4 10) 50 ((int (negsuc 1)) ∷ []) (value (int (pos 2))) None ([]) 0
    ∷ does (place 4 15) 1 ([]) (value (builtin 6)) None ((reads (var_at 0 (codes "int"))) ∷ []) 0
    ∷ does (place 4 19) 0 ([]) (value (text (codes "  -12" ++ (10 ∷ [])))) None ([]) 0
    ∷ does (place 4 18) 56 ((text (codes "  -12" ++ (10 ∷ []))) ∷ []) (value (int (negsuc 11))) None ([]) 0
    ∷ does (place 4 31) 1 ([]) (value (builtin 6)) None ((reads (var_at 0 (codes "int"))) ∷ []) 0
    ∷ does (place 4 35) 0 ([]) (value (truth true)) None ([]) 0
    ∷ does (place 4 34) 56 ((truth true) ∷ []) (value (int (pos 1))) None ([]) 0
    ∷ does (place 4 42) 1 ([]) (value (builtin 1)) None ((reads (var_at 0 (codes "bool"))) ∷ []) 0
    ∷ does (place 4 47) 1 ([]) (value (int (pos 7))) None ((reads (var_at 0 (codes "a"))) ∷ []) 0
    ∷ does (place 4 46) 51 ((int (pos 7)) ∷ []) (value (truth true)) None ([]) 0
    ∷ does (place 4 51) 1 ([]) (value (builtin 1)) None ((reads (var_at 0 (codes "bool"))) ∷ []) 0
    ∷ does (place 4 56) 0 ([]) (value (int (pos 0))) None ([]) 0
    ∷ does (place 4 55) 51 ((int (pos 0)) ∷ []) (value (truth false)) None ([]) 0
    ∷ does (place 4 6) 64 ((int (pos 2)) ∷ (int (negsuc 11)) ∷ (int (pos 1)) ∷ (truth true) ∷ (truth false) ∷ []) (value nothing) None ([]) 1
    ∷ ends 3 normal_end
    ∷ begins 4
    ∷ does (place 5 1) 1 ([]) (value (builtin 14)) None ((reads (var_at 0 (codes "print"))) ∷ []) 0
    ∷ does (place 5 7) 1 ([]) (value (int (pos 7))) None ((reads (var_at 0 (codes "a"))) ∷ []) 0
    ∷ does (place 5 12) 0 ([]) (value (int (pos 7))) None ([]) 0
    ∷ does (place 5 9) 12 ((int (pos 7)) ∷ (int (pos 7)) ∷ []) (value (truth true)) None ([]) 0
    ∷ does (place 5 15) 1 ([]) (value (int (pos 7))) None ((reads (var_at 0 (codes "a"))) ∷ []) 0
    ∷ does (place 5 20) 1 ([]) (value (int (negsuc 1))) None ((reads (var_at 0 (codes "b"))) ∷ []) 0
    ∷ does (place 5 17) 13 ((int (pos 7)) ∷ (int (negsuc 1)) ∷ []) (value (truth true)) None ([]) 0
    ∷ does (place 5 23) 1 ([]) (value (int (pos 7))) None ((reads (var_at 0 (codes "a"))) ∷ []) 0
    ∷ does (place 5 27) 1 ([]) (value (int (negsuc 1))) None ((reads (var_at 0 (codes "b"))) ∷ []) 0
    ∷ does (place 5 25) 14 ((int (pos 7)) ∷ (int (negsuc 1)) ∷ []) (value (truth false)) None ([]) 0
    ∷ does (place 5 30) 1 ([]) (value (int (pos 7))) None ((reads (var_at 0 (codes "a"))) ∷ []) 0
    ∷ does (place 5 35) 1 ([]) (value (int (negsuc 1))) None ((reads (var_at 0 (codes "b"))) ∷ []) 0
    ∷ does (place 5 32) 15 ((int (pos 7)) ∷ (int (negsuc 1)) ∷ []) (value (truth false)) None ([]) 0
    ∷ does (place 5 38) 1 ([]) (value (int (pos 7))) None ((reads (var_at 0 (codes "a"))) ∷ []) 0
    ∷ does (place 5 42) 1 ([]) (value (int (negsuc 1))) None ((reads (var_at 0 (codes "b"))) ∷ []) 0
    ∷ does (place 5 40) 16 ((int (pos 7)) ∷ (int (negsuc 1)) ∷ []) (value (truth true)) None ([]) 0
    ∷ does (place 5 45) 1 ([]) (value (int (pos 7))) None ((reads (var_at 0 (codes "a"))) ∷ []) 0
    ∷ does (place 5 50) 1 ([]) (value (int (negsuc 1))) None ((reads (var_at 0 (codes "b"))) ∷ []) 0
    ∷ does (place 5 47) 17 ((int (pos 7)) ∷ (int (negsuc 1)) ∷ []) (value (truth true)) None ([]) 0
    ∷ does (place 5 6) 64 ((truth true) ∷ (truth true) ∷ (truth false) ∷ (truth false) ∷ (truth true) ∷ (truth true) ∷ []) (value nothing) None ([]) 1
    ∷ ends 4 normal_end
    ∷ begins 5
    ∷ does (place 6 1) 1 ([]) (value (builtin 14)) None ((reads (var_at 0 (codes "print"))) ∷ []) 0
    ∷ does (place 6 11) 1 ([]) (value (int (pos 7))) None ((reads (var_at 0 (codes "a"))) ∷ []) 0
    ∷ does (place 6 7) 4 ((int (pos 7)) ∷ []) (value (truth false)) None ([]) 0
    ∷ does (place 6 14) 1 ([]) (value (int (pos 7))) None ((reads (var_at 0 (codes "a"))) ∷ []) 0
    ∷ does (place 6 14) 3 ((int (pos 7)) ∷ []) (value (truth true)) None ([]) 0
    ∷ does (place 6 20) 1 ([]) (value (int (negsuc 1))) None ((reads (var_at 0 (codes "b"))) ∷ []) 0
    ∷ does (place 6 16) 2 ((int (negsuc 1)) ∷ []) (value (int (negsuc 1))) None ([]) 0
    ∷ does (place 6 23) 1 ([]) (value (int (negsuc 1))) None ((reads (var_at 0 (codes "b"))) ∷ []) 0
    ∷ does (place 6 23) 3 ((int (negsuc 1)) ∷ []) (value (truth true)) None ([]) 0
    ∷ does (place 6 25) 2 ((int (negsuc 1)) ∷ []) (value (int (negsuc 1))) None ([]) 0
    ∷ does (place 6 31) 0 ([]) (value (int (pos 0))) None ([]) 0
    ∷ does (place 6 31) 3 ((int (pos 0)) ∷ []) (value (truth false)) None ([]) 0
    ∷ does (place 6 36) 0 ([]) (value (text [])) None ([]) 0
    ∷ does (place 6 33) 2 ((text []) ∷ []) (value (text [])) None ([]) 0
    ∷ does (place 6 40) 0 ([]) (value nothing) None ([]) 0
    ∷ does (place 6 40) 3 (nothing ∷ []) (value (truth false)) None ([]) 0
    ∷ does (place 6 45) 2 (nothing ∷ []) (value nothing) None ([]) 0
    ∷ does (place 6 6) 64 ((truth false) ∷ (int (negsuc 1)) ∷ (int (negsuc 1)) ∷ (text []) ∷ nothing ∷ []) (value nothing) None ([]) 1
    ∷ ends 5 normal_end
    ∷ begins 6
    ∷ does (place 7 5) 0 ([]) (value (int (pos 9223372036854775807))) None ([]) 0
    ∷ does (place 7 1) 33 ((int (pos 9223372036854775807)) ∷ []) (value nothing) None ((sets (var_at 0 (codes "x")) (var_is (Some (int (pos 9223372036854775807))))) ∷ []) 0
    ∷ ends 6 normal_end
    ∷ begins 7
    ∷ begins 8
    ∷ does (place 9 5) 1 ([]) (value (builtin 14)) None ((reads (var_at 0 (codes "print"))) ∷ []) 0
    ∷ does (place 9 11) 1 ([]) (value (int (pos 9223372036854775807))) None ((reads (var_at 0 (codes "x"))) ∷ []) 0
    ∷ does (place 9 15) 0 ([]) (value (int (pos 2))) None ([]) 0
    ∷ does (place 9 13) 9 ((int (pos 9223372036854775807)) ∷ (int (pos 2)) ∷ []) (raised 1) (Some (an_instance (exception_class 3))) ((sets (order_at 1) (order_is ((text (codes "args")) ∷ []))) ∷ (sets (entry_at 1 (text (codes "args"))) (entry_is (Some ((text (codes "args")), (tuple (part (text (codes "integer out of range")) no_parts)))))) ∷ []) 0
    ∷ ends 8 raise_end
    ∷ does (place 10 8) 1 ([]) (value (exception_class 1)) None ((reads (var_at 0 (codes "ArithmeticError"))) ∷ []) 0
    ∷ does (place 8 1) 41 ((object 1) ∷ (exception_class 1) ∷ []) (value (truth true)) None ([]) 0
    ∷ does (place 10 27) 33 ((object 1) ∷ []) (value nothing) None ((sets (var_at 0 (codes "e")) (var_is (Some (object 1)))) ∷ []) 0
    ∷ begins 9
    ∷ does (place 11 5) 1 ([]) (value (builtin 14)) None ((reads (var_at 0 (codes "print"))) ∷ []) 0
    ∷ does (place 11 11) 1 ([]) (value (builtin 16)) None ((reads (var_at 0 (codes "repr"))) ∷ []) 0
    ∷ does (place 11 16) 1 ([]) (value (object 1)) None ((reads (var_at 0 (codes "e"))) ∷ []) 0
    ∷ does (place 11 15) 66 ((object 1) ∷ []) (value (text (codes "OverflowError('integer out of range')"))) None ((reads (entry_at 1 (text (codes "args")))) ∷ []) 2
    ∷ does (place 11 10) 64 ((text (codes "OverflowError('integer out of range')")) ∷ []) (value nothing) None ([]) 1
    ∷ ends 9 normal_end
    ∷ does (place 10 27) 34 ([]) (value nothing) None ((reads (var_at 0 (codes "e"))) ∷ (sets (var_at 0 (codes "e")) (var_is None)) ∷ []) 0
    ∷ ends 7 normal_end
    ∷ begins 10
    ∷ begins 11
    ∷ does (place 13 5) 1 ([]) (value (builtin 14)) None ((reads (var_at 0 (codes "print"))) ∷ []) 0
    ∷ does (place 13 11) 1 ([]) (value (int (pos 7))) None ((reads (var_at 0 (codes "a"))) ∷ []) 0
    ∷ does (place 13 15) 0 ([]) (value (int (pos 0))) None ([]) 0
    ∷ does (place 13 13) 11 ((int (pos 7)) ∷ (int (pos 0)) ∷ []) (raised 2) (Some (an_instance (exception_class 2))) ((sets (order_at 2) (order_is ((text (codes "args")) ∷ []))) ∷ (sets (entry_at 2 (text (codes "args"))) (entry_is (Some ((text (codes "args")), (tuple (part (text (codes "division by zero")) no_parts)))))) ∷ []) 0
    ∷ ends 11 raise_end
    ∷ does (place 14 8) 1 ([]) (value (exception_class 2)) None ((reads (var_at 0 (codes "ZeroDivisionError"))) ∷ []) 0
    ∷ does (place 12 1) 41 ((object 2) ∷ (exception_class 2) ∷ []) (value (truth true)) None ([]) 0
    ∷ does (place 14 29) 33 ((object 2) ∷ []) (value nothing) None ((sets (var_at 0 (codes "e")) (var_is (Some (object 2)))) ∷ []) 0
    ∷ begins 12
    ∷ does (place 15 5) 1 ([]) (value (builtin 14)) None ((reads (var_at 0 (codes "print"))) ∷ []) 0
    ∷ does (place 15 11) 1 ([]) (value (object 2)) None ((reads (var_at 0 (codes "e"))) ∷ []) 0
    ∷ does (place 15 10) 64 ((object 2) ∷ []) (value nothing) None ((reads (entry_at 2 (text (codes "args")))) ∷ []) 2
    ∷ ends 12 normal_end
    ∷ does (place 14 29) 34 ([]) (value nothing) None ((reads (var_at 0 (codes "e"))) ∷ (sets (var_at 0 (codes "e")) (var_is None)) ∷ []) 0
    ∷ ends 10 normal_end
    ∷ begins 13
    ∷ does (place 16 1) 1 ([]) (value (int (pos 9223372036854775807))) None ((reads (var_at 0 (codes "x"))) ∷ []) 0
    ∷ does (place 16 6) 0 ([]) (value (int (pos 1))) None ([]) 0
    ∷ does (place 16 3) 8 ((int (pos 9223372036854775807)) ∷ (int (pos 1)) ∷ []) (value (int (pos 9223372036854775806))) None ([]) 0
    ∷ does (place 16 1) 33 ((int (pos 9223372036854775806)) ∷ []) (value nothing) None ((sets (var_at 0 (codes "x")) (var_is (Some (int (pos 9223372036854775806))))) ∷ []) 0
    ∷ ends 13 normal_end
    ∷ begins 14
    ∷ does (place 17 1) 1 ([]) (value (int (pos 9223372036854775806))) None ((reads (var_at 0 (codes "x"))) ∷ []) 0
    ∷ does (place 17 7) 0 ([]) (value (int (pos 3))) None ([]) 0
    ∷ does (place 17 3) 10 ((int (pos 9223372036854775806)) ∷ (int (pos 3)) ∷ []) (value (int (pos 3074457345618258602))) None ([]) 0
    ∷ does (place 17 1) 33 ((int (pos 3074457345618258602)) ∷ []) (value nothing) None ((sets (var_at 0 (codes "x")) (var_is (Some (int (pos 3074457345618258602))))) ∷ []) 0
    ∷ ends 14 normal_end
    ∷ begins 15
    ∷ does (place 18 1) 1 ([]) (value (int (pos 3074457345618258602))) None ((reads (var_at 0 (codes "x"))) ∷ []) 0
    ∷ does (place 18 6) 0 ([]) (value (int (pos 1000))) None ([]) 0
    ∷ does (place 18 3) 11 ((int (pos 3074457345618258602)) ∷ (int (pos 1000)) ∷ []) (value (int (pos 602))) None ([]) 0
    ∷ does (place 18 1) 33 ((int (pos 602)) ∷ []) (value nothing) None ((sets (var_at 0 (codes "x")) (var_is (Some (int (pos 602))))) ∷ []) 0
    ∷ ends 15 normal_end
    ∷ begins 16
    ∷ does (place 19 1) 1 ([]) (value (int (pos 602))) None ((reads (var_at 0 (codes "x"))) ∷ []) 0
    ∷ does (place 19 6) 0 ([]) (value (int (pos 2))) None ([]) 0
    ∷ does (place 19 3) 9 ((int (pos 602)) ∷ (int (pos 2)) ∷ []) (value (int (pos 1204))) None ([]) 0
    ∷ does (place 19 1) 33 ((int (pos 1204)) ∷ []) (value nothing) None ((sets (var_at 0 (codes "x")) (var_is (Some (int (pos 1204))))) ∷ []) 0
    ∷ ends 16 normal_end
    ∷ begins 17
    ∷ does (place 20 1) 1 ([]) (value (builtin 14)) None ((reads (var_at 0 (codes "print"))) ∷ []) 0
    ∷ does (place 20 7) 1 ([]) (value (int (pos 1204))) None ((reads (var_at 0 (codes "x"))) ∷ []) 0
    ∷ does (place 20 10) 1 ([]) (value (builtin 10)) None ((reads (var_at 0 (codes "max"))) ∷ []) 0
    ∷ does (place 20 14) 0 ([]) (value (int (pos 3))) None ([]) 0
    ∷ does (place 20 17) 1 ([]) (value (int (pos 7))) None ((reads (var_at 0 (codes "a"))) ∷ []) 0
    ∷ does (place 20 20) 1 ([]) (value (int (negsuc 1))) None ((reads (var_at 0 (codes "b"))) ∷ []) 0
    ∷ does (place 20 13) 60 ((int (pos 3)) ∷ (int (pos 7)) ∷ (int (negsuc 1)) ∷ []) (value (int (pos 7))) None ([]) 0
    ∷ does (place 20 24) 1 ([]) (value (builtin 11)) None ((reads (var_at 0 (codes "min"))) ∷ []) 0
    ∷ does (place 20 28) 1 ([]) (value (int (pos 7))) None ((reads (var_at 0 (codes "a"))) ∷ []) 0
    ∷ does (place 20 31) 1 ([]) (value (int (negsuc 1))) None ((reads (var_at 0 (codes "b"))) ∷ []) 0
    ∷ does (place 20 34) 0 ([]) (value (truth true)) None ([]) 0
    ∷ does (place 20 27) 61 ((int (pos 7)) ∷ (int (negsuc 1)) ∷ (truth true) ∷ []) (value (int (negsuc 1))) None ([]) 0
    ∷ does (place 20 41) 1 ([]) (value (builtin 19)) None ((reads (var_at 0 (codes "sum"))) ∷ []) 0
    ∷ does (place 20 46) 0 ([]) (value (int (pos 1))) None ([]) 0
    ∷ does (place 20 49) 0 ([]) (value (truth true)) None ([]) 0
    ∷ does (place 20 56) 0 ([]) (value (int (pos 3))) None ([]) 0
    ∷ does (place 20 55) 5 ((int (pos 3)) ∷ []) (value (int (negsuc 2))) None ([]) 0
    ∷ does (place 20 45) 23 ((int (pos 1)) ∷ (truth true) ∷ (int (negsuc 2)) ∷ []) (value (object 3)) (Some a_list) ((sets (len_at 3) (len_is 3)) ∷ (sets (item_at 3 0) (item_is (int (pos 1)))) ∷ (sets (item_at 3 1) (item_is (truth true))) ∷ (sets (item_at 3 2) (item_is (int (negsuc 2)))) ∷ []) 0
    ∷ does (place 20 44) 69 ((object 3) ∷ []) (value (int (negsuc 0))) None ((reads (len_at 3)) ∷ (reads (item_at 3 0)) ∷ (reads (item_at 3 1)) ∷ (reads (item_at 3 2)) ∷ []) 0
    ∷ does (place 20 6) 64 ((int (pos 1204)) ∷ (int (pos 7)) ∷ (int (negsuc 1)) ∷ (int (negsuc 0)) ∷ []) (value nothing) None ([]) 1
    ∷ ends 17 normal_end
    ∷ []
unfolding is_utf8 chars encode_utf8 level
r_numbers_moments = refl

r_numbers_values : evaluated r_numbers_tree (opening_in r_numbers_capture (codes "s.py") ([])) (reverse r_numbers_run.moments) ((place 3 1, 1) ∷ (place 4 1, 1) ∷ (place 6 7, 1) ∷ (place 18 1, 1) ∷ (place 20 6, 1) ∷ []) ≡ (Some ((codes "<built-in print>"), 12) ∷ Some ((codes "<built-in print>"), 47) ∷ Some ((codes "False"), 111) ∷ Some ((codes "3074457345618258602"), 209) ∷ Some ((codes "None"), 259) ∷ [])
unfolding is_utf8 chars encode_utf8 level
r_numbers_values = refl

r_numbers_slices : kept r_numbers_tree (opening_in r_numbers_capture (codes "s.py") ([])) (reverse r_numbers_run.moments) ((place 3 1, 1) ∷ (place 4 1, 1) ∷ (place 6 7, 1) ∷ (place 18 1, 1) ∷ (place 20 6, 1) ∷ []) ≡ (Some (true, (false ∷ false ∷ true ∷ false ∷ false ∷ false ∷ false ∷ false ∷ false ∷ false ∷ false ∷ false ∷ false ∷ false ∷ false ∷ false ∷ false ∷ false ∷ [])) ∷ Some (true, (false ∷ false ∷ false ∷ true ∷ false ∷ false ∷ false ∷ false ∷ false ∷ false ∷ false ∷ false ∷ false ∷ false ∷ false ∷ false ∷ false ∷ false ∷ [])) ∷ Some (true, (true ∷ false ∷ false ∷ false ∷ false ∷ true ∷ false ∷ false ∷ false ∷ false ∷ false ∷ false ∷ false ∷ false ∷ false ∷ false ∷ false ∷ false ∷ [])) ∷ Some (true, (false ∷ false ∷ false ∷ false ∷ false ∷ false ∷ true ∷ false ∷ false ∷ false ∷ false ∷ false ∷ false ∷ true ∷ true ∷ true ∷ false ∷ false ∷ [])) ∷ Some (true, (true ∷ true ∷ false ∷ false ∷ false ∷ false ∷ true ∷ false ∷ false ∷ false ∷ false ∷ false ∷ false ∷ true ∷ true ∷ true ∷ true ∷ true ∷ [])) ∷ [])
unfolding is_utf8 chars encode_utf8 level
r_numbers_slices = refl

r_numbers_replays : replayed r_numbers_tree r_numbers_capture (codes "s.py") ([]) 259 (reverse r_numbers_run.moments) ((place 3 1, 1) ∷ (place 4 1, 1) ∷ (place 6 7, 1) ∷ (place 18 1, 1) ∷ (place 20 6, 1) ∷ []) ≡ (Some ((codes "<built-in print>"), 3) ∷ Some ((codes "<built-in print>"), 3) ∷ Some ((codes "False"), 10) ∷ Some ((codes "3074457345618258602"), 21) ∷ Some ((codes "None"), 80) ∷ [])
unfolding is_utf8 chars encode_utf8 level
r_numbers_replays = refl

r_numbers_dataflow : depends r_numbers_tree (reverse r_numbers_run.moments) (edge by_data 2 0 ∷ edge by_data 2 1 ∷ edge by_data 3 0 ∷ edge by_data 3 1 ∷ edge by_data 4 0 ∷ edge by_data 4 1 ∷ edge by_data 5 0 ∷ edge by_data 5 1 ∷ edge by_data 7 7 ∷ edge by_jump 7 8 ∷ edge by_data 8 6 ∷ edge by_control 8 7 ∷ edge by_data 9 7 ∷ edge by_control 9 7 ∷ edge by_data 9 8 ∷ edge by_data 10 10 ∷ edge by_jump 10 11 ∷ edge by_data 11 0 ∷ edge by_control 11 10 ∷ edge by_data 12 10 ∷ edge by_control 12 10 ∷ edge by_data 12 11 ∷ edge by_data 13 6 ∷ edge by_data 14 13 ∷ edge by_data 15 14 ∷ edge by_data 16 15 ∷ edge by_data 17 0 ∷ edge by_data 17 1 ∷ edge by_data 17 16 ∷ edge by_data 17 17 ∷ []) ≡ (true, true)
unfolding is_utf8 chars encode_utf8 level
r_numbers_dataflow = refl
