-- Runs of scripts, as theorems that hold by computation: their ends, steps, output and files, and all of their moments.
-- Written by tools/run_vectors.py from scripts with what is expected of them.
use Rattle.std.proofs.Common.{◌≡◌, [], ◌∷◌, ◌++◌, Some, None, codes, refl}
use Rattle.std.specs.Prelude.{pos, negsuc, true, false, reverse}
use Rattle.std.specs.Str.{chars, is_utf8}
use Rattle.std.specs.Char.{encode_utf8}
use Rattle.py_tree.specs.declared.expr.Atom.TheVariants.{None as none_atom, Int as int_atom, Text as text_atom}
use Rattle.py_tree.specs.declared.expr.UnOp.TheVariants.{Minus, Not as Negation}
use Rattle.py_tree.specs.declared.expr.LogicOp.TheVariants.{And as Both, Or as Either}
use Rattle.py_tree.specs.declared.expr.BinOp.TheVariants.{Add}
use Rattle.py_tree.specs.declared.expr.CmpOp.TheVariants.{Eq, Ne, Lt, Gt, Is, IsNot}
use Rattle.py_tree.specs.Tree.{const_expr, var_expr, unary_expr, binary_expr, compare_expr, logic_expr, choose_expr, call_expr, part_expr, list_expr, dict_expr, end_exprs, more_exprs, end_pairs, more_pairs, var_target, one_stmt, do_form, assign_form, pass_form, return_form, assert_form, if_form, for_form, def_form, end_suite, more_suite, end_branches, more_branches, no_else, else_suite, ScriptTree}
use Rattle.py_value.specs.Contents.{nothing, truth, int, text, function, builtin, object}
use Rattle.py_value.specs.Seen.{a_list, a_dict, var_at, len_at, item_at, entry_at, order_at, var_is, len_is, item_is, entry_is, order_is, reads, sets}
use Rattle.py_model.specs.Capture.{Capture, opening_in}
use Rattle.py_model.specs.Meaning.{Run, run, level, finished}
use Rattle.py_model.specs.Moment.{begins, does, enters, leaves, ends, normal_end, return_end}
use Rattle.py_model.specs.Plan.{value, at_end}
use Rattle.model_runs.specs.Words.{place, no_span, silent, summary, evaluated, depends, replayed}
use Rattle.slice_law.specs.Edges.{edge, by_data, by_control, by_jump}

abbrev pub r_conditions_tree : ScriptTree
r_conditions_tree = record { body = (more_suite (one_stmt 0 (place 1 1) no_span (def_form (codes "sign") ((codes "n") ∷ []) ([]) (more_suite (one_stmt 1 (place 1 14) no_span (return_form (Some (choose_expr (place 1 23) (compare_expr (place 1 28) Gt (var_expr (place 1 26) (codes "n")) (const_expr (place 1 30) (int_atom (pos 0)))) (const_expr (place 1 21) (int_atom (pos 1))) (choose_expr (place 1 39) (compare_expr (place 1 44) Eq (var_expr (place 1 42) (codes "n")) (const_expr (place 1 47) (int_atom (pos 0)))) (const_expr (place 1 37) (int_atom (pos 0))) (unary_expr (place 1 54) Minus (const_expr (place 1 55) (int_atom (pos 1))))))))) end_suite))) (more_suite (one_stmt 2 (place 2 1) no_span (assign_form (var_target (place 2 1) (codes "words")) (list_expr (place 2 9) (more_exprs (const_expr (place 2 10) (text_atom [])) (more_exprs (const_expr (place 2 14) (text_atom (codes "a"))) (more_exprs (const_expr (place 2 19) (text_atom (codes "bb"))) end_exprs)))))) (more_suite (one_stmt 3 (place 3 1) no_span (for_form (var_target (place 3 5) (codes "w")) (var_expr (place 3 10) (codes "words")) (more_suite (one_stmt 4 (place 4 5) no_span (if_form (more_branches (unary_expr (place 4 8) Negation (var_expr (place 4 12) (codes "w"))) (more_suite (one_stmt 5 (place 4 15) no_span (do_form (call_expr (place 4 20) (var_expr (place 4 15) (codes "print")) (more_exprs (const_expr (place 4 21) (text_atom (codes "empty"))) end_exprs)))) end_suite) (more_branches (compare_expr (place 5 17) Eq (call_expr (place 5 13) (var_expr (place 5 10) (codes "len")) (more_exprs (var_expr (place 5 14) (codes "w")) end_exprs)) (const_expr (place 5 20) (int_atom (pos 1)))) (more_suite (one_stmt 6 (place 5 23) no_span (do_form (call_expr (place 5 28) (var_expr (place 5 23) (codes "print")) (more_exprs (const_expr (place 5 29) (text_atom (codes "one"))) end_exprs)))) end_suite) end_branches)) (else_suite (more_suite (one_stmt 7 (place 6 11) no_span (do_form (call_expr (place 6 16) (var_expr (place 6 11) (codes "print")) (more_exprs (const_expr (place 6 17) (text_atom (codes "more"))) (more_exprs (var_expr (place 6 25) (codes "w")) end_exprs))))) end_suite)))) end_suite))) (more_suite (one_stmt 8 (place 7 1) no_span (do_form (call_expr (place 7 6) (var_expr (place 7 1) (codes "print")) (more_exprs (list_expr (place 7 7) (more_exprs (call_expr (place 7 12) (var_expr (place 7 8) (codes "sign")) (more_exprs (const_expr (place 7 13) (int_atom (pos 5))) end_exprs)) (more_exprs (call_expr (place 7 21) (var_expr (place 7 17) (codes "sign")) (more_exprs (const_expr (place 7 22) (int_atom (pos 0))) end_exprs)) (more_exprs (call_expr (place 7 30) (var_expr (place 7 26) (codes "sign")) (more_exprs (unary_expr (place 7 31) Minus (const_expr (place 7 32) (int_atom (pos 5)))) end_exprs)) end_exprs)))) (more_exprs (logic_expr (place 7 46) Either (part_expr (place 7 42) (var_expr (place 7 37) (codes "words")) (const_expr (place 7 43) (int_atom (pos 0)))) (logic_expr (place 7 58) Both (part_expr (place 7 54) (var_expr (place 7 49) (codes "words")) (const_expr (place 7 55) (int_atom (pos 1)))) (part_expr (place 7 67) (var_expr (place 7 62) (codes "words")) (const_expr (place 7 68) (int_atom (pos 2)))))) (more_exprs (unary_expr (place 7 72) Negation (var_expr (place 7 76) (codes "words"))) (more_exprs (compare_expr (place 7 88) IsNot (const_expr (place 7 83) none_atom) (var_expr (place 7 95) (codes "words"))) end_exprs))))))) (more_suite (one_stmt 9 (place 8 1) no_span (assign_form (var_target (place 8 1) (codes "x")) (const_expr (place 8 5) (int_atom (pos 5))))) (more_suite (one_stmt 10 (place 9 1) no_span (assign_form (var_target (place 9 1) (codes "y")) (choose_expr (place 9 7) (logic_expr (place 9 31) Either (logic_expr (place 9 16) Both (compare_expr (place 9 12) Gt (var_expr (place 9 10) (codes "x")) (const_expr (place 9 14) (int_atom (pos 3)))) (unary_expr (place 9 20) Negation (compare_expr (place 9 26) Eq (var_expr (place 9 24) (codes "x")) (const_expr (place 9 29) (int_atom (pos 4)))))) (compare_expr (place 9 36) Lt (var_expr (place 9 34) (codes "x")) (const_expr (place 9 38) (int_atom (pos 0))))) (var_expr (place 9 5) (codes "x")) (const_expr (place 9 45) none_atom)))) (more_suite (one_stmt 11 (place 10 1) no_span (if_form (more_branches (compare_expr (place 10 6) Eq (var_expr (place 10 4) (codes "x")) (const_expr (place 10 9) (int_atom (pos 5)))) (more_suite (one_stmt 12 (place 10 12) no_span pass_form) end_suite) end_branches) no_else)) (more_suite (one_stmt 13 (place 11 1) no_span (assert_form (var_expr (place 11 8) (codes "x")) (Some (const_expr (place 11 11) (text_atom (codes "never")))))) (more_suite (one_stmt 14 (place 12 1) no_span (assert_form (unary_expr (place 12 8) Negation (const_expr (place 12 12) none_atom)) None)) (more_suite (one_stmt 15 (place 13 1) no_span (do_form (call_expr (place 13 6) (var_expr (place 13 1) (codes "print")) (more_exprs (var_expr (place 13 7) (codes "y")) (more_exprs (compare_expr (place 13 12) Ne (var_expr (place 13 10) (codes "x")) (const_expr (place 13 15) (int_atom (pos 5)))) (more_exprs (compare_expr (place 13 20) Is (var_expr (place 13 18) (codes "x")) (const_expr (place 13 23) none_atom)) (more_exprs (binary_expr (place 13 33) Add (var_expr (place 13 30) (codes "x")) (const_expr (place 13 36) (int_atom (pos 1)))) (more_exprs (part_expr (place 13 48) (dict_expr (place 13 40) (more_pairs (const_expr (place 13 41) (text_atom (codes "k"))) (var_expr (place 13 46) (codes "x")) end_pairs)) (const_expr (place 13 49) (text_atom (codes "k")))) end_exprs)))))))) end_suite)))))))))); count = 16 }

abbrev pub r_conditions_capture : Capture
r_conditions_capture = record { answers = ([]); files = ([]); ends = silent }

abbrev pub r_conditions_run : Run
r_conditions_run = run r_conditions_tree (codes "s.py") ([]) r_conditions_capture 1000000

r_conditions : summary r_conditions_run ≡ record { end = finished; steps = 253; output = (codes "empty" ++ (10 ∷ []) ++ codes "one" ++ (10 ∷ []) ++ codes "more bb" ++ (10 ∷ []) ++ codes "[1, 0, -1] bb False True" ++ (10 ∷ []) ++ codes "5 False False 6 5" ++ (10 ∷ [])); finals = ([]) }
unfolding is_utf8 chars encode_utf8 level
r_conditions = refl

r_conditions_moments : r_conditions_run.moments ≡
    begins 0
    ∷ does (place 1 1) 42 ([]) (value nothing) None ((sets (var_at 0 (codes "sign")) (var_is (Some (function (place 1 1))))) ∷ []) 0
    ∷ ends 0 normal_end
    ∷ begins 2
    ∷ does (place 2 10) 0 ([]) (value (text [])) None ([]) 0
    ∷ does (place 2 14) 0 ([]) (value (text (codes "a"))) None ([]) 0
    ∷ does (place 2 19) 0 ([]) (value (text (codes "bb"))) None ([]) 0
    ∷ does (place 2 9) 23 ((text []) ∷ (text (codes "a")) ∷ (text (codes "bb")) ∷ []) (value (object 1)) (Some a_list) ((sets (len_at 1) (len_is 3)) ∷ (sets (item_at 1 0) (item_is (text []))) ∷ (sets (item_at 1 1) (item_is (text (codes "a")))) ∷ (sets (item_at 1 2) (item_is (text (codes "bb")))) ∷ []) 0
    ∷ does (place 2 1) 33 ((object 1) ∷ []) (value nothing) None ((sets (var_at 0 (codes "words")) (var_is (Some (object 1)))) ∷ []) 0
    ∷ ends 2 normal_end
    ∷ begins 3
    ∷ does (place 3 10) 1 ([]) (value (object 1)) None ((reads (var_at 0 (codes "words"))) ∷ []) 0
    ∷ does (place 3 1) 36 ((object 1) ∷ []) (value nothing) None ([]) 0
    ∷ does (place 3 1) 37 ((object 1) ∷ (int (pos 0)) ∷ nothing ∷ []) (value (text [])) None ((reads (len_at 1)) ∷ (reads (item_at 1 0)) ∷ []) 0
    ∷ does (place 3 5) 33 ((text []) ∷ []) (value nothing) None ((sets (var_at 0 (codes "w")) (var_is (Some (text [])))) ∷ []) 0
    ∷ begins 4
    ∷ does (place 4 12) 1 ([]) (value (text [])) None ((reads (var_at 0 (codes "w"))) ∷ []) 0
    ∷ does (place 4 8) 4 ((text []) ∷ []) (value (truth true)) None ([]) 0
    ∷ does (place 4 8) 3 ((truth true) ∷ []) (value (truth true)) None ([]) 0
    ∷ begins 5
    ∷ does (place 4 15) 1 ([]) (value (builtin 14)) None ((reads (var_at 0 (codes "print"))) ∷ []) 0
    ∷ does (place 4 21) 0 ([]) (value (text (codes "empty"))) None ([]) 0
    ∷ does (place 4 20) 64 ((text (codes "empty")) ∷ []) (value nothing) None ([]) 1
    ∷ ends 5 normal_end
    ∷ ends 4 normal_end
    ∷ does (place 3 1) 37 ((object 1) ∷ (int (pos 1)) ∷ nothing ∷ []) (value (text (codes "a"))) None ((reads (len_at 1)) ∷ (reads (item_at 1 1)) ∷ []) 0
    ∷ does (place 3 5) 33 ((text (codes "a")) ∷ []) (value nothing) None ((sets (var_at 0 (codes "w")) (var_is (Some (text (codes "a"))))) ∷ []) 0
    ∷ begins 4
    ∷ does (place 4 12) 1 ([]) (value (text (codes "a"))) None ((reads (var_at 0 (codes "w"))) ∷ []) 0
    ∷ does (place 4 8) 4 ((text (codes "a")) ∷ []) (value (truth false)) None ([]) 0
    ∷ does (place 4 8) 3 ((truth false) ∷ []) (value (truth false)) None ([]) 0
    ∷ does (place 5 10) 1 ([]) (value (builtin 8)) None ((reads (var_at 0 (codes "len"))) ∷ []) 0
    ∷ does (place 5 14) 1 ([]) (value (text (codes "a"))) None ((reads (var_at 0 (codes "w"))) ∷ []) 0
    ∷ does (place 5 13) 58 ((text (codes "a")) ∷ []) (value (int (pos 1))) None ([]) 0
    ∷ does (place 5 20) 0 ([]) (value (int (pos 1))) None ([]) 0
    ∷ does (place 5 17) 12 ((int (pos 1)) ∷ (int (pos 1)) ∷ []) (value (truth true)) None ([]) 0
    ∷ does (place 5 17) 3 ((truth true) ∷ []) (value (truth true)) None ([]) 0
    ∷ begins 6
    ∷ does (place 5 23) 1 ([]) (value (builtin 14)) None ((reads (var_at 0 (codes "print"))) ∷ []) 0
    ∷ does (place 5 29) 0 ([]) (value (text (codes "one"))) None ([]) 0
    ∷ does (place 5 28) 64 ((text (codes "one")) ∷ []) (value nothing) None ([]) 1
    ∷ ends 6 normal_end
    ∷ ends 4 normal_end
    ∷ does (place 3 1) 37 ((object 1) ∷ (int (pos 2)) ∷ nothing ∷ []) (value (text (codes "bb"))) None ((reads (len_at 1)) ∷ (reads (item_at 1 2)) ∷ []) 0
    ∷ does (place 3 5) 33 ((text (codes "bb")) ∷ []) (value nothing) None ((sets (var_at 0 (codes "w")) (var_is (Some (text (codes "bb"))))) ∷ []) 0
    ∷ begins 4
    ∷ does (place 4 12) 1 ([]) (value (text (codes "bb"))) None ((reads (var_at 0 (codes "w"))) ∷ []) 0
    ∷ does (place 4 8) 4 ((text (codes "bb")) ∷ []) (value (truth false)) None ([]) 0
    ∷ does (place 4 8) 3 ((truth false) ∷ []) (value (truth false)) None ([]) 0
    ∷ does (place 5 10) 1 ([]) (value (builtin 8)) None ((reads (var_at 0 (codes "len"))) ∷ []) 0
    ∷ does (place 5 14) 1 ([]) (value (text (codes "bb"))) None ((reads (var_at 0 (codes "w"))) ∷ []) 0
    ∷ does (place 5 13) 58 ((text (codes "bb")) ∷ []) (value (int (pos 2))) None ([]) 0
    ∷ does (place 5 20) 0 ([]) (value (int (pos 1))) None ([]) 0
    ∷ does (place 5 17) 12 ((int (pos 2)) ∷ (int (pos 1)) ∷ []) (value (truth false)) None ([]) 0
    ∷ does (place 5 17) 3 ((truth false) ∷ []) (value (truth false)) None ([]) 0
    ∷ begins 7
    ∷ does (place 6 11) 1 ([]) (value (builtin 14)) None ((reads (var_at 0 (codes "print"))) ∷ []) 0
    ∷ does (place 6 17) 0 ([]) (value (text (codes "more"))) None ([]) 0
    ∷ does (place 6 25) 1 ([]) (value (text (codes "bb"))) None ((reads (var_at 0 (codes "w"))) ∷ []) 0
    ∷ does (place 6 16) 64 ((text (codes "more")) ∷ (text (codes "bb")) ∷ []) (value nothing) None ([]) 1
    ∷ ends 7 normal_end
    ∷ ends 4 normal_end
    ∷ does (place 3 1) 37 ((object 1) ∷ (int (pos 3)) ∷ nothing ∷ []) at_end None ((reads (len_at 1)) ∷ []) 0
    ∷ ends 3 normal_end
    ∷ begins 8
    ∷ does (place 7 1) 1 ([]) (value (builtin 14)) None ((reads (var_at 0 (codes "print"))) ∷ []) 0
    ∷ does (place 7 8) 1 ([]) (value (function (place 1 1))) None ((reads (var_at 0 (codes "sign"))) ∷ []) 0
    ∷ does (place 7 13) 0 ([]) (value (int (pos 5))) None ([]) 0
    ∷ enters (place 7 12) (place 1 1) ((int (pos 5)) ∷ []) ((sets (var_at 1 (codes "n")) (var_is (Some (int (pos 5))))) ∷ [])
    ∷ begins 1
    ∷ does (place 1 26) 1 ([]) (value (int (pos 5))) None ((reads (var_at 1 (codes "n"))) ∷ []) 0
    ∷ does (place 1 30) 0 ([]) (value (int (pos 0))) None ([]) 0
    ∷ does (place 1 28) 16 ((int (pos 5)) ∷ (int (pos 0)) ∷ []) (value (truth true)) None ([]) 0
    ∷ does (place 1 28) 3 ((truth true) ∷ []) (value (truth true)) None ([]) 0
    ∷ does (place 1 21) 0 ([]) (value (int (pos 1))) None ([]) 0
    ∷ does (place 1 23) 2 ((int (pos 1)) ∷ []) (value (int (pos 1))) None ([]) 0
    ∷ ends 1 return_end
    ∷ leaves (int (pos 1))
    ∷ does (place 7 12) 2 ((int (pos 1)) ∷ []) (value (int (pos 1))) None ([]) 0
    ∷ does (place 7 17) 1 ([]) (value (function (place 1 1))) None ((reads (var_at 0 (codes "sign"))) ∷ []) 0
    ∷ does (place 7 22) 0 ([]) (value (int (pos 0))) None ([]) 0
    ∷ enters (place 7 21) (place 1 1) ((int (pos 0)) ∷ []) ((sets (var_at 2 (codes "n")) (var_is (Some (int (pos 0))))) ∷ [])
    ∷ begins 1
    ∷ does (place 1 26) 1 ([]) (value (int (pos 0))) None ((reads (var_at 2 (codes "n"))) ∷ []) 0
    ∷ does (place 1 30) 0 ([]) (value (int (pos 0))) None ([]) 0
    ∷ does (place 1 28) 16 ((int (pos 0)) ∷ (int (pos 0)) ∷ []) (value (truth false)) None ([]) 0
    ∷ does (place 1 28) 3 ((truth false) ∷ []) (value (truth false)) None ([]) 0
    ∷ does (place 1 42) 1 ([]) (value (int (pos 0))) None ((reads (var_at 2 (codes "n"))) ∷ []) 0
    ∷ does (place 1 47) 0 ([]) (value (int (pos 0))) None ([]) 0
    ∷ does (place 1 44) 12 ((int (pos 0)) ∷ (int (pos 0)) ∷ []) (value (truth true)) None ([]) 0
    ∷ does (place 1 44) 3 ((truth true) ∷ []) (value (truth true)) None ([]) 0
    ∷ does (place 1 37) 0 ([]) (value (int (pos 0))) None ([]) 0
    ∷ does (place 1 39) 2 ((int (pos 0)) ∷ []) (value (int (pos 0))) None ([]) 0
    ∷ does (place 1 23) 2 ((int (pos 0)) ∷ []) (value (int (pos 0))) None ([]) 0
    ∷ ends 1 return_end
    ∷ leaves (int (pos 0))
    ∷ does (place 7 21) 2 ((int (pos 0)) ∷ []) (value (int (pos 0))) None ([]) 0
    ∷ does (place 7 26) 1 ([]) (value (function (place 1 1))) None ((reads (var_at 0 (codes "sign"))) ∷ []) 0
    ∷ does (place 7 32) 0 ([]) (value (int (pos 5))) None ([]) 0
    ∷ does (place 7 31) 5 ((int (pos 5)) ∷ []) (value (int (negsuc 4))) None ([]) 0
    ∷ enters (place 7 30) (place 1 1) ((int (negsuc 4)) ∷ []) ((sets (var_at 3 (codes "n")) (var_is (Some (int (negsuc 4))))) ∷ [])
    ∷ begins 1
    ∷ does (place 1 26) 1 ([]) (value (int (negsuc 4))) None ((reads (var_at 3 (codes "n"))) ∷ []) 0
    ∷ does (place 1 30) 0 ([]) (value (int (pos 0))) None ([]) 0
    ∷ does (place 1 28) 16 ((int (negsuc 4)) ∷ (int (pos 0)) ∷ []) (value (truth false)) None ([]) 0
    ∷ does (place 1 28) 3 ((truth false) ∷ []) (value (truth false)) None ([]) 0
    ∷ does (place 1 42) 1 ([]) (value (int (negsuc 4))) None ((reads (var_at 3 (codes "n"))) ∷ []) 0
    ∷ does (place 1 47) 0 ([]) (value (int (pos 0))) None ([]) 0
    ∷ does (place 1 44) 12 ((int (negsuc 4)) ∷ (int (pos 0)) ∷ []) (value (truth false)) None ([]) 0
    ∷ does (place 1 44) 3 ((truth false) ∷ []) (value (truth false)) None ([]) 0
    ∷ does (place 1 55) 0 ([]) (value (int (pos 1))) None ([]) 0
    ∷ does (place 1 54) 5 ((int (pos 1)) ∷ []) (value (int (negsuc 0))) None ([]) 0
    ∷ does (place 1 39) 2 ((int (negsuc 0)) ∷ []) (value (int (negsuc 0))) None ([]) 0
    ∷ does (place 1 23) 2 ((int (negsuc 0)) ∷ []) (value (int (negsuc 0))) None ([]) 0
    ∷ ends 1 return_end
    ∷ leaves (int (negsuc 0))
    ∷ does (place 7 30) 2 ((int (negsuc 0)) ∷ []) (value (int (negsuc 0))) None ([]) 0
    ∷ does (place 7 7) 23 ((int (pos 1)) ∷ (int (pos 0)) ∷ (int (negsuc 0)) ∷ []) (value (object 2)) (Some a_list) ((sets (len_at 2) (len_is 3)) ∷ (sets (item_at 2 0) (item_is (int (pos 1)))) ∷ (sets (item_at 2 1) (item_is (int (pos 0)))) ∷ (sets (item_at 2 2) (item_is (int (negsuc 0)))) ∷ []) 0
    ∷ does (place 7 37) 1 ([]) (value (object 1)) None ((reads (var_at 0 (codes "words"))) ∷ []) 0
    ∷ does (place 7 43) 0 ([]) (value (int (pos 0))) None ([]) 0
    ∷ does (place 7 42) 26 ((object 1) ∷ (int (pos 0)) ∷ []) (value (text [])) None ((reads (len_at 1)) ∷ (reads (item_at 1 0)) ∷ []) 0
    ∷ does (place 7 42) 3 ((text []) ∷ []) (value (truth false)) None ([]) 0
    ∷ does (place 7 49) 1 ([]) (value (object 1)) None ((reads (var_at 0 (codes "words"))) ∷ []) 0
    ∷ does (place 7 55) 0 ([]) (value (int (pos 1))) None ([]) 0
    ∷ does (place 7 54) 26 ((object 1) ∷ (int (pos 1)) ∷ []) (value (text (codes "a"))) None ((reads (len_at 1)) ∷ (reads (item_at 1 1)) ∷ []) 0
    ∷ does (place 7 54) 3 ((text (codes "a")) ∷ []) (value (truth true)) None ([]) 0
    ∷ does (place 7 62) 1 ([]) (value (object 1)) None ((reads (var_at 0 (codes "words"))) ∷ []) 0
    ∷ does (place 7 68) 0 ([]) (value (int (pos 2))) None ([]) 0
    ∷ does (place 7 67) 26 ((object 1) ∷ (int (pos 2)) ∷ []) (value (text (codes "bb"))) None ((reads (len_at 1)) ∷ (reads (item_at 1 2)) ∷ []) 0
    ∷ does (place 7 58) 2 ((text (codes "bb")) ∷ []) (value (text (codes "bb"))) None ([]) 0
    ∷ does (place 7 46) 2 ((text (codes "bb")) ∷ []) (value (text (codes "bb"))) None ([]) 0
    ∷ does (place 7 76) 1 ([]) (value (object 1)) None ((reads (var_at 0 (codes "words"))) ∷ []) 0
    ∷ does (place 7 72) 4 ((object 1) ∷ []) (value (truth false)) None ((reads (len_at 1)) ∷ []) 0
    ∷ does (place 7 83) 0 ([]) (value nothing) None ([]) 0
    ∷ does (place 7 95) 1 ([]) (value (object 1)) None ((reads (var_at 0 (codes "words"))) ∷ []) 0
    ∷ does (place 7 88) 21 (nothing ∷ (object 1) ∷ []) (value (truth true)) None ([]) 0
    ∷ does (place 7 6) 64 ((object 2) ∷ (text (codes "bb")) ∷ (truth false) ∷ (truth true) ∷ []) (value nothing) None ((reads (len_at 2)) ∷ (reads (item_at 2 0)) ∷ (reads (item_at 2 1)) ∷ (reads (item_at 2 2)) ∷ []) 1
    ∷ ends 8 normal_end
    ∷ begins 9
    ∷ does (place 8 5) 0 ([]) (value (int (pos 5))) None ([]) 0
    ∷ does (place 8 1) 33 ((int (pos 5)) ∷ []) (value nothing) None ((sets (var_at 0 (codes "x")) (var_is (Some (int (pos 5))))) ∷ []) 0
    ∷ ends 9 normal_end
    ∷ begins 10
    ∷ does (place 9 10) 1 ([]) (value (int (pos 5))) None ((reads (var_at 0 (codes "x"))) ∷ []) 0
    ∷ does (place 9 14) 0 ([]) (value (int (pos 3))) None ([]) 0
    ∷ does (place 9 12) 16 ((int (pos 5)) ∷ (int (pos 3)) ∷ []) (value (truth true)) None ([]) 0
    ∷ does (place 9 12) 3 ((truth true) ∷ []) (value (truth true)) None ([]) 0
    ∷ does (place 9 24) 1 ([]) (value (int (pos 5))) None ((reads (var_at 0 (codes "x"))) ∷ []) 0
    ∷ does (place 9 29) 0 ([]) (value (int (pos 4))) None ([]) 0
    ∷ does (place 9 26) 12 ((int (pos 5)) ∷ (int (pos 4)) ∷ []) (value (truth false)) None ([]) 0
    ∷ does (place 9 20) 4 ((truth false) ∷ []) (value (truth true)) None ([]) 0
    ∷ does (place 9 16) 2 ((truth true) ∷ []) (value (truth true)) None ([]) 0
    ∷ does (place 9 16) 3 ((truth true) ∷ []) (value (truth true)) None ([]) 0
    ∷ does (place 9 31) 2 ((truth true) ∷ []) (value (truth true)) None ([]) 0
    ∷ does (place 9 31) 3 ((truth true) ∷ []) (value (truth true)) None ([]) 0
    ∷ does (place 9 5) 1 ([]) (value (int (pos 5))) None ((reads (var_at 0 (codes "x"))) ∷ []) 0
    ∷ does (place 9 7) 2 ((int (pos 5)) ∷ []) (value (int (pos 5))) None ([]) 0
    ∷ does (place 9 1) 33 ((int (pos 5)) ∷ []) (value nothing) None ((sets (var_at 0 (codes "y")) (var_is (Some (int (pos 5))))) ∷ []) 0
    ∷ ends 10 normal_end
    ∷ begins 11
    ∷ does (place 10 4) 1 ([]) (value (int (pos 5))) None ((reads (var_at 0 (codes "x"))) ∷ []) 0
    ∷ does (place 10 9) 0 ([]) (value (int (pos 5))) None ([]) 0
    ∷ does (place 10 6) 12 ((int (pos 5)) ∷ (int (pos 5)) ∷ []) (value (truth true)) None ([]) 0
    ∷ does (place 10 6) 3 ((truth true) ∷ []) (value (truth true)) None ([]) 0
    ∷ begins 12
    ∷ ends 12 normal_end
    ∷ ends 11 normal_end
    ∷ begins 13
    ∷ does (place 11 8) 1 ([]) (value (int (pos 5))) None ((reads (var_at 0 (codes "x"))) ∷ []) 0
    ∷ does (place 11 8) 3 ((int (pos 5)) ∷ []) (value (truth true)) None ([]) 0
    ∷ ends 13 normal_end
    ∷ begins 14
    ∷ does (place 12 12) 0 ([]) (value nothing) None ([]) 0
    ∷ does (place 12 8) 4 (nothing ∷ []) (value (truth true)) None ([]) 0
    ∷ does (place 12 8) 3 ((truth true) ∷ []) (value (truth true)) None ([]) 0
    ∷ ends 14 normal_end
    ∷ begins 15
    ∷ does (place 13 1) 1 ([]) (value (builtin 14)) None ((reads (var_at 0 (codes "print"))) ∷ []) 0
    ∷ does (place 13 7) 1 ([]) (value (int (pos 5))) None ((reads (var_at 0 (codes "y"))) ∷ []) 0
    ∷ does (place 13 10) 1 ([]) (value (int (pos 5))) None ((reads (var_at 0 (codes "x"))) ∷ []) 0
    ∷ does (place 13 15) 0 ([]) (value (int (pos 5))) None ([]) 0
    ∷ does (place 13 12) 13 ((int (pos 5)) ∷ (int (pos 5)) ∷ []) (value (truth false)) None ([]) 0
    ∷ does (place 13 18) 1 ([]) (value (int (pos 5))) None ((reads (var_at 0 (codes "x"))) ∷ []) 0
    ∷ does (place 13 23) 0 ([]) (value nothing) None ([]) 0
    ∷ does (place 13 20) 20 ((int (pos 5)) ∷ nothing ∷ []) (value (truth false)) None ([]) 0
    ∷ does (place 13 30) 1 ([]) (value (int (pos 5))) None ((reads (var_at 0 (codes "x"))) ∷ []) 0
    ∷ does (place 13 36) 0 ([]) (value (int (pos 1))) None ([]) 0
    ∷ does (place 13 33) 7 ((int (pos 5)) ∷ (int (pos 1)) ∷ []) (value (int (pos 6))) None ([]) 0
    ∷ does (place 13 41) 0 ([]) (value (text (codes "k"))) None ([]) 0
    ∷ does (place 13 46) 1 ([]) (value (int (pos 5))) None ((reads (var_at 0 (codes "x"))) ∷ []) 0
    ∷ does (place 13 40) 24 ((text (codes "k")) ∷ (int (pos 5)) ∷ []) (value (object 3)) (Some a_dict) ((sets (order_at 3) (order_is ((text (codes "k")) ∷ []))) ∷ (sets (entry_at 3 (text (codes "k"))) (entry_is (Some ((text (codes "k")), (int (pos 5)))))) ∷ []) 0
    ∷ does (place 13 49) 0 ([]) (value (text (codes "k"))) None ([]) 0
    ∷ does (place 13 48) 26 ((object 3) ∷ (text (codes "k")) ∷ []) (value (int (pos 5))) None ((reads (entry_at 3 (text (codes "k")))) ∷ []) 0
    ∷ does (place 13 6) 64 ((int (pos 5)) ∷ (truth false) ∷ (truth false) ∷ (int (pos 6)) ∷ (int (pos 5)) ∷ []) (value nothing) None ([]) 1
    ∷ ends 15 normal_end
    ∷ []
unfolding is_utf8 chars encode_utf8 level
r_conditions_moments = refl

r_conditions_values : evaluated r_conditions_tree (opening_in r_conditions_capture (codes "s.py") ([])) (reverse r_conditions_run.moments) ((place 5 29, 1) ∷ (place 1 26, 1) ∷ (place 1 28, 3) ∷ (place 9 14, 1) ∷ (place 13 6, 1) ∷ []) ≡ (Some ((codes "'one'"), 56) ∷ Some ((codes "5"), 97) ∷ Some ((codes "False"), 134) ∷ Some ((codes "3"), 194) ∷ Some ((codes "None"), 253) ∷ [])
unfolding is_utf8 chars encode_utf8 level
r_conditions_values = refl

r_conditions_replays : replayed r_conditions_tree r_conditions_capture (codes "s.py") ([]) 253 (reverse r_conditions_run.moments) ((place 5 29, 1) ∷ (place 1 26, 1) ∷ (place 1 28, 3) ∷ (place 9 14, 1) ∷ (place 13 6, 1) ∷ []) ≡ (Some ((codes "'one'"), 48) ∷ Some ((codes "5"), 14) ∷ Some ((codes "False"), 51) ∷ Some ((codes "3"), 8) ∷ Some ((codes "None"), 52) ∷ [])
unfolding is_utf8 chars encode_utf8 level
r_conditions_replays = refl

r_conditions_dataflow : depends r_conditions_tree (reverse r_conditions_run.moments) (edge by_control 1 0 ∷ edge by_data 1 8 ∷ edge by_control 1 8 ∷ edge by_data 3 2 ∷ edge by_data 4 3 ∷ edge by_control 4 3 ∷ edge by_control 5 4 ∷ edge by_control 6 4 ∷ edge by_data 7 3 ∷ edge by_control 7 4 ∷ edge by_data 8 0 ∷ edge by_jump 8 1 ∷ edge by_data 8 2 ∷ edge by_data 8 8 ∷ edge by_data 10 9 ∷ edge by_data 11 9 ∷ edge by_control 12 11 ∷ edge by_data 13 9 ∷ edge by_data 15 9 ∷ edge by_data 15 10 ∷ edge by_data 15 15 ∷ []) ≡ (true, true)
unfolding is_utf8 chars encode_utf8 level
r_conditions_dataflow = refl
