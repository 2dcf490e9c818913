-- Runs of scripts, as theorems that hold by computation: their ends, steps, output and files, and all of their moments.
-- Written by tools/run_vectors.py from scripts with what is expected of them.
use Rattle.std.proofs.Common.{◌≡◌, [], ◌∷◌, ◌++◌, Some, None, codes, refl}
use Rattle.std.specs.Prelude.{pos, true, false, reverse}
use Rattle.std.specs.Str.{chars, is_utf8}
use Rattle.std.specs.Char.{encode_utf8}
use Rattle.py_tree.specs.declared.expr.Atom.TheVariants.{Int as int_atom, Text as text_atom}
use Rattle.py_tree.specs.declared.expr.BinOp.TheVariants.{Add, Mul}
use Rattle.py_tree.specs.declared.expr.CmpOp.TheVariants.{Eq, Gt, NotIn}
use Rattle.py_tree.specs.Tree.{const_expr, var_expr, binary_expr, compare_expr, call_expr, attr_expr, part_expr, list_expr, dict_expr, end_exprs, more_exprs, end_pairs, var_target, part_target, field_target, one_stmt, do_form, assign_form, aug_form, return_form, import_form, if_form, for_form, try_form, with_form, def_form, class_form, end_suite, more_suite, end_branches, more_branches, no_else, end_handlers, more_handlers, ScriptTree}
use Rattle.py_value.specs.declared.access.Mode.TheVariants.{Read}
use Rattle.py_value.specs.Contents.{nothing, truth, int, text, tuple, function, class, exception_class, builtin, object, no_parts, part}
use Rattle.py_value.specs.Seen.{a_list, a_dict, an_instance, a_file, var_at, len_at, item_at, entry_at, order_at, file_at, offset_at, closed_at, method_at, base_at, var_is, len_is, item_is, entry_is, order_is, offset_is, closed_is, method_is, base_is, key_inserted, reads, sets, updates}
use Rattle.py_model.specs.Capture.{Capture, opening_in}
use Rattle.py_model.specs.Meaning.{Run, run, level, finished}
use Rattle.py_model.specs.Moment.{begins, does, enters, leaves, ends, normal_end, return_end, raise_end}
use Rattle.py_model.specs.Plan.{value, raised, at_end, found_bytes}
use Rattle.model_runs.specs.Words.{place, no_span, silent, summary, evaluated}

abbrev pub r_sales_tree : ScriptTree
r_sales_tree = record { body = (more_suite (one_stmt 0 (place 1 1) no_span (do_form (const_expr (place 1 1) (text_atom (codes "Totals of sales per region."))))) (more_suite (one_stmt 1 (place 2 1) no_span (import_form (codes "sys"))) (more_suite (one_stmt 2 (place 4 1) no_span (class_form (codes "Sale") None (more_suite (one_stmt 3 (place 5 5) no_span (def_form (codes "__init__") ((codes "self") ∷ (codes "region") ∷ (codes "amount") ∷ []) ([]) (more_suite (one_stmt 4 (place 6 9) no_span (assign_form (field_target (place 6 13) (var_expr (place 6 9) (codes "self")) (codes "region")) (var_expr (place 6 23) (codes "region")))) (more_suite (one_stmt 5 (place 7 9) no_span (assign_form (field_target (place 7 13) (var_expr (place 7 9) (codes "self")) (codes "amount")) (var_expr (place 7 23) (codes "amount")))) end_suite)))) end_suite))) (more_suite (one_stmt 6 (place 9 1) no_span (class_form (codes "Report") None (more_suite (one_stmt 7 (place 10 5) no_span (def_form (codes "__init__") ((codes "self") ∷ (codes "title") ∷ []) ([]) (more_suite (one_stmt 8 (place 11 9) no_span (assign_form (field_target (place 11 13) (var_expr (place 11 9) (codes "self")) (codes "title")) (var_expr (place 11 22) (codes "title")))) (more_suite (one_stmt 9 (place 12 9) no_span (assign_form (field_target (place 12 13) (var_expr (place 12 9) (codes "self")) (codes "groups")) (dict_expr (place 12 23) end_pairs))) (more_suite (one_stmt 10 (place 13 9) no_span (assign_form (field_target (place 13 13) (var_expr (place 13 9) (codes "self")) (codes "bad")) (const_expr (place 13 20) (int_atom (pos 0))))) end_suite))))) (more_suite (one_stmt 11 (place 15 5) no_span (def_form (codes "add") ((codes "self") ∷ (codes "sale") ∷ []) ([]) (more_suite (one_stmt 12 (place 16 9) no_span (if_form (more_branches (compare_expr (place 16 24) NotIn (attr_expr (place 16 16) (var_expr (place 16 12) (codes "sale")) (codes "region")) (attr_expr (place 16 35) (var_expr (place 16 31) (codes "self")) (codes "groups"))) (more_suite (one_stmt 13 (place 17 13) no_span (assign_form (part_target (place 17 24) (attr_expr (place 17 17) (var_expr (place 17 13) (codes "self")) (codes "groups")) (attr_expr (place 17 29) (var_expr (place 17 25) (codes "sale")) (codes "region"))) (list_expr (place 17 40) end_exprs))) end_suite) end_branches) no_else)) (more_suite (one_stmt 14 (place 18 9) no_span (do_form (call_expr (place 18 40) (attr_expr (place 18 33) (part_expr (place 18 20) (attr_expr (place 18 13) (var_expr (place 18 9) (codes "self")) (codes "groups")) (attr_expr (place 18 25) (var_expr (place 18 21) (codes "sale")) (codes "region"))) (codes "append")) (more_exprs (var_expr (place 18 41) (codes "sale")) end_exprs)))) end_suite)))) (more_suite (one_stmt 15 (place 20 5) no_span (def_form (codes "total") ((codes "self") ∷ (codes "region") ∷ []) ([]) (more_suite (one_stmt 16 (place 21 9) no_span (assign_form (var_target (place 21 9) (codes "sum_")) (const_expr (place 21 16) (int_atom (pos 0))))) (more_suite (one_stmt 17 (place 22 9) no_span (for_form (var_target (place 22 13) (codes "sale")) (part_expr (place 22 32) (attr_expr (place 22 25) (var_expr (place 22 21) (codes "self")) (codes "groups")) (var_expr (place 22 33) (codes "region"))) (more_suite (one_stmt 18 (place 23 13) no_span (aug_form (var_target (place 23 13) (codes "sum_")) Add (place 23 18) (attr_expr (place 23 25) (var_expr (place 23 21) (codes "sale")) (codes "amount")))) end_suite))) (more_suite (one_stmt 19 (place 24 9) no_span (return_form (Some (var_expr (place 24 16) (codes "sum_"))))) end_suite))))) end_suite))))) (more_suite (one_stmt 20 (place 26 1) no_span (def_form (codes "read_sale") ((codes "line") ∷ []) ([]) (more_suite (one_stmt 21 (place 27 5) no_span (assign_form (var_target (place 27 5) (codes "parts")) (call_expr (place 27 31) (attr_expr (place 27 25) (call_expr (place 27 23) (attr_expr (place 27 17) (var_expr (place 27 13) (codes "line")) (codes "strip")) end_exprs) (codes "split")) (more_exprs (const_expr (place 27 32) (text_atom (codes ","))) end_exprs)))) (more_suite (one_stmt 22 (place 28 5) no_span (assign_form (var_target (place 28 5) (codes "count")) (call_expr (place 28 16) (var_expr (place 28 13) (codes "int")) (more_exprs (part_expr (place 28 22) (var_expr (place 28 17) (codes "parts")) (const_expr (place 28 23) (int_atom (pos 1)))) end_exprs)))) (more_suite (one_stmt 23 (place 29 5) no_span (assign_form (var_target (place 29 5) (codes "price")) (call_expr (place 29 16) (var_expr (place 29 13) (codes "int")) (more_exprs (part_expr (place 29 22) (var_expr (place 29 17) (codes "parts")) (const_expr (place 29 23) (int_atom (pos 2)))) end_exprs)))) (more_suite (one_stmt 24 (place 30 5) no_span (return_form (Some (call_expr (place 30 16) (var_expr (place 30 12) (codes "Sale")) (more_exprs (part_expr (place 30 22) (var_expr (place 30 17) (codes "parts")) (const_expr (place 30 23) (int_atom (pos 0)))) (more_exprs (binary_expr (place 30 33) Mul (var_expr (place 30 27) (codes "count")) (var_expr (place 30 35) (codes "price"))) end_exprs)))))) end_suite)))))) (more_suite (one_stmt 25 (place 32 1) no_span (def_form (codes "load") ((codes "path") ∷ (codes "report") ∷ []) ([]) (more_suite (one_stmt 26 (place 33 5) no_span (with_form (call_expr (place 33 14) (var_expr (place 33 10) (codes "open")) (more_exprs (var_expr (place 33 15) (codes "path")) end_exprs)) (Some (record { at = (place 33 24); name = (codes "source") })) (more_suite (one_stmt 27 (place 34 9) no_span (for_form (var_target (place 34 13) (codes "line")) (var_expr (place 34 21) (codes "source")) (more_suite (one_stmt 28 (place 35 13) no_span (try_form (more_suite (one_stmt 29 (place 36 17) no_span (assign_form (var_target (place 36 17) (codes "sale")) (call_expr (place 36 33) (var_expr (place 36 24) (codes "read_sale")) (more_exprs (var_expr (place 36 34) (codes "line")) end_exprs)))) (more_suite (one_stmt 30 (place 37 17) no_span (do_form (call_expr (place 37 27) (attr_expr (place 37 23) (var_expr (place 37 17) (codes "report")) (codes "add")) (more_exprs (var_expr (place 37 28) (codes "sale")) end_exprs)))) end_suite)) (more_handlers (Some (var_expr (place 38 20) (codes "ValueError"))) None (more_suite (one_stmt 31 (place 39 17) no_span (aug_form (field_target (place 39 23) (var_expr (place 39 17) (codes "report")) (codes "bad")) Add (place 39 28) (const_expr (place 39 31) (int_atom (pos 1))))) end_suite) end_handlers))) end_suite))) end_suite))) end_suite))) (more_suite (one_stmt 32 (place 41 1) no_span (def_form (codes "main") ([]) ([]) (more_suite (one_stmt 33 (place 42 5) no_span (assign_form (var_target (place 42 5) (codes "path")) (const_expr (place 42 12) (text_atom (codes "sales.csv"))))) (more_suite (one_stmt 34 (place 43 5) no_span (if_form (more_branches (compare_expr (place 43 22) Gt (call_expr (place 43 11) (var_expr (place 43 8) (codes "len")) (more_exprs (attr_expr (place 43 15) (var_expr (place 43 12) (codes "sys")) (codes "argv")) end_exprs)) (const_expr (place 43 24) (int_atom (pos 1)))) (more_suite (one_stmt 35 (place 44 9) no_span (assign_form (var_target (place 44 9) (codes "path")) (part_expr (place 44 24) (attr_expr (place 44 19) (var_expr (place 44 16) (codes "sys")) (codes "argv")) (const_expr (place 44 25) (int_atom (pos 1)))))) end_suite) end_branches) no_else)) (more_suite (one_stmt 36 (place 45 5) no_span (assign_form (var_target (place 45 5) (codes "report")) (call_expr (place 45 20) (var_expr (place 45 14) (codes "Report")) (more_exprs (const_expr (place 45 21) (text_atom (codes "Sales"))) end_exprs)))) (more_suite (one_stmt 37 (place 46 5) no_span (do_form (call_expr (place 46 9) (var_expr (place 46 5) (codes "load")) (more_exprs (var_expr (place 46 10) (codes "path")) (more_exprs (var_expr (place 46 16) (codes "report")) end_exprs))))) (more_suite (one_stmt 38 (place 47 5) no_span (do_form (call_expr (place 47 10) (var_expr (place 47 5) (codes "print")) (more_exprs (attr_expr (place 47 17) (var_expr (place 47 11) (codes "report")) (codes "title")) end_exprs)))) (more_suite (one_stmt 39 (place 48 5) no_span (assign_form (var_target (place 48 5) (codes "grand")) (const_expr (place 48 13) (int_atom (pos 0))))) (more_suite (one_stmt 40 (place 49 5) no_span (for_form (var_target (place 49 9) (codes "region")) (attr_expr (place 49 25) (var_expr (place 49 19) (codes "report")) (codes "groups")) (more_suite (one_stmt 41 (place 50 9) no_span (assign_form (var_target (place 50 9) (codes "total")) (call_expr (place 50 29) (attr_expr (place 50 23) (var_expr (place 50 17) (codes "report")) (codes "total")) (more_exprs (var_expr (place 50 30) (codes "region")) end_exprs)))) (more_suite (one_stmt 42 (place 51 9) no_span (do_form (call_expr (place 51 14) (var_expr (place 51 9) (codes "print")) (more_exprs (binary_expr (place 51 31) Add (call_expr (place 51 27) (attr_expr (place 51 21) (var_expr (place 51 15) (codes "region")) (codes "ljust")) (more_exprs (const_expr (place 51 28) (int_atom (pos 8))) end_exprs)) (call_expr (place 51 49) (attr_expr (place 51 43) (call_expr (place 51 36) (var_expr (place 51 33) (codes "str")) (more_exprs (var_expr (place 51 37) (codes "total")) end_exprs)) (codes "rjust")) (more_exprs (const_expr (place 51 50) (int_atom (pos 6))) end_exprs))) end_exprs)))) (more_suite (one_stmt 43 (place 52 9) no_span (aug_form (var_target (place 52 9) (codes "grand")) Add (place 52 15) (var_expr (place 52 18) (codes "total")))) end_suite))))) (more_suite (one_stmt 44 (place 53 5) no_span (do_form (call_expr (place 53 10) (var_expr (place 53 5) (codes "print")) (more_exprs (binary_expr (place 53 26) Add (call_expr (place 53 22) (attr_expr (place 53 16) (const_expr (place 53 11) (text_atom (codes "all"))) (codes "ljust")) (more_exprs (const_expr (place 53 23) (int_atom (pos 8))) end_exprs)) (call_expr (place 53 44) (attr_expr (place 53 38) (call_expr (place 53 31) (var_expr (place 53 28) (codes "str")) (more_exprs (var_expr (place 53 32) (codes "grand")) end_exprs)) (codes "rjust")) (more_exprs (const_expr (place 53 45) (int_atom (pos 6))) end_exprs))) end_exprs)))) (more_suite (one_stmt 45 (place 54 5) no_span (do_form (call_expr (place 54 10) (var_expr (place 54 5) (codes "print")) (more_exprs (const_expr (place 54 11) (text_atom (codes "bad lines:"))) (more_exprs (attr_expr (place 54 31) (var_expr (place 54 25) (codes "report")) (codes "bad")) end_exprs))))) end_suite))))))))))) (more_suite (one_stmt 46 (place 56 1) no_span (if_form (more_branches (compare_expr (place 56 13) Eq (var_expr (place 56 4) (codes "__name__")) (const_expr (place 56 16) (text_atom (codes "__main__")))) (more_suite (one_stmt 47 (place 57 5) no_span (do_form (call_expr (place 57 9) (var_expr (place 57 5) (codes "main")) end_exprs))) end_suite) end_branches) no_else)) end_suite)))))))); count = 48 }

abbrev pub r_sales_capture : Capture
r_sales_capture = record { answers = ([]); files = (((codes "sales.csv"), (found_bytes (codes "north,3,20" ++ (10 ∷ []) ++ codes "south,1,50" ++ (10 ∷ []) ++ codes "north,2,10" ++ (10 ∷ []) ++ codes "east,x,7" ++ (10 ∷ [])))) ∷ []); ends = silent }

abbrev pub r_sales_run : Run
r_sales_run = run r_sales_tree (codes "s.py") ([]) r_sales_capture 1000000

r_sales : summary r_sales_run ≡ record { end = finished; steps = 885; output = (codes "Sales" ++ (10 ∷ []) ++ codes "north       80" ++ (10 ∷ []) ++ codes "south       50" ++ (10 ∷ []) ++ codes "all        130" ++ (10 ∷ []) ++ codes "bad lines: 1" ++ (10 ∷ [])); finals = ([]) }
unfolding is_utf8 chars encode_utf8 level
r_sales = refl

r_sales_moments : r_sales_run.moments ≡
    begins 0
    ∷ does (place 1 1) 0 ([]) (value (text (codes "Totals of sales per region."))) None ([]) 0
    ∷ ends 0 normal_end
    ∷ begins 1
    ∷ does (place 2 1) 44 ([]) (value nothing) None ((sets (var_at 0 (codes "sys")) (var_is (Some (builtin 22)))) ∷ []) 0
    ∷ ends 1 normal_end
    ∷ begins 2
    ∷ does (place 4 1) 43 ([]) (value (class (place 4 1))) None ((sets (base_at (place 4 1)) (base_is None)) ∷ []) 0
    ∷ begins 3
    ∷ does (place 5 5) 42 ((class (place 4 1)) ∷ []) (value nothing) None ((sets (method_at (place 4 1) (codes "__init__")) (method_is (place 5 5))) ∷ []) 0
    ∷ ends 3 normal_end
    ∷ does (place 4 1) 33 ((class (place 4 1)) ∷ []) (value nothing) None ((sets (var_at 0 (codes "Sale")) (var_is (Some (class (place 4 1))))) ∷ []) 0
    ∷ ends 2 normal_end
    ∷ begins 6
    ∷ does (place 9 1) 43 ([]) (value (class (place 9 1))) None ((sets (base_at (place 9 1)) (base_is None)) ∷ []) 0
    ∷ begins 7
    ∷ does (place 10 5) 42 ((class (place 9 1)) ∷ []) (value nothing) None ((sets (method_at (place 9 1) (codes "__init__")) (method_is (place 10 5))) ∷ []) 0
    ∷ ends 7 normal_end
    ∷ begins 11
    ∷ does (place 15 5) 42 ((class (place 9 1)) ∷ []) (value nothing) None ((sets (method_at (place 9 1) (codes "add")) (method_is (place 15 5))) ∷ []) 0
    ∷ ends 11 normal_end
    ∷ begins 15
    ∷ does (place 20 5) 42 ((class (place 9 1)) ∷ []) (value nothing) None ((sets (method_at (place 9 1) (codes "total")) (method_is (place 20 5))) ∷ []) 0
    ∷ ends 15 normal_end
    ∷ does (place 9 1) 33 ((class (place 9 1)) ∷ []) (value nothing) None ((sets (var_at 0 (codes "Report")) (var_is (Some (class (place 9 1))))) ∷ []) 0
    ∷ ends 6 normal_end
    ∷ begins 20
    ∷ does (place 26 1) 42 ([]) (value nothing) None ((sets (var_at 0 (codes "read_sale")) (var_is (Some (function (place 26 1))))) ∷ []) 0
    ∷ ends 20 normal_end
    ∷ begins 25
    ∷ does (place 32 1) 42 ([]) (value nothing) None ((sets (var_at 0 (codes "load")) (var_is (Some (function (place 32 1))))) ∷ []) 0
    ∷ ends 25 normal_end
    ∷ begins 32
    ∷ does (place 41 1) 42 ([]) (value nothing) None ((sets (var_at 0 (codes "main")) (var_is (Some (function (place 41 1))))) ∷ []) 0
    ∷ ends 32 normal_end
    ∷ begins 46
    ∷ does (place 56 4) 1 ([]) (value (text (codes "__main__"))) None ((reads (var_at 0 (codes "__name__"))) ∷ []) 0
    ∷ does (place 56 16) 0 ([]) (value (text (codes "__main__"))) None ([]) 0
    ∷ does (place 56 13) 12 ((text (codes "__main__")) ∷ (text (codes "__main__")) ∷ []) (value (truth true)) None ([]) 0
    ∷ does (place 56 13) 3 ((truth true) ∷ []) (value (truth true)) None ([]) 0
    ∷ begins 47
    ∷ does (place 57 5) 1 ([]) (value (function (place 41 1))) None ((reads (var_at 0 (codes "main"))) ∷ []) 0
    ∷ enters (place 57 9) (place 41 1) ([]) ([])
    ∷ begins 33
    ∷ does (place 42 12) 0 ([]) (value (text (codes "sales.csv"))) None ([]) 0
    ∷ does (place 42 5) 33 ((text (codes "sales.csv")) ∷ []) (value nothing) None ((sets (var_at 1 (codes "path")) (var_is (Some (text (codes "sales.csv"))))) ∷ []) 0
    ∷ ends 33 normal_end
    ∷ begins 34
    ∷ does (place 43 8) 1 ([]) (value (builtin 8)) None ((reads (var_at 0 (codes "len"))) ∷ []) 0
    ∷ does (place 43 12) 1 ([]) (value (builtin 22)) None ((reads (var_at 0 (codes "sys"))) ∷ []) 0
    ∷ does (place 43 15) 30 ((builtin 22) ∷ []) (value (object 0)) None ([]) 0
    ∷ does (place 43 11) 58 ((object 0) ∷ []) (value (int (pos 1))) None ((reads (len_at 0)) ∷ []) 0
    ∷ does (place 43 24) 0 ([]) (value (int (pos 1))) None ([]) 0
    ∷ does (place 43 22) 16 ((int (pos 1)) ∷ (int (pos 1)) ∷ []) (value (truth false)) None ([]) 0
    ∷ does (place 43 22) 3 ((truth false) ∷ []) (value (truth false)) None ([]) 0
    ∷ ends 34 normal_end
    ∷ begins 36
    ∷ does (place 45 14) 1 ([]) (value (class (place 9 1))) None ((reads (var_at 0 (codes "Report"))) ∷ []) 0
    ∷ does (place 45 21) 0 ([]) (value (text (codes "Sales"))) None ([]) 0
    ∷ does (place 45 20) 39 ((class (place 9 1)) ∷ (text (codes "Sales")) ∷ []) (value (object 1)) (Some (an_instance (class (place 9 1)))) ((reads (method_at (place 9 1) (codes "__init__"))) ∷ (reads (base_at (place 9 1))) ∷ (sets (order_at 1) (order_is ([]))) ∷ []) 0
    ∷ enters (place 45 20) (place 10 5) ((object 1) ∷ (text (codes "Sales")) ∷ []) ((sets (var_at 2 (codes "self")) (var_is (Some (object 1)))) ∷ (sets (var_at 2 (codes "title")) (var_is (Some (text (codes "Sales"))))) ∷ [])
    ∷ begins 8
    ∷ does (place 11 22) 1 ([]) (value (text (codes "Sales"))) None ((reads (var_at 2 (codes "title"))) ∷ []) 0
    ∷ does (place 11 9) 1 ([]) (value (object 1)) None ((reads (var_at 2 (codes "self"))) ∷ []) 0
    ∷ does (place 11 13) 31 ((object 1) ∷ (text (codes "Sales")) ∷ []) (value nothing) None ((reads (entry_at 1 (text (codes "title")))) ∷ (sets (entry_at 1 (text (codes "title"))) (entry_is (Some ((text (codes "title")), (text (codes "Sales")))))) ∷ (updates (order_at 1) (key_inserted (text (codes "title")))) ∷ []) 0
    ∷ ends 8 normal_end
    ∷ begins 9
    ∷ does (place 12 23) 24 ([]) (value (object 2)) (Some a_dict) ((sets (order_at 2) (order_is ([]))) ∷ []) 0
    ∷ does (place 12 9) 1 ([]) (value (object 1)) None ((reads (var_at 2 (codes "self"))) ∷ []) 0
    ∷ does (place 12 13) 31 ((object 1) ∷ (object 2) ∷ []) (value nothing) None ((reads (entry_at 1 (text (codes "groups")))) ∷ (sets (entry_at 1 (text (codes "groups"))) (entry_is (Some ((text (codes "groups")), (object 2))))) ∷ (updates (order_at 1) (key_inserted (text (codes "groups")))) ∷ []) 0
    ∷ ends 9 normal_end
    ∷ begins 10
    ∷ does (place 13 20) 0 ([]) (value (int (pos 0))) None ([]) 0
    ∷ does (place 13 9) 1 ([]) (value (object 1)) None ((reads (var_at 2 (codes "self"))) ∷ []) 0
    ∷ does (place 13 13) 31 ((object 1) ∷ (int (pos 0)) ∷ []) (value nothing) None ((reads (entry_at 1 (text (codes "bad")))) ∷ (sets (entry_at 1 (text (codes "bad"))) (entry_is (Some ((text (codes "bad")), (int (pos 0)))))) ∷ (updates (order_at 1) (key_inserted (text (codes "bad")))) ∷ []) 0
    ∷ ends 10 normal_end
    ∷ leaves nothing
    ∷ does (place 45 20) 2 ((object 1) ∷ []) (value (object 1)) None ([]) 0
    ∷ does (place 45 5) 33 ((object 1) ∷ []) (value nothing) None ((sets (var_at 1 (codes "report")) (var_is (Some (object 1)))) ∷ []) 0
    ∷ ends 36 normal_end
    ∷ begins 37
    ∷ does (place 46 5) 1 ([]) (value (function (place 32 1))) None ((reads (var_at 0 (codes "load"))) ∷ []) 0
    ∷ does (place 46 10) 1 ([]) (value (text (codes "sales.csv"))) None ((reads (var_at 1 (codes "path"))) ∷ []) 0
    ∷ does (place 46 16) 1 ([]) (value (object 1)) None ((reads (var_at 1 (codes "report"))) ∷ []) 0
    ∷ enters (place 46 9) (place 32 1) ((text (codes "sales.csv")) ∷ (object 1) ∷ []) ((sets (var_at 3 (codes "path")) (var_is (Some (text (codes "sales.csv"))))) ∷ (sets (var_at 3 (codes "report")) (var_is (Some (object 1)))) ∷ [])
    ∷ begins 26
    ∷ does (place 33 10) 1 ([]) (value (builtin 12)) None ((reads (var_at 0 (codes "open"))) ∷ []) 0
    ∷ does (place 33 15) 1 ([]) (value (text (codes "sales.csv"))) None ((reads (var_at 3 (codes "path"))) ∷ []) 0
    ∷ does (place 33 14) 62 ((text (codes "sales.csv")) ∷ []) (value (object 3)) (Some (a_file (codes "sales.csv") Read)) ((reads (file_at (codes "sales.csv"))) ∷ (sets (offset_at 3) (offset_is 0)) ∷ (sets (closed_at 3) (closed_is false)) ∷ []) 0
    ∷ does (place 33 5) 46 ((object 3) ∷ []) (value (object 3)) None ((reads (closed_at 3)) ∷ []) 0
    ∷ does (place 33 24) 33 ((object 3) ∷ []) (value nothing) None ((sets (var_at 3 (codes "source")) (var_is (Some (object 3)))) ∷ []) 0
    ∷ begins 27
    ∷ does (place 34 21) 1 ([]) (value (object 3)) None ((reads (var_at 3 (codes "source"))) ∷ []) 0
    ∷ does (place 34 9) 36 ((object 3) ∷ []) (value nothing) None ([]) 0
    ∷ does (place 34 9) 37 ((object 3) ∷ (int (pos 0)) ∷ nothing ∷ []) (value (text (codes "north,3,20" ++ (10 ∷ [])))) None ((reads (closed_at 3)) ∷ (reads (offset_at 3)) ∷ (reads (file_at (codes "sales.csv"))) ∷ (sets (offset_at 3) (offset_is 11)) ∷ []) 1
    ∷ does (place 34 13) 33 ((text (codes "north,3,20" ++ (10 ∷ []))) ∷ []) (value nothing) None ((sets (var_at 3 (codes "line")) (var_is (Some (text (codes "north,3,20" ++ (10 ∷ [])))))) ∷ []) 0
    ∷ begins 28
    ∷ begins 29
    ∷ does (place 36 24) 1 ([]) (value (function (place 26 1))) None ((reads (var_at 0 (codes "read_sale"))) ∷ []) 0
    ∷ does (place 36 34) 1 ([]) (value (text (codes "north,3,20" ++ (10 ∷ [])))) None ((reads (var_at 3 (codes "line"))) ∷ []) 0
    ∷ enters (place 36 33) (place 26 1) ((text (codes "north,3,20" ++ (10 ∷ []))) ∷ []) ((sets (var_at 4 (codes "line")) (var_is (Some (text (codes "north,3,20" ++ (10 ∷ [])))))) ∷ [])
    ∷ begins 21
    ∷ does (place 27 13) 1 ([]) (value (text (codes "north,3,20" ++ (10 ∷ [])))) None ((reads (var_at 4 (codes "line"))) ∷ []) 0
    ∷ does (place 27 17) 32 ((text (codes "north,3,20" ++ (10 ∷ []))) ∷ []) (value (builtin 91)) None ([]) 0
    ∷ does (place 27 23) 91 ((text (codes "north,3,20" ++ (10 ∷ []))) ∷ []) (value (text (codes "north,3,20"))) None ([]) 1
    ∷ does (place 27 25) 32 ((text (codes "north,3,20")) ∷ []) (value (builtin 94)) None ([]) 0
    ∷ does (place 27 32) 0 ([]) (value (text (codes ","))) None ([]) 0
    ∷ does (place 27 31) 94 ((text (codes "north,3,20")) ∷ (text (codes ",")) ∷ []) (value (object 4)) (Some a_list) ((sets (len_at 4) (len_is 3)) ∷ (sets (item_at 4 0) (item_is (text (codes "north")))) ∷ (sets (item_at 4 1) (item_is (text (codes "3")))) ∷ (sets (item_at 4 2) (item_is (text (codes "20")))) ∷ []) 1
    ∷ does (place 27 5) 33 ((object 4) ∷ []) (value nothing) None ((sets (var_at 4 (codes "parts")) (var_is (Some (object 4)))) ∷ []) 0
    ∷ ends 21 normal_end
    ∷ begins 22
    ∷ does (place 28 13) 1 ([]) (value (builtin 6)) None ((reads (var_at 0 (codes "int"))) ∷ []) 0
    ∷ does (place 28 17) 1 ([]) (value (object 4)) None ((reads (var_at 4 (codes "parts"))) ∷ []) 0
    ∷ does (place 28 23) 0 ([]) (value (int (pos 1))) None ([]) 0
    ∷ does (place 28 22) 26 ((object 4) ∷ (int (pos 1)) ∷ []) (value (text (codes "3"))) None ((reads (len_at 4)) ∷ (reads (item_at 4 1)) ∷ []) 0
    ∷ does (place 28 16) 56 ((text (codes "3")) ∷ []) (value (int (pos 3))) None ([]) 0
    ∷ does (place 28 5) 33 ((int (pos 3)) ∷ []) (value nothing) None ((sets (var_at 4 (codes "count")) (var_is (Some (int (pos 3))))) ∷ []) 0
    ∷ ends 22 normal_end
    ∷ begins 23
    ∷ does (place 29 13) 1 ([]) (value (builtin 6)) None ((reads (var_at 0 (codes "int"))) ∷ []) 0
    ∷ does (place 29 17) 1 ([]) (value (object 4)) None ((reads (var_at 4 (codes "parts"))) ∷ []) 0
    ∷ does (place 29 23) 0 ([]) (value (int (pos 2))) None ([]) 0
    ∷ does (place 29 22) 26 ((object 4) ∷ (int (pos 2)) ∷ []) (value (text (codes "20"))) None ((reads (len_at 4)) ∷ (reads (item_at 4 2)) ∷ []) 0
    ∷ does (place 29 16) 56 ((text (codes "20")) ∷ []) (value (int (pos 20))) None ([]) 0
    ∷ does (place 29 5) 33 ((int (pos 20)) ∷ []) (value nothing) None ((sets (var_at 4 (codes "price")) (var_is (Some (int (pos 20))))) ∷ []) 0
    ∷ ends 23 normal_end
    ∷ begins 24
    ∷ does (place 30 12) 1 ([]) (value (class (place 4 1))) None ((reads (var_at 0 (codes "Sale"))) ∷ []) 0
    ∷ does (place 30 17) 1 ([]) (value (object 4)) None ((reads (var_at 4 (codes "parts"))) ∷ []) 0
    ∷ does (place 30 23) 0 ([]) (value (int (pos 0))) None ([]) 0
    ∷ does (place 30 22) 26 ((object 4) ∷ (int (pos 0)) ∷ []) (value (text (codes "north"))) None ((reads (len_at 4)) ∷ (reads (item_at 4 0)) ∷ []) 0
    ∷ does (place 30 27) 1 ([]) (value (int (pos 3))) None ((reads (var_at 4 (codes "count"))) ∷ []) 0
    ∷ does (place 30 35) 1 ([]) (value (int (pos 20))) None ((reads (var_at 4 (codes "price"))) ∷ []) 0
    ∷ does (place 30 33) 9 ((int (pos 3)) ∷ (int (pos 20)) ∷ []) (value (int (pos 60))) None ([]) 0
    ∷ does (place 30 16) 39 ((class (place 4 1)) ∷ (text (codes "north")) ∷ (int (pos 60)) ∷ []) (value (object 5)) (Some (an_instance (class (place 4 1)))) ((reads (method_at (place 4 1) (codes "__init__"))) ∷ (reads (base_at (place 4 1))) ∷ (sets (order_at 5) (order_is ([]))) ∷ []) 0
    ∷ enters (place 30 16) (place 5 5) ((object 5) ∷ (text (codes "north")) ∷ (int (pos 60)) ∷ []) ((sets (var_at 5 (codes "self")) (var_is (Some (object 5)))) ∷ (sets (var_at 5 (codes "region")) (var_is (Some (text (codes "north"))))) ∷ (sets (var_at 5 (codes "amount")) (var_is (Some (int (pos 60))))) ∷ [])
    ∷ begins 4
    ∷ does (place 6 23) 1 ([]) (value (text (codes "north"))) None ((reads (var_at 5 (codes "region"))) ∷ []) 0
    ∷ does (place 6 9) 1 ([]) (value (object 5)) None ((reads (var_at 5 (codes "self"))) ∷ []) 0
    ∷ does (place 6 13) 31 ((object 5) ∷ (text (codes "north")) ∷ []) (value nothing) None ((reads (entry_at 5 (text (codes "region")))) ∷ (sets (entry_at 5 (text (codes "region"))) (entry_is (Some ((text (codes "region")), (text (codes "north")))))) ∷ (updates (order_at 5) (key_inserted (text (codes "region")))) ∷ []) 0
    ∷ ends 4 normal_end
    ∷ begins 5
    ∷ does (place 7 23) 1 ([]) (value (int (pos 60))) None ((reads (var_at 5 (codes "amount"))) ∷ []) 0
    ∷ does (place 7 9) 1 ([]) (value (object 5)) None ((reads (var_at 5 (codes "self"))) ∷ []) 0
    ∷ does (place 7 13) 31 ((object 5) ∷ (int (pos 60)) ∷ []) (value nothing) None ((reads (entry_at 5 (text (codes "amount")))) ∷ (sets (entry_at 5 (text (codes "amount"))) (entry_is (Some ((text (codes "amount")), (int (pos 60)))))) ∷ (updates (order_at 5) (key_inserted (text (codes "amount")))) ∷ []) 0
    ∷ ends 5 normal_end
    ∷ leaves nothing
    ∷ does (place 30 16) 2 ((object 5) ∷ []) (value (object 5)) None ([]) 0
    ∷ ends 24 return_end
    ∷ leaves (object 5)
    ∷ does (place 36 33) 2 ((object 5) ∷ []) (value (object 5)) None ([]) 0
    ∷ does (place 36 17) 33 ((object 5) ∷ []) (value nothing) None ((sets (var_at 3 (codes "sale")) (var_is (Some (object 5)))) ∷ []) 0
    ∷ ends 29 normal_end
    ∷ begins 30
    ∷ does (place 37 17) 1 ([]) (value (object 1)) None ((reads (var_at 3 (codes "report"))) ∷ []) 0
    ∷ does (place 37 23) 32 ((object 1) ∷ []) (value (function (place 15 5))) None ((reads (entry_at 1 (text (codes "add")))) ∷ (reads (method_at (place 9 1) (codes "add"))) ∷ []) 0
    ∷ does (place 37 28) 1 ([]) (value (object 5)) None ((reads (var_at 3 (codes "sale"))) ∷ []) 0
    ∷ enters (place 37 27) (place 15 5) ((object 1) ∷ (object 5) ∷ []) ((sets (var_at 6 (codes "self")) (var_is (Some (object 1)))) ∷ (sets (var_at 6 (codes "sale")) (var_is (Some (object 5)))) ∷ [])
    ∷ begins 12
    ∷ does (place 16 12) 1 ([]) (value (object 5)) None ((reads (var_at 6 (codes "sale"))) ∷ []) 0
    ∷ does (place 16 16) 30 ((object 5) ∷ []) (value (text (codes "north"))) None ((reads (entry_at 5 (text (codes "region")))) ∷ []) 0
    ∷ does (place 16 31) 1 ([]) (value (object 1)) None ((reads (var_at 6 (codes "self"))) ∷ []) 0
    ∷ does (place 16 35) 30 ((object 1) ∷ []) (value (object 2)) None ((reads (entry_at 1 (text (codes "groups")))) ∷ []) 0
    ∷ does (place 16 24) 19 ((text (codes "north")) ∷ (object 2) ∷ []) (value (truth true)) None ((reads (entry_at 2 (text (codes "north")))) ∷ []) 0
    ∷ does (place 16 24) 3 ((truth true) ∷ []) (value (truth true)) None ([]) 0
    ∷ begins 13
    ∷ does (place 17 40) 23 ([]) (value (object 6)) (Some a_list) ((sets (len_at 6) (len_is 0)) ∷ []) 0
    ∷ does (place 17 13) 1 ([]) (value (object 1)) None ((reads (var_at 6 (codes "self"))) ∷ []) 0
    ∷ does (place 17 17) 30 ((object 1) ∷ []) (value (object 2)) None ((reads (entry_at 1 (text (codes "groups")))) ∷ []) 0
    ∷ does (place 17 25) 1 ([]) (value (object 5)) None ((reads (var_at 6 (codes "sale"))) ∷ []) 0
    ∷ does (place 17 29) 30 ((object 5) ∷ []) (value (text (codes "north"))) None ((reads (entry_at 5 (text (codes "region")))) ∷ []) 0
    ∷ does (place 17 24) 28 ((object 2) ∷ (text (codes "north")) ∷ (object 6) ∷ []) (value nothing) None ((reads (entry_at 2 (text (codes "north")))) ∷ (sets (entry_at 2 (text (codes "north"))) (entry_is (Some ((text (codes "north")), (object 6))))) ∷ (updates (order_at 2) (key_inserted (text (codes "north")))) ∷ []) 0
    ∷ ends 13 normal_end
    ∷ ends 12 normal_end
    ∷ begins 14
    ∷ does (place 18 9) 1 ([]) (value (object 1)) None ((reads (var_at 6 (codes "self"))) ∷ []) 0
    ∷ does (place 18 13) 30 ((object 1) ∷ []) (value (object 2)) None ((reads (entry_at 1 (text (codes "groups")))) ∷ []) 0
    ∷ does (place 18 21) 1 ([]) (value (object 5)) None ((reads (var_at 6 (codes "sale"))) ∷ []) 0
    ∷ does (place 18 25) 30 ((object 5) ∷ []) (value (text (codes "north"))) None ((reads (entry_at 5 (text (codes "region")))) ∷ []) 0
    ∷ does (place 18 20) 26 ((object 2) ∷ (text (codes "north")) ∷ []) (value (object 6)) None ((reads (entry_at 2 (text (codes "north")))) ∷ []) 0
    ∷ does (place 18 33) 32 ((object 6) ∷ []) (value (builtin 80)) None ([]) 0
    ∷ does (place 18 41) 1 ([]) (value (object 5)) None ((reads (var_at 6 (codes "sale"))) ∷ []) 0
    ∷ does (place 18 40) 80 ((object 6) ∷ (object 5) ∷ []) (value nothing) None ((reads (len_at 6)) ∷ (sets (item_at 6 0) (item_is (object 5))) ∷ (sets (len_at 6) (len_is 1)) ∷ []) 0
    ∷ ends 14 normal_end
    ∷ leaves nothing
    ∷ does (place 37 27) 2 (nothing ∷ []) (value nothing) None ([]) 0
    ∷ ends 30 normal_end
    ∷ ends 28 normal_end
    ∷ does (place 34 9) 37 ((object 3) ∷ (int (pos 1)) ∷ nothing ∷ []) (value (text (codes "south,1,50" ++ (10 ∷ [])))) None ((reads (closed_at 3)) ∷ (reads (offset_at 3)) ∷ (reads (file_at (codes "sales.csv"))) ∷ (sets (offset_at 3) (offset_is 22)) ∷ []) 1
    ∷ does (place 34 13) 33 ((text (codes "south,1,50" ++ (10 ∷ []))) ∷ []) (value nothing) None ((sets (var_at 3 (codes "line")) (var_is (Some (text (codes "south,1,50" ++ (10 ∷ [])))))) ∷ []) 0
    ∷ begins 28
    ∷ begins 29
    ∷ does (place 36 24) 1 ([]) (value (function (place 26 1))) None ((reads (var_at 0 (codes "read_sale"))) ∷ []) 0
    ∷ does (place 36 34) 1 ([]) (value (text (codes "south,1,50" ++ (10 ∷ [])))) None ((reads (var_at 3 (codes "line"))) ∷ []) 0
    ∷ enters (place 36 33) (place 26 1) ((text (codes "south,1,50" ++ (10 ∷ []))) ∷ []) ((sets (var_at 7 (codes "line")) (var_is (Some (text (codes "south,1,50" ++ (10 ∷ [])))))) ∷ [])
    ∷ begins 21
    ∷ does (place 27 13) 1 ([]) (value (text (codes "south,1,50" ++ (10 ∷ [])))) None ((reads (var_at 7 (codes "line"))) ∷ []) 0
    ∷ does (place 27 17) 32 ((text (codes "south,1,50" ++ (10 ∷ []))) ∷ []) (value (builtin 91)) None ([]) 0
    ∷ does (place 27 23) 91 ((text (codes "south,1,50" ++ (10 ∷ []))) ∷ []) (value (text (codes "south,1,50"))) None ([]) 1
    ∷ does (place 27 25) 32 ((text (codes "south,1,50")) ∷ []) (value (builtin 94)) None ([]) 0
    ∷ does (place 27 32) 0 ([]) (value (text (codes ","))) None ([]) 0
    ∷ does (place 27 31) 94 ((text (codes "south,1,50")) ∷ (text (codes ",")) ∷ []) (value (object 7)) (Some a_list) ((sets (len_at 7) (len_is 3)) ∷ (sets (item_at 7 0) (item_is (text (codes "south")))) ∷ (sets (item_at 7 1) (item_is (text (codes "1")))) ∷ (sets (item_at 7 2) (item_is (text (codes "50")))) ∷ []) 1
    ∷ does (place 27 5) 33 ((object 7) ∷ []) (value nothing) None ((sets (var_at 7 (codes "parts")) (var_is (Some (object 7)))) ∷ []) 0
    ∷ ends 21 normal_end
    ∷ begins 22
    ∷ does (place 28 13) 1 ([]) (value (builtin 6)) None ((reads (var_at 0 (codes "int"))) ∷ []) 0
    ∷ does (place 28 17) 1 ([]) (value (object 7)) None ((reads (var_at 7 (codes "parts"))) ∷ []) 0
    ∷ does (place 28 23) 0 ([]) (value (int (pos 1))) None ([]) 0
    ∷ does (place 28 22) 26 ((object 7) ∷ (int (pos 1)) ∷ []) (value (text (codes "1"))) None ((reads (len_at 7)) ∷ (reads (item_at 7 1)) ∷ []) 0
    ∷ does (place 28 16) 56 ((text (codes "1")) ∷ []) (value (int (pos 1))) None ([]) 0
    ∷ does (place 28 5) 33 ((int (pos 1)) ∷ []) (value nothing) None ((sets (var_at 7 (codes "count")) (var_is (Some (int (pos 1))))) ∷ []) 0
    ∷ ends 22 normal_end
    ∷ begins 23
    ∷ does (place 29 13) 1 ([]) (value (builtin 6)) None ((reads (var_at 0 (codes "int"))) ∷ []) 0
    ∷ does (place 29 17) 1 ([]) (value (object 7)) None ((reads (var_at 7 (codes "parts"))) ∷ []) 0
    ∷ does (place 29 23) 0 ([]) (value (int (pos 2))) None ([]) 0
    ∷ does (place 29 22) 26 ((object 7) ∷ (int (pos 2)) ∷ []) (value (text (codes "50"))) None ((reads (len_at 7)) ∷ (reads (item_at 7 2)) ∷ []) 0
    ∷ does (place 29 16) 56 ((text (codes "50")) ∷ []) (value (int (pos 50))) None ([]) 0
    ∷ does (place 29 5) 33 ((int (pos 50)) ∷ []) (value nothing) None ((sets (var_at 7 (codes "price")) (var_is (Some (int (pos 50))))) ∷ []) 0
    ∷ ends 23 normal_end
    ∷ begins 24
    ∷ does (place 30 12) 1 ([]) (value (class (place 4 1))) None ((reads (var_at 0 (codes "Sale"))) ∷ []) 0
    ∷ does (place 30 17) 1 ([]) (value (object 7)) None ((reads (var_at 7 (codes "parts"))) ∷ []) 0
    ∷ does (place 30 23) 0 ([]) (value (int (pos 0))) None ([]) 0
    ∷ does (place 30 22) 26 ((object 7) ∷ (int (pos 0)) ∷ []) (value (text (codes "south"))) None ((reads (len_at 7)) ∷ (reads (item_at 7 0)) ∷ []) 0
    ∷ does (place 30 27) 1 ([]) (value (int (pos 1))) None ((reads (var_at 7 (codes "count"))) ∷ []) 0
    ∷ does (place 30 35) 1 ([]) (value (int (pos 50))) None ((reads (var_at 7 (codes "price"))) ∷ []) 0
    ∷ does (place 30 33) 9 ((int (pos 1)) ∷ (int (pos 50)) ∷ []) (value (int (pos 50))) None ([]) 0
    ∷ does (place 30 16) 39 ((class (place 4 1)) ∷ (text (codes "south")) ∷ (int (pos 50)) ∷ []) (value (object 8)) (Some (an_instance (class (place 4 1)))) ((reads (method_at (place 4 1) (codes "__init__"))) ∷ (reads (base_at (place 4 1))) ∷ (sets (order_at 8) (order_is ([]))) ∷ []) 0
    ∷ enters (place 30 16) (place 5 5) ((object 8) ∷ (text (codes "south")) ∷ (int (pos 50)) ∷ []) ((sets (var_at 8 (codes "self")) (var_is (Some (object 8)))) ∷ (sets (var_at 8 (codes "region")) (var_is (Some (text (codes "south"))))) ∷ (sets (var_at 8 (codes "amount")) (var_is (Some (int (pos 50))))) ∷ [])
    ∷ begins 4
    ∷ does (place 6 23) 1 ([]) (value (text (codes "south"))) None ((reads (var_at 8 (codes "region"))) ∷ []) 0
    ∷ does (place 6 9) 1 ([]) (value (object 8)) None ((reads (var_at 8 (codes "self"))) ∷ []) 0
    ∷ does (place 6 13) 31 ((object 8) ∷ (text (codes "south")) ∷ []) (value nothing) None ((reads (entry_at 8 (text (codes "region")))) ∷ (sets (entry_at 8 (text (codes "region"))) (entry_is (Some ((text (codes "region")), (text (codes "south")))))) ∷ (updates (order_at 8) (key_inserted (text (codes "region")))) ∷ []) 0
    ∷ ends 4 normal_end
    ∷ begins 5
    ∷ does (place 7 23) 1 ([]) (value (int (pos 50))) None ((reads (var_at 8 (codes "amount"))) ∷ []) 0
    ∷ does (place 7 9) 1 ([]) (value (object 8)) None ((reads (var_at 8 (codes "self"))) ∷ []) 0
    ∷ does (place 7 13) 31 ((object 8) ∷ (int (pos 50)) ∷ []) (value nothing) None ((reads (entry_at 8 (text (codes "amount")))) ∷ (sets (entry_at 8 (text (codes "amount"))) (entry_is (Some ((text (codes "amount")), (int (pos 50)))))) ∷ (updates (order_at 8) (key_inserted (text (codes "amount")))) ∷ []) 0
    ∷ ends 5 normal_end
    ∷ leaves nothing
    ∷ does (place 30 16) 2 ((object 8) ∷ []) (value (object 8)) None ([]) 0
    ∷ ends 24 return_end
    ∷ leaves (object 8)
    ∷ does (place 36 33) 2 ((object 8) ∷ []) (value (object 8)) None ([]) 0
    ∷ does (place 36 17) 33 ((object 8) ∷ []) (value nothing) None ((sets (var_at 3 (codes "sale")) (var_is (Some (object 8)))) ∷ []) 0
    ∷ ends 29 normal_end
    ∷ begins 30
    ∷ does (place 37 17) 1 ([]) (value (object 1)) None ((reads (var_at 3 (codes "report"))) ∷ []) 0
    ∷ does (place 37 23) 32 ((object 1) ∷ []) (value (function (place 15 5))) None ((reads (entry_at 1 (text (codes "add")))) ∷ (reads (method_at (place 9 1) (codes "add"))) ∷ []) 0
    ∷ does (place 37 28) 1 ([]) (value (object 8)) None ((reads (var_at 3 (codes "sale"))) ∷ []) 0
    ∷ enters (place 37 27) (place 15 5) ((object 1) ∷ (object 8) ∷ []) ((sets (var_at 9 (codes "self")) (var_is (Some (object 1)))) ∷ (sets (var_at 9 (codes "sale")) (var_is (Some (object 8)))) ∷ [])
    ∷ begins 12
    ∷ does (place 16 12) 1 ([]) (value (object 8)) None ((reads (var_at 9 (codes "sale"))) ∷ []) 0
    ∷ does (place 16 16) 30 ((object 8) ∷ []) (value (text (codes "south"))) None ((reads (entry_at 8 (text (codes "region")))) ∷ []) 0
    ∷ does (place 16 31) 1 ([]) (value (object 1)) None ((reads (var_at 9 (codes "self"))) ∷ []) 0
    ∷ does (place 16 35) 30 ((object 1) ∷ []) (value (object 2)) None ((reads (entry_at 1 (text (codes "groups")))) ∷ []) 0
    ∷ does (place 16 24) 19 ((text (codes "south")) ∷ (object 2) ∷ []) (value (truth true)) None ((reads (entry_at 2 (text (codes "south")))) ∷ []) 0
    ∷ does (place 16 24) 3 ((truth true) ∷ []) (value (truth true)) None ([]) 0
    ∷ begins 13
    ∷ does (place 17 40) 23 ([]) (value (object 9)) (Some a_list) ((sets (len_at 9) (len_is 0)) ∷ []) 0
    ∷ does (place 17 13) 1 ([]) (value (object 1)) None ((reads (var_at 9 (codes "self"))) ∷ []) 0
    ∷ does (place 17 17) 30 ((object 1) ∷ []) (value (object 2)) None ((reads (entry_at 1 (text (codes "groups")))) ∷ []) 0
    ∷ does (place 17 25) 1 ([]) (value (object 8)) None ((reads (var_at 9 (codes "sale"))) ∷ []) 0
    ∷ does (place 17 29) 30 ((object 8) ∷ []) (value (text (codes "south"))) None ((reads (entry_at 8 (text (codes "region")))) ∷ []) 0
    ∷ does (place 17 24) 28 ((object 2) ∷ (text (codes "south")) ∷ (object 9) ∷ []) (value nothing) None ((reads (entry_at 2 (text (codes "south")))) ∷ (sets (entry_at 2 (text (codes "south"))) (entry_is (Some ((text (codes "south")), (object 9))))) ∷ (updates (order_at 2) (key_inserted (text (codes "south")))) ∷ []) 0
    ∷ ends 13 normal_end
    ∷ ends 12 normal_end
    ∷ begins 14
    ∷ does (place 18 9) 1 ([]) (value (object 1)) None ((reads (var_at 9 (codes "self"))) ∷ []) 0
    ∷ does (place 18 13) 30 ((object 1) ∷ []) (value (object 2)) None ((reads (entry_at 1 (text (codes "groups")))) ∷ []) 0
    ∷ does (place 18 21) 1 ([]) (value (object 8)) None ((reads (var_at 9 (codes "sale"))) ∷ []) 0
    ∷ does (place 18 25) 30 ((object 8) ∷ []) (value (text (codes "south"))) None ((reads (entry_at 8 (text (codes "region")))) ∷ []) 0
    ∷ does (place 18 20) 26 ((object 2) ∷ (text (codes "south")) ∷ []) (value (object 9)) None ((reads (entry_at 2 (text (codes "south")))) ∷ []) 0
    ∷ does (place 18 33) 32 ((object 9) ∷ []) (value (builtin 80)) None ([]) 0
    ∷ does (place 18 41) 1 ([]) (value (object 8)) None ((reads (var_at 9 (codes "sale"))) ∷ []) 0
    ∷ does (place 18 40) 80 ((object 9) ∷ (object 8) ∷ []) (value nothing) None ((reads (len_at 9)) ∷ (sets (item_at 9 0) (item_is (object 8))) ∷ (sets (len_at 9) (len_is 1)) ∷ []) 0
    ∷ ends 14 normal_end
    ∷ leaves nothing
    ∷ does (place 37 27) 2 (nothing ∷ []) (value nothing) None ([]) 0
    ∷ ends 30 normal_end
    ∷ ends 28 normal_end
    ∷ does (place 34 9) 37 ((object 3) ∷ (int (pos 2)) ∷ nothing ∷ []) (value (text (codes "north,2,10" ++ (10 ∷ [])))) None ((reads (closed_at 3)) ∷ (reads (offset_at 3)) ∷ (reads (file_at (codes "sales.csv"))) ∷ (sets (offset_at 3) (offset_is 33)) ∷ []) 1
    ∷ does (place 34 13) 33 ((text (codes "north,2,10" ++ (10 ∷ []))) ∷ []) (value nothing) None ((sets (var_at 3 (codes "line")) (var_is (Some (text (codes "north,2,10" ++ (10 ∷ [])))))) ∷ []) 0
    ∷ begins 28
    ∷ begins 29
    ∷ does (place 36 24) 1 ([]) (value (function (place 26 1))) None ((reads (var_at 0 (codes "read_sale"))) ∷ []) 0
    ∷ does (place 36 34) 1 ([]) (value (text (codes "north,2,10" ++ (10 ∷ [])))) None ((reads (var_at 3 (codes "line"))) ∷ []) 0
    ∷ enters (place 36 33) (place 26 1) ((text (codes "north,2,10" ++ (10 ∷ []))) ∷ []) ((sets (var_at 10 (codes "line")) (var_is (Some (text (codes "north,2,10" ++ (10 ∷ [])))))) ∷ [])
    ∷ begins 21
    ∷ does (place 27 13) 1 ([]) (value (text (codes "north,2,10" ++ (10 ∷ [])))) None ((reads (var_at 10 (codes "line"))) ∷ []) 0
    ∷ does (place 27 17) 32 ((text (codes "north,2,10" ++ (10 ∷ []))) ∷ []) (value (builtin 91)) None ([]) 0
    ∷ does (place 27 23) 91 ((text (codes "north,2,10" ++ (10 ∷ []))) ∷ []) (value (text (codes "north,2,10"))) None ([]) 1
    ∷ does (place 27 25) 32 ((text (codes "north,2,10")) ∷ []) (value (builtin 94)) None ([]) 0
    ∷ does (place 27 32) 0 ([]) (value (text (codes ","))) None ([]) 0
    ∷ does (place 27 31) 94 ((text (codes "north,2,10")) ∷ (text (codes ",")) ∷ []) (value (object 10)) (Some a_list) ((sets (len_at 10) (len_is 3)) ∷ (sets (item_at 10 0) (item_is (text (codes "north")))) ∷ (sets (item_at 10 1) (item_is (text (codes "2")))) ∷ (sets (item_at 10 2) (item_is (text (codes "10")))) ∷ []) 1
    ∷ does (place 27 5) 33 ((object 10) ∷ []) (value nothing) None ((sets (var_at 10 (codes "parts")) (var_is (Some (object 10)))) ∷ []) 0
    ∷ ends 21 normal_end
    ∷ begins 22
    ∷ does (place 28 13) 1 ([]) (value (builtin 6)) None ((reads (var_at 0 (codes "int"))) ∷ []) 0
    ∷ does (place 28 17) 1 ([]) (value (object 10)) None ((reads (var_at 10 (codes "parts"))) ∷ []) 0
    ∷ does (place 28 23) 0 ([]) (value (int (pos 1))) None ([]) 0
    ∷ does (place 28 22) 26 ((object 10) ∷ (int (pos 1)) ∷ []) (value (text (codes "2"))) None ((reads (len_at 10)) ∷ (reads (item_at 10 1)) ∷ []) 0
    ∷ does (place 28 16) 56 ((text (codes "2")) ∷ []) (value (int (pos 2))) None ([]) 0
    ∷ does (place 28 5) 33 ((int (pos 2)) ∷ []) (value nothing) None ((sets (var_at 10 (codes "count")) (var_is (Some (int (pos 2))))) ∷ []) 0
    ∷ ends 22 normal_end
    ∷ begins 23
    ∷ does (place 29 13) 1 ([]) (value (builtin 6)) None ((reads (var_at 0 (codes "int"))) ∷ []) 0
    ∷ does (place 29 17) 1 ([]) (value (object 10)) None ((reads (var_at 10 (codes "parts"))) ∷ []) 0
    ∷ does (place 29 23) 0 ([]) (value (int (pos 2))) None ([]) 0
    ∷ does (place 29 22) 26 ((object 10) ∷ (int (pos 2)) ∷ []) (value (text (codes "10"))) None ((reads (len_at 10)) ∷ (reads (item_at 10 2)) ∷ []) 0
    ∷ does (place 29 16) 56 ((text (codes "10")) ∷ []) (value (int (pos 10))) None ([]) 0
    ∷ does (place 29 5) 33 ((int (pos 10)) ∷ []) (value nothing) None ((sets (var_at 10 (codes "price")) (var_is (Some (int (pos 10))))) ∷ []) 0
    ∷ ends 23 normal_end
    ∷ begins 24
    ∷ does (place 30 12) 1 ([]) (value (class (place 4 1))) None ((reads (var_at 0 (codes "Sale"))) ∷ []) 0
    ∷ does (place 30 17) 1 ([]) (value (object 10)) None ((reads (var_at 10 (codes "parts"))) ∷ []) 0
    ∷ does (place 30 23) 0 ([]) (value (int (pos 0))) None ([]) 0
    ∷ does (place 30 22) 26 ((object 10) ∷ (int (pos 0)) ∷ []) (value (text (codes "north"))) None ((reads (len_at 10)) ∷ (reads (item_at 10 0)) ∷ []) 0
    ∷ does (place 30 27) 1 ([]) (value (int (pos 2))) None ((reads (var_at 10 (codes "count"))) ∷ []) 0
    ∷ does (place 30 35) 1 ([]) (value (int (pos 10))) None ((reads (var_at 10 (codes "price"))) ∷ []) 0
    ∷ does (place 30 33) 9 ((int (pos 2)) ∷ (int (pos 10)) ∷ []) (value (int (pos 20))) None ([]) 0
    ∷ does (place 30 16) 39 ((class (place 4 1)) ∷ (text (codes "north")) ∷ (int (pos 20)) ∷ []) (value (object 11)) (Some (an_instance (class (place 4 1)))) ((reads (method_at (place 4 1) (codes "__init__"))) ∷ (reads (base_at (place 4 1))) ∷ (sets (order_at 11) (order_is ([]))) ∷ []) 0
    ∷ enters (place 30 16) (place 5 5) ((object 11) ∷ (text (codes "north")) ∷ (int (pos 20)) ∷ []) ((sets (var_at 11 (codes "self")) (var_is (Some (object 11)))) ∷ (sets (var_at 11 (codes "region")) (var_is (Some (text (codes "north"))))) ∷ (sets (var_at 11 (codes "amount")) (var_is (Some (int (pos 20))))) ∷ [])
    ∷ begins 4
    ∷ does (place 6 23) 1 ([]) (value (text (codes "north"))) None ((reads (var_at 11 (codes "region"))) ∷ []) 0
    ∷ does (place 6 9) 1 ([]) (value (object 11)) None ((reads (var_at 11 (codes "self"))) ∷ []) 0
    ∷ does (place 6 13) 31 ((object 11) ∷ (text (codes "north")) ∷ []) (value nothing) None ((reads (entry_at 11 (text (codes "region")))) ∷ (sets (entry_at 11 (text (codes "region"))) (entry_is (Some ((text (codes "region")), (text (codes "north")))))) ∷ (updates (order_at 11) (key_inserted (text (codes "region")))) ∷ []) 0
    ∷ ends 4 normal_end
    ∷ begins 5
    ∷ does (place 7 23) 1 ([]) (value (int (pos 20))) None ((reads (var_at 11 (codes "amount"))) ∷ []) 0
    ∷ does (place 7 9) 1 ([]) (value (object 11)) None ((reads (var_at 11 (codes "self"))) ∷ []) 0
    ∷ does (place 7 13) 31 ((object 11) ∷ (int (pos 20)) ∷ []) (value nothing) None ((reads (entry_at 11 (text (codes "amount")))) ∷ (sets (entry_at 11 (text (codes "amount"))) (entry_is (Some ((text (codes "amount")), (int (pos 20)))))) ∷ (updates (order_at 11) (key_inserted (text (codes "amount")))) ∷ []) 0
    ∷ ends 5 normal_end
    ∷ leaves nothing
    ∷ does (place 30 16) 2 ((object 11) ∷ []) (value (object 11)) None ([]) 0
    ∷ ends 24 return_end
    ∷ leaves (object 11)
    ∷ does (place 36 33) 2 ((object 11) ∷ []) (value (object 11)) None ([]) 0
    ∷ does (place 36 17) 33 ((object 11) ∷ []) (value nothing) None ((sets (var_at 3 (codes "sale")) (var_is (Some (object 11)))) ∷ []) 0
    ∷ ends 29 normal_end
    ∷ begins 30
    ∷ does (place 37 17) 1 ([]) (value (object 1)) None ((reads (var_at 3 (codes "report"))) ∷ []) 0
    ∷ does (place 37 23) 32 ((object 1) ∷ []) (value (function (place 15 5))) None ((reads (entry_at 1 (text (codes "add")))) ∷ (reads (method_at (place 9 1) (codes "add"))) ∷ []) 0
    ∷ does (place 37 28) 1 ([]) (value (object 11)) None ((reads (var_at 3 (codes "sale"))) ∷ []) 0
    ∷ enters (place 37 27) (place 15 5) ((object 1) ∷ (object 11) ∷ []) ((sets (var_at 12 (codes "self")) (var_is (Some (object 1)))) ∷ (sets (var_at 12 (codes "sale")) (var_is (Some (object 11)))) ∷ [])
    ∷ begins 12
    ∷ does (place 16 12) 1 ([]) (value (object 11)) None ((reads (var_at 12 (codes "sale"))) ∷ []) 0
    ∷ does (place 16 16) 30 ((object 11) ∷ []) (value (text (codes "north"))) None ((reads (entry_at 11 (text (codes "region")))) ∷ []) 0
    ∷ does (place 16 31) 1 ([]) (value (object 1)) None ((reads (var_at 12 (codes "self"))) ∷ []) 0
    ∷ does (place 16 35) 30 ((object 1) ∷ []) (value (object 2)) None ((reads (entry_at 1 (text (codes "groups")))) ∷ []) 0
    ∷ does (place 16 24) 19 ((text (codes "north")) ∷ (object 2) ∷ []) (value (truth false)) None ((reads (entry_at 2 (text (codes "north")))) ∷ []) 0
    ∷ does (place 16 24) 3 ((truth false) ∷ []) (value (truth false)) None ([]) 0
    ∷ ends 12 normal_end
    ∷ begins 14
    ∷ does (place 18 9) 1 ([]) (value (object 1)) None ((reads (var_at 12 (codes "self"))) ∷ []) 0
    ∷ does (place 18 13) 30 ((object 1) ∷ []) (value (object 2)) None ((reads (entry_at 1 (text (codes "groups")))) ∷ []) 0
    ∷ does (place 18 21) 1 ([]) (value (object 11)) None ((reads (var_at 12 (codes "sale"))) ∷ []) 0
    ∷ does (place 18 25) 30 ((object 11) ∷ []) (value (text (codes "north"))) None ((reads (entry_at 11 (text (codes "region")))) ∷ []) 0
    ∷ does (place 18 20) 26 ((object 2) ∷ (text (codes "north")) ∷ []) (value (object 6)) None ((reads (entry_at 2 (text (codes "north")))) ∷ []) 0
    ∷ does (place 18 33) 32 ((object 6) ∷ []) (value (builtin 80)) None ([]) 0
    ∷ does (place 18 41) 1 ([]) (value (object 11)) None ((reads (var_at 12 (codes "sale"))) ∷ []) 0
    ∷ does (place 18 40) 80 ((object 6) ∷ (object 11) ∷ []) (value nothing) None ((reads (len_at 6)) ∷ (sets (item_at 6 1) (item_is (object 11))) ∷ (sets (len_at 6) (len_is 2)) ∷ []) 0
    ∷ ends 14 normal_end
    ∷ leaves nothing
    ∷ does (place 37 27) 2 (nothing ∷ []) (value nothing) None ([]) 0
    ∷ ends 30 normal_end
    ∷ ends 28 normal_end
    ∷ does (place 34 9) 37 ((object 3) ∷ (int (pos 3)) ∷ nothing ∷ []) (value (text (codes "east,x,7" ++ (10 ∷ [])))) None ((reads (closed_at 3)) ∷ (reads (offset_at 3)) ∷ (reads (file_at (codes "sales.csv"))) ∷ (sets (offset_at 3) (offset_is 42)) ∷ []) 1
    ∷ does (place 34 13) 33 ((text (codes "east,x,7" ++ (10 ∷ []))) ∷ []) (value nothing) None ((sets (var_at 3 (codes "line")) (var_is (Some (text (codes "east,x,7" ++ (10 ∷ [])))))) ∷ []) 0
    ∷ begins 28
    ∷ begins 29
    ∷ does (place 36 24) 1 ([]) (value (function (place 26 1))) None ((reads (var_at 0 (codes "read_sale"))) ∷ []) 0
    ∷ does (place 36 34) 1 ([]) (value (text (codes "east,x,7" ++ (10 ∷ [])))) None ((reads (var_at 3 (codes "line"))) ∷ []) 0
    ∷ enters (place 36 33) (place 26 1) ((text (codes "east,x,7" ++ (10 ∷ []))) ∷ []) ((sets (var_at 13 (codes "line")) (var_is (Some (text (codes "east,x,7" ++ (10 ∷ [])))))) ∷ [])
    ∷ begins 21
    ∷ does (place 27 13) 1 ([]) (value (text (codes "east,x,7" ++ (10 ∷ [])))) None ((reads (var_at 13 (codes "line"))) ∷ []) 0
    ∷ does (place 27 17) 32 ((text (codes "east,x,7" ++ (10 ∷ []))) ∷ []) (value (builtin 91)) None ([]) 0
    ∷ does (place 27 23) 91 ((text (codes "east,x,7" ++ (10 ∷ []))) ∷ []) (value (text (codes "east,x,7"))) None ([]) 1
    ∷ does (place 27 25) 32 ((text (codes "east,x,7")) ∷ []) (value (builtin 94)) None ([]) 0
    ∷ does (place 27 32) 0 ([]) (value (text (codes ","))) None ([]) 0
    ∷ does (place 27 31) 94 ((text (codes "east,x,7")) ∷ (text (codes ",")) ∷ []) (value (object 12)) (Some a_list) ((sets (len_at 12) (len_is 3)) ∷ (sets (item_at 12 0) (item_is (text (codes "east")))) ∷ (sets (item_at 12 1) (item_is (text (codes "x")))) ∷ (sets (item_at 12 2) (item_is (text (codes "7")))) ∷ []) 1
    ∷ does (place 27 5) 33 ((object 12) ∷ []) (value nothing) None ((sets (var_at 13 (codes "parts")) (var_is (Some (object 12)))) ∷ []) 0
    ∷ ends 21 normal_end
    ∷ begins 22
    ∷ does (place 28 13) 1 ([]) (value (builtin 6)) None ((reads (var_at 0 (codes "int"))) ∷ []) 0
    ∷ does (place 28 17) 1 ([]) (value (object 12)) None ((reads (var_at 13 (codes "parts"))) ∷ []) 0
    ∷ does (place 28 23) 0 ([]) (value (int (pos 1))) None ([]) 0
    ∷ does (place 28 22) 26 ((object 12) ∷ (int (pos 1)) ∷ []) (value (text (codes "x"))) None ((reads (len_at 12)) ∷ (reads (item_at 12 1)) ∷ []) 0
    ∷ does (place 28 16) 56 ((text (codes "x")) ∷ []) (raised 13) (Some (an_instance (exception_class 10))) ((sets (order_at 13) (order_is ((text (codes "args")) ∷ []))) ∷ (sets (entry_at 13 (text (codes "args"))) (entry_is (Some ((text (codes "args")), (tuple (part (text (codes "not an integer")) no_parts)))))) ∷ []) 0
    ∷ ends 22 raise_end
    ∷ leaves nothing
    ∷ ends 29 raise_end
    ∷ does (place 38 20) 1 ([]) (value (exception_class 10)) None ((reads (var_at 0 (codes "ValueError"))) ∷ []) 0
    ∷ does (place 35 13) 41 ((object 13) ∷ (exception_class 10) ∷ []) (value (truth true)) None ([]) 0
    ∷ begins 31
    ∷ does (place 39 17) 1 ([]) (value (object 1)) None ((reads (var_at 3 (codes "report"))) ∷ []) 0
    ∷ does (place 39 23) 30 ((object 1) ∷ []) (value (int (pos 0))) None ((reads (entry_at 1 (text (codes "bad")))) ∷ []) 0
    ∷ does (place 39 31) 0 ([]) (value (int (pos 1))) None ([]) 0
    ∷ does (place 39 28) 22 ((int (pos 0)) ∷ (int (pos 1)) ∷ []) (value (int (pos 1))) None ([]) 0
    ∷ does (place 39 23) 31 ((object 1) ∷ (int (pos 1)) ∷ []) (value nothing) None ((reads (entry_at 1 (text (codes "bad")))) ∷ (sets (entry_at 1 (text (codes "bad"))) (entry_is (Some ((text (codes "bad")), (int (pos 1)))))) ∷ []) 0
    ∷ ends 31 normal_end
    ∷ ends 28 normal_end
    ∷ does (place 34 9) 37 ((object 3) ∷ (int (pos 4)) ∷ nothing ∷ []) at_end None ((reads (closed_at 3)) ∷ (reads (offset_at 3)) ∷ (reads (file_at (codes "sales.csv"))) ∷ (sets (offset_at 3) (offset_is 42)) ∷ []) 0
    ∷ ends 27 normal_end
    ∷ does (place 33 5) 45 ((object 3) ∷ []) (value nothing) None ((sets (closed_at 3) (closed_is true)) ∷ []) 0
    ∷ ends 26 normal_end
    ∷ leaves nothing
    ∷ does (place 46 9) 2 (nothing ∷ []) (value nothing) None ([]) 0
    ∷ ends 37 normal_end
    ∷ begins 38
    ∷ does (place 47 5) 1 ([]) (value (builtin 14)) None ((reads (var_at 0 (codes "print"))) ∷ []) 0
    ∷ does (place 47 11) 1 ([]) (value (object 1)) None ((reads (var_at 1 (codes "report"))) ∷ []) 0
    ∷ does (place 47 17) 30 ((object 1) ∷ []) (value (text (codes "Sales"))) None ((reads (entry_at 1 (text (codes "title")))) ∷ []) 0
    ∷ does (place 47 10) 64 ((text (codes "Sales")) ∷ []) (value nothing) None ([]) 1
    ∷ ends 38 normal_end
    ∷ begins 39
    ∷ does (place 48 13) 0 ([]) (value (int (pos 0))) None ([]) 0
    ∷ does (place 48 5) 33 ((int (pos 0)) ∷ []) (value nothing) None ((sets (var_at 1 (codes "grand")) (var_is (Some (int (pos 0))))) ∷ []) 0
    ∷ ends 39 normal_end
    ∷ begins 40
    ∷ does (place 49 19) 1 ([]) (value (object 1)) None ((reads (var_at 1 (codes "report"))) ∷ []) 0
    ∷ does (place 49 25) 30 ((object 1) ∷ []) (value (object 2)) None ((reads (entry_at 1 (text (codes "groups")))) ∷ []) 0
    ∷ does (place 49 5) 36 ((object 2) ∷ []) (value (int (pos 2))) None ((reads (order_at 2)) ∷ []) 0
    ∷ does (place 49 5) 37 ((object 2) ∷ (int (pos 0)) ∷ (int (pos 2)) ∷ []) (value (text (codes "north"))) None ((reads (order_at 2)) ∷ []) 0
    ∷ does (place 49 9) 33 ((text (codes "north")) ∷ []) (value nothing) None ((sets (var_at 1 (codes "region")) (var_is (Some (text (codes "north"))))) ∷ []) 0
    ∷ begins 41
    ∷ does (place 50 17) 1 ([]) (value (object 1)) None ((reads (var_at 1 (codes "report"))) ∷ []) 0
    ∷ does (place 50 23) 32 ((object 1) ∷ []) (value (function (place 20 5))) None ((reads (entry_at 1 (text (codes "total")))) ∷ (reads (method_at (place 9 1) (codes "total"))) ∷ []) 0
    ∷ does (place 50 30) 1 ([]) (value (text (codes "north"))) None ((reads (var_at 1 (codes "region"))) ∷ []) 0
    ∷ enters (place 50 29) (place 20 5) ((object 1) ∷ (text (codes "north")) ∷ []) ((sets (var_at 14 (codes "self")) (var_is (Some (object 1)))) ∷ (sets (var_at 14 (codes "region")) (var_is (Some (text (codes "north"))))) ∷ [])
    ∷ begins 16
    ∷ does (place 21 16) 0 ([]) (value (int (pos 0))) None ([]) 0
    ∷ does (place 21 9) 33 ((int (pos 0)) ∷ []) (value nothing) None ((sets (var_at 14 (codes "sum_")) (var_is (Some (int (pos 0))))) ∷ []) 0
    ∷ ends 16 normal_end
    ∷ begins 17
    ∷ does (place 22 21) 1 ([]) (value (object 1)) None ((reads (var_at 14 (codes "self"))) ∷ []) 0
    ∷ does (place 22 25) 30 ((object 1) ∷ []) (value (object 2)) None ((reads (entry_at 1 (text (codes "groups")))) ∷ []) 0
    ∷ does (place 22 33) 1 ([]) (value (text (codes "north"))) None ((reads (var_at 14 (codes "region"))) ∷ []) 0
    ∷ does (place 22 32) 26 ((object 2) ∷ (text (codes "north")) ∷ []) (value (object 6)) None ((reads (entry_at 2 (text (codes "north")))) ∷ []) 0
    ∷ does (place 22 9) 36 ((object 6) ∷ []) (value nothing) None ([]) 0
    ∷ does (place 22 9) 37 ((object 6) ∷ (int (pos 0)) ∷ nothing ∷ []) (value (object 5)) None ((reads (len_at 6)) ∷ (reads (item_at 6 0)) ∷ []) 0
    ∷ does (place 22 13) 33 ((object 5) ∷ []) (value nothing) None ((sets (var_at 14 (codes "sale")) (var_is (Some (object 5)))) ∷ []) 0
    ∷ begins 18
    ∷ does (place 23 13) 1 ([]) (value (int (pos 0))) None ((reads (var_at 14 (codes "sum_"))) ∷ []) 0
    ∷ does (place 23 21) 1 ([]) (value (object 5)) None ((reads (var_at 14 (codes "sale"))) ∷ []) 0
    ∷ does (place 23 25) 30 ((object 5) ∷ []) (value (int (pos 60))) None ((reads (entry_at 5 (text (codes "amount")))) ∷ []) 0
    ∷ does (place 23 18) 22 ((int (pos 0)) ∷ (int (pos 60)) ∷ []) (value (int (pos 60))) None ([]) 0
    ∷ does (place 23 13) 33 ((int (pos 60)) ∷ []) (value nothing) None ((sets (var_at 14 (codes "sum_")) (var_is (Some (int (pos 60))))) ∷ []) 0
    ∷ ends 18 normal_end
    ∷ does (place 22 9) 37 ((object 6) ∷ (int (pos 1)) ∷ nothing ∷ []) (value (object 11)) None ((reads (len_at 6)) ∷ (reads (item_at 6 1)) ∷ []) 0
    ∷ does (place 22 13) 33 ((object 11) ∷ []) (value nothing) None ((sets (var_at 14 (codes "sale")) (var_is (Some (object 11)))) ∷ []) 0
    ∷ begins 18
    ∷ does (place 23 13) 1 ([]) (value (int (pos 60))) None ((reads (var_at 14 (codes "sum_"))) ∷ []) 0
    ∷ does (place 23 21) 1 ([]) (value (object 11)) None ((reads (var_at 14 (codes "sale"))) ∷ []) 0
    ∷ does (place 23 25) 30 ((object 11) ∷ []) (value (int (pos 20))) None ((reads (entry_at 11 (text (codes "amount")))) ∷ []) 0
    ∷ does (place 23 18) 22 ((int (pos 60)) ∷ (int (pos 20)) ∷ []) (value (int (pos 80))) None ([]) 0
    ∷ does (place 23 13) 33 ((int (pos 80)) ∷ []) (value nothing) None ((sets (var_at 14 (codes "sum_")) (var_is (Some (int (pos 80))))) ∷ []) 0
    ∷ ends 18 normal_end
    ∷ does (place 22 9) 37 ((object 6) ∷ (int (pos 2)) ∷ nothing ∷ []) at_end None ((reads (len_at 6)) ∷ []) 0
    ∷ ends 17 normal_end
    ∷ begins 19
    ∷ does (place 24 16) 1 ([]) (value (int (pos 80))) None ((reads (var_at 14 (codes "sum_"))) ∷ []) 0
    ∷ ends 19 return_end
    ∷ leaves (int (pos 80))
    ∷ does (place 50 29) 2 ((int (pos 80)) ∷ []) (value (int (pos 80))) None ([]) 0
    ∷ does (place 50 9) 33 ((int (pos 80)) ∷ []) (value nothing) None ((sets (var_at 1 (codes "total")) (var_is (Some (int (pos 80))))) ∷ []) 0
    ∷ ends 41 normal_end
    ∷ begins 42
    ∷ does (place 51 9) 1 ([]) (value (builtin 14)) None ((reads (var_at 0 (codes "print"))) ∷ []) 0
    ∷ does (place 51 15) 1 ([]) (value (text (codes "north"))) None ((reads (var_at 1 (codes "region"))) ∷ []) 0
    ∷ does (place 51 21) 32 ((text (codes "north")) ∷ []) (value (builtin 103)) None ([]) 0
    ∷ does (place 51 28) 0 ([]) (value (int (pos 8))) None ([]) 0
    ∷ does (place 51 27) 103 ((text (codes "north")) ∷ (int (pos 8)) ∷ []) (value (text (codes "north   "))) None ([]) 1
    ∷ does (place 51 33) 1 ([]) (value (builtin 18)) None ((reads (var_at 0 (codes "str"))) ∷ []) 0
    ∷ does (place 51 37) 1 ([]) (value (int (pos 80))) None ((reads (var_at 1 (codes "total"))) ∷ []) 0
    ∷ does (place 51 36) 68 ((int (pos 80)) ∷ []) (value (text (codes "80"))) None ([]) 1
    ∷ does (place 51 43) 32 ((text (codes "80")) ∷ []) (value (builtin 104)) None ([]) 0
    ∷ does (place 51 50) 0 ([]) (value (int (pos 6))) None ([]) 0
    ∷ does (place 51 49) 104 ((text (codes "80")) ∷ (int (pos 6)) ∷ []) (value (text (codes "    80"))) None ([]) 1
    ∷ does (place 51 31) 7 ((text (codes "north   ")) ∷ (text (codes "    80")) ∷ []) (value (text (codes "north       80"))) None ([]) 1
    ∷ does (place 51 14) 64 ((text (codes "north       80")) ∷ []) (value nothing) None ([]) 1
    ∷ ends 42 normal_end
    ∷ begins 43
    ∷ does (place 52 9) 1 ([]) (value (int (pos 0))) None ((reads (var_at 1 (codes "grand"))) ∷ []) 0
    ∷ does (place 52 18) 1 ([]) (value (int (pos 80))) None ((reads (var_at 1 (codes "total"))) ∷ []) 0
    ∷ does (place 52 15) 22 ((int (pos 0)) ∷ (int (pos 80)) ∷ []) (value (int (pos 80))) None ([]) 0
    ∷ does (place 52 9) 33 ((int (pos 80)) ∷ []) (value nothing) None ((sets (var_at 1 (codes "grand")) (var_is (Some (int (pos 80))))) ∷ []) 0
    ∷ ends 43 normal_end
    ∷ does (place 49 5) 37 ((object 2) ∷ (int (pos 1)) ∷ (int (pos 2)) ∷ []) (value (text (codes "south"))) None ((reads (order_at 2)) ∷ []) 0
    ∷ does (place 49 9) 33 ((text (codes "south")) ∷ []) (value nothing) None ((sets (var_at 1 (codes "region")) (var_is (Some (text (codes "south"))))) ∷ []) 0
    ∷ begins 41
    ∷ does (place 50 17) 1 ([]) (value (object 1)) None ((reads (var_at 1 (codes "report"))) ∷ []) 0
    ∷ does (place 50 23) 32 ((object 1) ∷ []) (value (function (place 20 5))) None ((reads (entry_at 1 (text (codes "total")))) ∷ (reads (method_at (place 9 1) (codes "total"))) ∷ []) 0
    ∷ does (place 50 30) 1 ([]) (value (text (codes "south"))) None ((reads (var_at 1 (codes "region"))) ∷ []) 0
    ∷ enters (place 50 29) (place 20 5) ((object 1) ∷ (text (codes "south")) ∷ []) ((sets (var_at 15 (codes "self")) (var_is (Some (object 1)))) ∷ (sets (var_at 15 (codes "region")) (var_is (Some (text (codes "south"))))) ∷ [])
    ∷ begins 16
    ∷ does (place 21 16) 0 ([]) (value (int (pos 0))) None ([]) 0
    ∷ does (place 21 9) 33 ((int (pos 0)) ∷ []) (value nothing) None ((sets (var_at 15 (codes "sum_")) (var_is (Some (int (pos 0))))) ∷ []) 0
    ∷ ends 16 normal_end
    ∷ begins 17
    ∷ does (place 22 21) 1 ([]) (value (object 1)) None ((reads (var_at 15 (codes "self"))) ∷ []) 0
    ∷ does (place 22 25) 30 ((object 1) ∷ []) (value (object 2)) None ((reads (entry_at 1 (text (codes "groups")))) ∷ []) 0
    ∷ does (place 22 33) 1 ([]) (value (text (codes "south"))) None ((reads (var_at 15 (codes "region"))) ∷ []) 0
    ∷ does (place 22 32) 26 ((object 2) ∷ (text (codes "south")) ∷ []) (value (object 9)) None ((reads (entry_at 2 (text (codes "south")))) ∷ []) 0
    ∷ does (place 22 9) 36 ((object 9) ∷ []) (value nothing) None ([]) 0
    ∷ does (place 22 9) 37 ((object 9) ∷ (int (pos 0)) ∷ nothing ∷ []) (value (object 8)) None ((reads (len_at 9)) ∷ (reads (item_at 9 0)) ∷ []) 0
    ∷ does (place 22 13) 33 ((object 8) ∷ []) (value nothing) None ((sets (var_at 15 (codes "sale")) (var_is (Some (object 8)))) ∷ []) 0
    ∷ begins 18
    ∷ does (place 23 13) 1 ([]) (value (int (pos 0))) None ((reads (var_at 15 (codes "sum_"))) ∷ []) 0
    ∷ does (place 23 21) 1 ([]) (value (object 8)) None ((reads (var_at 15 (codes "sale"))) ∷ []) 0
    ∷ does (place 23 25) 30 ((object 8) ∷ []) (value (int (pos 50))) None ((reads (entry_at 8 (text (codes "amount")))) ∷ []) 0
    ∷ does (place 23 18) 22 ((int (pos 0)) ∷ (int (pos 50)) ∷ []) (value (int (pos 50))) None ([]) 0
    ∷ does (place 23 13) 33 ((int (pos 50)) ∷ []) (value nothing) None ((sets (var_at 15 (codes "sum_")) (var_is (Some (int (pos 50))))) ∷ []) 0
    ∷ ends 18 normal_end
    ∷ does (place 22 9) 37 ((object 9) ∷ (int (pos 1)) ∷ nothing ∷ []) at_end None ((reads (len_at 9)) ∷ []) 0
    ∷ ends 17 normal_end
    ∷ begins 19
    ∷ does (place 24 16) 1 ([]) (value (int (pos 50))) None ((reads (var_at 15 (codes "sum_"))) ∷ []) 0
    ∷ ends 19 return_end
    ∷ leaves (int (pos 50))
    ∷ does (place 50 29) 2 ((int (pos 50)) ∷ []) (value (int (pos 50))) None ([]) 0
    ∷ does (place 50 9) 33 ((int (pos 50)) ∷ []) (value nothing) None ((sets (var_at 1 (codes "total")) (var_is (Some (int (pos 50))))) ∷ []) 0
    ∷ ends 41 normal_end
    ∷ begins 42
    ∷ does (place 51 9) 1 ([]) (value (builtin 14)) None ((reads (var_at 0 (codes "print"))) ∷ []) 0
    ∷ does (place 51 15) 1 ([]) (value (text (codes "south"))) None ((reads (var_at 1 (codes "region"))) ∷ []) 0
    ∷ does (place 51 21) 32 ((text (codes "south")) ∷ []) (value (builtin 103)) None ([]) 0
    ∷ does (place 51 28) 0 ([]) (value (int (pos 8))) None ([]) 0
    ∷ does (place 51 27) 103 ((text (codes "south")) ∷ (int (pos 8)) ∷ []) (value (text (codes "south   "))) None ([]) 1
    ∷ does (place 51 33) 1 ([]) (value (builtin 18)) None ((reads (var_at 0 (codes "str"))) ∷ []) 0
    ∷ does (place 51 37) 1 ([]) (value (int (pos 50))) None ((reads (var_at 1 (codes "total"))) ∷ []) 0
    ∷ does (place 51 36) 68 ((int (pos 50)) ∷ []) (value (text (codes "50"))) None ([]) 1
    ∷ does (place 51 43) 32 ((text (codes "50")) ∷ []) (value (builtin 104)) None ([]) 0
    ∷ does (place 51 50) 0 ([]) (value (int (pos 6))) None ([]) 0
    ∷ does (place 51 49) 104 ((text (codes "50")) ∷ (int (pos 6)) ∷ []) (value (text (codes "    50"))) None ([]) 1
    ∷ does (place 51 31) 7 ((text (codes "south   ")) ∷ (text (codes "    50")) ∷ []) (value (text (codes "south       50"))) None ([]) 1
    ∷ does (place 51 14) 64 ((text (codes "south       50")) ∷ []) (value nothing) None ([]) 1
    ∷ ends 42 normal_end
    ∷ begins 43
    ∷ does (place 52 9) 1 ([]) (value (int (pos 80))) None ((reads (var_at 1 (codes "grand"))) ∷ []) 0
    ∷ does (place 52 18) 1 ([]) (value (int (pos 50))) None ((reads (var_at 1 (codes "total"))) ∷ []) 0
    ∷ does (place 52 15) 22 ((int (pos 80)) ∷ (int (pos 50)) ∷ []) (value (int (pos 130))) None ([]) 0
    ∷ does (place 52 9) 33 ((int (pos 130)) ∷ []) (value nothing) None ((sets (var_at 1 (codes "grand")) (var_is (Some (int (pos 130))))) ∷ []) 0
    ∷ ends 43 normal_end
    ∷ does (place 49 5) 37 ((object 2) ∷ (int (pos 2)) ∷ (int (pos 2)) ∷ []) at_end None ((reads (order_at 2)) ∷ []) 0
    ∷ ends 40 normal_end
    ∷ begins 44
    ∷ does (place 53 5) 1 ([]) (value (builtin 14)) None ((reads (var_at 0 (codes "print"))) ∷ []) 0
    ∷ does (place 53 11) 0 ([]) (value (text (codes "all"))) None ([]) 0
    ∷ does (place 53 16) 32 ((text (codes "all")) ∷ []) (value (builtin 103)) None ([]) 0
    ∷ does (place 53 23) 0 ([]) (value (int (pos 8))) None ([]) 0
    ∷ does (place 53 22) 103 ((text (codes "all")) ∷ (int (pos 8)) ∷ []) (value (text (codes "all     "))) None ([]) 1
    ∷ does (place 53 28) 1 ([]) (value (builtin 18)) None ((reads (var_at 0 (codes "str"))) ∷ []) 0
    ∷ does (place 53 32) 1 ([]) (value (int (pos 130))) None ((reads (var_at 1 (codes "grand"))) ∷ []) 0
    ∷ does (place 53 31) 68 ((int (pos 130)) ∷ []) (value (text (codes "130"))) None ([]) 1
    ∷ does (place 53 38) 32 ((text (codes "130")) ∷ []) (value (builtin 104)) None ([]) 0
    ∷ does (place 53 45) 0 ([]) (value (int (pos 6))) None ([]) 0
    ∷ does (place 53 44) 104 ((text (codes "130")) ∷ (int (pos 6)) ∷ []) (value (text (codes "   130"))) None ([]) 1
    ∷ does (place 53 26) 7 ((text (codes "all     ")) ∷ (text (codes "   130")) ∷ []) (value (text (codes "all        130"))) None ([]) 1
    ∷ does (place 53 10) 64 ((text (codes "all        130")) ∷ []) (value nothing) None ([]) 1
    ∷ ends 44 normal_end
    ∷ begins 45
    ∷ does (place 54 5) 1 ([]) (value (builtin 14)) None ((reads (var_at 0 (codes "print"))) ∷ []) 0
    ∷ does (place 54 11) 0 ([]) (value (text (codes "bad lines:"))) None ([]) 0
    ∷ does (place 54 25) 1 ([]) (value (object 1)) None ((reads (var_at 1 (codes "report"))) ∷ []) 0
    ∷ does (place 54 31) 30 ((object 1) ∷ []) (value (int (pos 1))) None ((reads (entry_at 1 (text (codes "bad")))) ∷ []) 0
    ∷ does (place 54 10) 64 ((text (codes "bad lines:")) ∷ (int (pos 1)) ∷ []) (value nothing) None ([]) 1
    ∷ ends 45 normal_end
    ∷ leaves nothing
    ∷ does (place 57 9) 2 (nothing ∷ []) (value nothing) None ([]) 0
    ∷ ends 47 normal_end
    ∷ ends 46 normal_end
    ∷ []
unfolding is_utf8 chars encode_utf8 level
r_sales_moments = refl

r_sales_values : evaluated r_sales_tree (opening_in r_sales_capture (codes "s.py") ([])) (reverse r_sales_run.moments) ((place 52 18, 1) ∷ (place 43 8, 1) ∷ (place 6 9, 2) ∷ (place 36 24, 3) ∷ (place 49 19, 1) ∷ []) ≡ (Some ((codes "80"), 764) ∷ Some ((codes "<built-in len>"), 53) ∷ Some ((codes "#1=Sale()"), 368) ∷ Some ((codes "<function read_sale>"), 454) ∷ Some ((codes "#1=Report(title='Sales', groups=#2={'north': #3=[#4=Sale(region='north', amount=60), #5=Sale(region='north', amount=20)], 'south': #6=[#7=Sale(region='south', amount=50)]}, bad=1)"), 665) ∷ [])
unfolding is_utf8 chars encode_utf8 level
r_sales_values = refl
