-- Runs of scripts, as theorems that hold by computation: their ends, steps, output and files, and all of their moments.
-- Written by tools/run_vectors.py from scripts with what is expected of them.
use Rattle.std.proofs.Common.{◌≡◌, [], ◌∷◌, ◌++◌, Some, None, codes, refl}
use Rattle.std.specs.Prelude.{pos, true, false, reverse}
use Rattle.std.specs.Str.{chars, is_utf8}
use Rattle.std.specs.Char.{encode_utf8}
use Rattle.py_tree.specs.declared.expr.Atom.TheVariants.{Text as text_atom}
use Rattle.py_tree.specs.Tree.{const_expr, var_expr, call_expr, attr_expr, list_expr, end_exprs, more_exprs, var_target, one_stmt, do_form, assign_form, pass_form, for_form, try_form, with_form, end_suite, more_suite, end_handlers, more_handlers, ScriptTree}
use Rattle.py_value.specs.declared.access.Mode.TheVariants.{Read, Write, Append}
use Rattle.py_value.specs.Contents.{nothing, truth, int, text, tuple, exception_class, builtin, object, no_parts, part}
use Rattle.py_value.specs.Seen.{a_list, an_instance, a_file, var_at, len_at, item_at, entry_at, order_at, file_at, offset_at, closed_at, var_is, len_is, item_is, entry_is, order_is, file_is, offset_is, closed_is, bytes_appended, reads, sets, updates}
use Rattle.py_model.specs.Capture.{Capture, opening_in}
use Rattle.py_model.specs.Meaning.{Run, run, level, finished}
use Rattle.py_model.specs.Moment.{begins, does, ends, normal_end, raise_end}
use Rattle.py_model.specs.Plan.{value, raised, at_end, found_bytes, absent, too_large, found_failed}
use Rattle.model_runs.specs.Words.{place, no_span, silent, summary, evaluated}

abbrev pub r_files_at_length_tree : ScriptTree
r_files_at_length_tree = record { body = (more_suite (one_stmt 0 (place 1 1) no_span (assign_form (var_target (place 1 1) (codes "w")) (call_expr (place 1 9) (var_expr (place 1 5) (codes "open")) (more_exprs (const_expr (place 1 10) (text_atom (codes "new.txt"))) (more_exprs (const_expr (place 1 21) (text_atom (codes "w"))) end_exprs))))) (more_suite (one_stmt 1 (place 2 1) no_span (do_form (call_expr (place 2 6) (var_expr (place 2 1) (codes "print")) (more_exprs (call_expr (place 2 14) (attr_expr (place 2 8) (var_expr (place 2 7) (codes "w")) (codes "write")) (more_exprs (const_expr (place 2 15) (text_atom (codes "one" ++ (10 ∷ []) ++ codes "two" ++ (10 ∷ [])))) end_exprs)) (more_exprs (var_expr (place 2 30) (codes "w")) end_exprs))))) (more_suite (one_stmt 2 (place 3 1) no_span (do_form (call_expr (place 3 8) (attr_expr (place 3 2) (var_expr (place 3 1) (codes "w")) (codes "close")) end_exprs))) (more_suite (one_stmt 3 (place 4 1) no_span (with_form (call_expr (place 4 10) (var_expr (place 4 6) (codes "open")) (more_exprs (const_expr (place 4 11) (text_atom (codes "new.txt"))) (more_exprs (const_expr (place 4 22) (text_atom (codes "a"))) end_exprs))) (Some (record { at = (place 4 30); name = (codes "h") })) (more_suite (one_stmt 4 (place 5 5) no_span (do_form (call_expr (place 5 12) (attr_expr (place 5 6) (var_expr (place 5 5) (codes "h")) (codes "write")) (more_exprs (const_expr (place 5 13) (text_atom ((195 ∷ []) ++ (169 ∷ [])))) end_exprs)))) end_suite))) (more_suite (one_stmt 5 (place 6 1) no_span (with_form (call_expr (place 6 10) (var_expr (place 6 6) (codes "open")) (more_exprs (const_expr (place 6 11) (text_atom (codes "in.txt"))) end_exprs)) (Some (record { at = (place 6 24); name = (codes "h") })) (more_suite (one_stmt 6 (place 7 5) no_span (for_form (var_target (place 7 9) (codes "line")) (var_expr (place 7 17) (codes "h")) (more_suite (one_stmt 7 (place 8 9) no_span (do_form (call_expr (place 8 14) (var_expr (place 8 9) (codes "print")) (more_exprs (call_expr (place 8 19) (var_expr (place 8 15) (codes "repr")) (more_exprs (var_expr (place 8 20) (codes "line")) end_exprs)) end_exprs)))) end_suite))) (more_suite (one_stmt 8 (place 9 5) no_span (do_form (call_expr (place 9 10) (var_expr (place 9 5) (codes "print")) (more_exprs (call_expr (place 9 15) (var_expr (place 9 11) (codes "repr")) (more_exprs (call_expr (place 9 26) (attr_expr (place 9 17) (var_expr (place 9 16) (codes "h")) (codes "readline")) end_exprs) end_exprs)) end_exprs)))) end_suite)))) (more_suite (one_stmt 9 (place 10 1) no_span (assign_form (var_target (place 10 1) (codes "r")) (call_expr (place 10 9) (var_expr (place 10 5) (codes "open")) (more_exprs (const_expr (place 10 10) (text_atom (codes "new.txt"))) end_exprs)))) (more_suite (one_stmt 10 (place 11 1) no_span (do_form (call_expr (place 11 6) (var_expr (place 11 1) (codes "print")) (more_exprs (call_expr (place 11 11) (var_expr (place 11 7) (codes "repr")) (more_exprs (call_expr (place 11 22) (attr_expr (place 11 13) (var_expr (place 11 12) (codes "r")) (codes "readline")) end_exprs) end_exprs)) (more_exprs (call_expr (place 11 31) (var_expr (place 11 27) (codes "repr")) (more_exprs (call_expr (place 11 38) (attr_expr (place 11 33) (var_expr (place 11 32) (codes "r")) (codes "read")) end_exprs) end_exprs)) (more_exprs (call_expr (place 11 47) (var_expr (place 11 43) (codes "repr")) (more_exprs (call_expr (place 11 54) (attr_expr (place 11 49) (var_expr (place 11 48) (codes "r")) (codes "read")) end_exprs) end_exprs)) end_exprs)))))) (more_suite (one_stmt 11 (place 12 1) no_span (do_form (call_expr (place 12 8) (attr_expr (place 12 2) (var_expr (place 12 1) (codes "r")) (codes "close")) end_exprs))) (more_suite (one_stmt 12 (place 13 1) no_span (try_form (more_suite (one_stmt 13 (place 14 5) no_span (do_form (call_expr (place 14 11) (attr_expr (place 14 6) (var_expr (place 14 5) (codes "r")) (codes "read")) end_exprs))) end_suite) (more_handlers (Some (var_expr (place 15 8) (codes "ValueError"))) (Some (record { at = (place 15 22); name = (codes "e") })) (more_suite (one_stmt 14 (place 16 5) no_span (do_form (call_expr (place 16 10) (var_expr (place 16 5) (codes "print")) (more_exprs (var_expr (place 16 11) (codes "e")) end_exprs)))) end_suite) end_handlers))) (more_suite (one_stmt 15 (place 17 1) no_span (try_form (more_suite (one_stmt 16 (place 18 5) no_span (with_form (var_expr (place 18 10) (codes "r")) None (more_suite (one_stmt 17 (place 18 13) no_span pass_form) end_suite))) end_suite) (more_handlers (Some (var_expr (place 19 8) (codes "ValueError"))) (Some (record { at = (place 19 22); name = (codes "e") })) (more_suite (one_stmt 18 (place 20 5) no_span (do_form (call_expr (place 20 10) (var_expr (place 20 5) (codes "print")) (more_exprs (var_expr (place 20 11) (codes "e")) end_exprs)))) end_suite) end_handlers))) (more_suite (one_stmt 19 (place 21 1) no_span (for_form (var_target (place 21 5) (codes "p")) (list_expr (place 21 10) (more_exprs (const_expr (place 21 11) (text_atom (codes "none.txt"))) (more_exprs (const_expr (place 21 23) (text_atom (codes "../x"))) (more_exprs (const_expr (place 21 31) (text_atom (codes "big.txt"))) (more_exprs (const_expr (place 21 42) (text_atom (codes "bad.txt"))) (more_exprs (const_expr (place 21 53) (text_atom (codes "broken.txt"))) end_exprs)))))) (more_suite (one_stmt 20 (place 22 5) no_span (try_form (more_suite (one_stmt 21 (place 23 9) no_span (assign_form (var_target (place 23 9) (codes "f")) (call_expr (place 23 17) (var_expr (place 23 13) (codes "open")) (more_exprs (var_expr (place 23 18) (codes "p")) end_exprs)))) (more_suite (one_stmt 22 (place 24 9) no_span (do_form (call_expr (place 24 14) (var_expr (place 24 9) (codes "print")) (more_exprs (call_expr (place 24 25) (attr_expr (place 24 16) (var_expr (place 24 15) (codes "f")) (codes "readline")) end_exprs) end_exprs)))) end_suite)) (more_handlers (Some (var_expr (place 25 12) (codes "OSError"))) (Some (record { at = (place 25 23); name = (codes "e") })) (more_suite (one_stmt 23 (place 26 9) no_span (do_form (call_expr (place 26 14) (var_expr (place 26 9) (codes "print")) (more_exprs (var_expr (place 26 15) (codes "p")) (more_exprs (call_expr (place 26 22) (var_expr (place 26 18) (codes "repr")) (more_exprs (var_expr (place 26 23) (codes "e")) end_exprs)) end_exprs))))) end_suite) (more_handlers (Some (var_expr (place 27 12) (codes "ValueError"))) (Some (record { at = (place 27 26); name = (codes "e") })) (more_suite (one_stmt 24 (place 28 9) no_span (do_form (call_expr (place 28 14) (var_expr (place 28 9) (codes "print")) (more_exprs (var_expr (place 28 15) (codes "p")) (more_exprs (var_expr (place 28 18) (codes "e")) end_exprs))))) end_suite) end_handlers)))) end_suite))) (more_suite (one_stmt 25 (place 29 1) no_span (try_form (more_suite (one_stmt 26 (place 30 5) no_span (do_form (call_expr (place 30 26) (attr_expr (place 30 20) (call_expr (place 30 9) (var_expr (place 30 5) (codes "open")) (more_exprs (const_expr (place 30 10) (text_atom (codes "new.txt"))) end_exprs)) (codes "write")) (more_exprs (const_expr (place 30 27) (text_atom (codes "x"))) end_exprs)))) end_suite) (more_handlers (Some (var_expr (place 31 8) (codes "OSError"))) (Some (record { at = (place 31 19); name = (codes "e") })) (more_suite (one_stmt 27 (place 32 5) no_span (do_form (call_expr (place 32 10) (var_expr (place 32 5) (codes "print")) (more_exprs (var_expr (place 32 11) (codes "e")) end_exprs)))) end_suite) end_handlers))) (more_suite (one_stmt 28 (place 33 1) no_span (assign_form (var_target (place 33 1) (codes "a")) (call_expr (place 33 9) (var_expr (place 33 5) (codes "open")) (more_exprs (const_expr (place 33 10) (text_atom (codes "big.txt"))) (more_exprs (const_expr (place 33 21) (text_atom (codes "w"))) end_exprs))))) (more_suite (one_stmt 29 (place 34 1) no_span (do_form (call_expr (place 34 8) (attr_expr (place 34 2) (var_expr (place 34 1) (codes "a")) (codes "write")) (more_exprs (const_expr (place 34 9) (text_atom (codes "small now"))) end_exprs)))) (more_suite (one_stmt 30 (place 35 1) no_span (do_form (call_expr (place 35 6) (var_expr (place 35 1) (codes "print")) (more_exprs (call_expr (place 35 32) (attr_expr (place 35 27) (call_expr (place 35 11) (var_expr (place 35 7) (codes "open")) (more_exprs (const_expr (place 35 12) (text_atom (codes "big.txt"))) (more_exprs (const_expr (place 35 23) (text_atom (codes "r"))) end_exprs))) (codes "read")) end_exprs) end_exprs)))) end_suite))))))))))))))); count = 31 }

abbrev pub r_files_at_length_capture : Capture
r_files_at_length_capture = record { answers = ([]); files = (((codes "bad.txt"), (found_bytes ((255 ∷ []) ++ (254 ∷ [])))) ∷ ((codes "big.txt"), too_large) ∷ ((codes "broken.txt"), found_failed) ∷ ((codes "in.txt"), (found_bytes (codes "alpha" ++ (10 ∷ []) ++ codes "beta" ++ (13 ∷ []) ++ (10 ∷ []) ++ codes "gamma"))) ∷ ((codes "none.txt"), absent) ∷ []); ends = silent }

abbrev pub r_files_at_length_run : Run
r_files_at_length_run = run r_files_at_length_tree (codes "s.py") ([]) r_files_at_length_capture 1000000

r_files_at_length : summary r_files_at_length_run ≡ record { end = finished; steps = 553; output = (codes "8 <file 'new.txt'>" ++ (10 ∷ []) ++ codes "'alpha" ++ (92 ∷ []) ++ codes "n'" ++ (10 ∷ []) ++ codes "'beta" ++ (92 ∷ []) ++ codes "r" ++ (92 ∷ []) ++ codes "n'" ++ (10 ∷ []) ++ codes "'gamma'" ++ (10 ∷ []) ++ codes "''" ++ (10 ∷ []) ++ codes "'one" ++ (92 ∷ []) ++ codes "n' 'two" ++ (92 ∷ []) ++ codes "n" ++ (195 ∷ []) ++ (169 ∷ []) ++ codes "' ''" ++ (10 ∷ []) ++ codes "file is closed" ++ (10 ∷ []) ++ codes "file is closed" ++ (10 ∷ []) ++ codes "none.txt FileNotFoundError('no such file')" ++ (10 ∷ []) ++ codes "../x OSError('bad path')" ++ (10 ∷ []) ++ codes "big.txt OSError('file cannot be read')" ++ (10 ∷ []) ++ codes "bad.txt not UTF-8" ++ (10 ∷ []) ++ codes "broken.txt OSError('file cannot be read')" ++ (10 ∷ []) ++ codes "wrong mode" ++ (10 ∷ []) ++ codes "small now" ++ (10 ∷ [])); finals = (((codes "new.txt"), (codes "one" ++ (10 ∷ []) ++ codes "two" ++ (10 ∷ []) ++ (195 ∷ []) ++ (169 ∷ []))) ∷ ((codes "big.txt"), (codes "small now")) ∷ []) }
unfolding is_utf8 chars encode_utf8 level
r_files_at_length = refl

r_files_at_length_moments : r_files_at_length_run.moments ≡
    begins 0
    ∷ does (place 1 5) 1 ([]) (value (builtin 12)) None ((reads (var_at 0 (codes "open"))) ∷ []) 0
    ∷ does (place 1 10) 0 ([]) (value (text (codes "new.txt"))) None ([]) 0
    ∷ does (place 1 21) 0 ([]) (value (text (codes "w"))) None ([]) 0
    ∷ does (place 1 9) 62 ((text (codes "new.txt")) ∷ (text (codes "w")) ∷ []) (value (object 1)) (Some (a_file (codes "new.txt") Write)) ((sets (file_at (codes "new.txt")) (file_is [])) ∷ (sets (offset_at 1) (offset_is 0)) ∷ (sets (closed_at 1) (closed_is false)) ∷ []) 0
    ∷ does (place 1 1) 33 ((object 1) ∷ []) (value nothing) None ((sets (var_at 0 (codes "w")) (var_is (Some (object 1)))) ∷ []) 0
    ∷ ends 0 normal_end
    ∷ begins 1
    ∷ does (place 2 1) 1 ([]) (value (builtin 14)) None ((reads (var_at 0 (codes "print"))) ∷ []) 0
    ∷ does (place 2 7) 1 ([]) (value (object 1)) None ((reads (var_at 0 (codes "w"))) ∷ []) 0
    ∷ does (place 2 8) 32 ((object 1) ∷ []) (value (builtin 107)) None ([]) 0
    ∷ does (place 2 15) 0 ([]) (value (text (codes "one" ++ (10 ∷ []) ++ codes "two" ++ (10 ∷ [])))) None ([]) 0
    ∷ does (place 2 14) 107 ((object 1) ∷ (text (codes "one" ++ (10 ∷ []) ++ codes "two" ++ (10 ∷ []))) ∷ []) (value (int (pos 8))) None ((reads (closed_at 1)) ∷ (updates (file_at (codes "new.txt")) (bytes_appended (codes "one" ++ (10 ∷ []) ++ codes "two" ++ (10 ∷ [])))) ∷ []) 1
    ∷ does (place 2 30) 1 ([]) (value (object 1)) None ((reads (var_at 0 (codes "w"))) ∷ []) 0
    ∷ does (place 2 6) 64 ((int (pos 8)) ∷ (object 1) ∷ []) (value nothing) None ([]) 1
    ∷ ends 1 normal_end
    ∷ begins 2
    ∷ does (place 3 1) 1 ([]) (value (object 1)) None ((reads (var_at 0 (codes "w"))) ∷ []) 0
    ∷ does (place 3 2) 32 ((object 1) ∷ []) (value (builtin 108)) None ([]) 0
    ∷ does (place 3 8) 108 ((object 1) ∷ []) (value nothing) None ((sets (closed_at 1) (closed_is true)) ∷ []) 0
    ∷ ends 2 normal_end
    ∷ begins 3
    ∷ does (place 4 6) 1 ([]) (value (builtin 12)) None ((reads (var_at 0 (codes "open"))) ∷ []) 0
    ∷ does (place 4 11) 0 ([]) (value (text (codes "new.txt"))) None ([]) 0
    ∷ does (place 4 22) 0 ([]) (value (text (codes "a"))) None ([]) 0
    ∷ does (place 4 10) 62 ((text (codes "new.txt")) ∷ (text (codes "a")) ∷ []) (value (object 2)) (Some (a_file (codes "new.txt") Append)) ((reads (file_at (codes "new.txt"))) ∷ (sets (offset_at 2) (offset_is 0)) ∷ (sets (closed_at 2) (closed_is false)) ∷ []) 0
    ∷ does (place 4 1) 46 ((object 2) ∷ []) (value (object 2)) None ((reads (closed_at 2)) ∷ []) 0
    ∷ does (place 4 30) 33 ((object 2) ∷ []) (value nothing) None ((sets (var_at 0 (codes "h")) (var_is (Some (object 2)))) ∷ []) 0
    ∷ begins 4
    ∷ does (place 5 5) 1 ([]) (value (object 2)) None ((reads (var_at 0 (codes "h"))) ∷ []) 0
    ∷ does (place 5 6) 32 ((object 2) ∷ []) (value (builtin 107)) None ([]) 0
    ∷ does (place 5 13) 0 ([]) (value (text ((195 ∷ []) ++ (169 ∷ [])))) None ([]) 0
    ∷ does (place 5 12) 107 ((object 2) ∷ (text ((195 ∷ []) ++ (169 ∷ []))) ∷ []) (value (int (pos 1))) None ((reads (closed_at 2)) ∷ (updates (file_at (codes "new.txt")) (bytes_appended ((195 ∷ []) ++ (169 ∷ [])))) ∷ []) 1
    ∷ ends 4 normal_end
    ∷ does (place 4 1) 45 ((object 2) ∷ []) (value nothing) None ((sets (closed_at 2) (closed_is true)) ∷ []) 0
    ∷ ends 3 normal_end
    ∷ begins 5
    ∷ does (place 6 6) 1 ([]) (value (builtin 12)) None ((reads (var_at 0 (codes "open"))) ∷ []) 0
    ∷ does (place 6 11) 0 ([]) (value (text (codes "in.txt"))) None ([]) 0
    ∷ does (place 6 10) 62 ((text (codes "in.txt")) ∷ []) (value (object 3)) (Some (a_file (codes "in.txt") Read)) ((reads (file_at (codes "in.txt"))) ∷ (sets (offset_at 3) (offset_is 0)) ∷ (sets (closed_at 3) (closed_is false)) ∷ []) 0
    ∷ does (place 6 1) 46 ((object 3) ∷ []) (value (object 3)) None ((reads (closed_at 3)) ∷ []) 0
    ∷ does (place 6 24) 33 ((object 3) ∷ []) (value nothing) None ((sets (var_at 0 (codes "h")) (var_is (Some (object 3)))) ∷ []) 0
    ∷ begins 6
    ∷ does (place 7 17) 1 ([]) (value (object 3)) None ((reads (var_at 0 (codes "h"))) ∷ []) 0
    ∷ does (place 7 5) 36 ((object 3) ∷ []) (value nothing) None ([]) 0
    ∷ does (place 7 5) 37 ((object 3) ∷ (int (pos 0)) ∷ nothing ∷ []) (value (text (codes "alpha" ++ (10 ∷ [])))) None ((reads (closed_at 3)) ∷ (reads (offset_at 3)) ∷ (reads (file_at (codes "in.txt"))) ∷ (sets (offset_at 3) (offset_is 6)) ∷ []) 1
    ∷ does (place 7 9) 33 ((text (codes "alpha" ++ (10 ∷ []))) ∷ []) (value nothing) None ((sets (var_at 0 (codes "line")) (var_is (Some (text (codes "alpha" ++ (10 ∷ [])))))) ∷ []) 0
    ∷ begins 7
    ∷ does (place 8 9) 1 ([]) (value (builtin 14)) None ((reads (var_at 0 (codes "print"))) ∷ []) 0
    ∷ does (place 8 15) 1 ([]) (value (builtin 16)) None ((reads (var_at 0 (codes "repr"))) ∷ []) 0
    ∷ does (place 8 20) 1 ([]) (value (text (codes "alpha" ++ (10 ∷ [])))) None ((reads (var_at 0 (codes "line"))) ∷ []) 0
    ∷ does (place 8 19) 66 ((text (codes "alpha" ++ (10 ∷ []))) ∷ []) (value (text (codes "'alpha" ++ (92 ∷ []) ++ codes "n'"))) None ([]) 1
    ∷ does (place 8 14) 64 ((text (codes "'alpha" ++ (92 ∷ []) ++ codes "n'")) ∷ []) (value nothing) None ([]) 1
    ∷ ends 7 normal_end
    ∷ does (place 7 5) 37 ((object 3) ∷ (int (pos 1)) ∷ nothing ∷ []) (value (text (codes "beta" ++ (13 ∷ []) ++ (10 ∷ [])))) None ((reads (closed_at 3)) ∷ (reads (offset_at 3)) ∷ (reads (file_at (codes "in.txt"))) ∷ (sets (offset_at 3) (offset_is 12)) ∷ []) 1
    ∷ does (place 7 9) 33 ((text (codes "beta" ++ (13 ∷ []) ++ (10 ∷ []))) ∷ []) (value nothing) None ((sets (var_at 0 (codes "line")) (var_is (Some (text (codes "beta" ++ (13 ∷ []) ++ (10 ∷ [])))))) ∷ []) 0
    ∷ begins 7
    ∷ does (place 8 9) 1 ([]) (value (builtin 14)) None ((reads (var_at 0 (codes "print"))) ∷ []) 0
    ∷ does (place 8 15) 1 ([]) (value (builtin 16)) None ((reads (var_at 0 (codes "repr"))) ∷ []) 0
    ∷ does (place 8 20) 1 ([]) (value (text (codes "beta" ++ (13 ∷ []) ++ (10 ∷ [])))) None ((reads (var_at 0 (codes "line"))) ∷ []) 0
    ∷ does (place 8 19) 66 ((text (codes "beta" ++ (13 ∷ []) ++ (10 ∷ []))) ∷ []) (value (text (codes "'beta" ++ (92 ∷ []) ++ codes "r" ++ (92 ∷ []) ++ codes "n'"))) None ([]) 1
    ∷ does (place 8 14) 64 ((text (codes "'beta" ++ (92 ∷ []) ++ codes "r" ++ (92 ∷ []) ++ codes "n'")) ∷ []) (value nothing) None ([]) 1
    ∷ ends 7 normal_end
    ∷ does (place 7 5) 37 ((object 3) ∷ (int (pos 2)) ∷ nothing ∷ []) (value (text (codes "gamma"))) None ((reads (closed_at 3)) ∷ (reads (offset_at 3)) ∷ (reads (file_at (codes "in.txt"))) ∷ (sets (offset_at 3) (offset_is 17)) ∷ []) 1
    ∷ does (place 7 9) 33 ((text (codes "gamma")) ∷ []) (value nothing) None ((sets (var_at 0 (codes "line")) (var_is (Some (text (codes "gamma"))))) ∷ []) 0
    ∷ begins 7
    ∷ does (place 8 9) 1 ([]) (value (builtin 14)) None ((reads (var_at 0 (codes "print"))) ∷ []) 0
    ∷ does (place 8 15) 1 ([]) (value (builtin 16)) None ((reads (var_at 0 (codes "repr"))) ∷ []) 0
    ∷ does (place 8 20) 1 ([]) (value (text (codes "gamma"))) None ((reads (var_at 0 (codes "line"))) ∷ []) 0
    ∷ does (place 8 19) 66 ((text (codes "gamma")) ∷ []) (value (text (codes "'gamma'"))) None ([]) 1
    ∷ does (place 8 14) 64 ((text (codes "'gamma'")) ∷ []) (value nothing) None ([]) 1
    ∷ ends 7 normal_end
    ∷ does (place 7 5) 37 ((object 3) ∷ (int (pos 3)) ∷ nothing ∷ []) at_end None ((reads (closed_at 3)) ∷ (reads (offset_at 3)) ∷ (reads (file_at (codes "in.txt"))) ∷ (sets (offset_at 3) (offset_is 17)) ∷ []) 0
    ∷ ends 6 normal_end
    ∷ begins 8
    ∷ does (place 9 5) 1 ([]) (value (builtin 14)) None ((reads (var_at 0 (codes "print"))) ∷ []) 0
    ∷ does (place 9 11) 1 ([]) (value (builtin 16)) None ((reads (var_at 0 (codes "repr"))) ∷ []) 0
    ∷ does (place 9 16) 1 ([]) (value (object 3)) None ((reads (var_at 0 (codes "h"))) ∷ []) 0
    ∷ does (place 9 17) 32 ((object 3) ∷ []) (value (builtin 106)) None ([]) 0
    ∷ does (place 9 26) 106 ((object 3) ∷ []) (value (text [])) None ((reads (closed_at 3)) ∷ (reads (offset_at 3)) ∷ (reads (file_at (codes "in.txt"))) ∷ (sets (offset_at 3) (offset_is 17)) ∷ []) 0
    ∷ does (place 9 15) 66 ((text []) ∷ []) (value (text (codes "''"))) None ([]) 1
    ∷ does (place 9 10) 64 ((text (codes "''")) ∷ []) (value nothing) None ([]) 1
    ∷ ends 8 normal_end
    ∷ does (place 6 1) 45 ((object 3) ∷ []) (value nothing) None ((sets (closed_at 3) (closed_is true)) ∷ []) 0
    ∷ ends 5 normal_end
    ∷ begins 9
    ∷ does (place 10 5) 1 ([]) (value (builtin 12)) None ((reads (var_at 0 (codes "open"))) ∷ []) 0
    ∷ does (place 10 10) 0 ([]) (value (text (codes "new.txt"))) None ([]) 0
    ∷ does (place 10 9) 62 ((text (codes "new.txt")) ∷ []) (value (object 4)) (Some (a_file (codes "new.txt") Read)) ((reads (file_at (codes "new.txt"))) ∷ (sets (offset_at 4) (offset_is 0)) ∷ (sets (closed_at 4) (closed_is false)) ∷ []) 0
    ∷ does (place 10 1) 33 ((object 4) ∷ []) (value nothing) None ((sets (var_at 0 (codes "r")) (var_is (Some (object 4)))) ∷ []) 0
    ∷ ends 9 normal_end
    ∷ begins 10
    ∷ does (place 11 1) 1 ([]) (value (builtin 14)) None ((reads (var_at 0 (codes "print"))) ∷ []) 0
    ∷ does (place 11 7) 1 ([]) (value (builtin 16)) None ((reads (var_at 0 (codes "repr"))) ∷ []) 0
    ∷ does (place 11 12) 1 ([]) (value (object 4)) None ((reads (var_at 0 (codes "r"))) ∷ []) 0
    ∷ does (place 11 13) 32 ((object 4) ∷ []) (value (builtin 106)) None ([]) 0
    ∷ does (place 11 22) 106 ((object 4) ∷ []) (value (text (codes "one" ++ (10 ∷ [])))) None ((reads (closed_at 4)) ∷ (reads (offset_at 4)) ∷ (reads (file_at (codes "new.txt"))) ∷ (sets (offset_at 4) (offset_is 4)) ∷ []) 1
    ∷ does (place 11 11) 66 ((text (codes "one" ++ (10 ∷ []))) ∷ []) (value (text (codes "'one" ++ (92 ∷ []) ++ codes "n'"))) None ([]) 1
    ∷ does (place 11 27) 1 ([]) (value (builtin 16)) None ((reads (var_at 0 (codes "repr"))) ∷ []) 0
    ∷ does (place 11 32) 1 ([]) (value (object 4)) None ((reads (var_at 0 (codes "r"))) ∷ []) 0
    ∷ does (place 11 33) 32 ((object 4) ∷ []) (value (builtin 105)) None ([]) 0
    ∷ does (place 11 38) 105 ((object 4) ∷ []) (value (text (codes "two" ++ (10 ∷ []) ++ (195 ∷ []) ++ (169 ∷ [])))) None ((reads (closed_at 4)) ∷ (reads (offset_at 4)) ∷ (reads (file_at (codes "new.txt"))) ∷ (sets (offset_at 4) (offset_is 10)) ∷ []) 1
    ∷ does (place 11 31) 66 ((text (codes "two" ++ (10 ∷ []) ++ (195 ∷ []) ++ (169 ∷ []))) ∷ []) (value (text (codes "'two" ++ (92 ∷ []) ++ codes "n" ++ (195 ∷ []) ++ (169 ∷ []) ++ codes "'"))) None ([]) 1
    ∷ does (place 11 43) 1 ([]) (value (builtin 16)) None ((reads (var_at 0 (codes "repr"))) ∷ []) 0
    ∷ does (place 11 48) 1 ([]) (value (object 4)) None ((reads (var_at 0 (codes "r"))) ∷ []) 0
    ∷ does (place 11 49) 32 ((object 4) ∷ []) (value (builtin 105)) None ([]) 0
    ∷ does (place 11 54) 105 ((object 4) ∷ []) (value (text [])) None ((reads (closed_at 4)) ∷ (reads (offset_at 4)) ∷ (reads (file_at (codes "new.txt"))) ∷ (sets (offset_at 4) (offset_is 10)) ∷ []) 0
    ∷ does (place 11 47) 66 ((text []) ∷ []) (value (text (codes "''"))) None ([]) 1
    ∷ does (place 11 6) 64 ((text (codes "'one" ++ (92 ∷ []) ++ codes "n'")) ∷ (text (codes "'two" ++ (92 ∷ []) ++ codes "n" ++ (195 ∷ []) ++ (169 ∷ []) ++ codes "'")) ∷ (text (codes "''")) ∷ []) (value nothing) None ([]) 1
    ∷ ends 10 normal_end
    ∷ begins 11
    ∷ does (place 12 1) 1 ([]) (value (object 4)) None ((reads (var_at 0 (codes "r"))) ∷ []) 0
    ∷ does (place 12 2) 32 ((object 4) ∷ []) (value (builtin 108)) None ([]) 0
    ∷ does (place 12 8) 108 ((object 4) ∷ []) (value nothing) None ((sets (closed_at 4) (closed_is true)) ∷ []) 0
    ∷ ends 11 normal_end
    ∷ begins 12
    ∷ begins 13
    ∷ does (place 14 5) 1 ([]) (value (object 4)) None ((reads (var_at 0 (codes "r"))) ∷ []) 0
    ∷ does (place 14 6) 32 ((object 4) ∷ []) (value (builtin 105)) None ([]) 0
    ∷ does (place 14 11) 105 ((object 4) ∷ []) (raised 5) (Some (an_instance (exception_class 10))) ((reads (closed_at 4)) ∷ (sets (order_at 5) (order_is ((text (codes "args")) ∷ []))) ∷ (sets (entry_at 5 (text (codes "args"))) (entry_is (Some ((text (codes "args")), (tuple (part (text (codes "file is closed")) no_parts)))))) ∷ []) 0
    ∷ ends 13 raise_end
    ∷ does (place 15 8) 1 ([]) (value (exception_class 10)) None ((reads (var_at 0 (codes "ValueError"))) ∷ []) 0
    ∷ does (place 13 1) 41 ((object 5) ∷ (exception_class 10) ∷ []) (value (truth true)) None ([]) 0
    ∷ does (place 15 22) 33 ((object 5) ∷ []) (value nothing) None ((sets (var_at 0 (codes "e")) (var_is (Some (object 5)))) ∷ []) 0
    ∷ begins 14
    ∷ does (place 16 5) 1 ([]) (value (builtin 14)) None ((reads (var_at 0 (codes "print"))) ∷ []) 0
    ∷ does (place 16 11) 1 ([]) (value (object 5)) None ((reads (var_at 0 (codes "e"))) ∷ []) 0
    ∷ does (place 16 10) 64 ((object 5) ∷ []) (value nothing) None ((reads (entry_at 5 (text (codes "args")))) ∷ []) 2
    ∷ ends 14 normal_end
    ∷ does (place 15 22) 34 ([]) (value nothing) None ((reads (var_at 0 (codes "e"))) ∷ (sets (var_at 0 (codes "e")) (var_is None)) ∷ []) 0
    ∷ ends 12 normal_end
    ∷ begins 15
    ∷ begins 16
    ∷ does (place 18 10) 1 ([]) (value (object 4)) None ((reads (var_at 0 (codes "r"))) ∷ []) 0
    ∷ does (place 18 5) 46 ((object 4) ∷ []) (raised 6) (Some (an_instance (exception_class 10))) ((reads (closed_at 4)) ∷ (sets (order_at 6) (order_is ((text (codes "args")) ∷ []))) ∷ (sets (entry_at 6 (text (codes "args"))) (entry_is (Some ((text (codes "args")), (tuple (part (text (codes "file is closed")) no_parts)))))) ∷ []) 0
    ∷ ends 16 raise_end
    ∷ does (place 19 8) 1 ([]) (value (exception_class 10)) None ((reads (var_at 0 (codes "ValueError"))) ∷ []) 0
    ∷ does (place 17 1) 41 ((object 6) ∷ (exception_class 10) ∷ []) (value (truth true)) None ([]) 0
    ∷ does (place 19 22) 33 ((object 6) ∷ []) (value nothing) None ((sets (var_at 0 (codes "e")) (var_is (Some (object 6)))) ∷ []) 0
    ∷ begins 18
    ∷ does (place 20 5) 1 ([]) (value (builtin 14)) None ((reads (var_at 0 (codes "print"))) ∷ []) 0
    ∷ does (place 20 11) 1 ([]) (value (object 6)) None ((reads (var_at 0 (codes "e"))) ∷ []) 0
    ∷ does (place 20 10) 64 ((object 6) ∷ []) (value nothing) None ((reads (entry_at 6 (text (codes "args")))) ∷ []) 2
    ∷ ends 18 normal_end
    ∷ does (place 19 22) 34 ([]) (value nothing) None ((reads (var_at 0 (codes "e"))) ∷ (sets (var_at 0 (codes "e")) (var_is None)) ∷ []) 0
    ∷ ends 15 normal_end
    ∷ begins 19
    ∷ does (place 21 11) 0 ([]) (value (text (codes "none.txt"))) None ([]) 0
    ∷ does (place 21 23) 0 ([]) (value (text (codes "../x"))) None ([]) 0
    ∷ does (place 21 31) 0 ([]) (value (text (codes "big.txt"))) None ([]) 0
    ∷ does (place 21 42) 0 ([]) (value (text (codes "bad.txt"))) None ([]) 0
    ∷ does (place 21 53) 0 ([]) (value (text (codes "broken.txt"))) None ([]) 0
    ∷ does (place 21 10) 23 ((text (codes "none.txt")) ∷ (text (codes "../x")) ∷ (text (codes "big.txt")) ∷ (text (codes "bad.txt")) ∷ (text (codes "broken.txt")) ∷ []) (value (object 7)) (Some a_list) ((sets (len_at 7) (len_is 5)) ∷ (sets (item_at 7 0) (item_is (text (codes "none.txt")))) ∷ (sets (item_at 7 1) (item_is (text (codes "../x")))) ∷ (sets (item_at 7 2) (item_is (text (codes "big.txt")))) ∷ (sets (item_at 7 3) (item_is (text (codes "bad.txt")))) ∷ (sets (item_at 7 4) (item_is (text (codes "broken.txt")))) ∷ []) 0
    ∷ does (place 21 1) 36 ((object 7) ∷ []) (value nothing) None ([]) 0
    ∷ does (place 21 1) 37 ((object 7) ∷ (int (pos 0)) ∷ nothing ∷ []) (value (text (codes "none.txt"))) None ((reads (len_at 7)) ∷ (reads (item_at 7 0)) ∷ []) 0
    ∷ does (place 21 5) 33 ((text (codes "none.txt")) ∷ []) (value nothing) None ((sets (var_at 0 (codes "p")) (var_is (Some (text (codes "none.txt"))))) ∷ []) 0
    ∷ begins 20
    ∷ begins 21
    ∷ does (place 23 13) 1 ([]) (value (builtin 12)) None ((reads (var_at 0 (codes "open"))) ∷ []) 0
    ∷ does (place 23 18) 1 ([]) (value (text (codes "none.txt"))) None ((reads (var_at 0 (codes "p"))) ∷ []) 0
    ∷ does (place 23 17) 62 ((text (codes "none.txt")) ∷ []) (raised 8) (Some (an_instance (exception_class 16))) ((reads (file_at (codes "none.txt"))) ∷ (sets (order_at 8) (order_is ((text (codes "args")) ∷ []))) ∷ (sets (entry_at 8 (text (codes "args"))) (entry_is (Some ((text (codes "args")), (tuple (part (text (codes "no such file")) no_parts)))))) ∷ []) 0
    ∷ ends 21 raise_end
    ∷ does (place 25 12) 1 ([]) (value (exception_class 15)) None ((reads (var_at 0 (codes "OSError"))) ∷ []) 0
    ∷ does (place 22 5) 41 ((object 8) ∷ (exception_class 15) ∷ []) (value (truth true)) None ([]) 0
    ∷ does (place 25 23) 33 ((object 8) ∷ []) (value nothing) None ((sets (var_at 0 (codes "e")) (var_is (Some (object 8)))) ∷ []) 0
    ∷ begins 23
    ∷ does (place 26 9) 1 ([]) (value (builtin 14)) None ((reads (var_at 0 (codes "print"))) ∷ []) 0
    ∷ does (place 26 15) 1 ([]) (value (text (codes "none.txt"))) None ((reads (var_at 0 (codes "p"))) ∷ []) 0
    ∷ does (place 26 18) 1 ([]) (value (builtin 16)) None ((reads (var_at 0 (codes "repr"))) ∷ []) 0
    ∷ does (place 26 23) 1 ([]) (value (object 8)) None ((reads (var_at 0 (codes "e"))) ∷ []) 0
    ∷ does (place 26 22) 66 ((object 8) ∷ []) (value (text (codes "FileNotFoundError('no such file')"))) None ((reads (entry_at 8 (text (codes "args")))) ∷ []) 2
    ∷ does (place 26 14) 64 ((text (codes "none.txt")) ∷ (text (codes "FileNotFoundError('no such file')")) ∷ []) (value nothing) None ([]) 1
    ∷ ends 23 normal_end
    ∷ does (place 25 23) 34 ([]) (value nothing) None ((reads (var_at 0 (codes "e"))) ∷ (sets (var_at 0 (codes "e")) (var_is None)) ∷ []) 0
    ∷ ends 20 normal_end
    ∷ does (place 21 1) 37 ((object 7) ∷ (int (pos 1)) ∷ nothing ∷ []) (value (text (codes "../x"))) None ((reads (len_at 7)) ∷ (reads (item_at 7 1)) ∷ []) 0
    ∷ does (place 21 5) 33 ((text (codes "../x")) ∷ []) (value nothing) None ((sets (var_at 0 (codes "p")) (var_is (Some (text (codes "../x"))))) ∷ []) 0
    ∷ begins 20
    ∷ begins 21
    ∷ does (place 23 13) 1 ([]) (value (builtin 12)) None ((reads (var_at 0 (codes "open"))) ∷ []) 0
    ∷ does (place 23 18) 1 ([]) (value (text (codes "../x"))) None ((reads (var_at 0 (codes "p"))) ∷ []) 0
    ∷ does (place 23 17) 62 ((text (codes "../x")) ∷ []) (raised 9) (Some (an_instance (exception_class 15))) ((sets (order_at 9) (order_is ((text (codes "args")) ∷ []))) ∷ (sets (entry_at 9 (text (codes "args"))) (entry_is (Some ((text (codes "args")), (tuple (part (text (codes "bad path")) no_parts)))))) ∷ []) 0
    ∷ ends 21 raise_end
    ∷ does (place 25 12) 1 ([]) (value (exception_class 15)) None ((reads (var_at 0 (codes "OSError"))) ∷ []) 0
    ∷ does (place 22 5) 41 ((object 9) ∷ (exception_class 15) ∷ []) (value (truth true)) None ([]) 0
    ∷ does (place 25 23) 33 ((object 9) ∷ []) (value nothing) None ((sets (var_at 0 (codes "e")) (var_is (Some (object 9)))) ∷ []) 0
    ∷ begins 23
    ∷ does (place 26 9) 1 ([]) (value (builtin 14)) None ((reads (var_at 0 (codes "print"))) ∷ []) 0
    ∷ does (place 26 15) 1 ([]) (value (text (codes "../x"))) None ((reads (var_at 0 (codes "p"))) ∷ []) 0
    ∷ does (place 26 18) 1 ([]) (value (builtin 16)) None ((reads (var_at 0 (codes "repr"))) ∷ []) 0
    ∷ does (place 26 23) 1 ([]) (value (object 9)) None ((reads (var_at 0 (codes "e"))) ∷ []) 0
    ∷ does (place 26 22) 66 ((object 9) ∷ []) (value (text (codes "OSError('bad path')"))) None ((reads (entry_at 9 (text (codes "args")))) ∷ []) 2
    ∷ does (place 26 14) 64 ((text (codes "../x")) ∷ (text (codes "OSError('bad path')")) ∷ []) (value nothing) None ([]) 1
    ∷ ends 23 normal_end
    ∷ does (place 25 23) 34 ([]) (value nothing) None ((reads (var_at 0 (codes "e"))) ∷ (sets (var_at 0 (codes "e")) (var_is None)) ∷ []) 0
    ∷ ends 20 normal_end
    ∷ does (place 21 1) 37 ((object 7) ∷ (int (pos 2)) ∷ nothing ∷ []) (value (text (codes "big.txt"))) None ((reads (len_at 7)) ∷ (reads (item_at 7 2)) ∷ []) 0
    ∷ does (place 21 5) 33 ((text (codes "big.txt")) ∷ []) (value nothing) None ((sets (var_at 0 (codes "p")) (var_is (Some (text (codes "big.txt"))))) ∷ []) 0
    ∷ begins 20
    ∷ begins 21
    ∷ does (place 23 13) 1 ([]) (value (builtin 12)) None ((reads (var_at 0 (codes "open"))) ∷ []) 0
    ∷ does (place 23 18) 1 ([]) (value (text (codes "big.txt"))) None ((reads (var_at 0 (codes "p"))) ∷ []) 0
    ∷ does (place 23 17) 62 ((text (codes "big.txt")) ∷ []) (raised 10) (Some (an_instance (exception_class 15))) ((reads (file_at (codes "big.txt"))) ∷ (sets (order_at 10) (order_is ((text (codes "args")) ∷ []))) ∷ (sets (entry_at 10 (text (codes "args"))) (entry_is (Some ((text (codes "args")), (tuple (part (text (codes "file cannot be read")) no_parts)))))) ∷ []) 0
    ∷ ends 21 raise_end
    ∷ does (place 25 12) 1 ([]) (value (exception_class 15)) None ((reads (var_at 0 (codes "OSError"))) ∷ []) 0
    ∷ does (place 22 5) 41 ((object 10) ∷ (exception_class 15) ∷ []) (value (truth true)) None ([]) 0
    ∷ does (place 25 23) 33 ((object 10) ∷ []) (value nothing) None ((sets (var_at 0 (codes "e")) (var_is (Some (object 10)))) ∷ []) 0
    ∷ begins 23
    ∷ does (place 26 9) 1 ([]) (value (builtin 14)) None ((reads (var_at 0 (codes "print"))) ∷ []) 0
    ∷ does (place 26 15) 1 ([]) (value (text (codes "big.txt"))) None ((reads (var_at 0 (codes "p"))) ∷ []) 0
    ∷ does (place 26 18) 1 ([]) (value (builtin 16)) None ((reads (var_at 0 (codes "repr"))) ∷ []) 0
    ∷ does (place 26 23) 1 ([]) (value (object 10)) None ((reads (var_at 0 (codes "e"))) ∷ []) 0
    ∷ does (place 26 22) 66 ((object 10) ∷ []) (value (text (codes "OSError('file cannot be read')"))) None ((reads (entry_at 10 (text (codes "args")))) ∷ []) 2
    ∷ does (place 26 14) 64 ((text (codes "big.txt")) ∷ (text (codes "OSError('file cannot be read')")) ∷ []) (value nothing) None ([]) 1
    ∷ ends 23 normal_end
    ∷ does (place 25 23) 34 ([]) (value nothing) None ((reads (var_at 0 (codes "e"))) ∷ (sets (var_at 0 (codes "e")) (var_is None)) ∷ []) 0
    ∷ ends 20 normal_end
    ∷ does (place 21 1) 37 ((object 7) ∷ (int (pos 3)) ∷ nothing ∷ []) (value (text (codes "bad.txt"))) None ((reads (len_at 7)) ∷ (reads (item_at 7 3)) ∷ []) 0
    ∷ does (place 21 5) 33 ((text (codes "bad.txt")) ∷ []) (value nothing) None ((sets (var_at 0 (codes "p")) (var_is (Some (text (codes "bad.txt"))))) ∷ []) 0
    ∷ begins 20
    ∷ begins 21
    ∷ does (place 23 13) 1 ([]) (value (builtin 12)) None ((reads (var_at 0 (codes "open"))) ∷ []) 0
    ∷ does (place 23 18) 1 ([]) (value (text (codes "bad.txt"))) None ((reads (var_at 0 (codes "p"))) ∷ []) 0
    ∷ does (place 23 17) 62 ((text (codes "bad.txt")) ∷ []) (value (object 11)) (Some (a_file (codes "bad.txt") Read)) ((reads (file_at (codes "bad.txt"))) ∷ (sets (offset_at 11) (offset_is 0)) ∷ (sets (closed_at 11) (closed_is false)) ∷ []) 0
    ∷ does (place 23 9) 33 ((object 11) ∷ []) (value nothing) None ((sets (var_at 0 (codes "f")) (var_is (Some (object 11)))) ∷ []) 0
    ∷ ends 21 normal_end
    ∷ begins 22
    ∷ does (place 24 9) 1 ([]) (value (builtin 14)) None ((reads (var_at 0 (codes "print"))) ∷ []) 0
    ∷ does (place 24 15) 1 ([]) (value (object 11)) None ((reads (var_at 0 (codes "f"))) ∷ []) 0
    ∷ does (place 24 16) 32 ((object 11) ∷ []) (value (builtin 106)) None ([]) 0
    ∷ does (place 24 25) 106 ((object 11) ∷ []) (raised 12) (Some (an_instance (exception_class 10))) ((reads (closed_at 11)) ∷ (reads (offset_at 11)) ∷ (reads (file_at (codes "bad.txt"))) ∷ (sets (order_at 12) (order_is ((text (codes "args")) ∷ []))) ∷ (sets (entry_at 12 (text (codes "args"))) (entry_is (Some ((text (codes "args")), (tuple (part (text (codes "not UTF-8")) no_parts)))))) ∷ []) 0
    ∷ ends 22 raise_end
    ∷ does (place 25 12) 1 ([]) (value (exception_class 15)) None ((reads (var_at 0 (codes "OSError"))) ∷ []) 0
    ∷ does (place 22 5) 41 ((object 12) ∷ (exception_class 15) ∷ []) (value (truth false)) None ([]) 0
    ∷ does (place 27 12) 1 ([]) (value (exception_class 10)) None ((reads (var_at 0 (codes "ValueError"))) ∷ []) 0
    ∷ does (place 22 5) 41 ((object 12) ∷ (exception_class 10) ∷ []) (value (truth true)) None ([]) 0
    ∷ does (place 27 26) 33 ((object 12) ∷ []) (value nothing) None ((sets (var_at 0 (codes "e")) (var_is (Some (object 12)))) ∷ []) 0
    ∷ begins 24
    ∷ does (place 28 9) 1 ([]) (value (builtin 14)) None ((reads (var_at 0 (codes "print"))) ∷ []) 0
    ∷ does (place 28 15) 1 ([]) (value (text (codes "bad.txt"))) None ((reads (var_at 0 (codes "p"))) ∷ []) 0
    ∷ does (place 28 18) 1 ([]) (value (object 12)) None ((reads (var_at 0 (codes "e"))) ∷ []) 0
    ∷ does (place 28 14) 64 ((text (codes "bad.txt")) ∷ (object 12) ∷ []) (value nothing) None ((reads (entry_at 12 (text (codes "args")))) ∷ []) 2
    ∷ ends 24 normal_end
    ∷ does (place 27 26) 34 ([]) (value nothing) None ((reads (var_at 0 (codes "e"))) ∷ (sets (var_at 0 (codes "e")) (var_is None)) ∷ []) 0
    ∷ ends 20 normal_end
    ∷ does (place 21 1) 37 ((object 7) ∷ (int (pos 4)) ∷ nothing ∷ []) (value (text (codes "broken.txt"))) None ((reads (len_at 7)) ∷ (reads (item_at 7 4)) ∷ []) 0
    ∷ does (place 21 5) 33 ((text (codes "broken.txt")) ∷ []) (value nothing) None ((sets (var_at 0 (codes "p")) (var_is (Some (text (codes "broken.txt"))))) ∷ []) 0
    ∷ begins 20
    ∷ begins 21
    ∷ does (place 23 13) 1 ([]) (value (builtin 12)) None ((reads (var_at 0 (codes "open"))) ∷ []) 0
    ∷ does (place 23 18) 1 ([]) (value (text (codes "broken.txt"))) None ((reads (var_at 0 (codes "p"))) ∷ []) 0
    ∷ does (place 23 17) 62 ((text (codes "broken.txt")) ∷ []) (raised 13) (Some (an_instance (exception_class 15))) ((reads (file_at (codes "broken.txt"))) ∷ (sets (order_at 13) (order_is ((text (codes "args")) ∷ []))) ∷ (sets (entry_at 13 (text (codes "args"))) (entry_is (Some ((text (codes "args")), (tuple (part (text (codes "file cannot be read")) no_parts)))))) ∷ []) 0
    ∷ ends 21 raise_end
    ∷ does (place 25 12) 1 ([]) (value (exception_class 15)) None ((reads (var_at 0 (codes "OSError"))) ∷ []) 0
    ∷ does (place 22 5) 41 ((object 13) ∷ (exception_class 15) ∷ []) (value (truth true)) None ([]) 0
    ∷ does (place 25 23) 33 ((object 13) ∷ []) (value nothing) None ((sets (var_at 0 (codes "e")) (var_is (Some (object 13)))) ∷ []) 0
    ∷ begins 23
    ∷ does (place 26 9) 1 ([]) (value (builtin 14)) None ((reads (var_at 0 (codes "print"))) ∷ []) 0
    ∷ does (place 26 15) 1 ([]) (value (text (codes "broken.txt"))) None ((reads (var_at 0 (codes "p"))) ∷ []) 0
    ∷ does (place 26 18) 1 ([]) (value (builtin 16)) None ((reads (var_at 0 (codes "repr"))) ∷ []) 0
    ∷ does (place 26 23) 1 ([]) (value (object 13)) None ((reads (var_at 0 (codes "e"))) ∷ []) 0
    ∷ does (place 26 22) 66 ((object 13) ∷ []) (value (text (codes "OSError('file cannot be read')"))) None ((reads (entry_at 13 (text (codes "args")))) ∷ []) 2
    ∷ does (place 26 14) 64 ((text (codes "broken.txt")) ∷ (text (codes "OSError('file cannot be read')")) ∷ []) (value nothing) None ([]) 1
    ∷ ends 23 normal_end
    ∷ does (place 25 23) 34 ([]) (value nothing) None ((reads (var_at 0 (codes "e"))) ∷ (sets (var_at 0 (codes "e")) (var_is None)) ∷ []) 0
    ∷ ends 20 normal_end
    ∷ does (place 21 1) 37 ((object 7) ∷ (int (pos 5)) ∷ nothing ∷ []) at_end None ((reads (len_at 7)) ∷ []) 0
    ∷ ends 19 normal_end
    ∷ begins 25
    ∷ begins 26
    ∷ does (place 30 5) 1 ([]) (value (builtin 12)) None ((reads (var_at 0 (codes "open"))) ∷ []) 0
    ∷ does (place 30 10) 0 ([]) (value (text (codes "new.txt"))) None ([]) 0
    ∷ does (place 30 9) 62 ((text (codes "new.txt")) ∷ []) (value (object 14)) (Some (a_file (codes "new.txt") Read)) ((reads (file_at (codes "new.txt"))) ∷ (sets (offset_at 14) (offset_is 0)) ∷ (sets (closed_at 14) (closed_is false)) ∷ []) 0
    ∷ does (place 30 20) 32 ((object 14) ∷ []) (value (builtin 107)) None ([]) 0
    ∷ does (place 30 27) 0 ([]) (value (text (codes "x"))) None ([]) 0
    ∷ does (place 30 26) 107 ((object 14) ∷ (text (codes "x")) ∷ []) (raised 15) (Some (an_instance (exception_class 15))) ((reads (closed_at 14)) ∷ (sets (order_at 15) (order_is ((text (codes "args")) ∷ []))) ∷ (sets (entry_at 15 (text (codes "args"))) (entry_is (Some ((text (codes "args")), (tuple (part (text (codes "wrong mode")) no_parts)))))) ∷ []) 0
    ∷ ends 26 raise_end
    ∷ does (place 31 8) 1 ([]) (value (exception_class 15)) None ((reads (var_at 0 (codes "OSError"))) ∷ []) 0
    ∷ does (place 29 1) 41 ((object 15) ∷ (exception_class 15) ∷ []) (value (truth true)) None ([]) 0
    ∷ does (place 31 19) 33 ((object 15) ∷ []) (value nothing) None ((sets (var_at 0 (codes "e")) (var_is (Some (object 15)))) ∷ []) 0
    ∷ begins 27
    ∷ does (place 32 5) 1 ([]) (value (builtin 14)) None ((reads (var_at 0 (codes "print"))) ∷ []) 0
    ∷ does (place 32 11) 1 ([]) (value (object 15)) None ((reads (var_at 0 (codes "e"))) ∷ []) 0
    ∷ does (place 32 10) 64 ((object 15) ∷ []) (value nothing) None ((reads (entry_at 15 (text (codes "args")))) ∷ []) 2
    ∷ ends 27 normal_end
    ∷ does (place 31 19) 34 ([]) (value nothing) None ((reads (var_at 0 (codes "e"))) ∷ (sets (var_at 0 (codes "e")) (var_is None)) ∷ []) 0
    ∷ ends 25 normal_end
    ∷ begins 28
    ∷ does (place 33 5) 1 ([]) (value (builtin 12)) None ((reads (var_at 0 (codes "open"))) ∷ []) 0
    ∷ does (place 33 10) 0 ([]) (value (text (codes "big.txt"))) None ([]) 0
    ∷ does (place 33 21) 0 ([]) (value (text (codes "w"))) None ([]) 0
    ∷ does (place 33 9) 62 ((text (codes "big.txt")) ∷ (text (codes "w")) ∷ []) (value (object 16)) (Some (a_file (codes "big.txt") Write)) ((sets (file_at (codes "big.txt")) (file_is [])) ∷ (sets (offset_at 16) (offset_is 0)) ∷ (sets (closed_at 16) (closed_is false)) ∷ []) 0
    ∷ does (place 33 1) 33 ((object 16) ∷ []) (value nothing) None ((sets (var_at 0 (codes "a")) (var_is (Some (object 16)))) ∷ []) 0
    ∷ ends 28 normal_end
    ∷ begins 29
    ∷ does (place 34 1) 1 ([]) (value (object 16)) None ((reads (var_at 0 (codes "a"))) ∷ []) 0
    ∷ does (place 34 2) 32 ((object 16) ∷ []) (value (builtin 107)) None ([]) 0
    ∷ does (place 34 9) 0 ([]) (value (text (codes "small now"))) None ([]) 0
    ∷ does (place 34 8) 107 ((object 16) ∷ (text (codes "small now")) ∷ []) (value (int (pos 9))) None ((reads (closed_at 16)) ∷ (updates (file_at (codes "big.txt")) (bytes_appended (codes "small now"))) ∷ []) 1
    ∷ ends 29 normal_end
    ∷ begins 30
    ∷ does (place 35 1) 1 ([]) (value (builtin 14)) None ((reads (var_at 0 (codes "print"))) ∷ []) 0
    ∷ does (place 35 7) 1 ([]) (value (builtin 12)) None ((reads (var_at 0 (codes "open"))) ∷ []) 0
    ∷ does (place 35 12) 0 ([]) (value (text (codes "big.txt"))) None ([]) 0
    ∷ does (place 35 23) 0 ([]) (value (text (codes "r"))) None ([]) 0
    ∷ does (place 35 11) 62 ((text (codes "big.txt")) ∷ (text (codes "r")) ∷ []) (value (object 17)) (Some (a_file (codes "big.txt") Read)) ((reads (file_at (codes "big.txt"))) ∷ (sets (offset_at 17) (offset_is 0)) ∷ (sets (closed_at 17) (closed_is false)) ∷ []) 0
    ∷ does (place 35 27) 32 ((object 17) ∷ []) (value (builtin 105)) None ([]) 0
    ∷ does (place 35 32) 105 ((object 17) ∷ []) (value (text (codes "small now"))) None ((reads (closed_at 17)) ∷ (reads (offset_at 17)) ∷ (reads (file_at (codes "big.txt"))) ∷ (sets (offset_at 17) (offset_is 9)) ∷ []) 1
    ∷ does (place 35 6) 64 ((text (codes "small now")) ∷ []) (value nothing) None ([]) 1
    ∷ ends 30 normal_end
    ∷ []
unfolding is_utf8 chars encode_utf8 level
r_files_at_length_moments = refl

r_files_at_length_values : evaluated r_files_at_length_tree (opening_in r_files_at_length_capture (codes "s.py") ([])) (reverse r_files_at_length_run.moments) ((place 7 17, 1) ∷ (place 11 1, 1) ∷ (place 21 42, 1) ∷ (place 23 18, 2) ∷ (place 35 6, 1) ∷ []) ≡ (Some ((codes "#1=file('in.txt', 'r', 0, open)"), 71) ∷ Some ((codes "<built-in print>"), 166) ∷ Some ((codes "'bad.txt'"), 268) ∷ Some ((codes "'../x'"), 326) ∷ Some ((codes "None"), 553) ∷ [])
unfolding is_utf8 chars encode_utf8 level
r_files_at_length_values = refl
