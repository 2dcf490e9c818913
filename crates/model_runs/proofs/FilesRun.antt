-- Runs of scripts, as theorems that hold by computation: their ends, steps, output and files, and all of their moments.
-- Written by tools/run_vectors.py from scripts with what is expected of them.
use Rattle.std.proofs.Common.{◌≡◌, [], ◌∷◌, ◌++◌, Some, None, codes, refl}
use Rattle.std.specs.Prelude.{pos, true, false, reverse}
use Rattle.std.specs.Str.{chars, is_utf8}
use Rattle.std.specs.Char.{encode_utf8}
use Rattle.py_tree.specs.declared.expr.Atom.TheVariants.{Text as text_atom}
use Rattle.py_tree.specs.Tree.{const_expr, var_expr, call_expr, attr_expr, end_exprs, more_exprs, var_target, one_stmt, do_form, assign_form, end_suite, more_suite, ScriptTree}
use Rattle.py_value.specs.declared.access.Mode.TheVariants.{Read, Write, Append}
use Rattle.py_value.specs.Contents.{nothing, int, text, builtin, object}
use Rattle.py_value.specs.Seen.{a_file, var_at, file_at, offset_at, closed_at, var_is, file_is, offset_is, closed_is, bytes_appended, reads, sets, updates}
use Rattle.py_model.specs.Capture.{Capture, opening_in}
use Rattle.py_model.specs.Meaning.{Run, run, level, finished}
use Rattle.py_model.specs.Moment.{begins, does, ends, normal_end}
use Rattle.py_model.specs.Plan.{value}
use Rattle.model_runs.specs.Words.{place, no_span, silent, summary, evaluated, kept, depends, replayed}
use Rattle.slice_law.specs.Edges.{edge, by_data}

abbrev pub r_files_tree : ScriptTree
r_files_tree = record { body = (more_suite (one_stmt 0 (place 1 1) no_span (assign_form (var_target (place 1 1) (codes "f")) (call_expr (place 1 9) (var_expr (place 1 5) (codes "open")) (more_exprs (const_expr (place 1 10) (text_atom (codes "out.txt"))) (more_exprs (const_expr (place 1 21) (text_atom (codes "w"))) end_exprs))))) (more_suite (one_stmt 1 (place 2 1) no_span (do_form (call_expr (place 2 8) (attr_expr (place 2 2) (var_expr (place 2 1) (codes "f")) (codes "write")) (more_exprs (const_expr (place 2 9) (text_atom (codes "one" ++ (10 ∷ [])))) end_exprs)))) (more_suite (one_stmt 2 (place 3 1) no_span (do_form (call_expr (place 3 8) (attr_expr (place 3 2) (var_expr (place 3 1) (codes "f")) (codes "close")) end_exprs))) (more_suite (one_stmt 3 (place 4 1) no_span (assign_form (var_target (place 4 1) (codes "g")) (call_expr (place 4 9) (var_expr (place 4 5) (codes "open")) (more_exprs (const_expr (place 4 10) (text_atom (codes "log.txt"))) (more_exprs (const_expr (place 4 21) (text_atom (codes "w"))) end_exprs))))) (more_suite (one_stmt 4 (place 5 1) no_span (do_form (call_expr (place 5 8) (attr_expr (place 5 2) (var_expr (place 5 1) (codes "g")) (codes "write")) (more_exprs (const_expr (place 5 9) (text_atom (codes "x" ++ (10 ∷ [])))) end_exprs)))) (more_suite (one_stmt 5 (place 6 1) no_span (do_form (call_expr (place 6 8) (attr_expr (place 6 2) (var_expr (place 6 1) (codes "g")) (codes "close")) end_exprs))) (more_suite (one_stmt 6 (place 7 1) no_span (assign_form (var_target (place 7 1) (codes "f")) (call_expr (place 7 9) (var_expr (place 7 5) (codes "open")) (more_exprs (const_expr (place 7 10) (text_atom (codes "out.txt"))) (more_exprs (const_expr (place 7 21) (text_atom (codes "a"))) end_exprs))))) (more_suite (one_stmt 7 (place 8 1) no_span (do_form (call_expr (place 8 8) (attr_expr (place 8 2) (var_expr (place 8 1) (codes "f")) (codes "write")) (more_exprs (const_expr (place 8 9) (text_atom (codes "two" ++ (10 ∷ [])))) end_exprs)))) (more_suite (one_stmt 8 (place 9 1) no_span (do_form (call_expr (place 9 8) (attr_expr (place 9 2) (var_expr (place 9 1) (codes "f")) (codes "close")) end_exprs))) (more_suite (one_stmt 9 (place 10 1) no_span (assign_form (var_target (place 10 1) (codes "h")) (call_expr (place 10 9) (var_expr (place 10 5) (codes "open")) (more_exprs (const_expr (place 10 10) (text_atom (codes "out.txt"))) end_exprs)))) (more_suite (one_stmt 10 (place 11 1) no_span (assign_form (var_target (place 11 1) (codes "t")) (call_expr (place 11 11) (attr_expr (place 11 6) (var_expr (place 11 5) (codes "h")) (codes "read")) end_exprs))) (more_suite (one_stmt 11 (place 12 1) no_span (do_form (call_expr (place 12 6) (var_expr (place 12 1) (codes "print")) (more_exprs (var_expr (place 12 7) (codes "t")) end_exprs)))) end_suite)))))))))))); count = 12 }

abbrev pub r_files_capture : Capture
r_files_capture = record { answers = ([]); files = ([]); ends = silent }

abbrev pub r_files_run : Run
r_files_run = run r_files_tree (codes "s.py") ([]) r_files_capture 1000000

r_files : summary r_files_run ≡ record { end = finished; steps = 107; output = (codes "one" ++ (10 ∷ []) ++ codes "two" ++ (10 ∷ []) ++ (10 ∷ [])); finals = (((codes "out.txt"), (codes "one" ++ (10 ∷ []) ++ codes "two" ++ (10 ∷ []))) ∷ ((codes "log.txt"), (codes "x" ++ (10 ∷ []))) ∷ []) }
unfolding is_utf8 chars encode_utf8 level
r_files = refl

r_files_moments : r_files_run.moments ≡
    begins 0
    ∷ does (place 1 5) 1 ([]) (value (builtin 12)) None ((reads (var_at 0 (codes "open"))) ∷ []) 0
    ∷ does (place 1 10) 0 ([]) (value (text (codes "out.txt"))) None ([]) 0
    ∷ does (place 1 21) 0 ([]) (value (text (codes "w"))) None ([]) 0
    ∷ does (place 1 9) 62 ((text (codes "out.txt")) ∷ (text (codes "w")) ∷ []) (value (object 1)) (Some (a_file (codes "out.txt") Write)) ((sets (file_at (codes "out.txt")) (file_is [])) ∷ (sets (offset_at 1) (offset_is 0)) ∷ (sets (closed_at 1) (closed_is false)) ∷ []) 0
    ∷ does (place 1 1) 33 ((object 1) ∷ []) (value nothing) None ((sets (var_at 0 (codes "f")) (var_is (Some (object 1)))) ∷ []) 0
    ∷ ends 0 normal_end
    ∷ begins 1
    ∷ does (place 2 1) 1 ([]) (value (object 1)) None ((reads (var_at 0 (codes "f"))) ∷ []) 0
    ∷ does (place 2 2) 32 ((object 1) ∷ []) (value (builtin 107)) None ([]) 0
    ∷ does (place 2 9) 0 ([]) (value (text (codes "one" ++ (10 ∷ [])))) None ([]) 0
    ∷ does (place 2 8) 107 ((object 1) ∷ (text (codes "one" ++ (10 ∷ []))) ∷ []) (value (int (pos 4))) None ((reads (closed_at 1)) ∷ (updates (file_at (codes "out.txt")) (bytes_appended (codes "one" ++ (10 ∷ [])))) ∷ []) 1
    ∷ ends 1 normal_end
    ∷ begins 2
    ∷ does (place 3 1) 1 ([]) (value (object 1)) None ((reads (var_at 0 (codes "f"))) ∷ []) 0
    ∷ does (place 3 2) 32 ((object 1) ∷ []) (value (builtin 108)) None ([]) 0
    ∷ does (place 3 8) 108 ((object 1) ∷ []) (value nothing) None ((sets (closed_at 1) (closed_is true)) ∷ []) 0
    ∷ ends 2 normal_end
    ∷ begins 3
    ∷ does (place 4 5) 1 ([]) (value (builtin 12)) None ((reads (var_at 0 (codes "open"))) ∷ []) 0
    ∷ does (place 4 10) 0 ([]) (value (text (codes "log.txt"))) None ([]) 0
    ∷ does (place 4 21) 0 ([]) (value (text (codes "w"))) None ([]) 0
    ∷ does (place 4 9) 62 ((text (codes "log.txt")) ∷ (text (codes "w")) ∷ []) (value (object 2)) (Some (a_file (codes "log.txt") Write)) ((sets (file_at (codes "log.txt")) (file_is [])) ∷ (sets (offset_at 2) (offset_is 0)) ∷ (sets (closed_at 2) (closed_is false)) ∷ []) 0
    ∷ does (place 4 1) 33 ((object 2) ∷ []) (value nothing) None ((sets (var_at 0 (codes "g")) (var_is (Some (object 2)))) ∷ []) 0
    ∷ ends 3 normal_end
    ∷ begins 4
    ∷ does (place 5 1) 1 ([]) (value (object 2)) None ((reads (var_at 0 (codes "g"))) ∷ []) 0
    ∷ does (place 5 2) 32 ((object 2) ∷ []) (value (builtin 107)) None ([]) 0
    ∷ does (place 5 9) 0 ([]) (value (text (codes "x" ++ (10 ∷ [])))) None ([]) 0
    ∷ does (place 5 8) 107 ((object 2) ∷ (text (codes "x" ++ (10 ∷ []))) ∷ []) (value (int (pos 2))) None ((reads (closed_at 2)) ∷ (updates (file_at (codes "log.txt")) (bytes_appended (codes "x" ++ (10 ∷ [])))) ∷ []) 1
    ∷ ends 4 normal_end
    ∷ begins 5
    ∷ does (place 6 1) 1 ([]) (value (object 2)) None ((reads (var_at 0 (codes "g"))) ∷ []) 0
    ∷ does (place 6 2) 32 ((object 2) ∷ []) (value (builtin 108)) None ([]) 0
    ∷ does (place 6 8) 108 ((object 2) ∷ []) (value nothing) None ((sets (closed_at 2) (closed_is true)) ∷ []) 0
    ∷ ends 5 normal_end
    ∷ begins 6
    ∷ does (place 7 5) 1 ([]) (value (builtin 12)) None ((reads (var_at 0 (codes "open"))) ∷ []) 0
    ∷ does (place 7 10) 0 ([]) (value (text (codes "out.txt"))) None ([]) 0
    ∷ does (place 7 21) 0 ([]) (value (text (codes "a"))) None ([]) 0
    ∷ does (place 7 9) 62 ((text (codes "out.txt")) ∷ (text (codes "a")) ∷ []) (value (object 3)) (Some (a_file (codes "out.txt") Append)) ((reads (file_at (codes "out.txt"))) ∷ (sets (offset_at 3) (offset_is 0)) ∷ (sets (closed_at 3) (closed_is false)) ∷ []) 0
    ∷ does (place 7 1) 33 ((object 3) ∷ []) (value nothing) None ((sets (var_at 0 (codes "f")) (var_is (Some (object 3)))) ∷ []) 0
    ∷ ends 6 normal_end
    ∷ begins 7
    ∷ does (place 8 1) 1 ([]) (value (object 3)) None ((reads (var_at 0 (codes "f"))) ∷ []) 0
    ∷ does (place 8 2) 32 ((object 3) ∷ []) (value (builtin 107)) None ([]) 0
    ∷ does (place 8 9) 0 ([]) (value (text (codes "two" ++ (10 ∷ [])))) None ([]) 0
    ∷ does (place 8 8) 107 ((object 3) ∷ (text (codes "two" ++ (10 ∷ []))) ∷ []) (value (int (pos 4))) None ((reads (closed_at 3)) ∷ (updates (file_at (codes "out.txt")) (bytes_appended (codes "two" ++ (10 ∷ [])))) ∷ []) 1
    ∷ ends 7 normal_end
    ∷ begins 8
    ∷ does (place 9 1) 1 ([]) (value (object 3)) None ((reads (var_at 0 (codes "f"))) ∷ []) 0
    ∷ does (place 9 2) 32 ((object 3) ∷ []) (value (builtin 108)) None ([]) 0
    ∷ does (place 9 8) 108 ((object 3) ∷ []) (value nothing) None ((sets (closed_at 3) (closed_is true)) ∷ []) 0
    ∷ ends 8 normal_end
    ∷ begins 9
    ∷ does (place 10 5) 1 ([]) (value (builtin 12)) None ((reads (var_at 0 (codes "open"))) ∷ []) 0
    ∷ does (place 10 10) 0 ([]) (value (text (codes "out.txt"))) None ([]) 0
    ∷ does (place 10 9) 62 ((text (codes "out.txt")) ∷ []) (value (object 4)) (Some (a_file (codes "out.txt") Read)) ((reads (file_at (codes "out.txt"))) ∷ (sets (offset_at 4) (offset_is 0)) ∷ (sets (closed_at 4) (closed_is false)) ∷ []) 0
    ∷ does (place 10 1) 33 ((object 4) ∷ []) (value nothing) None ((sets (var_at 0 (codes "h")) (var_is (Some (object 4)))) ∷ []) 0
    ∷ ends 9 normal_end
    ∷ begins 10
    ∷ does (place 11 5) 1 ([]) (value (object 4)) None ((reads (var_at 0 (codes "h"))) ∷ []) 0
    ∷ does (place 11 6) 32 ((object 4) ∷ []) (value (builtin 105)) None ([]) 0
    ∷ does (place 11 11) 105 ((object 4) ∷ []) (value (text (codes "one" ++ (10 ∷ []) ++ codes "two" ++ (10 ∷ [])))) None ((reads (closed_at 4)) ∷ (reads (offset_at 4)) ∷ (reads (file_at (codes "out.txt"))) ∷ (sets (offset_at 4) (offset_is 8)) ∷ []) 1
    ∷ does (place 11 1) 33 ((text (codes "one" ++ (10 ∷ []) ++ codes "two" ++ (10 ∷ []))) ∷ []) (value nothing) None ((sets (var_at 0 (codes "t")) (var_is (Some (text (codes "one" ++ (10 ∷ []) ++ codes "two" ++ (10 ∷ [])))))) ∷ []) 0
    ∷ ends 10 normal_end
    ∷ begins 11
    ∷ does (place 12 1) 1 ([]) (value (builtin 14)) None ((reads (var_at 0 (codes "print"))) ∷ []) 0
    ∷ does (place 12 7) 1 ([]) (value (text (codes "one" ++ (10 ∷ []) ++ codes "two" ++ (10 ∷ [])))) None ((reads (var_at 0 (codes "t"))) ∷ []) 0
    ∷ does (place 12 6) 64 ((text (codes "one" ++ (10 ∷ []) ++ codes "two" ++ (10 ∷ []))) ∷ []) (value nothing) None ([]) 1
    ∷ ends 11 normal_end
    ∷ []
unfolding is_utf8 chars encode_utf8 level
r_files_moments = refl

r_files_values : evaluated r_files_tree (opening_in r_files_capture (codes "s.py") ([])) (reverse r_files_run.moments) ((place 12 7, 1) ∷ (place 2 9, 1) ∷ (place 4 21, 1) ∷ (place 7 21, 1) ∷ (place 10 5, 1) ∷ []) ≡ (Some ((codes "'one" ++ (92 ∷ []) ++ codes "ntwo" ++ (92 ∷ []) ++ codes "n'"), 105) ∷ Some ((codes "'one" ++ (92 ∷ []) ++ codes "n'"), 16) ∷ Some ((codes "'w'"), 31) ∷ Some ((codes "'a'"), 57) ∷ Some ((codes "<built-in open>"), 81) ∷ [])
unfolding is_utf8 chars encode_utf8 level
r_files_values = refl

r_files_slices : kept r_files_tree (opening_in r_files_capture (codes "s.py") ([])) (reverse r_files_run.moments) ((place 12 7, 1) ∷ (place 2 9, 1) ∷ (place 4 21, 1) ∷ (place 7 21, 1) ∷ (place 10 5, 1) ∷ []) ≡ (Some (true, (true ∷ true ∷ false ∷ false ∷ false ∷ false ∷ true ∷ true ∷ false ∷ true ∷ true ∷ true ∷ [])) ∷ Some (true, (true ∷ true ∷ false ∷ false ∷ false ∷ false ∷ false ∷ false ∷ false ∷ false ∷ false ∷ false ∷ [])) ∷ Some (true, (false ∷ false ∷ false ∷ true ∷ false ∷ false ∷ false ∷ false ∷ false ∷ false ∷ false ∷ false ∷ [])) ∷ Some (true, (false ∷ false ∷ false ∷ false ∷ false ∷ false ∷ true ∷ false ∷ false ∷ false ∷ false ∷ false ∷ [])) ∷ Some (true, (false ∷ false ∷ false ∷ false ∷ false ∷ false ∷ false ∷ false ∷ false ∷ true ∷ false ∷ false ∷ [])) ∷ [])
unfolding is_utf8 chars encode_utf8 level
r_files_slices = refl

r_files_replays : replayed r_files_tree r_files_capture (codes "s.py") ([]) 107 (reverse r_files_run.moments) ((place 12 7, 1) ∷ (place 2 9, 1) ∷ (place 4 21, 1) ∷ (place 7 21, 1) ∷ (place 10 5, 1) ∷ []) ≡ (Some ((codes "'one" ++ (92 ∷ []) ++ codes "ntwo" ++ (92 ∷ []) ++ codes "n'"), 67) ∷ Some ((codes "'one" ++ (92 ∷ []) ++ codes "n'"), 16) ∷ Some ((codes "'w'"), 5) ∷ Some ((codes "'a'"), 5) ∷ Some ((codes "<built-in open>"), 3) ∷ [])
unfolding is_utf8 chars encode_utf8 level
r_files_replays = refl

r_files_dataflow : depends r_files_tree (reverse r_files_run.moments) (edge by_data 1 0 ∷ edge by_data 2 0 ∷ edge by_data 4 3 ∷ edge by_data 5 3 ∷ edge by_data 6 0 ∷ edge by_data 6 1 ∷ edge by_data 7 6 ∷ edge by_data 8 6 ∷ edge by_data 9 0 ∷ edge by_data 9 1 ∷ edge by_data 9 7 ∷ edge by_data 10 0 ∷ edge by_data 10 1 ∷ edge by_data 10 7 ∷ edge by_data 10 9 ∷ edge by_data 11 10 ∷ []) ≡ (true, true)
unfolding is_utf8 chars encode_utf8 level
r_files_dataflow = refl
