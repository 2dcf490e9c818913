-- Runs of scripts, as theorems that hold by computation: their ends, steps, output and files, and all of their moments.
-- Written by tools/run_vectors.py from scripts with what is expected of them.
use Rattle.std.proofs.Common.{◌≡◌, [], ◌∷◌, ◌++◌, Some, None, codes, refl}
use Rattle.std.specs.Prelude.{pos, true, false, reverse}
use Rattle.std.specs.Str.{chars, is_utf8}
use Rattle.std.specs.Char.{encode_utf8}
use Rattle.py_tree.specs.declared.expr.Atom.TheVariants.{Int as int_atom}
use Rattle.py_tree.specs.declared.expr.CmpOp.TheVariants.{Eq}
use Rattle.py_tree.specs.Tree.{const_expr, var_expr, compare_expr, call_expr, list_expr, end_exprs, more_exprs, var_target, part_target, one_stmt, do_form, assign_form, end_suite, more_suite, ScriptTree}
use Rattle.py_value.specs.Contents.{nothing, truth, int, builtin, object}
use Rattle.py_value.specs.Seen.{a_list, var_at, len_at, item_at, var_is, len_is, item_is, reads, sets}
use Rattle.py_model.specs.Capture.{Capture, opening_in}
use Rattle.py_model.specs.Meaning.{Run, run, level, finished}
use Rattle.py_model.specs.Moment.{begins, does, ends, normal_end}
use Rattle.py_model.specs.Plan.{value}
use Rattle.model_runs.specs.Words.{place, no_span, silent, summary, evaluated, kept, depends, replayed}
use Rattle.slice_law.specs.Edges.{edge, by_data}

abbrev pub r_sharing_tree : ScriptTree
r_sharing_tree = record { body = (more_suite (one_stmt 0 (place 1 1) no_span (assign_form (var_target (place 1 1) (codes "a")) (list_expr (place 1 5) (more_exprs (const_expr (place 1 6) (int_atom (pos 0))) end_exprs)))) (more_suite (one_stmt 1 (place 2 1) no_span (assign_form (part_target (place 2 2) (var_expr (place 2 1) (codes "a")) (const_expr (place 2 3) (int_atom (pos 0)))) (var_expr (place 2 8) (codes "a")))) (more_suite (one_stmt 2 (place 3 1) no_span (assign_form (var_target (place 3 1) (codes "b")) (list_expr (place 3 5) (more_exprs (list_expr (place 3 6) (more_exprs (const_expr (place 3 7) (int_atom (pos 1))) end_exprs)) (more_exprs (list_expr (place 3 11) (more_exprs (const_expr (place 3 12) (int_atom (pos 1))) end_exprs)) end_exprs))))) (more_suite (one_stmt 3 (place 4 1) no_span (assign_form (var_target (place 4 1) (codes "c")) (list_expr (place 4 5) (more_exprs (const_expr (place 4 6) (int_atom (pos 1))) end_exprs)))) (more_suite (one_stmt 4 (place 5 1) no_span (assign_form (var_target (place 5 1) (codes "d")) (list_expr (place 5 5) (more_exprs (var_expr (place 5 6) (codes "c")) (more_exprs (var_expr (place 5 9) (codes "c")) end_exprs))))) (more_suite (one_stmt 5 (place 6 1) no_span (do_form (call_expr (place 6 6) (var_expr (place 6 1) (codes "print")) (more_exprs (var_expr (place 6 7) (codes "a")) (more_exprs (compare_expr (place 6 12) Eq (var_expr (place 6 10) (codes "b")) (var_expr (place 6 15) (codes "d"))) end_exprs))))) end_suite)))))); count = 6 }

abbrev pub r_sharing_capture : Capture
r_sharing_capture = record { answers = ([]); files = ([]); ends = silent }

abbrev pub r_sharing_run : Run
r_sharing_run = run r_sharing_tree (codes "s.py") ([]) r_sharing_capture 1000000

r_sharing : summary r_sharing_run ≡ record { end = finished; steps = 77; output = (codes "[[...]] True" ++ (10 ∷ [])); finals = ([]) }
unfolding is_utf8 chars encode_utf8 level
r_sharing = refl

r_sharing_moments : r_sharing_run.moments ≡
    begins 0
    ∷ does (place 1 6) 0 ([]) (value (int (pos 0))) None ([]) 0
    ∷ does (place 1 5) 23 ((int (pos 0)) ∷ []) (value (object 1)) (Some a_list) ((sets (len_at 1) (len_is 1)) ∷ (sets (item_at 1 0) (item_is (int (pos 0)))) ∷ []) 0
    ∷ does (place 1 1) 33 ((object 1) ∷ []) (value nothing) None ((sets (var_at 0 (codes "a")) (var_is (Some (object 1)))) ∷ []) 0
    ∷ ends 0 normal_end
    ∷ begins 1
    ∷ does (place 2 8) 1 ([]) (value (object 1)) None ((reads (var_at 0 (codes "a"))) ∷ []) 0
    ∷ does (place 2 1) 1 ([]) (value (object 1)) None ((reads (var_at 0 (codes "a"))) ∷ []) 0
    ∷ does (place 2 3) 0 ([]) (value (int (pos 0))) None ([]) 0
    ∷ does (place 2 2) 28 ((object 1) ∷ (int (pos 0)) ∷ (object 1) ∷ []) (value nothing) None ((reads (len_at 1)) ∷ (sets (item_at 1 0) (item_is (object 1))) ∷ []) 0
    ∷ ends 1 normal_end
    ∷ begins 2
    ∷ does (place 3 7) 0 ([]) (value (int (pos 1))) None ([]) 0
    ∷ does (place 3 6) 23 ((int (pos 1)) ∷ []) (value (object 2)) (Some a_list) ((sets (len_at 2) (len_is 1)) ∷ (sets (item_at 2 0) (item_is (int (pos 1)))) ∷ []) 0
    ∷ does (place 3 12) 0 ([]) (value (int (pos 1))) None ([]) 0
    ∷ does (place 3 11) 23 ((int (pos 1)) ∷ []) (value (object 3)) (Some a_list) ((sets (len_at 3) (len_is 1)) ∷ (sets (item_at 3 0) (item_is (int (pos 1)))) ∷ []) 0
    ∷ does (place 3 5) 23 ((object 2) ∷ (object 3) ∷ []) (value (object 4)) (Some a_list) ((sets (len_at 4) (len_is 2)) ∷ (sets (item_at 4 0) (item_is (object 2))) ∷ (sets (item_at 4 1) (item_is (object 3))) ∷ []) 0
    ∷ does (place 3 1) 33 ((object 4) ∷ []) (value nothing) None ((sets (var_at 0 (codes "b")) (var_is (Some (object 4)))) ∷ []) 0
    ∷ ends 2 normal_end
    ∷ begins 3
    ∷ does (place 4 6) 0 ([]) (value (int (pos 1))) None ([]) 0
    ∷ does (place 4 5) 23 ((int (pos 1)) ∷ []) (value (object 5)) (Some a_list) ((sets (len_at 5) (len_is 1)) ∷ (sets (item_at 5 0) (item_is (int (pos 1)))) ∷ []) 0
    ∷ does (place 4 1) 33 ((object 5) ∷ []) (value nothing) None ((sets (var_at 0 (codes "c")) (var_is (Some (object 5)))) ∷ []) 0
    ∷ ends 3 normal_end
    ∷ begins 4
    ∷ does (place 5 6) 1 ([]) (value (object 5)) None ((reads (var_at 0 (codes "c"))) ∷ []) 0
    ∷ does (place 5 9) 1 ([]) (value (object 5)) None ((reads (var_at 0 (codes "c"))) ∷ []) 0
    ∷ does (place 5 5) 23 ((object 5) ∷ (object 5) ∷ []) (value (object 6)) (Some a_list) ((sets (len_at 6) (len_is 2)) ∷ (sets (item_at 6 0) (item_is (object 5))) ∷ (sets (item_at 6 1) (item_is (object 5))) ∷ []) 0
    ∷ does (place 5 1) 33 ((object 6) ∷ []) (value nothing) None ((sets (var_at 0 (codes "d")) (var_is (Some (object 6)))) ∷ []) 0
    ∷ ends 4 normal_end
    ∷ begins 5
    ∷ does (place 6 1) 1 ([]) (value (builtin 14)) None ((reads (var_at 0 (codes "print"))) ∷ []) 0
    ∷ does (place 6 7) 1 ([]) (value (object 1)) None ((reads (var_at 0 (codes "a"))) ∷ []) 0
    ∷ does (place 6 10) 1 ([]) (value (object 4)) None ((reads (var_at 0 (codes "b"))) ∷ []) 0
    ∷ does (place 6 15) 1 ([]) (value (object 6)) None ((reads (var_at 0 (codes "d"))) ∷ []) 0
    ∷ does (place 6 12) 12 ((object 4) ∷ (object 6) ∷ []) (value (truth true)) None ((reads (len_at 4)) ∷ (reads (len_at 6)) ∷ (reads (item_at 4 0)) ∷ (reads (item_at 6 0)) ∷ (reads (len_at 2)) ∷ (reads (len_at 5)) ∷ (reads (item_at 2 0)) ∷ (reads (item_at 5 0)) ∷ (reads (item_at 4 1)) ∷ (reads (item_at 6 1)) ∷ (reads (len_at 3)) ∷ (reads (len_at 5)) ∷ (reads (item_at 3 0)) ∷ (reads (item_at 5 0)) ∷ []) 0
    ∷ does (place 6 6) 64 ((object 1) ∷ (truth true) ∷ []) (value nothing) None ((reads (len_at 1)) ∷ (reads (item_at 1 0)) ∷ []) 1
    ∷ ends 5 normal_end
    ∷ []
unfolding is_utf8 chars encode_utf8 level
r_sharing_moments = refl

r_sharing_values : evaluated r_sharing_tree (opening_in r_sharing_capture (codes "s.py") ([])) (reverse r_sharing_run.moments) ((place 6 7, 1) ∷ (place 6 10, 1) ∷ (place 6 15, 1) ∷ (place 2 8, 1) ∷ (place 3 6, 1) ∷ []) ≡ (Some ((codes "#1=[#1]"), 54) ∷ Some ((codes "#1=[#2=[1], #3=[1]]"), 56) ∷ Some ((codes "#1=[#2=[1], #2]"), 58) ∷ Some ((codes "#1=[0]"), 10) ∷ Some ((codes "#1=[1]"), 21) ∷ [])
unfolding is_utf8 chars encode_utf8 level
r_sharing_values = refl

r_sharing_slices : kept r_sharing_tree (opening_in r_sharing_capture (codes "s.py") ([])) (reverse r_sharing_run.moments) ((place 6 7, 1) ∷ (place 6 10, 1) ∷ (place 6 15, 1) ∷ (place 2 8, 1) ∷ (place 3 6, 1) ∷ []) ≡ (Some (true, (true ∷ true ∷ false ∷ false ∷ false ∷ true ∷ [])) ∷ Some (true, (true ∷ false ∷ true ∷ false ∷ false ∷ true ∷ [])) ∷ Some (true, (true ∷ false ∷ true ∷ true ∷ true ∷ true ∷ [])) ∷ Some (true, (true ∷ true ∷ false ∷ false ∷ false ∷ false ∷ [])) ∷ Some (true, (false ∷ false ∷ true ∷ false ∷ false ∷ false ∷ [])) ∷ [])
unfolding is_utf8 chars encode_utf8 level
r_sharing_slices = refl

r_sharing_replays : replayed r_sharing_tree r_sharing_capture (codes "s.py") ([]) 77 (reverse r_sharing_run.moments) ((place 6 7, 1) ∷ (place 6 10, 1) ∷ (place 6 15, 1) ∷ (place 2 8, 1) ∷ (place 3 6, 1) ∷ []) ≡ (Some ((codes "#1=[#1]"), 21) ∷ Some ((codes "#1=[#2=[1], #3=[1]]"), 29) ∷ Some ((codes "#1=[#2=[1], #2]"), 49) ∷ Some ((codes "#1=[0]"), 10) ∷ Some ((codes "#1=[1]"), 5) ∷ [])
unfolding is_utf8 chars encode_utf8 level
r_sharing_replays = refl

r_sharing_dataflow : depends r_sharing_tree (reverse r_sharing_run.moments) (edge by_data 1 0 ∷ edge by_data 4 3 ∷ edge by_data 5 0 ∷ edge by_data 5 1 ∷ edge by_data 5 2 ∷ edge by_data 5 3 ∷ edge by_data 5 4 ∷ []) ≡ (true, true)
unfolding is_utf8 chars encode_utf8 level
r_sharing_dataflow = refl
