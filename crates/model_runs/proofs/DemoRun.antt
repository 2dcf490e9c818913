-- Runs of scripts, as theorems that hold by computation: their ends, steps, output and files, and all of their moments.
-- Written by tools/run_vectors.py from scripts with what is expected of them.
use Rattle.std.proofs.Common.{◌≡◌, [], ◌∷◌, ◌++◌, Some, None, codes, refl}
use Rattle.std.specs.Prelude.{pos, true, false, reverse}
use Rattle.std.specs.Str.{chars, is_utf8}
use Rattle.std.specs.Char.{encode_utf8}
use Rattle.py_tree.specs.declared.expr.Atom.TheVariants.{Int as int_atom}
use Rattle.py_tree.specs.Tree.{const_expr, var_expr, call_expr, attr_expr, part_expr, list_expr, end_exprs, more_exprs, var_target, one_stmt, do_form, assign_form, end_suite, more_suite, ScriptTree}
use Rattle.py_value.specs.Contents.{nothing, int, builtin, object}
use Rattle.py_value.specs.Seen.{a_list, var_at, len_at, item_at, var_is, len_is, item_is, reads, sets}
use Rattle.py_model.specs.Capture.{Capture, opening_in}
use Rattle.py_model.specs.Meaning.{Run, run, level, finished}
use Rattle.py_model.specs.Moment.{begins, does, ends, normal_end}
use Rattle.py_model.specs.Plan.{value}
use Rattle.model_runs.specs.Words.{place, no_span, silent, summary, evaluated, kept, depends, replayed}
use Rattle.slice_law.specs.Edges.{edge, by_data}

abbrev pub r_demo_tree : ScriptTree
r_demo_tree = record { body = (more_suite (one_stmt 0 (place 1 1) no_span (assign_form (var_target (place 1 1) (codes "a")) (list_expr (place 1 5) (more_exprs (const_expr (place 1 6) (int_atom (pos 0))) (more_exprs (const_expr (place 1 9) (int_atom (pos 0))) (more_exprs (const_expr (place 1 12) (int_atom (pos 0))) (more_exprs (const_expr (place 1 15) (int_atom (pos 0))) end_exprs))))))) (more_suite (one_stmt 1 (place 2 1) no_span (assign_form (var_target (place 2 1) (codes "b")) (var_expr (place 2 5) (codes "a")))) (more_suite (one_stmt 2 (place 3 1) no_span (assign_form (var_target (place 3 1) (codes "n")) (list_expr (place 3 5) end_exprs))) (more_suite (one_stmt 3 (place 4 1) no_span (assign_form (var_target (place 4 1) (codes "n")) (list_expr (place 4 5) (more_exprs (const_expr (place 4 6) (int_atom (pos 2))) end_exprs)))) (more_suite (one_stmt 4 (place 5 1) no_span (do_form (call_expr (place 5 9) (attr_expr (place 5 2) (var_expr (place 5 1) (codes "n")) (codes "append")) (more_exprs (const_expr (place 5 10) (int_atom (pos 4))) end_exprs)))) (more_suite (one_stmt 5 (place 6 1) no_span (do_form (call_expr (place 6 6) (var_expr (place 6 1) (codes "print")) (more_exprs (part_expr (place 6 8) (var_expr (place 6 7) (codes "a")) (const_expr (place 6 9) (int_atom (pos 0)))) end_exprs)))) end_suite)))))); count = 6 }

abbrev pub r_demo_capture : Capture
r_demo_capture = record { answers = ([]); files = ([]); ends = silent }

abbrev pub r_demo_run : Run
r_demo_run = run r_demo_tree (codes "s.py") ([]) r_demo_capture 1000000

r_demo : summary r_demo_run ≡ record { end = finished; steps = 50; output = (codes "0" ++ (10 ∷ [])); finals = ([]) }
unfolding is_utf8 chars encode_utf8 level
r_demo = refl

r_demo_moments : r_demo_run.moments ≡
    begins 0
    ∷ does (place 1 6) 0 ([]) (value (int (pos 0))) None ([]) 0
    ∷ does (place 1 9) 0 ([]) (value (int (pos 0))) None ([]) 0
    ∷ does (place 1 12) 0 ([]) (value (int (pos 0))) None ([]) 0
    ∷ does (place 1 15) 0 ([]) (value (int (pos 0))) None ([]) 0
    ∷ does (place 1 5) 23 ((int (pos 0)) ∷ (int (pos 0)) ∷ (int (pos 0)) ∷ (int (pos 0)) ∷ []) (value (object 1)) (Some a_list) ((sets (len_at 1) (len_is 4)) ∷ (sets (item_at 1 0) (item_is (int (pos 0)))) ∷ (sets (item_at 1 1) (item_is (int (pos 0)))) ∷ (sets (item_at 1 2) (item_is (int (pos 0)))) ∷ (sets (item_at 1 3) (item_is (int (pos 0)))) ∷ []) 0
    ∷ does (place 1 1) 33 ((object 1) ∷ []) (value nothing) None ((sets (var_at 0 (codes "a")) (var_is (Some (object 1)))) ∷ []) 0
    ∷ ends 0 normal_end
    ∷ begins 1
    ∷ does (place 2 5) 1 ([]) (value (object 1)) None ((reads (var_at 0 (codes "a"))) ∷ []) 0
    ∷ does (place 2 1) 33 ((object 1) ∷ []) (value nothing) None ((sets (var_at 0 (codes "b")) (var_is (Some (object 1)))) ∷ []) 0
    ∷ ends 1 normal_end
    ∷ begins 2
    ∷ does (place 3 5) 23 ([]) (value (object 2)) (Some a_list) ((sets (len_at 2) (len_is 0)) ∷ []) 0
    ∷ does (place 3 1) 33 ((object 2) ∷ []) (value nothing) None ((sets (var_at 0 (codes "n")) (var_is (Some (object 2)))) ∷ []) 0
    ∷ ends 2 normal_end
    ∷ begins 3
    ∷ does (place 4 6) 0 ([]) (value (int (pos 2))) None ([]) 0
    ∷ does (place 4 5) 23 ((int (pos 2)) ∷ []) (value (object 3)) (Some a_list) ((sets (len_at 3) (len_is 1)) ∷ (sets (item_at 3 0) (item_is (int (pos 2)))) ∷ []) 0
    ∷ does (place 4 1) 33 ((object 3) ∷ []) (value nothing) None ((sets (var_at 0 (codes "n")) (var_is (Some (object 3)))) ∷ []) 0
    ∷ ends 3 normal_end
    ∷ begins 4
    ∷ does (place 5 1) 1 ([]) (value (object 3)) None ((reads (var_at 0 (codes "n"))) ∷ []) 0
    ∷ does (place 5 2) 32 ((object 3) ∷ []) (value (builtin 80)) None ([]) 0
    ∷ does (place 5 10) 0 ([]) (value (int (pos 4))) None ([]) 0
    ∷ does (place 5 9) 80 ((object 3) ∷ (int (pos 4)) ∷ []) (value nothing) None ((reads (len_at 3)) ∷ (sets (item_at 3 1) (item_is (int (pos 4)))) ∷ (sets (len_at 3) (len_is 2)) ∷ []) 0
    ∷ ends 4 normal_end
    ∷ begins 5
    ∷ does (place 6 1) 1 ([]) (value (builtin 14)) None ((reads (var_at 0 (codes "print"))) ∷ []) 0
    ∷ does (place 6 7) 1 ([]) (value (object 1)) None ((reads (var_at 0 (codes "a"))) ∷ []) 0
    ∷ does (place 6 9) 0 ([]) (value (int (pos 0))) None ([]) 0
    ∷ does (place 6 8) 26 ((object 1) ∷ (int (pos 0)) ∷ []) (value (int (pos 0))) None ((reads (len_at 1)) ∷ (reads (item_at 1 0)) ∷ []) 0
    ∷ does (place 6 6) 64 ((int (pos 0)) ∷ []) (value nothing) None ([]) 1
    ∷ ends 5 normal_end
    ∷ []
unfolding is_utf8 chars encode_utf8 level
r_demo_moments = refl

r_demo_values : evaluated r_demo_tree (opening_in r_demo_capture (codes "s.py") ([])) (reverse r_demo_run.moments) ((place 6 8, 1) ∷ (place 1 6, 1) ∷ (place 1 5, 1) ∷ (place 4 6, 1) ∷ (place 5 10, 1) ∷ []) ≡ (Some ((codes "0"), 48) ∷ Some ((codes "0"), 2) ∷ Some ((codes "#1=[0, 0, 0, 0]"), 11) ∷ Some ((codes "2"), 25) ∷ Some ((codes "4"), 35) ∷ [])
unfolding is_utf8 chars encode_utf8 level
r_demo_values = refl

r_demo_slices : kept r_demo_tree (opening_in r_demo_capture (codes "s.py") ([])) (reverse r_demo_run.moments) ((place 6 8, 1) ∷ (place 1 6, 1) ∷ (place 1 5, 1) ∷ (place 4 6, 1) ∷ (place 5 10, 1) ∷ []) ≡ (Some (true, (true ∷ false ∷ false ∷ false ∷ false ∷ true ∷ [])) ∷ Some (true, (true ∷ false ∷ false ∷ false ∷ false ∷ false ∷ [])) ∷ Some (true, (true ∷ false ∷ false ∷ false ∷ false ∷ false ∷ [])) ∷ Some (true, (false ∷ false ∷ false ∷ true ∷ false ∷ false ∷ [])) ∷ Some (true, (false ∷ false ∷ false ∷ true ∷ true ∷ false ∷ [])) ∷ [])
unfolding is_utf8 chars encode_utf8 level
r_demo_slices = refl

r_demo_replays : replayed r_demo_tree r_demo_capture (codes "s.py") ([]) 50 (reverse r_demo_run.moments) ((place 6 8, 1) ∷ (place 1 6, 1) ∷ (place 1 5, 1) ∷ (place 4 6, 1) ∷ (place 5 10, 1) ∷ []) ≡ (Some ((codes "0"), 22) ∷ Some ((codes "0"), 2) ∷ Some ((codes "#1=[0, 0, 0, 0]"), 11) ∷ Some ((codes "2"), 2) ∷ Some ((codes "4"), 12) ∷ [])
unfolding is_utf8 chars encode_utf8 level
r_demo_replays = refl

r_demo_dataflow : depends r_demo_tree (reverse r_demo_run.moments) (edge by_data 1 0 ∷ edge by_data 4 3 ∷ edge by_data 5 0 ∷ []) ≡ (true, true)
unfolding is_utf8 chars encode_utf8 level
r_demo_dataflow = refl
