-- Runs of scripts, as theorems that hold by computation: their ends, steps, output and files, and all of their moments.
-- Written by tools/run_vectors.py from scripts with what is expected of them.
use Rattle.std.proofs.Common.{◌≡◌, [], ◌∷◌, ◌++◌, Some, None, codes, refl}
use Rattle.std.specs.Prelude.{pos, true, false, reverse}
use Rattle.std.specs.Str.{chars, is_utf8}
use Rattle.std.specs.Char.{encode_utf8}
use Rattle.py_tree.specs.declared.expr.Atom.TheVariants.{Int as int_atom}
use Rattle.py_tree.specs.Tree.{const_expr, var_expr, call_expr, attr_expr, end_exprs, more_exprs, var_target, one_stmt, do_form, assign_form, import_form, end_suite, more_suite, ScriptTree}
use Rattle.py_value.specs.Contents.{nothing, int, builtin}
use Rattle.py_value.specs.Seen.{var_at, var_is, reads, sets}
use Rattle.py_model.specs.Capture.{Capture, opening_in}
use Rattle.py_model.specs.Meaning.{Run, run, level, finished}
use Rattle.py_model.specs.Moment.{begins, does, ends, normal_end}
use Rattle.py_model.specs.Plan.{value, word, random_word}
use Rattle.model_runs.specs.Words.{place, no_span, silent, summary, evaluated, kept, depends, replayed}
use Rattle.slice_law.specs.Edges.{edge, by_data}

abbrev pub r_random_tree : ScriptTree
r_random_tree = record { body = (more_suite (one_stmt 0 (place 1 1) no_span (import_form (codes "random"))) (more_suite (one_stmt 1 (place 2 1) no_span (assign_form (var_target (place 2 1) (codes "a")) (call_expr (place 2 19) (attr_expr (place 2 11) (var_expr (place 2 5) (codes "random")) (codes "randint")) (more_exprs (const_expr (place 2 20) (int_atom (pos 1))) (more_exprs (const_expr (place 2 23) (int_atom (pos 6))) end_exprs))))) (more_suite (one_stmt 2 (place 3 1) no_span (assign_form (var_target (place 3 1) (codes "b")) (call_expr (place 3 19) (attr_expr (place 3 11) (var_expr (place 3 5) (codes "random")) (codes "randint")) (more_exprs (const_expr (place 3 20) (int_atom (pos 1))) (more_exprs (const_expr (place 3 23) (int_atom (pos 6))) end_exprs))))) (more_suite (one_stmt 3 (place 4 1) no_span (do_form (call_expr (place 4 6) (var_expr (place 4 1) (codes "print")) (more_exprs (var_expr (place 4 7) (codes "b")) end_exprs)))) end_suite)))); count = 4 }

abbrev pub r_random_capture : Capture
r_random_capture = record { answers = (record { at = (place 2 19); k = 1; what = word; given = (random_word 7) } ∷ record { at = (place 3 19); k = 1; what = word; given = (random_word 10) } ∷ []); files = ([]); ends = silent }

abbrev pub r_random_run : Run
r_random_run = run r_random_tree (codes "s.py") ([]) r_random_capture 1000000

r_random : summary r_random_run ≡ record { end = finished; steps = 28; output = (codes "5" ++ (10 ∷ [])); finals = ([]) }
unfolding is_utf8 chars encode_utf8 level
r_random = refl

r_random_moments : r_random_run.moments ≡
    begins 0
    ∷ does (place 1 1) 44 ([]) (value nothing) None ((sets (var_at 0 (codes "random")) (var_is (Some (builtin 24)))) ∷ []) 0
    ∷ ends 0 normal_end
    ∷ begins 1
    ∷ does (place 2 5) 1 ([]) (value (builtin 24)) None ((reads (var_at 0 (codes "random"))) ∷ []) 0
    ∷ does (place 2 11) 32 ((builtin 24) ∷ []) (value (builtin 110)) None ([]) 0
    ∷ does (place 2 20) 0 ([]) (value (int (pos 1))) None ([]) 0
    ∷ does (place 2 23) 0 ([]) (value (int (pos 6))) None ([]) 0
    ∷ does (place 2 19) 110 ((builtin 24) ∷ (int (pos 1)) ∷ (int (pos 6)) ∷ []) (value (int (pos 2))) None ([]) 0
    ∷ does (place 2 1) 33 ((int (pos 2)) ∷ []) (value nothing) None ((sets (var_at 0 (codes "a")) (var_is (Some (int (pos 2))))) ∷ []) 0
    ∷ ends 1 normal_end
    ∷ begins 2
    ∷ does (place 3 5) 1 ([]) (value (builtin 24)) None ((reads (var_at 0 (codes "random"))) ∷ []) 0
    ∷ does (place 3 11) 32 ((builtin 24) ∷ []) (value (builtin 110)) None ([]) 0
    ∷ does (place 3 20) 0 ([]) (value (int (pos 1))) None ([]) 0
    ∷ does (place 3 23) 0 ([]) (value (int (pos 6))) None ([]) 0
    ∷ does (place 3 19) 110 ((builtin 24) ∷ (int (pos 1)) ∷ (int (pos 6)) ∷ []) (value (int (pos 5))) None ([]) 0
    ∷ does (place 3 1) 33 ((int (pos 5)) ∷ []) (value nothing) None ((sets (var_at 0 (codes "b")) (var_is (Some (int (pos 5))))) ∷ []) 0
    ∷ ends 2 normal_end
    ∷ begins 3
    ∷ does (place 4 1) 1 ([]) (value (builtin 14)) None ((reads (var_at 0 (codes "print"))) ∷ []) 0
    ∷ does (place 4 7) 1 ([]) (value (int (pos 5))) None ((reads (var_at 0 (codes "b"))) ∷ []) 0
    ∷ does (place 4 6) 64 ((int (pos 5)) ∷ []) (value nothing) None ([]) 1
    ∷ ends 3 normal_end
    ∷ []
unfolding is_utf8 chars encode_utf8 level
r_random_moments = refl

r_random_values : evaluated r_random_tree (opening_in r_random_capture (codes "s.py") ([])) (reverse r_random_run.moments) ((place 4 7, 1) ∷ (place 2 5, 1) ∷ (place 2 23, 1) ∷ (place 3 20, 1) ∷ (place 3 23, 1) ∷ []) ≡ (Some ((codes "5"), 26) ∷ Some ((codes "<module random>"), 6) ∷ Some ((codes "6"), 9) ∷ Some ((codes "1"), 17) ∷ Some ((codes "6"), 18) ∷ [])
unfolding is_utf8 chars encode_utf8 level
r_random_values = refl

r_random_slices : kept r_random_tree (opening_in r_random_capture (codes "s.py") ([])) (reverse r_random_run.moments) ((place 4 7, 1) ∷ (place 2 5, 1) ∷ (place 2 23, 1) ∷ (place 3 20, 1) ∷ (place 3 23, 1) ∷ []) ≡ (Some (true, (true ∷ false ∷ true ∷ true ∷ [])) ∷ Some (true, (true ∷ true ∷ false ∷ false ∷ [])) ∷ Some (true, (true ∷ true ∷ false ∷ false ∷ [])) ∷ Some (true, (true ∷ false ∷ true ∷ false ∷ [])) ∷ Some (true, (true ∷ false ∷ true ∷ false ∷ [])) ∷ [])
unfolding is_utf8 chars encode_utf8 level
r_random_slices = refl

r_random_replays : replayed r_random_tree r_random_capture (codes "s.py") ([]) 28 (reverse r_random_run.moments) ((place 4 7, 1) ∷ (place 2 5, 1) ∷ (place 2 23, 1) ∷ (place 3 20, 1) ∷ (place 3 23, 1) ∷ []) ≡ (Some ((codes "5"), 17) ∷ Some ((codes "<module random>"), 6) ∷ Some ((codes "6"), 9) ∷ Some ((codes "1"), 8) ∷ Some ((codes "6"), 9) ∷ [])
unfolding is_utf8 chars encode_utf8 level
r_random_replays = refl

r_random_dataflow : depends r_random_tree (reverse r_random_run.moments) (edge by_data 1 0 ∷ edge by_data 2 0 ∷ edge by_data 3 2 ∷ []) ≡ (true, true)
unfolding is_utf8 chars encode_utf8 level
r_random_dataflow = refl
