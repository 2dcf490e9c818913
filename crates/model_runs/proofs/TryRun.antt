-- Runs of scripts, as theorems that hold by computation: their ends, steps, output and files, and all of their moments.
-- Written by tools/run_vectors.py from scripts with what is expected of them.
use Rattle.std.proofs.Common.{◌≡◌, [], ◌∷◌, ◌++◌, Some, None, codes, refl}
use Rattle.std.specs.Prelude.{pos, true, false, reverse}
use Rattle.std.specs.Str.{chars, is_utf8}
use Rattle.std.specs.Char.{encode_utf8}
use Rattle.py_tree.specs.declared.expr.Atom.TheVariants.{Int as int_atom, Text as text_atom}
use Rattle.py_tree.specs.Tree.{const_expr, var_expr, call_expr, end_exprs, more_exprs, var_target, one_stmt, do_form, assign_form, try_form, end_suite, more_suite, end_handlers, more_handlers, ScriptTree}
use Rattle.py_value.specs.Contents.{nothing, truth, int, text, tuple, exception_class, builtin, object, no_parts, part}
use Rattle.py_value.specs.Seen.{an_instance, var_at, entry_at, order_at, var_is, entry_is, order_is, reads, sets}
use Rattle.py_model.specs.Capture.{Capture, opening_in}
use Rattle.py_model.specs.Meaning.{Run, run, level, finished}
use Rattle.py_model.specs.Moment.{begins, does, ends, normal_end, raise_end}
use Rattle.py_model.specs.Plan.{value, raised}
use Rattle.model_runs.specs.Words.{place, no_span, silent, summary, evaluated, kept, depends, replayed}
use Rattle.slice_law.specs.Edges.{edge, by_data, by_control, by_jump}

abbrev pub r_try_tree : ScriptTree
r_try_tree = record { body = (more_suite (one_stmt 0 (place 1 1) no_span (assign_form (var_target (place 1 1) (codes "a")) (const_expr (place 1 5) (int_atom (pos 5))))) (more_suite (one_stmt 1 (place 2 1) no_span (try_form (more_suite (one_stmt 2 (place 3 5) no_span (assign_form (var_target (place 3 5) (codes "b")) (call_expr (place 3 12) (var_expr (place 3 9) (codes "int")) (more_exprs (const_expr (place 3 13) (text_atom (codes "x"))) end_exprs)))) end_suite) (more_handlers (Some (var_expr (place 4 8) (codes "ValueError"))) None (more_suite (one_stmt 3 (place 5 5) no_span (assign_form (var_target (place 5 5) (codes "b")) (const_expr (place 5 9) (int_atom (pos 0))))) end_suite) end_handlers))) (more_suite (one_stmt 4 (place 6 1) no_span (do_form (call_expr (place 6 6) (var_expr (place 6 1) (codes "print")) (more_exprs (var_expr (place 6 7) (codes "a")) end_exprs)))) end_suite))); count = 5 }

abbrev pub r_try_capture : Capture
r_try_capture = record { answers = ([]); files = ([]); ends = silent }

abbrev pub r_try_run : Run
r_try_run = run r_try_tree (codes "s.py") ([]) r_try_capture 1000000

r_try : summary r_try_run ≡ record { end = finished; steps = 26; output = (codes "5" ++ (10 ∷ [])); finals = ([]) }
unfolding is_utf8 chars encode_utf8 level
r_try = refl

r_try_moments : r_try_run.moments ≡
    begins 0
    ∷ does (place 1 5) 0 ([]) (value (int (pos 5))) None ([]) 0
    ∷ does (place 1 1) 33 ((int (pos 5)) ∷ []) (value nothing) None ((sets (var_at 0 (codes "a")) (var_is (Some (int (pos 5))))) ∷ []) 0
    ∷ ends 0 normal_end
    ∷ begins 1
    ∷ begins 2
    ∷ does (place 3 9) 1 ([]) (value (builtin 6)) None ((reads (var_at 0 (codes "int"))) ∷ []) 0
    ∷ does (place 3 13) 0 ([]) (value (text (codes "x"))) None ([]) 0
    ∷ does (place 3 12) 56 ((text (codes "x")) ∷ []) (raised 1) (Some (an_instance (exception_class 10))) ((sets (order_at 1) (order_is ((text (codes "args")) ∷ []))) ∷ (sets (entry_at 1 (text (codes "args"))) (entry_is (Some ((text (codes "args")), (tuple (part (text (codes "not an integer")) no_parts)))))) ∷ []) 0
    ∷ ends 2 raise_end
    ∷ does (place 4 8) 1 ([]) (value (exception_class 10)) None ((reads (var_at 0 (codes "ValueError"))) ∷ []) 0
    ∷ does (place 2 1) 41 ((object 1) ∷ (exception_class 10) ∷ []) (value (truth true)) None ([]) 0
    ∷ begins 3
    ∷ does (place 5 9) 0 ([]) (value (int (pos 0))) None ([]) 0
    ∷ does (place 5 5) 33 ((int (pos 0)) ∷ []) (value nothing) None ((sets (var_at 0 (codes "b")) (var_is (Some (int (pos 0))))) ∷ []) 0
    ∷ ends 3 normal_end
    ∷ ends 1 normal_end
    ∷ begins 4
    ∷ does (place 6 1) 1 ([]) (value (builtin 14)) None ((reads (var_at 0 (codes "print"))) ∷ []) 0
    ∷ does (place 6 7) 1 ([]) (value (int (pos 5))) None ((reads (var_at 0 (codes "a"))) ∷ []) 0
    ∷ does (place 6 6) 64 ((int (pos 5)) ∷ []) (value nothing) None ([]) 1
    ∷ ends 4 normal_end
    ∷ []
unfolding is_utf8 chars encode_utf8 level
r_try_moments = refl

r_try_values : evaluated r_try_tree (opening_in r_try_capture (codes "s.py") ([])) (reverse r_try_run.moments) ((place 6 7, 1) ∷ (place 1 5, 1) ∷ (place 3 9, 1) ∷ (place 4 8, 1) ∷ (place 5 9, 1) ∷ []) ≡ (Some ((codes "5"), 24) ∷ Some ((codes "5"), 2) ∷ Some ((codes "<built-in int>"), 8) ∷ Some ((codes "<class ValueError>"), 14) ∷ Some ((codes "0"), 17) ∷ [])
unfolding is_utf8 chars encode_utf8 level
r_try_values = refl

r_try_slices : kept r_try_tree (opening_in r_try_capture (codes "s.py") ([])) (reverse r_try_run.moments) ((place 6 7, 1) ∷ (place 1 5, 1) ∷ (place 3 9, 1) ∷ (place 4 8, 1) ∷ (place 5 9, 1) ∷ []) ≡ (Some (true, (true ∷ false ∷ false ∷ false ∷ true ∷ [])) ∷ Some (true, (true ∷ false ∷ false ∷ false ∷ false ∷ [])) ∷ Some (true, (false ∷ true ∷ true ∷ false ∷ false ∷ [])) ∷ Some (true, (false ∷ true ∷ true ∷ false ∷ false ∷ [])) ∷ Some (true, (false ∷ true ∷ true ∷ true ∷ false ∷ [])) ∷ [])
unfolding is_utf8 chars encode_utf8 level
r_try_slices = refl

r_try_replays : replayed r_try_tree r_try_capture (codes "s.py") ([]) 26 (reverse r_try_run.moments) ((place 6 7, 1) ∷ (place 1 5, 1) ∷ (place 3 9, 1) ∷ (place 4 8, 1) ∷ (place 5 9, 1) ∷ []) ≡ (Some ((codes "5"), 9) ∷ Some ((codes "5"), 2) ∷ Some ((codes "<built-in int>"), 4) ∷ Some ((codes "<class ValueError>"), 10) ∷ Some ((codes "0"), 13) ∷ [])
unfolding is_utf8 chars encode_utf8 level
r_try_replays = refl

r_try_dataflow : depends r_try_tree (reverse r_try_run.moments) (edge by_jump 1 2 ∷ edge by_control 2 1 ∷ edge by_control 3 1 ∷ edge by_data 4 0 ∷ []) ≡ (true, true)
unfolding is_utf8 chars encode_utf8 level
r_try_dataflow = refl
