-- Runs of scripts, as theorems that hold by computation: their ends, steps, output and files, and all of their moments.
-- Written by tools/run_vectors.py from scripts with what is expected of them.
use Rattle.std.proofs.Common.{◌≡◌, [], ◌∷◌, ◌++◌, Some, None, codes, refl}
use Rattle.std.specs.Prelude.{pos, true, false, reverse}
use Rattle.std.specs.Str.{chars, is_utf8}
use Rattle.std.specs.Char.{encode_utf8}
use Rattle.py_tree.specs.declared.expr.Atom.TheVariants.{Int as int_atom, Text as text_atom}
use Rattle.py_tree.specs.Tree.{const_expr, var_expr, call_expr, dict_expr, end_exprs, more_exprs, end_pairs, var_target, part_target, one_stmt, do_form, assign_form, end_suite, more_suite, ScriptTree}
use Rattle.py_value.specs.Contents.{nothing, int, text, builtin, object}
use Rattle.py_value.specs.Seen.{a_dict, var_at, entry_at, order_at, var_is, entry_is, order_is, key_inserted, reads, sets, updates}
use Rattle.py_model.specs.Capture.{Capture, opening_in}
use Rattle.py_model.specs.Meaning.{Run, run, level, finished}
use Rattle.py_model.specs.Moment.{begins, does, ends, normal_end}
use Rattle.py_model.specs.Plan.{value}
use Rattle.model_runs.specs.Words.{place, no_span, silent, summary, evaluated, kept, depends, replayed}
use Rattle.slice_law.specs.Edges.{edge, by_data}

abbrev pub r_order_tree : ScriptTree
r_order_tree = record { body = (more_suite (one_stmt 0 (place 1 1) no_span (assign_form (var_target (place 1 1) (codes "d")) (dict_expr (place 1 5) end_pairs))) (more_suite (one_stmt 1 (place 2 1) no_span (assign_form (part_target (place 2 2) (var_expr (place 2 1) (codes "d")) (const_expr (place 2 3) (text_atom (codes "x")))) (const_expr (place 2 10) (int_atom (pos 1))))) (more_suite (one_stmt 2 (place 3 1) no_span (assign_form (part_target (place 3 2) (var_expr (place 3 1) (codes "d")) (const_expr (place 3 3) (text_atom (codes "y")))) (const_expr (place 3 10) (int_atom (pos 2))))) (more_suite (one_stmt 3 (place 4 1) no_span (do_form (call_expr (place 4 6) (var_expr (place 4 1) (codes "print")) (more_exprs (var_expr (place 4 7) (codes "d")) end_exprs)))) end_suite)))); count = 4 }

abbrev pub r_order_capture : Capture
r_order_capture = record { answers = ([]); files = ([]); ends = silent }

abbrev pub r_order_run : Run
r_order_run = run r_order_tree (codes "s.py") ([]) r_order_capture 1000000

r_order : summary r_order_run ≡ record { end = finished; steps = 33; output = (codes "{'x': 1, 'y': 2}" ++ (10 ∷ [])); finals = ([]) }
unfolding is_utf8 chars encode_utf8 level
r_order = refl

r_order_moments : r_order_run.moments ≡
    begins 0
    ∷ does (place 1 5) 24 ([]) (value (object 1)) (Some a_dict) ((sets (order_at 1) (order_is ([]))) ∷ []) 0
    ∷ does (place 1 1) 33 ((object 1) ∷ []) (value nothing) None ((sets (var_at 0 (codes "d")) (var_is (Some (object 1)))) ∷ []) 0
    ∷ ends 0 normal_end
    ∷ begins 1
    ∷ does (place 2 10) 0 ([]) (value (int (pos 1))) None ([]) 0
    ∷ does (place 2 1) 1 ([]) (value (object 1)) None ((reads (var_at 0 (codes "d"))) ∷ []) 0
    ∷ does (place 2 3) 0 ([]) (value (text (codes "x"))) None ([]) 0
    ∷ does (place 2 2) 28 ((object 1) ∷ (text (codes "x")) ∷ (int (pos 1)) ∷ []) (value nothing) None ((reads (entry_at 1 (text (codes "x")))) ∷ (sets (entry_at 1 (text (codes "x"))) (entry_is (Some ((text (codes "x")), (int (pos 1)))))) ∷ (updates (order_at 1) (key_inserted (text (codes "x")))) ∷ []) 0
    ∷ ends 1 normal_end
    ∷ begins 2
    ∷ does (place 3 10) 0 ([]) (value (int (pos 2))) None ([]) 0
    ∷ does (place 3 1) 1 ([]) (value (object 1)) None ((reads (var_at 0 (codes "d"))) ∷ []) 0
    ∷ does (place 3 3) 0 ([]) (value (text (codes "y"))) None ([]) 0
    ∷ does (place 3 2) 28 ((object 1) ∷ (text (codes "y")) ∷ (int (pos 2)) ∷ []) (value nothing) None ((reads (entry_at 1 (text (codes "y")))) ∷ (sets (entry_at 1 (text (codes "y"))) (entry_is (Some ((text (codes "y")), (int (pos 2)))))) ∷ (updates (order_at 1) (key_inserted (text (codes "y")))) ∷ []) 0
    ∷ ends 2 normal_end
    ∷ begins 3
    ∷ does (place 4 1) 1 ([]) (value (builtin 14)) None ((reads (var_at 0 (codes "print"))) ∷ []) 0
    ∷ does (place 4 7) 1 ([]) (value (object 1)) None ((reads (var_at 0 (codes "d"))) ∷ []) 0
    ∷ does (place 4 6) 64 ((object 1) ∷ []) (value nothing) None ((reads (order_at 1)) ∷ (reads (entry_at 1 (text (codes "x")))) ∷ (reads (entry_at 1 (text (codes "y")))) ∷ []) 1
    ∷ ends 3 normal_end
    ∷ []
unfolding is_utf8 chars encode_utf8 level
r_order_moments = refl

r_order_values : evaluated r_order_tree (opening_in r_order_capture (codes "s.py") ([])) (reverse r_order_run.moments) ((place 4 7, 1) ∷ (place 2 10, 1) ∷ (place 2 3, 1) ∷ (place 3 10, 1) ∷ (place 4 1, 1) ∷ []) ≡ (Some ((codes "#1={'x': 1, 'y': 2}"), 28) ∷ Some ((codes "1"), 7) ∷ Some ((codes "'x'"), 10) ∷ Some ((codes "2"), 16) ∷ Some ((codes "<built-in print>"), 26) ∷ [])
unfolding is_utf8 chars encode_utf8 level
r_order_values = refl

r_order_slices : kept r_order_tree (opening_in r_order_capture (codes "s.py") ([])) (reverse r_order_run.moments) ((place 4 7, 1) ∷ (place 2 10, 1) ∷ (place 2 3, 1) ∷ (place 3 10, 1) ∷ (place 4 1, 1) ∷ []) ≡ (Some (true, (true ∷ true ∷ true ∷ true ∷ [])) ∷ Some (true, (false ∷ true ∷ false ∷ false ∷ [])) ∷ Some (true, (true ∷ true ∷ false ∷ false ∷ [])) ∷ Some (true, (false ∷ false ∷ true ∷ false ∷ [])) ∷ Some (true, (false ∷ false ∷ false ∷ true ∷ [])) ∷ [])
unfolding is_utf8 chars encode_utf8 level
r_order_slices = refl

r_order_replays : replayed r_order_tree r_order_capture (codes "s.py") ([]) 33 (reverse r_order_run.moments) ((place 4 7, 1) ∷ (place 2 10, 1) ∷ (place 2 3, 1) ∷ (place 3 10, 1) ∷ (place 4 1, 1) ∷ []) ≡ (Some ((codes "#1={'x': 1, 'y': 2}"), 28) ∷ Some ((codes "1"), 2) ∷ Some ((codes "'x'"), 10) ∷ Some ((codes "2"), 2) ∷ Some ((codes "<built-in print>"), 3) ∷ [])
unfolding is_utf8 chars encode_utf8 level
r_order_replays = refl

r_order_dataflow : depends r_order_tree (reverse r_order_run.moments) (edge by_data 1 0 ∷ edge by_data 2 0 ∷ edge by_data 3 0 ∷ edge by_data 3 1 ∷ edge by_data 3 2 ∷ []) ≡ (true, true)
unfolding is_utf8 chars encode_utf8 level
r_order_dataflow = refl
