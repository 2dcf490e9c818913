-- Runs of scripts, as theorems that hold by computation: their ends, steps, output and files, and all of their moments.
-- Written by tools/run_vectors.py from scripts with what is expected of them.
use Rattle.std.proofs.Common.{◌≡◌, [], ◌∷◌, Some, None, codes, refl}
use Rattle.std.specs.Prelude.{pos, true, false, reverse}
use Rattle.std.specs.Str.{chars, is_utf8}
use Rattle.std.specs.Char.{encode_utf8}
use Rattle.py_tree.specs.declared.expr.Atom.TheVariants.{Int as int_atom, Text as text_atom}
use Rattle.py_tree.specs.Tree.{const_expr, var_expr, part_expr, dict_expr, end_pairs, var_target, part_target, one_stmt, assign_form, end_suite, more_suite, ScriptTree}
use Rattle.py_value.specs.Contents.{nothing, int, text, object}
use Rattle.py_value.specs.Seen.{a_dict, var_at, entry_at, order_at, var_is, entry_is, order_is, key_inserted, reads, sets, updates}
use Rattle.py_model.specs.Capture.{Capture, opening_in}
use Rattle.py_model.specs.Meaning.{Run, run, level, finished}
use Rattle.py_model.specs.Moment.{begins, does, ends, normal_end}
use Rattle.py_model.specs.Plan.{value}
use Rattle.model_runs.specs.Words.{place, no_span, silent, summary, evaluated, kept, depends, replayed}
use Rattle.slice_law.specs.Edges.{edge, by_data}

abbrev pub r_dict_tree : ScriptTree
r_dict_tree = record { body = (more_suite (one_stmt 0 (place 1 1) no_span (assign_form (var_target (place 1 1) (codes "d")) (dict_expr (place 1 5) end_pairs))) (more_suite (one_stmt 1 (place 2 1) no_span (assign_form (part_target (place 2 2) (var_expr (place 2 1) (codes "d")) (const_expr (place 2 3) (text_atom (codes "x")))) (const_expr (place 2 10) (int_atom (pos 1))))) (more_suite (one_stmt 2 (place 3 1) no_span (assign_form (part_target (place 3 2) (var_expr (place 3 1) (codes "d")) (const_expr (place 3 3) (text_atom (codes "y")))) (const_expr (place 3 10) (int_atom (pos 2))))) (more_suite (one_stmt 3 (place 4 1) no_span (assign_form (var_target (place 4 1) (codes "z")) (part_expr (place 4 6) (var_expr (place 4 5) (codes "d")) (const_expr (place 4 7) (text_atom (codes "x")))))) end_suite)))); count = 4 }

abbrev pub r_dict_capture : Capture
r_dict_capture = record { answers = ([]); files = ([]); ends = silent }

abbrev pub r_dict_run : Run
r_dict_run = run r_dict_tree (codes "s.py") ([]) r_dict_capture 1000000

r_dict : summary r_dict_run ≡ record { end = finished; steps = 31; output = []; finals = ([]) }
unfolding is_utf8 chars encode_utf8 level
r_dict = refl

r_dict_moments : r_dict_run.moments ≡
    begins 0
    ∷ does (place 1 5) 24 ([]) (value (object 1)) (Some a_dict) ((sets (order_at 1) (order_is ([]))) ∷ []) 0
    ∷ does (place 1 1) 33 ((object 1) ∷ []) (value nothing) None ((sets (var_at 0 (codes "d")) (var_is (Some (object 1)))) ∷ []) 0
    ∷ ends 0 normal_end
    ∷ begins 1
    ∷ does (place 2 10) 0 ([]) (value (int (pos 1))) None ([]) 0
    ∷ does (place 2 1) 1 ([]) (value (object 1)) None ((reads (var_at 0 (codes "d"))) ∷ []) 0
    ∷ does (place 2 3) 0 ([]) (value (text (codes "x"))) None ([]) 0
    ∷ does (place 2 2) 28 ((object 1) ∷ (text (codes "x")) ∷ (int (pos 1)) ∷ []) (value nothing) None ((reads (entry_at 1 (text (codes "x")))) ∷ (sets (entry_at 1 (text (codes "x"))) (entry_is (Some ((text (codes "x")), (int (pos 1)))))) ∷ (updates (order_at 1) (key_inserted (text (codes "x")))) ∷ []) 0
    ∷ ends 1 normal_end
    ∷ begins 2
    ∷ does (place 3 10) 0 ([]) (value (int (pos 2))) None ([]) 0
    ∷ does (place 3 1) 1 ([]) (value (object 1)) None ((reads (var_at 0 (codes "d"))) ∷ []) 0
    ∷ does (place 3 3) 0 ([]) (value (text (codes "y"))) None ([]) 0
    ∷ does (place 3 2) 28 ((object 1) ∷ (text (codes "y")) ∷ (int (pos 2)) ∷ []) (value nothing) None ((reads (entry_at 1 (text (codes "y")))) ∷ (sets (entry_at 1 (text (codes "y"))) (entry_is (Some ((text (codes "y")), (int (pos 2)))))) ∷ (updates (order_at 1) (key_inserted (text (codes "y")))) ∷ []) 0
    ∷ ends 2 normal_end
    ∷ begins 3
    ∷ does (place 4 5) 1 ([]) (value (object 1)) None ((reads (var_at 0 (codes "d"))) ∷ []) 0
    ∷ does (place 4 7) 0 ([]) (value (text (codes "x"))) None ([]) 0
    ∷ does (place 4 6) 26 ((object 1) ∷ (text (codes "x")) ∷ []) (value (int (pos 1))) None ((reads (entry_at 1 (text (codes "x")))) ∷ []) 0
    ∷ does (place 4 1) 33 ((int (pos 1)) ∷ []) (value nothing) None ((sets (var_at 0 (codes "z")) (var_is (Some (int (pos 1))))) ∷ []) 0
    ∷ ends 3 normal_end
    ∷ []
unfolding is_utf8 chars encode_utf8 level
r_dict_moments = refl

r_dict_values : evaluated r_dict_tree (opening_in r_dict_capture (codes "s.py") ([])) (reverse r_dict_run.moments) ((place 4 6, 1) ∷ (place 2 10, 1) ∷ (place 2 1, 1) ∷ (place 3 10, 1) ∷ (place 3 3, 1) ∷ []) ≡ (Some ((codes "1"), 29) ∷ Some ((codes "1"), 7) ∷ Some ((codes "#1={}"), 9) ∷ Some ((codes "2"), 16) ∷ Some ((codes "'y'"), 19) ∷ [])
unfolding is_utf8 chars encode_utf8 level
r_dict_values = refl

r_dict_slices : kept r_dict_tree (opening_in r_dict_capture (codes "s.py") ([])) (reverse r_dict_run.moments) ((place 4 6, 1) ∷ (place 2 10, 1) ∷ (place 2 1, 1) ∷ (place 3 10, 1) ∷ (place 3 3, 1) ∷ []) ≡ (Some (true, (true ∷ true ∷ false ∷ true ∷ [])) ∷ Some (true, (false ∷ true ∷ false ∷ false ∷ [])) ∷ Some (true, (true ∷ true ∷ false ∷ false ∷ [])) ∷ Some (true, (false ∷ false ∷ true ∷ false ∷ [])) ∷ Some (true, (true ∷ false ∷ true ∷ false ∷ [])) ∷ [])
unfolding is_utf8 chars encode_utf8 level
r_dict_slices = refl

r_dict_replays : replayed r_dict_tree r_dict_capture (codes "s.py") ([]) 31 (reverse r_dict_run.moments) ((place 4 6, 1) ∷ (place 2 10, 1) ∷ (place 2 1, 1) ∷ (place 3 10, 1) ∷ (place 3 3, 1) ∷ []) ≡ (Some ((codes "1"), 20) ∷ Some ((codes "1"), 2) ∷ Some ((codes "#1={}"), 9) ∷ Some ((codes "2"), 2) ∷ Some ((codes "'y'"), 10) ∷ [])
unfolding is_utf8 chars encode_utf8 level
r_dict_replays = refl

r_dict_dataflow : depends r_dict_tree (reverse r_dict_run.moments) (edge by_data 1 0 ∷ edge by_data 2 0 ∷ edge by_data 3 0 ∷ edge by_data 3 1 ∷ []) ≡ (true, true)
unfolding is_utf8 chars encode_utf8 level
r_dict_dataflow = refl
