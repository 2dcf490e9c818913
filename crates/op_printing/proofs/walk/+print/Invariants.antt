use Rattle.std.proofs.Common.{ℕ, List, true, ◌+◌, ◌*◌, ◌++◌, map}
use Rattle.object_store.specs.Store.{keys_at}
use Rattle.op_work.specs.Turns.{Turns}
use Rattle.py_model.specs.Plan.{Plan}
use Rattle.py_model.specs.Printing.{print_to}
use Rattle.py_value.specs.Contents.{contents}
use Rattle.op_lists.specs.Parts.{parts_in, items_at}
use Rattle.op_printing.specs.Inside.{print_row, print_keyed, print_joined}
use Rattle.op_pieces.specs.Pieces.{pieces_bytes, ArePieces}
use Rattle.op_printing.proofs.Rows.{left_of, row, parts, entries}
use Rattle.op_printing.proofs.walk.+print.Given as goal

abbrev pub decreases-print_value : goal.decreases-print_value
decreases-print_value l = 8 * l.levels + 3

abbrev pub decreases-print_inner : goal.decreases-print_inner
decreases-print_inner l = 8 * l.levels + 2

abbrev pub decreases-print_list : goal.decreases-print_list
decreases-print_list l = 8 * l.levels + 7

abbrev pub decreases-print_items : goal.decreases-print_items
decreases-print_items l = 8 * l.levels + 6

abbrev pub decreases-print_dict : goal.decreases-print_dict
decreases-print_dict l = 8 * l.levels + 7

abbrev pub decreases-print_entries : goal.decreases-print_entries
decreases-print_entries l = 8 * l.levels + 6

abbrev pub decreases-print_tuple : goal.decreases-print_tuple
decreases-print_tuple l = 8 * l.levels + 7

abbrev pub decreases-print_parts : goal.decreases-print_parts
decreases-print_parts l = 8 * l.levels + 6

abbrev pub invariant-print_items-loop-i : goal.invariant-print_items-loop-i
invariant-print_items-loop-i l =
    Turns (λ table (go : List ℕ → Plan). print_row (print_to l.levels) l.inside l.o l.n (λ bytes. go (pieces_bytes table l.fn.out.items ++ bytes)))
    (λ table. left_of (row (print_to l.levels true l.inside) l.n l.o) l.i (pieces_bytes table l.out.items)) l.initial.work l.work
    × ArePieces l.work.values l.out.items

abbrev pub invariant-print_parts-loop-i : goal.invariant-print_parts-loop-i
invariant-print_parts-loop-i l =
    Turns (λ table (go : List ℕ → Plan). print_joined (print_to l.levels) l.inside (parts_in table l.id) (λ bytes. go (pieces_bytes table l.fn.out.items ++ bytes)))
    (λ table. left_of (parts (print_to l.levels true l.inside) (contents table) (items_at table l.id)) l.i (pieces_bytes table l.out.items)) l.initial.work l.work
    × ArePieces l.work.values l.out.items

abbrev pub invariant-print_entries-loop-i : goal.invariant-print_entries-loop-i
invariant-print_entries-loop-i l =
    Turns (λ table (go : List ℕ → Plan). print_keyed (print_to l.levels) l.levels l.inside l.o (map (contents table) (keys_at l.fn.work.store l.o)) (λ bytes. go (pieces_bytes table l.fn.out.items ++ bytes)))
    (λ table. left_of (entries (print_to l.levels true l.inside) l.levels l.o (contents table) (keys_at l.fn.work.store l.o)) l.i (pieces_bytes table l.out.items)) l.initial.work l.work
    × ArePieces l.work.values l.out.items
