use Rattle.std.proofs.Common.{◌+◌, ◌*◌, drop, map}
use Rattle.object_store.specs.Store.{keys_at}
use Rattle.op_compare.specs.Comparisons.{how}
use Rattle.op_lists.specs.Parts.{parts_in}
use Rattle.op_compare.proofs.ItemWalks.{left as items_left}
use Rattle.op_compare.proofs.TupleWalks.{left as parts_left}
use Rattle.op_work.specs.Turns.{Turns}
use Rattle.py_model.specs.Walks.{compare_within, compare_parts, compare_items, compare_entries}
use Rattle.py_value.specs.Contents.{contents}
use Rattle.op_compare.proofs.compare.+compare.Given as goal

abbrev pub decreases-compare_within : goal.decreases-compare_within
decreases-compare_within l = 4 * l.levels + 3

abbrev pub decreases-compare_tuples : goal.decreases-compare_tuples
decreases-compare_tuples l = 4 * l.levels + 2

abbrev pub decreases-compare_parts : goal.decreases-compare_parts
decreases-compare_parts l = 4 * l.levels + 4

abbrev pub decreases-compare_objects : goal.decreases-compare_objects
decreases-compare_objects l = 4 * l.levels + 2

abbrev pub decreases-compare_lists : goal.decreases-compare_lists
decreases-compare_lists l = 4 * l.levels + 5

abbrev pub decreases-compare_items : goal.decreases-compare_items
decreases-compare_items l = 4 * l.levels + 4

abbrev pub decreases-compare_dicts : goal.decreases-compare_dicts
decreases-compare_dicts l = 4 * l.levels + 5

abbrev pub decreases-compare_entries : goal.decreases-compare_entries
decreases-compare_entries l = 4 * l.levels + 4

abbrev pub invariant-compare_parts-loop-i : goal.invariant-compare_parts-loop-i
invariant-compare_parts-loop-i l = Turns (λ table. compare_parts (compare_within l.levels) l.ordered (parts_in table l.a) (parts_in table l.b)) (parts_left (compare_within l.levels) l.ordered l.a l.b l.i) l.initial.work l.work

abbrev pub invariant-compare_items-loop-i : goal.invariant-compare_items-loop-i
invariant-compare_items-loop-i l = Turns (λ table. compare_items (compare_within l.levels) l.ordered l.n l.o l.p 0 (how l.rest)) (λ table. items_left (compare_within l.levels) l.ordered l.n l.o l.p (how l.rest) l.i) l.initial.work l.work

abbrev pub invariant-compare_entries-loop-i : goal.invariant-compare_entries-loop-i
invariant-compare_entries-loop-i l = Turns (λ table. compare_entries (compare_within l.levels) (map (contents table) (keys_at l.fn.work.store l.o)) l.o l.p)
    (λ table. compare_entries (compare_within l.levels) (map (contents table) (drop l.i (keys_at l.fn.work.store l.o))) l.o l.p) l.initial.work l.work
