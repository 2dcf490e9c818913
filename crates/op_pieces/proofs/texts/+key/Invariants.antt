use Rattle.std.proofs.Common.{◌≡◌, ◌+◌, ◌*◌, ◌==◌, ◌++◌, ℕ, List, drop, string_bytes, Ok}
use Rattle.op_pieces.specs.Counted.{Counted, keys_row}
use Rattle.op_lists.specs.Parts.{items_at}
use Rattle.spelling.specs.Spelling.{follow}
use Rattle.op_work.specs.Work.{Extends}
use Rattle.py_model.specs.Printing.{key_texts}
use Rattle.py_value.specs.Contents.{contents, parts_by}
use Rattle.py_value.specs.Values.{ValuesView}
use Rattle.op_pieces.proofs.texts.+key.Given as goal

abbrev pub decreases-put_key : goal.decreases-put_key
decreases-put_key l = 3 * l.levels

abbrev pub decreases-put_key_tuple : goal.decreases-put_key_tuple
decreases-put_key_tuple l = 3 * l.levels + 2

abbrev pub decreases-put_key_parts : goal.decreases-put_key_parts
decreases-put_key_parts l = 3 * l.levels + 1

abbrev pub invariant-put_key_parts-loop-i : goal.invariant-put_key_parts-loop-i
invariant-put_key_parts-loop-i l = (bytes : ValuesView → List ℕ) × (Counted bytes (string_bytes l.fn.text) (string_bytes l.text) l.initial.work l.work (Ok tt)
    × ((table : ValuesView) → Extends l.work.values table → bytes table ++ follow (l.i == 0) (key_texts (parts_by (contents table) (drop l.i (items_at table l.id)))) ≡ keys_row table l.id))
