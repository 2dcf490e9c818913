use Rattle.std.proofs.Common.{◌≡◌, ◌+◌, map}
use Rattle.py_model.specs.Making.{set_items}
use Rattle.py_value.specs.Contents.{contents}
use Rattle.op_lists.proofs.Writing.{Writing, left}
use Rattle.op_lists.proofs.making.set_items.Given as goal

abbrev pub invariant-loop-item : goal.invariant-loop-item
invariant-loop-item l = Writing (λ table. set_items l.o l.first (map (contents table) l.fn.items)) (left l.o l.at l.fn.items l.item-index) l.initial.work l.work × (l.at ≡ l.first + l.item-index)
