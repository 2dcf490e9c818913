use Rattle.std.proofs.Common.{◌≡◌, ◌*◌, ◌-◌, map, length}
use Rattle.py_model.specs.Arithmetic.{repeated}
use Rattle.py_model.specs.Making.{set_items}
use Rattle.py_value.specs.Contents.{contents}
use Rattle.op_lists.proofs.Writing.{Writing}
use Rattle.op_joins.proofs.ManyTimes.{rounds}
use Rattle.op_joins.proofs.lists.set_rounds.Given as goal

abbrev pub invariant-loop : goal.invariant-loop
invariant-loop l = Writing (λ table. set_items l.o 0 (map (contents table) (repeated l.n l.items))) (rounds l.o l.at l.items (l.n - l.counter)) l.initial.work l.work × (l.at ≡ length l.items * l.counter)
