use Rattle.std.proofs.Common.{◌+◌, ◌-◌, ◌++◌}
use Rattle.op_lists.specs.ValuesSeen.{values_seen}
use Rattle.op_work.specs.Turns.{Turns}
use Rattle.py_model.specs.Walks.{read_items}
use Rattle.py_value.specs.Values.{AreNamed}
use Rattle.op_lists.proofs.items.items_from.Given as goal

abbrev pub invariant-loop-i : goal.invariant-loop-i
invariant-loop-i l =
    Turns (λ table. read_items l.n l.o l.first) (λ table go. read_items (l.n - l.i) l.o (l.first + l.i) (λ rest. go (values_seen table l.items.items ++ rest))) l.initial.work l.work
    × AreNamed l.work.values l.items.items
