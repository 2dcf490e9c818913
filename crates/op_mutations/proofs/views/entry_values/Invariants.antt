use Rattle.op_mutations.proofs.EntryWalks.{left}
use Rattle.op_lists.specs.ValuesSeen.{values_seen}
use Rattle.op_work.specs.Turns.{Turns}
use Rattle.py_model.specs.Dicts.{read_entries}
use Rattle.py_value.specs.Values.{AreNamed}
use Rattle.op_mutations.proofs.views.entry_values.Given as goal

abbrev pub invariant-loop-i : goal.invariant-loop-i
invariant-loop-i l = Turns (λ table. read_entries l.o (values_seen table l.keys)) (left l.o l.keys l.i l.items.items) l.initial.work l.work
    × AreNamed l.work.values l.items.items
