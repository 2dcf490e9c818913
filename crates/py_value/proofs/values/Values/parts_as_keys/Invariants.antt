use Rattle.std.proofs.Common.{take}
use Rattle.py_value.specs.Notes.{AreKnown}
use Rattle.py_value.proofs.values.Values.parts_as_keys.Given as goal

abbrev pub invariant-loop-item : goal.invariant-loop-item
invariant-loop-item l = AreKnown l.self (take l.item-index l.items) l.known
