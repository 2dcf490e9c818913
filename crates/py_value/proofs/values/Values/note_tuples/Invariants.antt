use Rattle.std.proofs.Common.{◌≡◌}
use Rattle.py_value.proofs.values.Values.note_tuples.Given as goal

abbrev pub invariant-loop : goal.invariant-loop
invariant-loop l = l.self ≡ l.fn.self
