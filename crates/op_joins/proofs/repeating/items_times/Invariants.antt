use Rattle.std.proofs.Common.{◌≡◌}
use Rattle.py_model.specs.Arithmetic.{repeated}
use Rattle.op_joins.proofs.repeating.items_times.Given as goal

abbrev pub invariant-loop : goal.invariant-loop
invariant-loop l = l.made.items ≡ repeated l.counter l.items
