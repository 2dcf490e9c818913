use Rattle.std.proofs.Common.{◌≡◌, string_bytes}
use Rattle.py_model.specs.Arithmetic.{repeated}
use Rattle.op_joins.proofs.repeating.text_times.Given as goal

abbrev pub invariant-loop : goal.invariant-loop
invariant-loop l = string_bytes l.made ≡ repeated l.counter l.text
