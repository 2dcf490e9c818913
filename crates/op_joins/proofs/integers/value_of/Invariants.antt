use Rattle.std.proofs.Common.{◌≡◌, ◌<◌, ◌^◌, drop}
use Rattle.py_model.specs.Texts.{digits_value}
use Rattle.op_joins.proofs.integers.value_of.Given as goal

abbrev pub invariant-loop-digit : goal.invariant-loop-digit
invariant-loop-digit l = (digits_value l.n (drop l.digit-index l.digits) ≡ digits_value 0 l.digits) × (l.n < 2 ^ 64)
