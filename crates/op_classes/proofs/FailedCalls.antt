-- Calls that fail as plans.
use Rattle.std.proofs.Common.{◌≡◌, refl, ap, arith, ◌<◌, ℕ, zero, suc, pos, negsuc, codes}
use Rattle.py_model.specs.Faults.{fault, wrong_number, too_deep}
use Rattle.py_model.specs.Plan.{Plan}
use Rattle.py_model.specs.Raising.{call_failed}
use Rattle.py_value.specs.Contents.{contents}
use Rattle.py_value.specs.Values.{ValuesView}
use Rattle.py_value.specs.declared.value.Value.{Value}
use Rattle.py_value.specs.declared.value.Value.TheVariants.{None as NoneValue, Bool as TruthValue, Int, Text, Tuple, Range, Fn, Class, Exc, Builtin, Object}
use Rattle.py_model.proofs.Tuples.{some_tuple}
use Rattle.op_classes.specs.Kinds.{failed_call}

abbrev pub by_reason : ℕ → Plan
by_reason zero = fault 9 (codes "not callable")
by_reason (suc zero) = wrong_number
by_reason (suc (suc n)) = too_deep

pub reason_is : (table : ValuesView) (v : Value) → call_failed (contents table v) ≡ by_reason (failed_call v)
reason_is table (Int (pos zero)) = refl
reason_is table (Int (pos (suc zero))) = refl
reason_is table (Int (pos (suc (suc n)))) = refl
reason_is table (Int (negsuc n)) = refl
reason_is table NoneValue = refl
reason_is table (TruthValue b) = refl
reason_is table (Text id) = refl
reason_is table (Tuple id) = ap call_failed (some_tuple table id).1
reason_is table (Range a b d) = refl
reason_is table (Fn place) = refl
reason_is table (Class place) = refl
reason_is table (Exc number) = refl
reason_is table (Builtin number) = refl
reason_is table (Object o) = refl

pub other_reason : (n : ℕ) → 1 < n → by_reason n ≡ too_deep
other_reason zero more = absurd (omega (arith, more))
other_reason (suc zero) more = absurd (omega (arith, more))
other_reason (suc (suc n)) more = refl
