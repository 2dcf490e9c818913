-- The number that a value is: a truth value is 0 or 1 (The Python Language Reference 3, section 3.2).
use Rattle.std.specs.Prelude.{ℤ, pos, true, false, Option, Some, None}
use Rattle.py_value.specs.declared.value.Value.{Value}
use Rattle.py_value.specs.declared.value.Value.TheVariants.{Int, Bool}

abbrev pub number_of_value : Value → Option ℤ
number_of_value (Int i) = Some i
number_of_value (Bool true) = Some (pos 1)
number_of_value (Bool false) = Some (pos 0)
number_of_value other = None
