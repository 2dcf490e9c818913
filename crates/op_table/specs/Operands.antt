-- No public clause cites this file.
-- What the value of an operation says.
use Rattle.std.specs.Prelude.{ℕ, ℤ, pos, negsuc, Bool, false}
use Rattle.py_value.specs.declared.value.Value.{Value}
use Rattle.py_value.specs.declared.value.Value.TheVariants.{Bool as TruthValue, Int}

-- a name is unset at the end of an `except`
abbrev pub silent_value : Value → Bool
silent_value (TruthValue b) = b
silent_value other = false

-- how many targets there are
abbrev pub number_of_targets : ℤ → ℕ
number_of_targets (pos n) = n
number_of_targets (negsuc n) = 0

abbrev pub targets_value : Value → ℕ
targets_value (Int i) = number_of_targets i
targets_value other = 0
