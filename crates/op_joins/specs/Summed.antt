-- No public clause cites this file.
-- Sums of values that are numbers.
use Rattle.std.specs.Prelude.{ℤ, pos, ◌+ℤ◌, ◌&&◌, Bool, true, false, List, [], ◌∷◌, Option, Some, None, if◌then◌else◌}
use Rattle.py_model.specs.Numbers.{is_int}
use Rattle.py_value.specs.declared.value.Value.{Value}
use Rattle.py_value.specs.declared.value.Value.TheVariants.{Int, Bool as TruthValue}

-- whether a value is a number, and whether all are
abbrev pub number_value : Value → Bool
number_value (Int i) = true
number_value (TruthValue b) = true
number_value other = false

abbrev pub all_numbers : List Value → Bool
all_numbers [] = true
all_numbers (v ∷ items) = number_value v && all_numbers items

-- the number that a value is, or 0
abbrev pub number_or_zero : Value → ℤ
number_or_zero (Int i) = i
number_or_zero (TruthValue true) = pos 1
number_or_zero other = pos 0

-- the sum, where each partial sum has 64 bits
abbrev pub sum_found : ℤ → List Value → Option ℤ
sum_found so_far [] = Some so_far
sum_found so_far (v ∷ items) = if is_int (so_far +ℤ number_or_zero v) then sum_found (so_far +ℤ number_or_zero v) items else None
