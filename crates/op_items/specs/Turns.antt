-- No public clause cites this file.
-- Turns of a `for`, and the size that a dictionary had at its start.
use Rattle.std.specs.Prelude.{ℕ, ◌==◌, pos, negsuc, Bool, false, Option, Some, None}
use Rattle.py_value.specs.declared.value.Value.{Value}
use Rattle.py_value.specs.declared.value.Value.TheVariants.{Int}

-- the number of a turn
abbrev pub turn_of_value : Value → Option ℕ
turn_of_value (Int (pos n)) = Some n
turn_of_value other = None

-- an integer, where it is not below 0
abbrev pub size_of_value : Value → Option (Option ℕ)
size_of_value (Int (pos n)) = Some (Some n)
size_of_value (Int (negsuc n)) = Some None
size_of_value other = None

abbrev pub is_size : Option ℕ → ℕ → Bool
is_size (Some size) count = size == count
is_size None count = false
