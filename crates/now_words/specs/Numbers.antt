-- Decimal numbers in words.
use Rattle.std.specs.Prelude.{ℕ, ◌+◌, ◌-◌, ◌*◌, nat_le, Bool, false, ◌&&◌, List, [], ◌∷◌, Option, Some, None, if◌then◌else◌}
use Rattle.std.specs.List.{list_all}

abbrev pub is_digit : ℕ → Bool
is_digit byte = nat_le 48 byte && nat_le byte 57

-- one or more digits
abbrev pub is_number : List ℕ → Bool
is_number [] = false
is_number (digit ∷ digits) = is_digit digit && list_all is_digit digits

-- the number that decimal digits stand for, behind digits that stand for `n`
abbrev pub number_after : ℕ → List ℕ → ℕ
number_after n [] = n
number_after n (digit ∷ digits) = number_after (10 * n + (digit - 48)) digits

abbrev pub number_of : List ℕ → ℕ
number_of digits = number_after 0 digits

-- the number that a word of digits stands for, where it is from 1 to `most`
abbrev pub number_to : ℕ → List ℕ → Option ℕ
number_to most word = if is_number word && (nat_le 1 (number_of word) && nat_le (number_of word) most) then Some (number_of word) else None
