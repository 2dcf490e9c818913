-- Integers of 64 bits with a sign (The Python Language Reference 3, sections 6.5 to 6.7; that they have 64 bits is this project's
-- profile).
use Rattle.std.specs.Prelude.{ℕ, zero, suc, ◌+◌, ◌/◌, ◌%◌, ℤ, pos, negsuc, ◌-ℤ◌, ◌*ℤ◌, Bool, true, false, nat_le, nat_lt, if◌then◌else◌, List, [], ◌∷◌, ◌++◌, Option, Some, None}
use Rattle.std.specs.Ordering.{int_eq}

-- the integer is one of 64 bits
abbrev pub is_int : ℤ → Bool
is_int (pos n) = nat_le n 9223372036854775807
is_int (negsuc n) = nat_le n 9223372036854775807

-- the quotient, rounded to minus infinity; the divisor is not 0
abbrev pub floor_div : ℤ → ℤ → ℤ
floor_div (pos a) (pos b) = pos (a / b)
floor_div (pos zero) (negsuc b) = pos 0
floor_div (pos (suc a)) (negsuc b) = negsuc (a / suc b)
floor_div (negsuc a) (pos b) = negsuc (a / b)
floor_div (negsuc a) (negsuc b) = pos (suc a / suc b)

-- the remainder, which has the sign of the divisor
abbrev pub floor_mod : ℤ → ℤ → ℤ
floor_mod a b = a -ℤ (b *ℤ floor_div a b)

-- a number is less than another, and no more than it
abbrev pub less : ℤ → ℤ → Bool
less (pos a) (pos b) = nat_lt a b
less (pos a) (negsuc b) = false
less (negsuc a) (pos b) = true
less (negsuc a) (negsuc b) = nat_lt b a

-- the decimal digits of a number of at most so many
abbrev pub digits_of : ℕ → ℕ → List ℕ
digits_of zero n = []
digits_of (suc most) n = if nat_lt n 10 then (48 + n) ∷ [] else (digits_of most (n / 10) ++ (48 + n % 10) ∷ [])

-- an integer as it is printed
abbrev pub int_text : ℤ → List ℕ
int_text (pos n) = digits_of 20 n
int_text (negsuc n) = 45 ∷ digits_of 20 (suc n)

-- how many numbers a range has, and the number at a place in it
abbrev pub range_count : ℤ → ℤ → ℤ → ℕ
range_count start end (pos zero) = 0
range_count start end (pos (suc step)) = steps_up (end -ℤ start) step
  where
    steps_up : ℤ → ℕ → ℕ
    steps_up (pos zero) by = 0
    steps_up (pos (suc far)) by = suc (far / suc by)
    steps_up (negsuc far) by = 0
range_count start end (negsuc step) = steps_down (start -ℤ end) step
  where
    steps_down : ℤ → ℕ → ℕ
    steps_down (pos zero) by = 0
    steps_down (pos (suc far)) by = suc (far / suc by)
    steps_down (negsuc far) by = 0

-- The place in a range of the number that is that far from its start. The number is in the range where the distance is so many
-- whole steps and the range has more numbers than that.
abbrev pub place_at : ℤ → ℤ → ℕ → Option ℕ
place_at far step n = if int_eq (floor_mod far step) (pos 0) then within (floor_div far step) else None
  where
    within : ℤ → Option ℕ
    within (pos i) = if nat_lt i n then Some i else None
    within (negsuc i) = None

-- how often a thing stands that is taken so many times: below 0 never
abbrev pub times : ℤ → ℕ
times (pos n) = n
times (negsuc n) = 0

-- the number without its sign
abbrev pub absolute : ℤ → ℤ
absolute (pos n) = pos n
absolute (negsuc n) = pos (suc n)
