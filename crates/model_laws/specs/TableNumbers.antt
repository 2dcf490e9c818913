-- No public clause cites this file.
-- The table of operations on numbers (The Python Language Reference 3, sections 6.5 to 6.7, in this project's profile): each over the integers
-- that the operands are, where a truth value is 0 or 1. An answer that has no 64 bits raises OverflowError.
use Rattle.std.specs.Prelude.{ℤ, pos, ◌+ℤ◌, ◌-ℤ◌, ◌*ℤ◌, neg_ℤ, List, [], ◌∷◌, if◌then◌else◌, codes}
use Rattle.std.specs.Ordering.{int_eq}
use Rattle.py_value.specs.Contents.{int, text}
use Rattle.py_model.specs.Faults.{zero_division, overflow}
use Rattle.py_model.specs.Numbers.{is_int, int_text, floor_div, floor_mod, absolute}
use Rattle.py_model.specs.Sorting.{all_are}
use Rattle.model_laws.specs.Results.{Result, gives, throws}
use Rattle.model_laws.specs.TableLists.{number_or_overflow}

abbrev pub number : ℤ → Result (Unit {0})
number i = number_or_overflow i tt

-- 5 neg, 6 pos, 50 abs
abbrev pub neg_is : ℤ → Result (Unit {0})
neg_is i = number (neg_ℤ i)

abbrev pub pos_is : ℤ → Result (Unit {0})
pos_is i = number i

abbrev pub abs_is : ℤ → Result (Unit {0})
abs_is i = number (absolute i)

-- 7 add, 8 sub, 9 mul
abbrev pub add_is : ℤ → ℤ → Result (Unit {0})
add_is i j = number (i +ℤ j)

abbrev pub sub_is : ℤ → ℤ → Result (Unit {0})
sub_is i j = number (i -ℤ j)

abbrev pub mul_is : ℤ → ℤ → Result (Unit {0})
mul_is i j = number (i *ℤ j)

-- 10 floordiv, rounded to minus infinity, and 11 mod, with the sign of the divisor
abbrev pub divided_is : (ℤ → ℤ → ℤ) → ℤ → ℤ → Result (Unit {0})
divided_is by i j = if int_eq j (pos 0) then throws zero_division (text (codes "division by zero") ∷ []) else number (by i j)

abbrev pub floordiv_is : ℤ → ℤ → Result (Unit {0})
floordiv_is i j = divided_is floor_div i j

abbrev pub mod_is : ℤ → ℤ → Result (Unit {0})
mod_is i j = divided_is floor_mod i j

-- the sums of the first number, the first two, and so on; and the sum of all
abbrev pub partial_sums : ℤ → List ℤ → List ℤ
partial_sums so_far [] = []
partial_sums so_far (i ∷ more) = (so_far +ℤ i) ∷ partial_sums (so_far +ℤ i) more

abbrev pub total : List ℤ → ℤ
total [] = pos 0
total (i ∷ more) = i +ℤ total more

-- 69 sum (walk; numbers): the sum of the numbers, added from the left; each sum on the way has 64 bits
abbrev pub sum_is : List ℤ → Result (Unit {0})
sum_is numbers = if all_are is_int (partial_sums (pos 0) numbers) then gives (int (total numbers)) else throws overflow (text (codes "integer out of range") ∷ [])

-- 68 str, 66 repr (print walk): the text of the number's digits; 56 int of that text: the number
abbrev pub str_is : ℤ → Result (Unit {0})
str_is i = gives (text (int_text i))

abbrev pub int_is : ℤ → Result (Unit {0})
int_is i = gives (int i)
