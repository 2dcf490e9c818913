-- Random numbers: from where, and how many there are to draw from (this project's profile).
use Rattle.std.specs.Prelude.{ℕ, zero, suc, ◌%◌, ℤ, pos, negsuc, ◌+ℤ◌, ◌-ℤ◌, List, [], ◌∷◌, Option, Some, None}
use Rattle.capture.specs.declared.answer.Ask.{Ask as Question}
use Rattle.capture.specs.declared.answer.Ask.TheVariants.{Word}
use Rattle.py_value.specs.Numbers.{number_of_value}
use Rattle.py_model.specs.Files.{device_failed}
use Rattle.py_model.specs.Plan.{Given, random_word, done, Plan, writes}
use Rattle.py_value.specs.Contents.{int}
use Rattle.py_value.specs.declared.value.Value.{Value}

-- how many numbers there are by the width between two, where the first is not above the second
abbrev pub many_of : ℤ → Option ℕ
many_of (pos more) = Some (suc more)
many_of (negsuc less) = None

abbrev pub many_between : ℤ → ℤ → Option ℕ
many_between low high = many_of (high -ℤ low)

-- how many numbers from 0 on are below one
abbrev pub many_below : ℤ → Option ℕ
many_below (pos zero) = None
many_below (pos (suc n)) = Some (suc n)
many_below (negsuc n) = None

-- a word is asked for where there is something to draw from
abbrev pub word_for : Option ℕ → Option Question
word_for (Some many) = Some Word
word_for None = None

abbrev pub between_asked : Option ℤ → Option ℤ → Option Question
between_asked (Some low) (Some high) = word_for (many_between low high)
between_asked low high = None

abbrev pub below_asked : Option ℤ → Option Question
below_asked (Some bound) = word_for (many_below bound)
below_asked None = None

abbrev pub randint_asked : List Value → Option Question
randint_asked (receiver ∷ low ∷ high ∷ []) = between_asked (number_of_value low) (number_of_value high)
randint_asked values = None

abbrev pub randrange_asked : List Value → Option Question
randrange_asked (receiver ∷ bound ∷ []) = below_asked (number_of_value bound)
randrange_asked values = None

-- the rest of a draw, by what a device gives
abbrev pub word_given : ℤ → ℕ → Given → Plan
word_given start many (random_word w) = writes (done (int (start +ℤ pos (w % many))))
word_given start many other = device_failed
