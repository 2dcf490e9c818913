-- How characters and names are spelled.
use Rattle.std.specs.Prelude.{ℕ, zero, suc, Bool, true, false, List, [], ◌∷◌, Option, Some, None, encode_utf8, ℤ, pos, ◌++◌, codes, if◌then◌else◌}
use Rattle.std.specs.Ordering.{int_eq}
use Rattle.py_model.specs.Numbers.{int_text}
use Rattle.py_model.specs.Printing.{commas, behind_first}
use Rattle.std.specs.Borrow.{Bor}

-- the quote of a literal
abbrev pub quote_of : Bool → ℕ
quote_of true = 34
quote_of false = 39

-- a spelling, or the byte itself where there is none
abbrev pub or_itself : Option (Bor (List ℕ)) → ℕ → List ℕ
or_itself (Some spelling) byte = spelling.now
or_itself None byte = byte ∷ []

abbrev pub letter_or_itself : Option (Bor (List ℕ)) → ℕ → List ℕ
letter_or_itself (Some spelling) c = spelling.now
letter_or_itself None c = encode_utf8 c

-- the step of a range, where it is not 1
abbrev pub step_words : ℤ → List ℕ
step_words step = if int_eq step (pos 1) then [] else codes ", " ++ int_text step

-- an item behind others, and items behind others, or as the first
abbrev pub item_words : Bool → List ℕ → List ℕ
item_words true item = item
item_words false item = codes ", " ++ item

abbrev pub follow : Bool → List (List ℕ) → List ℕ
follow true items = commas items
follow false items = behind_first (codes ", ") items

-- the end of a tuple of so many items
abbrev pub end_words : ℕ → List ℕ
end_words (suc zero) = codes ",)"
end_words count = codes ")"
