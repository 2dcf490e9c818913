-- Rows of the tables of texts, sequences and numbers, each found by computation.
use Rattle.std.proofs.Common.{◌≡◌, refl, ℕ, pos, negsuc, List, [], ◌∷◌, None, Some, codes}
use Rattle.py_value.specs.Contents.{int, text}
use Rattle.py_model.specs.Faults.{index_error, value_error, zero_division, overflow}
use Rattle.model_laws.specs.Results.{gives, makes_list, throws}
use Rattle.model_laws.specs.TableTexts as texts
use Rattle.model_laws.specs.TableSequences as sequences
use Rattle.model_laws.specs.TableNumbers as numbers
use Rattle.model_laws.proofs.WorkedLists.{n}

-- the text of `a`, of the letter with code point 0xE9 in two bytes, and of `b`
abbrev accented : List ℕ
accented = 97 ∷ 0xC3 ∷ 0xA9 ∷ 98 ∷ []

second_character : texts.getitem_is accented (pos 1) ≡ gives (text (0xC3 ∷ 0xA9 ∷ []))
second_character = refl

no_character : texts.getitem_is accented (pos 3) ≡ throws index_error (text (codes "index out of range") ∷ [])
no_character = refl

last_two : texts.slice_is accented (Some (negsuc 1)) None ≡ gives (text (0xC3 ∷ 0xA9 ∷ 98 ∷ []))
last_two = refl

pieces : texts.split_by_is (codes "a,,b") (codes ",") ≡ makes_list (text (codes "a") ∷ text [] ∷ text (codes "b") ∷ [])
pieces = refl

no_separator : texts.split_by_is (codes "a") [] ≡ throws value_error (text (codes "empty or zero") ∷ [])
no_separator = refl

found : texts.find_is accented (codes "b") ≡ gives (n 2)
found = refl

-- `(7, 8, 9)[-1]` and `range(5, 0, -2)[1]`
last_part : sequences.getitem_is (n 7 ∷ n 8 ∷ n 9 ∷ []) (negsuc 0) ≡ gives (n 9)
last_part = refl

in_range : sequences.getitem_of_range_is (pos 5) (pos 0) (negsuc 1) (pos 1) ≡ gives (n 3)
in_range = refl

past_range : sequences.getitem_of_range_is (pos 5) (pos 0) (negsuc 1) (pos 3) ≡ throws index_error (text (codes "index out of range") ∷ [])
past_range = refl

-- `-7 // 2`, `-7 % 2`, `1 // 0`, and one more than the greatest integer
rounded : numbers.floordiv_is (negsuc 6) (pos 2) ≡ gives (int (negsuc 3))
rounded = refl

remainder : numbers.mod_is (negsuc 6) (pos 2) ≡ gives (n 1)
remainder = refl

by_zero : numbers.floordiv_is (pos 1) (pos 0) ≡ throws zero_division (text (codes "division by zero") ∷ [])
by_zero = refl

too_great : numbers.add_is (pos 9223372036854775807) (pos 1) ≡ throws overflow (text (codes "integer out of range") ∷ [])
too_great = refl
