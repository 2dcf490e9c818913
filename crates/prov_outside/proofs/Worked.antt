-- Worked examples of the definitions, which hold by computation. 97, 98 and 99 are a, b and c, and 10 is LF.
use Rattle.std.proofs.Common.{◌≡◌, ℕ, List, [], ◌∷◌, Some, None, refl}
use Rattle.prov_outside.specs.MemoryConsole.{lines_of}
use Rattle.prov_outside.specs.MemoryFolder.{last_of}
use Rattle.prov_outside.specs.Count.{one_more}

abbrev pub a : List ℕ
a = 97 ∷ []

abbrev pub b : List ℕ
b = 98 ∷ []

no_line : lines_of [] ≡ []
no_line = refl

empty_line : lines_of (10 ∷ []) ≡ [] ∷ []
empty_line = refl

ended_line : lines_of (97 ∷ 10 ∷ []) ≡ a ∷ []
ended_line = refl

last_line_without_lf : lines_of (97 ∷ 10 ∷ 98 ∷ []) ≡ a ∷ b ∷ []
last_line_without_lf = refl

empty_lines_between : lines_of (97 ∷ 98 ∷ 10 ∷ 10 ∷ 13 ∷ 10 ∷ []) ≡ (97 ∷ 98 ∷ []) ∷ [] ∷ (13 ∷ []) ∷ []
empty_lines_between = refl

later_stands_over_earlier : last_of ((a, 1 ∷ []) ∷ (b, []) ∷ (a, 2 ∷ []) ∷ []) a ≡ Some (2 ∷ [])
later_stands_over_earlier = refl

empty_file : last_of ((a, 1 ∷ []) ∷ (b, []) ∷ (a, 2 ∷ []) ∷ []) b ≡ Some []
empty_file = refl

no_file : last_of ((a, 1 ∷ []) ∷ (b, []) ∷ (a, 2 ∷ []) ∷ []) (99 ∷ []) ≡ None
no_file = refl

first_number : one_more 0 ≡ 1
first_number = refl

last_number : one_more 18446744073709551615 ≡ 18446744073709551615
last_number = refl
