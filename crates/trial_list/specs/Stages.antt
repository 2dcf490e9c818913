-- No public clause cites this file.
-- Stages of the text. It is the proof's means; no public clause speaks of it.
use Rattle.std.specs.Prelude.{◌≡◌, ◌*ℤ◌, ℕ, ℤ, pos, List, [], ◌∷◌, ◌++◌, codes}
use Rattle.std.specs.Fmt.{decimal}
use Rattle.std.specs.Int.{int_div_euclid}
use Rattle.jiff_core.specs.DateTime.{civil_nanos}
use Rattle.jiff_core.specs.declared.civil.datetime.DateTime.{DateTime}
use Rattle.trial_list.specs.Lines.{right}

-- a clock in UTC shows this at the begin of the instant's second
abbrev pub IsSecondOf : ℤ → DateTime → Type 0
IsSecondOf instant shown = civil_nanos shown ≡ int_div_euclid instant (pos 1_000_000_000) *ℤ pos 1_000_000_000

-- the line with these columns, of which the start is as wide as its column
abbrev pub line_of : ℕ → ℕ → ℕ → List ℕ → List ℕ → List ℕ
line_of number status steps start path =
    right 7 (decimal number) ++ codes " " ++ right 2 (decimal status) ++ codes " " ++ right 7 (decimal steps) ++ codes " " ++ start ++ codes " " ++ path ++ 10 ∷ []
