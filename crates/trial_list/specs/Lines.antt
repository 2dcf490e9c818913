-- The text of the command `list` (this project's profile): a line for each trial, by number.
use Rattle.std.specs.Prelude.{ℕ, suc, ◌-◌, ℤ, List, [], ◌∷◌, ◌++◌, length, replicate, codes, Option, Some, None}
use Rattle.std.specs.Fmt.{decimal}
use Rattle.keeper.specs.declared.records.Head.{Head}
use Rattle.trial_list.specs.Dates.{instant_text}

-- a text in a column of this width, at its right end or at its left one; a text that is wider stands as it is
abbrev pub right : ℕ → List ℕ → List ℕ
right width text = replicate (width - length text) 32 ++ text

abbrev pub left : ℕ → List ℕ → List ℕ
left width text = text ++ replicate (width - length text) 32

-- when a run began, or `-` where the clock failed
abbrev pub start_text : Option ℤ → List ℕ
start_text (Some instant) = instant_text instant
start_text None = 45 ∷ []

-- number, status, steps, start and path, with a blank between each two, and LF
abbrev pub list_line : ℕ → Head → List ℕ
list_line number head =
    right 7 (decimal number) ++ codes " " ++ right 2 (decimal head.status) ++ codes " " ++ right 7 (decimal head.steps) ++ codes " "
    ++ left 20 (start_text head.started) ++ codes " " ++ head.path ++ 10 ∷ []

-- the lines of heads, of which the first is that of the trial with this number
unfoldable pub lines_from : ℕ → List Head → List ℕ
lines_from number [] = []
lines_from number (head ∷ heads) = list_line number head ++ lines_from (suc number) heads

-- the lines of all heads, of which the first is that of trial 1
abbrev pub list_bytes : List Head → List ℕ
list_bytes heads = lines_from 1 heads
