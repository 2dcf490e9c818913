-- What a console in memory holds (this project's profile).
use Rattle.std.specs.Prelude.{ℕ, List, [], ◌∷◌, ◌==◌, if◌then◌else◌}
use Rattle.prov_outside.specs.Console.{ConsoleView}
use Rattle.prov_outside.specs.Numbering.{Numbering}

-- the lines that are left and the bytes written, with the numbering of the calls and the counts of the faults
pub record MemoryConsoleView : Type 0 where
  pub lines : List (List ℕ)
  pub written : List ℕ
  pub calls : Numbering
  pub in_faults : ℕ
  pub out_faults : ℕ

-- what a console in memory tells
abbrev pub console_view : MemoryConsoleView → ConsoleView
console_view console = record { lines = console.lines; written = console.written }

-- the byte at the head of the first line, which is a new one where there is none
abbrev pub onto_first : ℕ → List (List ℕ) → List (List ℕ)
onto_first byte [] = (byte ∷ []) ∷ []
onto_first byte (line ∷ later) = (byte ∷ line) ∷ later

-- The lines of an input, each without the LF (10) that ends it. What stands behind the last LF is a last line where
-- it is not empty.
abbrev pub lines_of : List ℕ → List (List ℕ)
lines_of [] = []
lines_of (byte ∷ rest) = if byte == 10 then [] ∷ lines_of rest else onto_first byte (lines_of rest)
