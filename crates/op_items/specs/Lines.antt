-- The next line of an open file, as a plan that has read what stands in the file.
use Rattle.std.specs.Prelude.{ℕ, List, [], ◌∷◌, drop, Bool, true, false, Option, Some, None}
use Rattle.py_model.specs.Files.{is_closed_fault, wrong_mode, first_line, taken}
use Rattle.py_model.specs.Faults.{wrong_kind}
use Rattle.py_model.specs.Plan.{Plan, write, done_at_end, writes, read_closed, read_offset, read_file}
use Rattle.py_value.specs.Seen.{SeenKind, a_file, offset_at, offset_is}
use Rattle.py_value.specs.declared.access.Mode.{Mode}
use Rattle.py_value.specs.declared.access.Mode.TheVariants.{Read, Write, Append}

-- the bytes of a file, none where there is no file
abbrev pub bytes_in : Option (List ℕ) → List ℕ
bytes_in (Some bytes) = bytes
bytes_in None = []

-- the next line is what is answered, and the offset goes behind it; where nothing is left the sequence is at its end
abbrev pub line_or_end : ℕ → ℕ → List ℕ → Plan
line_or_end o offset [] = writes (write (offset_at o) (offset_is offset) done_at_end)
line_or_end o offset (byte ∷ bytes) = taken o offset (byte ∷ bytes)

-- the next line behind an offset
abbrev pub line_behind : ℕ → ℕ → Option (List ℕ) → Plan
line_behind o offset content = line_or_end o offset (first_line (drop offset (bytes_in content)))

abbrev pub is_reading : Mode → Bool
is_reading Read = true
is_reading Write = false
is_reading Append = false

-- the next line of a file that is open in a mode, by whether it is closed
abbrev pub line_unless : ℕ → List ℕ → Mode → Bool → Plan
line_unless o path mode true = is_closed_fault
line_unless o path Read false = read_offset o (λ offset. read_file path (line_behind o offset))
line_unless o path Write false = wrong_mode
line_unless o path Append false = wrong_mode

abbrev pub line_of : ℕ → Option SeenKind → Plan
line_of o (Some (a_file path mode)) = read_closed o (line_unless o path mode)
line_of o other = wrong_kind
