-- No public clause cites this file.
-- What is read of an open file, as a plan that has read what stands in the file.
use Rattle.std.specs.Prelude.{ℕ, List, drop, Bool, true, false, Option, Some}
use Rattle.op_items.specs.Lines.{bytes_in}
use Rattle.py_model.specs.Faults.{wrong_kind}
use Rattle.py_model.specs.Files.{is_closed_fault, wrong_mode, first_line, taken, to_be_read}
use Rattle.py_model.specs.Plan.{Plan, read_closed, read_offset, read_file}
use Rattle.py_value.specs.Seen.{SeenKind, a_file}
use Rattle.py_value.specs.declared.access.Mode.{Mode}
use Rattle.py_value.specs.declared.access.Mode.TheVariants.{Read, Write, Append}

-- all that is left, or its first line
abbrev pub piece : Bool → List ℕ → List ℕ
piece true bytes = bytes
piece false bytes = first_line bytes

-- the piece behind an offset
abbrev pub piece_in : Bool → ℕ → Option (List ℕ) → List ℕ
piece_in whole offset content = piece whole (drop offset (bytes_in content))

abbrev pub piece_behind : Bool → ℕ → ℕ → Option (List ℕ) → Plan
piece_behind whole o offset content = taken o offset (piece_in whole offset content)

-- the piece of a file that is open in a mode, by whether it is closed
abbrev pub piece_unless : Bool → ℕ → List ℕ → Mode → Bool → Plan
piece_unless whole o path mode true = is_closed_fault
piece_unless whole o path Read false = read_offset o (λ offset. read_file path (piece_behind whole o offset))
piece_unless whole o path Write false = wrong_mode
piece_unless whole o path Append false = wrong_mode

abbrev pub piece_by : Bool → ℕ → Option SeenKind → Plan
piece_by whole o (Some (a_file path mode)) = read_closed o (piece_unless whole o path mode)
piece_by whole o other = wrong_kind

-- a piece of an open file is read
abbrev pub piece_plan : Bool → ℕ → Plan
piece_plan whole o = to_be_read o (λ path offset bytes. taken o offset (piece whole bytes))
