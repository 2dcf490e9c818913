-- The logical lines of a text (The Python Language Reference 3, section 2.1). Limits are not part of it.
use Rattle.std.specs.Prelude.{◌≡◌, ◌≤◌, ℕ, List, [], length, IsTrue}
use Rattle.std.specs.Str.{IsUtf8}
use Rattle.std.specs.Str.Lossy.{utf8_valid_len}
use Rattle.prov_base.specs.declared.place.Pos.{Pos}
use Rattle.py_lines.specs.declared.parts.Line.{Line}
use Rattle.py_lines.specs.Piece.{text_of, are_cut}
use Rattle.py_lines.specs.Place.{place}
use Rattle.py_lines.specs.Written.{Written, pieces_of, are_lines, lines_of}

-- the text is written so: in pieces, each the longest at its place, and in lines
pub record IsWritten (text : List ℕ) (written : Written) : Type 0 where
  pub text_is : text ≡ text_of (pieces_of written)
  pub cut : IsTrue (are_cut (pieces_of written) [])
  pub are_lines : IsTrue (are_lines 0 written)

-- the text is UTF-8 and written so that these are its logical lines
pub record HasLines (text : List ℕ) (lines : List Line) : Type 0 where
  pub utf8 : IsUtf8 text
  pub written : Written
  pub is_written : IsWritten text written
  pub lines_are : lines ≡ lines_of text 0 written

-- the text is within the limit and not UTF-8: the place is that of the first byte of its first ill-formed sequence
pub record IsNotUtf8 (text : List ℕ) (at : Pos) : Type 0 where
  pub within : length text ≤ 262144
  pub ill_formed : IsUtf8 text → ⊥
  pub at_is : at ≡ place text (utf8_valid_len text)
