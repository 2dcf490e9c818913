-- Logical lines as they are written (The Python Language Reference 3, sections 2.1.5 to 2.1.8): pieces between line ends.
use Rattle.std.specs.Prelude.{ℕ, ◌+◌, ◌==◌, Bool, true, false, ◌&&◌, ◌||◌, not, List, [], ◌∷◌, ◌++◌, length, codes, Option, Some, None, is_some, option_map, option_and_then, if◌then◌else◌, pos}
use Rattle.std.specs.Option.{option_map_or}
use Rattle.std.specs.List.{list_any}
use Rattle.std.specs.Str.{bytes_eq}
use Rattle.py_lines.specs.declared.parts.Line.{Line}
use Rattle.py_lines.specs.declared.parts.Token.{Token}
use Rattle.py_lines.specs.declared.parts.TokenKind.{TokenKind}
use Rattle.py_lines.specs.declared.parts.TokenKind.TheVariants.{Word, Keyword, Number, Text, Sign}
use Rattle.py_lines.specs.Piece.{Piece, word, number, sign, literal, blank, comment, line_end, number_of, items_value, line_end_text, spelled, text_of}
use Rattle.py_lines.specs.Place.{place}
use Rattle.py_lines.specs.Tables.{keyword_number, sign_number}

-- The text of a script: lines, each ended by LF or CR LF, and a last one which the end of the text ends. Blank lines are
-- among them. A line goes on over the line ends that stand inside its brackets.
pub data Written : Type 0 where
  last : (line : List Piece) → Written
  more : (line : List Piece) → (return : Bool) → (rest : Written) → Written

abbrev pub pieces_of : Written → List Piece
pieces_of (last line) = line
pieces_of (more line return rest) = line ++ line_end return ∷ pieces_of rest

-- ---- brackets

-- an open bracket: the byte that closes it, and the offset where it stands
pub record Open : Type 0 where
  pub closed_by : ℕ
  pub at : ℕ

abbrev pub closing_byte : List ℕ → Option ℕ
closing_byte bytes =
    if bytes_eq bytes (codes "(") then Some 41 else (if bytes_eq bytes (codes "[") then Some 93 else (if bytes_eq bytes (codes "{") then Some 125 else None))

abbrev pub is_closing : List ℕ → Bool
is_closing bytes = bytes_eq bytes (codes ")") || bytes_eq bytes (codes "]") || bytes_eq bytes (codes "}")

-- a closing bracket that does not close the innermost open one is stray
abbrev pub close : List ℕ → List Open → Option (List Open)
close bytes [] = None
close bytes (inner ∷ opened) = if bytes_eq bytes (inner.closed_by ∷ []) then Some opened else None

-- the brackets that are open behind a piece at this offset, the innermost first, where it may stand in a line
abbrev pub after_piece : ℕ → Piece → List Open → Option (List Open)
after_piece at (sign bytes) opened =
    option_map_or (λ byte. Some (record { closed_by = byte; at = at } ∷ opened)) (closing_byte bytes) (if is_closing bytes then close bytes opened else Some opened)
after_piece at (line_end return) [] = None
after_piece at (line_end return) (inner ∷ opened) = Some (inner ∷ opened)
after_piece at piece opened = Some opened

-- the brackets that are open behind pieces from this offset on
abbrev pub open_after : ℕ → List Open → List Piece → Option (List Open)
open_after at opened [] = Some opened
open_after at opened (piece ∷ pieces) = option_and_then (λ now. open_after (at + length (spelled piece)) now pieces) (after_piece at piece opened)

abbrev pub is_closed : Option (List Open) → Bool
is_closed (Some []) = true
is_closed (Some (inner ∷ opened)) = false
is_closed None = false

-- ---- tokens

abbrev pub kind_of : Piece → Option TokenKind
kind_of (word name) = Some (option_map_or Keyword (keyword_number name) (Word name))
kind_of (number digits) = Some (Number (pos (number_of digits)))
kind_of (sign bytes) = option_map Sign (sign_number bytes)
kind_of (literal mark triple items) = Some (Text (items_value mark items))
kind_of (blank byte) = None
kind_of (comment bytes) = None
kind_of (line_end return) = None

abbrev pub is_token : Piece → Bool
is_token piece = is_some (kind_of piece)

abbrev pub token_at : List ℕ → ℕ → Piece → List Token
token_at text at piece =
    option_map_or (λ kind. record { at = place text at; span = record { from = at; to = at + length (spelled piece) }; kind = kind } ∷ []) (kind_of piece) []

-- the tokens among pieces that stand in the text from this offset on
abbrev pub tokens_of : List ℕ → ℕ → List Piece → List Token
tokens_of text at [] = []
tokens_of text at (piece ∷ pieces) = token_at text at piece ++ tokens_of text (at + length (spelled piece)) pieces

-- ---- lines

abbrev pub is_blank : Piece → Bool
is_blank (blank byte) = true
is_blank piece = false

abbrev pub is_tab : Piece → Bool
is_tab (blank byte) = byte == 9
is_tab piece = false

-- the blanks before the first token
abbrev pub indentation : List Piece → List Piece
indentation [] = []
indentation (piece ∷ line) = if is_blank piece then piece ∷ indentation line else []

-- where there is a token, the indentation has no tab
abbrev pub is_indented : List Piece → Bool
is_indented line = not (list_any is_token line) || not (list_any is_tab (indentation line))

-- a line that begins at this offset has no stray bracket, no line end outside its brackets, and none open at its end
abbrev pub is_line : ℕ → List Piece → Bool
is_line at line = is_indented line && is_closed (open_after at [] line)

-- the offset behind a line that begins at this one
abbrev pub behind_line : ℕ → List Piece → Bool → ℕ
behind_line at line return = at + length (text_of line) + length (line_end_text return)

abbrev pub are_lines : ℕ → Written → Bool
are_lines at (last line) = is_line at line
are_lines at (more line return rest) = is_line at line && are_lines (behind_line at line return) rest

-- A line with a token is a logical line. It covers its physical lines up to and without their last line end.
abbrev pub line_at : List ℕ → ℕ → List Piece → List Line
line_at text at line =
    if list_any is_token line
    then record { indent = length (indentation line); tokens = tokens_of text at line; span = record { from = at; to = at + length (text_of line) } } ∷ []
    else []

-- the logical lines of what is written in the text from this offset on
abbrev pub lines_of : List ℕ → ℕ → Written → List Line
lines_of text at (last line) = line_at text at line
lines_of text at (more line return rest) =
    line_at text at line ++ lines_of text (behind_line at line return) rest
