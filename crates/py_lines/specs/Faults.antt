-- The first fault of a text that has no logical lines (this project's profile).
use Rattle.std.specs.Prelude.{◌≡◌, ◌≢◌, ℕ, suc, ◌+◌, ◌-◌, ◌==◌, Bool, true, false, ◌&&◌, ◌||◌, not, List, [], ◌∷◌, ◌++◌, length, Option, Some, None, IsTrue, option_map, if◌then◌else◌}
use Rattle.std.specs.Option.{option_map_or}
use Rattle.std.specs.List.{list_all}
use Rattle.std.specs.Str.{bytes_eq}
use Rattle.py_lines.specs.Piece.{Piece, spelled, is_piece, ends, is_digit, is_numeral, text_of, are_cut}
use Rattle.py_lines.specs.Written.{Written, last, more, pieces_of, Open, open_after, is_line, is_indented, is_blank, is_tab, behind_line}
use Rattle.prov_base.specs.declared.place.Pos.{Pos}
use Rattle.py_lines.specs.Logical.{IsWritten}
use Rattle.py_lines.specs.Place.{place}

-- ---- where no lines are left

-- however the text goes on, it is not written in logical lines
abbrev pub IsFaulty : List ℕ → Type 0
IsFaulty front = (rest : List ℕ) (written : Written) → IsWritten (front ++ rest) written → ⊥

abbrev pub HasNoLines : List ℕ → Type 0
HasNoLines text = (written : Written) → IsWritten text written → ⊥

-- ---- the front of a text: whole pieces, in lines of which the last may go on, and what is begun of a piece

abbrev pub last_line : Written → List Piece
last_line (last line) = line
last_line (more line return rest) = last_line rest

-- the offset at which the last line begins, where the first one begins at this offset
abbrev pub last_from : ℕ → Written → ℕ
last_from at (last line) = at
last_from at (more line return rest) = last_from (behind_line at line return) rest

-- all lines but the last are lines
abbrev pub are_lines_before : ℕ → Written → Bool
are_lines_before at (last line) = true
are_lines_before at (more line return rest) = is_line at line && are_lines_before (behind_line at line return) rest

-- the brackets that are open at the end, the innermost first, where all lines but the last are lines and that may go on
abbrev pub open_at_end : Written → Option (List Open)
open_at_end written =
    if are_lines_before 0 written && is_indented (last_line written) then open_after (last_from 0 written) [] (last_line written) else None

pub record IsFront (front : List ℕ) (written : Written) (begun rest : List ℕ) (opened : List Open) : Type 0 where
  pub front_is : front ≡ text_of (pieces_of written) ++ begun
  pub cut : IsTrue (are_cut (pieces_of written) (begun ++ rest))
  pub opened_is : open_at_end written ≡ Some opened
  -- no piece stands where one is begun
  pub unfinished : begun ≢ [] → (piece : Piece) (after : List ℕ) → IsTrue (is_piece piece) → IsTrue (ends piece after) → begun ++ rest ≡ spelled piece ++ after → ⊥

-- ---- the table of bad tokens

-- the bytes of a text literal, as far as they are there
abbrev pub is_text : List ℕ → Bool
is_text [] = false
is_text (byte ∷ bytes) = (byte == 39) || (byte == 34)

-- of one with three quotes
abbrev pub is_long_text : List ℕ → Bool
is_long_text (a ∷ b ∷ c ∷ bytes) = is_text (a ∷ []) && (a == b) && (b == c)
is_long_text bytes = false

-- the next byte stands behind a backslash that is not escaped itself
abbrev pub is_escaping : Bool → List ℕ → Bool
is_escaping escaping [] = escaping
is_escaping escaping (byte ∷ bytes) = is_escaping (not escaping && (byte == 92)) bytes

-- the last byte is a CR, or there is none and `before` says so
abbrev pub is_return_last : Bool → List ℕ → Bool
is_return_last before [] = before
is_return_last before (byte ∷ bytes) = is_return_last (byte == 13) bytes

abbrev pub ends_with_return : List ℕ → Bool
ends_with_return bytes = is_return_last false bytes

-- a CR that no LF follows
abbrev pub begins_with_lone_return : List ℕ → Bool
begins_with_lone_return [] = false
begins_with_lone_return (byte ∷ []) = byte == 13
begins_with_lone_return (byte ∷ next ∷ bytes) = (byte == 13) && not (next == 10)

-- the digits with the next byte are a number past the greatest
abbrev pub grows_too_large : List ℕ → List ℕ → Bool
grows_too_large digits [] = false
grows_too_large digits (byte ∷ bytes) = is_digit byte && is_numeral (digits ++ byte ∷ [])

-- The offset of the bad token, where a piece that began at `from` and has these bytes cannot go on with this rest: a CR
-- that no LF follows; the opening quote of a text literal with a bad escape, or of one quote and unfinished on its line;
-- the first digit of a number past the greatest; a lone `!`; and else the next byte, which begins no piece or may not
-- stand there.
abbrev pub bad_piece_at : ℕ → List ℕ → List ℕ → ℕ
bad_piece_at from begun rest =
    if ends_with_return begun then from + (length begun - 1)
    else (if is_text begun && not (is_escaping false begun) && begins_with_lone_return rest then from + length begun
    else (if is_text begun || bytes_eq begun (33 ∷ []) || grows_too_large begun rest then from
    else from + length begun))

-- the position of the first tab
abbrev pub tab_in : List Piece → Option ℕ
tab_in [] = None
tab_in (piece ∷ line) = if is_tab piece then Some 0 else option_map suc (tab_in line)

-- the first tab of a line that has only blanks so far
abbrev pub first_tab : List Piece → Option ℕ
first_tab line = if list_all is_blank line then tab_in line else None

-- the same, but a tab in the indentation of what would be a logical line stands before it
abbrev pub bad_at : Written → List ℕ → List ℕ → ℕ
bad_at written begun rest =
    option_map_or (λ tab. last_from 0 written + tab) (first_tab (last_line written)) (bad_piece_at (length (text_of (pieces_of written))) begun rest)

-- ---- faults

-- nothing but brackets and a text of three quotes is unfinished
abbrev pub may_rest : List ℕ → Bool
may_rest begun = bytes_eq begun [] || (is_long_text begun && not (ends_with_return begun))

-- the next byte, or the end of the text, shows that there are no logical lines
abbrev pub ShowsFault : List ℕ → List ℕ → List ℕ → Type 0
ShowsFault front begun [] = (may_rest begun ≡ false) × HasNoLines front
ShowsFault front begun (byte ∷ rest) = IsFaulty (front ++ byte ∷ [])

-- the first bad token of the text stands at this offset: no shorter front of the text is faulty
pub record IsBadToken (text : List ℕ) (at : ℕ) : Type 0 where
  pub front : List ℕ
  pub rest : List ℕ
  pub text_is : text ≡ front ++ rest
  pub written : Written
  pub begun : List ℕ
  pub opened : List Open
  pub is_front : IsFront front written begun rest opened
  pub not_faulty : IsFaulty front → ⊥
  pub shown : ShowsFault front begun rest
  pub at_is : at ≡ bad_at written begun rest

-- the outermost open bracket; where there is none, the text of three quotes that is begun
abbrev pub first_open : ℕ → List Open → ℕ
first_open from [] = from
first_open from (outer ∷ []) = outer.at
first_open from (inner ∷ outer ∷ opened) = first_open from (outer ∷ opened)

-- no token of the text is bad, but at its end a bracket or a text of three quotes is open: the first one at this offset
pub record IsLeftOpen (text : List ℕ) (at : ℕ) : Type 0 where
  pub written : Written
  pub begun : List ℕ
  pub opened : List Open
  pub is_front : IsFront text written begun [] opened
  pub rests : IsTrue (may_rest begun)
  pub not_faulty : IsFaulty text → ⊥
  pub no_lines : HasNoLines text
  pub at_is : at ≡ first_open (length (text_of (pieces_of written))) opened

-- the same by the place in the text
pub record IsBadTokenPlace (text : List ℕ) (shown : Pos) : Type 0 where
  pub at : ℕ
  pub is : IsBadToken text at
  pub shown_is : shown ≡ place text at

pub record IsLeftOpenPlace (text : List ℕ) (shown : Pos) : Type 0 where
  pub at : ℕ
  pub is : IsLeftOpen text at
  pub shown_is : shown ≡ place text at
