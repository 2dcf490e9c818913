-- The pieces of a script's text (The Python Language Reference 3, sections 2.1 to 2.6, as far as this project's profile takes them).
use Rattle.std.specs.Prelude.{ℕ, ◌+◌, ◌-◌, ◌*◌, ◌==◌, nat_le, Bool, true, false, ◌&&◌, ◌||◌, not, List, [], ◌∷◌, ◌++◌, replicate, codes, if◌then◌else◌}
use Rattle.std.specs.List.{list_all, list_any, flat_map}
use Rattle.std.specs.Str.{bytes_eq}

-- ---- names, numbers, signs

abbrev pub is_digit : ℕ → Bool
is_digit byte = nat_le 48 byte && nat_le byte 57

-- an ASCII letter or `_`
abbrev pub begins_name : ℕ → Bool
begins_name byte = (nat_le 97 byte && nat_le byte 122) || (nat_le 65 byte && nat_le byte 90) || (byte == 95)

abbrev pub is_name_byte : ℕ → Bool
is_name_byte byte = begins_name byte || is_digit byte

-- a keyword's number is its position
abbrev pub keywords : List (List ℕ)
keywords =
    codes "False" ∷ codes "None" ∷ codes "True" ∷ codes "and" ∷ codes "as" ∷ codes "assert" ∷ codes "async" ∷ codes "await"
    ∷ codes "break" ∷ codes "class" ∷ codes "continue" ∷ codes "def" ∷ codes "del" ∷ codes "elif" ∷ codes "else" ∷ codes "except"
    ∷ codes "finally" ∷ codes "for" ∷ codes "from" ∷ codes "global" ∷ codes "if" ∷ codes "import" ∷ codes "in" ∷ codes "is"
    ∷ codes "lambda" ∷ codes "nonlocal" ∷ codes "not" ∷ codes "or" ∷ codes "pass" ∷ codes "raise" ∷ codes "return" ∷ codes "try"
    ∷ codes "while" ∷ codes "with" ∷ codes "yield" ∷ []

-- A sign's number is its position: the signs of the language, the refused ones, and the refused ones with `=`.
abbrev pub signs : List (List ℕ)
signs =
    codes "(" ∷ codes ")" ∷ codes "[" ∷ codes "]" ∷ codes "{" ∷ codes "}" ∷ codes "," ∷ codes ":" ∷ codes "." ∷ codes "="
    ∷ codes "+" ∷ codes "-" ∷ codes "*" ∷ codes "//" ∷ codes "%" ∷ codes "==" ∷ codes "!=" ∷ codes "<" ∷ codes "<=" ∷ codes ">"
    ∷ codes ">=" ∷ codes "+=" ∷ codes "-=" ∷ codes "*=" ∷ codes "//=" ∷ codes "%="
    ∷ codes ";" ∷ codes "@" ∷ codes "/" ∷ codes "**" ∷ codes "&" ∷ codes "|" ∷ codes "^" ∷ codes "~" ∷ codes "<<" ∷ codes ">>"
    ∷ codes ":=" ∷ codes "->"
    ∷ codes ";=" ∷ codes "@=" ∷ codes "/=" ∷ codes "**=" ∷ codes "&=" ∷ codes "|=" ∷ codes "^=" ∷ codes "~=" ∷ codes "<<=" ∷ codes ">>="
    ∷ codes ":==" ∷ codes "->=" ∷ []

abbrev pub is_sign : List ℕ → Bool
is_sign bytes = list_any (λ sign. bytes_eq sign bytes) signs

-- the greatest integer: signed, of 64 bits
abbrev pub greatest : ℕ
greatest = 9223372036854775807

-- the number that decimal digits stand for
abbrev pub number_after : ℕ → List ℕ → ℕ
number_after n [] = n
number_after n (d ∷ ds) = number_after (10 * n + (d - 48)) ds

abbrev pub number_of : List ℕ → ℕ
number_of digits = number_after 0 digits

-- `0`, or a digit 1 to 9 and digits
abbrev pub is_numeral : List ℕ → Bool
is_numeral [] = false
is_numeral (d ∷ ds) = if d == 48 then bytes_eq ds [] else is_digit d && list_all is_digit ds

abbrev pub is_name : List ℕ → Bool
is_name [] = false
is_name (c ∷ cs) = begins_name c && list_all is_name_byte cs

-- ---- text literals

-- What stands between the quotes of a literal: a byte, an escape by the byte behind its backslash, or a line end, which
-- is CR LF or LF. Before it stand so many quotes of the literal's own mark. Only in a literal of three quotes may there
-- be any, and no more than two.
pub data Item : Type 0 where
  plain : (quotes byte : ℕ) → Item
  escape : (quotes name : ℕ) → Item
  break : (quotes : ℕ) → (return : Bool) → Item

-- LF, or CR LF
abbrev pub line_end_text : Bool → List ℕ
line_end_text false = 10 ∷ []
line_end_text true = 13 ∷ 10 ∷ []

abbrev pub item_text : ℕ → Item → List ℕ
item_text mark (plain quotes byte) = replicate quotes mark ++ byte ∷ []
item_text mark (escape quotes name) = replicate quotes mark ++ 92 ∷ name ∷ []
item_text mark (break quotes return) = replicate quotes mark ++ line_end_text return

-- the escapes `\\`, `\'`, `\"`, `\n`, `\r` and `\t`
abbrev pub is_escape : ℕ → Bool
is_escape name = (name == 92) || (name == 39) || (name == 34) || (name == 110) || (name == 114) || (name == 116)

abbrev pub escape_value : ℕ → ℕ
escape_value name = if name == 110 then 10 else (if name == 114 then 13 else (if name == 116 then 9 else name))

-- a line end is one LF in the literal's value
abbrev pub item_value : ℕ → Item → List ℕ
item_value mark (plain quotes byte) = replicate quotes mark ++ byte ∷ []
item_value mark (escape quotes name) = replicate quotes mark ++ escape_value name ∷ []
item_value mark (break quotes return) = replicate quotes mark ++ 10 ∷ []

abbrev pub are_quotes : Bool → ℕ → Bool
are_quotes triple quotes = if triple then nat_le quotes 2 else quotes == 0

abbrev pub is_item : ℕ → Bool → Item → Bool
is_item mark triple (plain quotes byte) = are_quotes triple quotes && not (byte == mark) && not (byte == 92) && not (byte == 10) && not (byte == 13)
is_item mark triple (escape quotes name) = are_quotes triple quotes && is_escape name
is_item mark triple (break quotes return) = are_quotes triple quotes && triple

abbrev pub items_text : ℕ → List Item → List ℕ
items_text mark items = flat_map (item_text mark) items

abbrev pub items_value : ℕ → List Item → List ℕ
items_value mark items = flat_map (item_value mark) items

-- the quotes on each side
abbrev pub quotes_text : ℕ → Bool → List ℕ
quotes_text mark triple = if triple then mark ∷ mark ∷ mark ∷ [] else mark ∷ []

-- ---- pieces

-- The four kinds of token; a space or a tab; a comment from its `#` on, without the line end; a line end.
pub data Piece : Type 0 where
  word : (name : List ℕ) → Piece
  number : (digits : List ℕ) → Piece
  sign : (bytes : List ℕ) → Piece
  literal : (mark : ℕ) → (triple : Bool) → (items : List Item) → Piece
  blank : (byte : ℕ) → Piece
  comment : (bytes : List ℕ) → Piece
  line_end : (return : Bool) → Piece

abbrev pub spelled : Piece → List ℕ
spelled (word name) = name
spelled (number digits) = digits
spelled (sign bytes) = bytes
spelled (literal mark triple items) = quotes_text mark triple ++ items_text mark items ++ quotes_text mark triple
spelled (blank byte) = byte ∷ []
spelled (comment bytes) = 35 ∷ bytes
spelled (line_end return) = line_end_text return

-- a byte that ends a line, as far as one byte tells: CR or LF
abbrev pub ends_line : ℕ → Bool
ends_line byte = (byte == 10) || (byte == 13)

abbrev pub is_piece : Piece → Bool
is_piece (word name) = is_name name
is_piece (number digits) = is_numeral digits && nat_le (number_of digits) greatest
is_piece (sign bytes) = is_sign bytes
is_piece (literal mark triple items) = ((mark == 39) || (mark == 34)) && list_all (is_item mark triple) items
is_piece (blank byte) = (byte == 32) || (byte == 9)
is_piece (comment bytes) = list_all (λ byte. not (ends_line byte)) bytes
is_piece (line_end return) = true

-- What may not stand directly behind a piece, since the piece would be longer or is no token: behind a name what would
-- go on with it; behind a number a letter, a digit, `_` or `.`; behind a sign what makes a longer one; behind an empty
-- literal of one quote that quote; behind a comment all but a line end.
abbrev pub goes_on : Piece → ℕ → Bool
goes_on (word name) byte = is_name_byte byte
goes_on (number digits) byte = is_name_byte byte || (byte == 46)
goes_on (sign bytes) byte = is_sign (bytes ++ byte ∷ [])
goes_on (literal mark true items) byte = false
goes_on (literal mark false []) byte = byte == mark
goes_on (literal mark false (item ∷ items)) byte = false
goes_on (blank value) byte = false
goes_on (comment bytes) byte = not (ends_line byte)
goes_on (line_end return) byte = false

-- the piece ends where this text begins
abbrev pub ends : Piece → List ℕ → Bool
ends piece [] = true
ends piece (byte ∷ bytes) = not (goes_on piece byte)

abbrev pub text_of : List Piece → List ℕ
text_of pieces = flat_map spelled pieces

-- each is a piece, and the longest at its place, in a text that goes on by this rest
abbrev pub are_cut : List Piece → List ℕ → Bool
are_cut [] rest = true
are_cut (piece ∷ pieces) rest = is_piece piece && ends piece (text_of pieces ++ rest) && are_cut pieces rest
