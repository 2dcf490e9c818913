-- The value of a text literal, byte by byte: the reader's own steps. No public clause speaks of them.
use Rattle.std.specs.Prelude.{ℕ, ◌-◌, ◌*◌, ◌==◌, nat_lt, Bool, ◌&&◌, not, List, [], ◌∷◌, ◌++◌, length, slice_range, if◌then◌else◌}
use Rattle.py_lines.specs.declared.mode.Quote.{Quote}
use Rattle.py_lines.specs.Piece.{escape_value}

abbrev pub width : Quote → ℕ
width quote = if quote.triple then 3 else 1

abbrev pub inside_of : Quote → List ℕ → List ℕ
inside_of quote piece = if nat_lt (length piece) (2 * width quote) then piece else slice_range piece (width quote) (length piece - width quote)

abbrev pub escapes_next : Bool → ℕ → Bool
escapes_next escaping byte = not escaping && (byte == 92)

abbrev pub byte_value : Bool → ℕ → List ℕ
byte_value escaping byte = if escaping then escape_value byte ∷ [] else (if byte == 92 then [] else (if byte == 13 then [] else byte ∷ []))

abbrev pub value_of : Bool → List ℕ → List ℕ
value_of escaping [] = []
value_of escaping (byte ∷ bytes) = byte_value escaping byte ++ value_of (escapes_next escaping byte) bytes
