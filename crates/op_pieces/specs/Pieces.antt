-- The pieces of a text that is printed.
use Rattle.std.specs.Prelude.{◌≡◌, ◌<◌, ℕ, Bool, ⊤, List, [], ◌∷◌, ◌++◌, length, codes}
use Rattle.py_model.specs.Names.{class_names}
use Rattle.py_model.specs.Numbers.{int_text}
use Rattle.py_model.specs.Printing.{literal, key_text, range_text, truth_text, quoted_or_not, angled, named_in, builtin_text}
use Rattle.py_value.specs.Contents.{contents}
use Rattle.py_value.specs.Seen.{bytes_of}
use Rattle.py_value.specs.Values.{ValuesView, IsNamed}
use Rattle.py_value.specs.declared.value.Value.{Value}
use Rattle.py_value.specs.declared.value.Value.TheVariants.{None as NoneValue, Bool as BoolValue, Int, Text, Range, Exc, Builtin as BuiltinValue}
use Rattle.op_pieces.specs.declared.pieces.Piece.{Piece}
use Rattle.op_pieces.specs.declared.pieces.Piece.TheVariants.{Word, Number, Span, Plain, Quoted, Class, Builtin, Key}

-- the bytes of a piece, and of pieces one after the other
abbrev pub piece_bytes : ValuesView → Piece → List ℕ
piece_bytes table (Word words) = words.now
piece_bytes table (Number i) = int_text i
piece_bytes table (Span start end step) = range_text start end step
piece_bytes table (Plain id) = bytes_of table id
piece_bytes table (Quoted id) = literal (bytes_of table id)
piece_bytes table (Class number) = angled (codes "class ") (named_in class_names number)
piece_bytes table (Builtin number) = builtin_text number
piece_bytes table (Key v) = key_text (contents table v)

abbrev pub pieces_bytes : ValuesView → List Piece → List ℕ
pieces_bytes table [] = []
pieces_bytes table (piece ∷ pieces) = piece_bytes table piece ++ pieces_bytes table pieces

-- the texts and tuples of a piece have numbers
abbrev pub IsPiece : ValuesView → Piece → Type 0
IsPiece values (Plain id) = id < length values.texts
IsPiece values (Quoted id) = id < length values.texts
IsPiece values (Key v) = IsNamed values v
IsPiece values other = ⊤

abbrev pub ArePieces : ValuesView → List Piece → Type 0
ArePieces values [] = ⊤
ArePieces values (piece ∷ pieces) = IsPiece values piece × ArePieces values pieces

-- these bytes stand behind what was there
pub record Adds (before after : List Piece) (bytes : List ℕ) : Type 0 where
  pub bytes_are : (table : ValuesView) → pieces_bytes table after ≡ pieces_bytes table before ++ bytes
  pub named : (values : ValuesView) → ArePieces values before → ArePieces values after

-- the words of a value that is one piece
abbrev pub one_piece : ValuesView → Bool → Value → List ℕ
one_piece table quoted NoneValue = codes "None"
one_piece table quoted (BoolValue b) = truth_text b
one_piece table quoted (Int i) = int_text i
one_piece table quoted (Text id) = quoted_or_not quoted (bytes_of table id)
one_piece table quoted (Range start end step) = range_text start end step
one_piece table quoted (Exc number) = angled (codes "class ") (named_in class_names number)
one_piece table quoted (BuiltinValue number) = builtin_text number
one_piece table quoted other = codes "?"
