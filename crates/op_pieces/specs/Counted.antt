-- What is counted and put behind a text.
use Rattle.std.specs.Prelude.{◌≡◌, ℕ, List, ◌++◌, codes, Result, OnOk}
use Rattle.op_texts.specs.Heads.{heads}
use Rattle.op_work.specs.Work.{WorkView, Comes, Extends, is_any, as_is}
use Rattle.op_work.specs.declared.stop.Stop.{Stop}
use Rattle.py_model.specs.Numbers.{int_text}
use Rattle.py_model.specs.Plan.{Plan, counts}
use Rattle.py_model.specs.Printing.{literal, truth_text, key_texts, commas}
use Rattle.py_value.specs.Seen.{bytes_of}
use Rattle.py_value.specs.Values.{ValuesView, AreInterned}
use Rattle.py_value.specs.declared.value.Value.{Value}
use Rattle.py_value.specs.declared.value.Value.TheVariants.{None as NoneValue, Bool as BoolValue, Int, Text}
use Rattle.op_lists.specs.Parts.{parts_in}
use Rattle.op_pieces.specs.Pieces.{piece_bytes}
use Rattle.op_pieces.specs.declared.pieces.Piece.{Piece}
use Rattle.op_pieces.specs.declared.pieces.Piece.TheVariants.{Key}

-- The characters of bytes are counted, by the bytes that begin one, and the bytes stand behind what was there.
pub record Counted (bytes : ValuesView → List ℕ) (before after : List ℕ) (old new : WorkView) (result : Result (Unit {0}) Stop) : Type 0 where
  pub comes : Comes is_any as_is (λ table (go : Unit {0} → Plan). counts (heads (bytes table)) (go tt)) old new result
  pub bytes_are : OnOk result ((table : ValuesView) → AreInterned table → Extends new.values table → after ≡ before ++ bytes table)

-- the bytes of a piece that is no key
abbrev pub word_bytes : ValuesView → Piece → List ℕ
word_bytes table (Key v) = codes "?"
word_bytes table piece = piece_bytes table piece

-- the bytes of a key that is no tuple
abbrev pub leaf_bytes : ValuesView → Value → List ℕ
leaf_bytes table NoneValue = codes "None"
leaf_bytes table (BoolValue b) = truth_text b
leaf_bytes table (Int i) = int_text i
leaf_bytes table (Text id) = literal (bytes_of table id)
leaf_bytes table other = codes "?"

-- the parts of a key that is a tuple, with commas between
abbrev pub keys_row : ValuesView → ℕ → List ℕ
keys_row table id = commas (key_texts (parts_in table id))
