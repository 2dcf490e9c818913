use Rattle.std.proofs.Common.{ℕ, List, map}
use Rattle.op_work.specs.Turns.{Turns}
use Rattle.py_model.specs.Plan.{Plan}
use Rattle.py_model.specs.TextMethods.{texts_in}
use Rattle.py_model.specs.Texts.{joined_by}
use Rattle.py_value.specs.Contents.{contents}
use Rattle.py_value.specs.Seen.{bytes_of}
use Rattle.op_pieces.specs.Pieces.{pieces_bytes, ArePieces}
use Rattle.op_pieces.proofs.Joined.{left}
use Rattle.op_pieces.proofs.joins.text_items.Given as goal

abbrev pub invariant-loop-i : goal.invariant-loop-i
invariant-loop-i l =
    Turns (λ table (go : List ℕ → Plan). texts_in (map (contents table) l.items) (λ all. go (joined_by (bytes_of table l.separator) all)))
    (λ table. left (contents table) l.items (bytes_of table l.separator) l.i (pieces_bytes table l.pieces.items)) l.initial.work l.work
    × ArePieces l.work.values l.pieces.items
