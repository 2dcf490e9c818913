use Rattle.std.proofs.Common.{◌≡◌, ◌++◌, List, drop, string_bytes, Ok}
use Rattle.op_pieces.specs.Counted.{Counted}
use Rattle.op_pieces.specs.Pieces.{pieces_bytes, ArePieces}
use Rattle.op_pieces.specs.declared.pieces.Piece.{Piece}
use Rattle.op_pieces.proofs.texts.put_pieces.Given as goal

abbrev pub invariant-loop-i : goal.invariant-loop-i
invariant-loop-i l = (done : List Piece) × (Counted (λ table. pieces_bytes table done) (string_bytes l.fn.text) (string_bytes l.text) l.initial.work l.work (Ok tt)
    × (done ++ drop l.i l.pieces ≡ l.pieces × ArePieces l.work.values l.pieces))
