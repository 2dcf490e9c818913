-- No public clause cites this file.
-- What is put behind pieces while a plan is followed.
use Rattle.std.specs.Prelude.{ℕ, List, ◌++◌, Result}
use Rattle.py_model.specs.Plan.{Plan}
use Rattle.op_work.specs.Work.{WorkView, Plans, Comes}
use Rattle.op_work.specs.declared.stop.Stop.{Stop}
use Rattle.op_pieces.specs.Pieces.{pieces_bytes, ArePieces}
use Rattle.op_pieces.specs.declared.pieces.Piece.{Piece}

-- a plan that goes on with bytes went on with them behind the pieces that were there
pub record Puts (plan : Plans (List ℕ)) (before after : List Piece) (old new : WorkView) (result : Result (Unit {0}) Stop) : Type 0 where
  pub comes : Comes (λ values done. ArePieces values after) (λ table done. pieces_bytes table after)
      (λ table (go : List ℕ → Plan). plan table (λ bytes. go (pieces_bytes table before ++ bytes))) old new result
