use Rattle.std.proofs.Common.{refl}
use Rattle.op_pieces.specs.declared.pieces.Piece.TheVariants.{Word}
use Rattle.op_pieces.proofs.Joining.{adds_piece}
use Rattle.op_pieces.proofs.pieces.push_word.Goals as goal

pub returns : goal.returns
returns c = adds_piece c.args.out.now.items c.push.new.out.items (Word c.args.word) c.args.word.now c.in_ok-push.ensures (λ table. refl) (λ values. tt)
