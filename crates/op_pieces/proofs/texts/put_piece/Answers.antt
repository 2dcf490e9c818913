use Rattle.std.proofs.Common.{sym, ap}
use Rattle.op_pieces.specs.Pieces.{piece_bytes}
use Rattle.op_pieces.proofs.Counting.{counted_same}
use Rattle.op_pieces.proofs.KeyRows.{word_is}
use Rattle.op_pieces.proofs.texts.put_piece.Goals as goal

pub returns-in-Key : goal.returns-in-Key
returns-in-Key c = counted_same (λ table. piece_bytes table c.args.piece) c.put_key.result c.put_key.ensures (λ table interned extends. sym (ap (piece_bytes table) c.in-Key.is))

pub returns-in_default : goal.returns-in_default
returns-in_default c = counted_same (λ table. piece_bytes table c.args.piece) c.put_word.result c.put_word.ensures (λ table interned extends. word_is table c.args.piece c.in_default.not-Key)
