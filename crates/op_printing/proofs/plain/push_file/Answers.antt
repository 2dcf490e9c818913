use Rattle.std.proofs.Common.{refl, ℕ, List}
use Rattle.py_model.specs.Plan.{Plan}
use Rattle.py_model.specs.Printing.{literal}
use Rattle.py_value.specs.Seen.{bytes_of}
use Rattle.op_pieces.specs.declared.pieces.Piece.TheVariants.{Quoted}
use Rattle.op_printing.proofs.Putting.{word_then, then_word, puts_piece}
use Rattle.op_printing.proofs.plain.push_file.Goals as goal

pub returns : goal.returns
returns c = word_then c.in_ok-push_word.ensures
    (then_word (puts_piece (λ table (go : List ℕ → Plan). go (literal (bytes_of table c.args.path))) c.args.work.now c.push_word.new.out.items c.push.new.out.items (Quoted c.args.path) {done = tt} c.in_ok-push.ensures
    (c.in_ok-push_word.ensures.named c.args.work.now.values c.requires.pieces) c.requires.named (λ table interned extends go. refl)) c.in_ok-push_word-2.ensures)
