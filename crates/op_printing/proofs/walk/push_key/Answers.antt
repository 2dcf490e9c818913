use Rattle.std.proofs.Common.{◌∙◌, subst, sym, ap, ◌++◌, codes, ◌∷◌, []}
use Rattle.std.proofs.lemmas.List.{append_assoc}
use Rattle.py_model.specs.Printing.{key_text}
use Rattle.py_value.specs.Contents.{contents}
use Rattle.op_pieces.specs.Parts.{separator}
use Rattle.op_pieces.specs.Pieces.{pieces_bytes, ArePieces}
use Rattle.op_pieces.specs.declared.pieces.Piece.TheVariants.{Key}
use Rattle.op_pieces.proofs.Joining.{bytes_push, named_join}
use Rattle.op_printing.proofs.walk.push_key.Goals as goal

pub returns-clause-bytes : goal.returns-clause-bytes
returns-clause-bytes c = λ table.
    let first = c.push_comma.new.out.items in let text = pieces_bytes table c.args.out.now.items in let key = key_text (contents table c.args.key) in
    c.in_ok-push_word.ensures.bytes_are table
    ∙ (ap (λ words. words ++ codes ": ") (ap (pieces_bytes table) c.in_ok-push.ensures ∙ (bytes_push table first (Key c.args.key) ∙ ap (λ words. words ++ key) (c.in_ok-push_comma.ensures.bytes_are table)))
    ∙ append_assoc (text ++ separator c.args.first) key (codes ": "))

pub returns-clause-named : goal.returns-clause-named
returns-clause-named c = λ values are named. c.in_ok-push_word.ensures.named values (subst (ArePieces values) (sym c.in_ok-push.ensures)
    (named_join values c.push_comma.new.out.items (Key c.args.key ∷ []) (c.in_ok-push_comma.ensures.named values are) (named, tt)))
