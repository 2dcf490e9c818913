use Rattle.std.proofs.Common.{sym, ap, ◌∙◌, subst, append-nil, [], ◌∷◌, ◌++◌}
use Rattle.py_value.specs.Seen.{bytes_of}
use Rattle.op_pieces.specs.Joins.{before_text}
use Rattle.op_pieces.proofs.Joining.{bytes_push, named_join}
use Rattle.op_pieces.specs.Pieces.{pieces_bytes, ArePieces}
use Rattle.op_pieces.specs.declared.pieces.Piece.TheVariants.{Plain}
use Rattle.op_pieces.proofs.joins.push_text.Goals as goal

pub returns-then-first-clause-bytes : goal.returns-then-first-clause-bytes
returns-then-first-clause-bytes c = λ table.
    let words = pieces_bytes table c.args.out.now.items in
    ap (pieces_bytes table) c.in_ok-push.ensures ∙ (bytes_push table c.args.out.now.items (Plain c.args.id)
    ∙ ap (λ front. front ++ bytes_of table c.args.id) (sym (append-nil words) ∙ sym (ap (λ first. words ++ before_text first (bytes_of table c.args.separator)) c.if-first.true)))

pub returns-then-first-clause-named : goal.returns-then-first-clause-named
returns-then-first-clause-named c = λ values are separator id. subst (ArePieces values) (sym c.in_ok-push.ensures) (named_join values c.args.out.now.items (Plain c.args.id ∷ []) are (id, tt))

pub returns-clause-bytes : goal.returns-clause-bytes
returns-clause-bytes c = λ table.
    let words = pieces_bytes table c.args.out.now.items in
    ap (pieces_bytes table) c.in_ok-push-3.ensures ∙ (bytes_push table c.push-2.new.out.items (Plain c.args.id)
    ∙ ap (λ front. front ++ bytes_of table c.args.id) (ap (pieces_bytes table) c.in_ok-push-2.ensures ∙ (bytes_push table c.args.out.now.items (Plain c.args.separator)
    ∙ sym (ap (λ first. words ++ before_text first (bytes_of table c.args.separator)) c.if-first.false))))

pub returns-clause-named : goal.returns-clause-named
returns-clause-named c = λ values are separator id. subst (ArePieces values) (sym c.in_ok-push-3.ensures)
    (named_join values c.push-2.new.out.items (Plain c.args.id ∷ []) (subst (ArePieces values) (sym c.in_ok-push-2.ensures) (named_join values c.args.out.now.items (Plain c.args.separator ∷ []) are (separator, tt))) (id, tt))
