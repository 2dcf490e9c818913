use Rattle.std.proofs.Common.{refl, sym, ap, ◌∙◌, [], ◌∷◌, ◌++◌, ◌+◌, append-nil, drop, string_bytes, slice_index_or}
use Rattle.std.proofs.lemmas.List.{append_assoc, drop_all}
use Rattle.op_work.proofs.Going.{passes_err}
use Rattle.op_pieces.specs.Counted.{Counted}
use Rattle.op_pieces.specs.Pieces.{pieces_bytes}
use Rattle.op_pieces.proofs.Counting.{counted_same, counted_then, counted_stop, counted_none}
use Rattle.op_pieces.proofs.Joining.{bytes_join, bytes_push, piece_next, piece_named, pieces_stay}
use Rattle.op_pieces.proofs.texts.put_pieces.Goals as goal

pub loop-i-init : goal.loop-i-init
loop-i-init c = ([], (counted_none (string_bytes c.args.text.now) c.args.work.now, (refl, c.requires)))

pub put_piece-requires : goal.put_piece-requires
put_piece-requires c = piece_named c.loop-i.work.values c.args.pieces.now c.loop-i.i _ c.loop-i-test.true c.loop-i.invariant.1.1.1

pub returns-in_err-put_piece : goal.returns-in_err-put_piece
returns-in_err-put_piece c =
    let pieces = c.args.pieces.now in let i = c.loop-i.i in let done = c.loop-i.invariant.0 in
    passes_err (λ result. Counted (λ table. pieces_bytes table pieces) (string_bytes c.args.text.now) (string_bytes c.put_piece.new.text) c.args.work.now c.put_piece.new.work result)
    c.from_residual.result c.from_residual.ensures.1
    (counted_same (λ table. pieces_bytes table pieces) _ (counted_then c.loop-i.invariant.1.0 (counted_stop (λ table. pieces_bytes table (drop (i + 1) pieces)) c.in_err-put_piece.ensures))
    (λ table interned extends. ap (λ ps. pieces_bytes table done ++ pieces_bytes table ps) (sym (piece_next pieces i _ c.loop-i-test.true)) ∙ (sym (bytes_join table done (drop i pieces)) ∙ ap (pieces_bytes table) c.loop-i.invariant.1.1.0)))

pub loop-i-preserved : goal.loop-i-preserved
loop-i-preserved c =
    let pieces = c.args.pieces.now in let i = c.loop-i.i in let done = c.loop-i.invariant.0 in (
      done ++ slice_index_or pieces i _ ∷ [],
      (
        counted_same (λ table. pieces_bytes table (done ++ slice_index_or pieces i _ ∷ [])) _ (counted_then c.loop-i.invariant.1.0 c.in_ok-put_piece.ensures) (λ table interned extends. sym (bytes_push table done (slice_index_or pieces i _))),
        (
          append_assoc done (slice_index_or pieces i _ ∷ []) (drop (i + 1) pieces) ∙ (ap (λ ps. done ++ ps) (sym (piece_next pieces i _ c.loop-i-test.true)) ∙ c.loop-i.invariant.1.1.0),
          pieces_stay c.loop-i.work.values c.put_piece.new.work.values c.in_ok-put_piece.ensures.comes.kept.extends pieces c.loop-i.invariant.1.1.1,
        ),
      ),
    )

pub returns : goal.returns
returns c =
    let pieces = c.args.pieces.now in let done = c.loop-i.invariant.0 in
    counted_same (λ table. pieces_bytes table pieces) _ c.loop-i.invariant.1.0
    (λ table interned extends. ap (pieces_bytes table) (sym (append-nil done) ∙ (ap (λ ps. done ++ ps) (sym (drop_all c.loop-i.i pieces c.loop-i-test.false)) ∙ c.loop-i.invariant.1.1.0)))
