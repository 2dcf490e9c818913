use Rattle.std.proofs.Common.{refl, sym, ap, ◌∙◌, ◌++◌}
use Rattle.std.proofs.lemmas.Str.{IsUtf8-string_bytes}
use Rattle.py_model.specs.Plan.{writes, done}
use Rattle.py_model.specs.Printing.{printed, answers_text}
use Rattle.py_value.specs.Contents.{contents, text}
use Rattle.op_work.specs.Work.{Ends}
use Rattle.op_work.proofs.Ending.{ends_then, ends_stop, ends_gives}
use Rattle.op_work.proofs.Going.{passes_err}
use Rattle.op_pieces.specs.Pieces.{pieces_bytes}
use Rattle.op_pieces.proofs.Counting.{counted_size}
use Rattle.op_printing.proofs.Putting.{puts_start}
use Rattle.op_printing.proofs.operations.answer.Goals as goal

pub returns-in_err-printed : goal.returns-in_err-printed
returns-in_err-printed c = passes_err (λ result. Ends (λ table. printed c.args.quoted (contents table c.args.v) answers_text) c.args.work.now c.printed.new.work result)
    c.from_residual.result c.from_residual.ensures.1 (ends_stop (λ table bytes. answers_text bytes) _ (puts_start c.new-pieces.ensures.items c.in_err-printed.ensures))

pub returns-in_err-put_pieces : goal.returns-in_err-put_pieces
returns-in_err-put_pieces c =
    let ps = c.as_slice.result.now in
    passes_err (λ result. Ends (λ table. printed c.args.quoted (contents table c.args.v) answers_text) c.args.work.now c.put_pieces.new.work result)
    c.from_residual-in_err-put_pieces.result c.from_residual-in_err-put_pieces.ensures.1
    (ends_then (λ table bytes. answers_text bytes) (puts_start c.new-pieces.ensures.items c.in_ok-printed.ensures) (λ table interned extends. ap (λ qs. answers_text (pieces_bytes table qs)) (sym c.as_slice.ensures.value))
    (ends_stop (λ table u. writes (done (text (pieces_bytes table ps)))) _ (counted_size (λ table. pieces_bytes table ps) _ c.new-text.ensures.bytes (IsUtf8-string_bytes c.put_pieces.new.text) c.in_err-put_pieces.ensures)))

pub returns : goal.returns
returns c =
    let ps = c.as_slice.result.now in
    ends_then (λ table bytes. answers_text bytes) (puts_start c.new-pieces.ensures.items c.in_ok-printed.ensures) (λ table interned extends. ap (λ qs. answers_text (pieces_bytes table qs)) (sym c.as_slice.ensures.value))
    (ends_then (λ table u. writes (done (text (pieces_bytes table ps)))) (counted_size (λ table. pieces_bytes table ps) _ c.new-text.ensures.bytes (IsUtf8-string_bytes c.put_pieces.new.text) c.in_ok-put_pieces.ensures)
    (λ table interned extends. ap (λ words. writes (done (text words))) (sym (c.as_str.ensures.value ∙ (c.in_ok-put_pieces.ensures.bytes_are table interned extends ∙ ap (λ words. words ++ pieces_bytes table ps) c.new-text.ensures.bytes))))
    (ends_then (λ table made. writes (done made)) c.in_ok-made.ensures.comes (λ table interned extends. refl)
    (ends_gives (λ table. writes (done (contents table c.in_ok-made.made))) c.text.new.self c.in_ok-made.made
    (c.in_ok-made.ensures.comes.kept.made_is ∙ (c.in_ok-put_pieces.ensures.comes.kept.made_is ∙ (c.in_ok-printed.ensures.comes.kept.made_is ∙ c.requires.fresh))) c.in_ok-made.ensures.comes.is_named (λ table interned extends. refl))))
