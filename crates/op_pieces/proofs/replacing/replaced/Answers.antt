use Rattle.std.proofs.Common.{◌≡◌, refl, sym, ap, ◌∙◌, ◌++◌, ◌==◌, false, length}
use Rattle.std.proofs.lemmas.Str.{IsUtf8-string_bytes}
use Rattle.py_model.specs.Operands.{gives, gives_text}
use Rattle.py_model.specs.TextMethods.{searched, replaced}
use Rattle.py_model.specs.Texts.{joined_by, pieces}
use Rattle.py_value.specs.Contents.{contents, text}
use Rattle.py_value.specs.Seen.{bytes_of}
use Rattle.op_numbers.proofs.EndsAlike.{ends_as}
use Rattle.op_texts.proofs.Taken.{bytes_stay}
use Rattle.op_work.specs.Work.{Ends}
use Rattle.op_work.proofs.Ending.{ends_then, ends_stop, ends_gives, ends_fault}
use Rattle.op_work.proofs.Going.{passes_err, extends_then}
use Rattle.op_pieces.proofs.Counting.{counted_size}
use Rattle.op_pieces.proofs.Replaced.{replaced_some, replaced_none}
use Rattle.op_pieces.proofs.replacing.replaced.Goals as goal

pub returns-then-is_empty : goal.returns-then-is_empty
returns-then-is_empty c =
    let values = c.args.work.now.values in
    ends_fault (λ table. replaced (bytes_of table c.args.id) (bytes_of table c.args.sought) (bytes_of table c.args.other)) 13 _ c.fault.result c.fault.ensures
    (λ table interned extends. replaced_none (bytes_of table c.args.id) (bytes_of table c.args.sought) (bytes_of table c.args.other)
    (ap (λ bytes. length bytes == 0) (bytes_stay values table c.args.sought c.text_of-2.result.now c.text_of-2.ensures (extends_then c.fault.ensures.kept.extends extends)
    ∙ (sym c.in_ok-piece.ensures.ok ∙ sym c.as_str.ensures.value)) ∙ (sym c.is_empty.ensures ∙ c.if-is_empty.true)))

pub returns-in_err-put_replaced : goal.returns-in_err-put_replaced
returns-in_err-put_replaced c =
    let v = c.as_str-2.result.now in let w = c.as_str-3.result.now in let u = c.as_str-4.result.now in let values = c.args.work.now.values in
    let words = joined_by u (pieces w v) in
    passes_err (λ result. Ends (λ table. replaced (bytes_of table c.args.id) (bytes_of table c.args.sought) (bytes_of table c.args.other)) c.args.work.now c.put_replaced.new.work result)
    c.from_residual-in_err-put_replaced.result c.from_residual-in_err-put_replaced.ensures.1
    (ends_as (λ table. replaced (bytes_of table c.args.id) (bytes_of table c.args.sought) (bytes_of table c.args.other)) (λ table. searched (bytes_of table c.args.id) (gives_text words)) (λ table interned extends.
    let v_is : bytes_of table c.args.id ≡ v = bytes_stay values table c.args.id c.text_of.result.now c.text_of.ensures extends ∙ (sym c.in_ok-words.ensures.ok ∙ sym c.as_str-2.ensures.value) in
    let w_is : bytes_of table c.args.sought ≡ w = bytes_stay values table c.args.sought c.text_of-2.result.now c.text_of-2.ensures extends ∙ (sym c.in_ok-piece.ensures.ok ∙ sym c.as_str-3.ensures.value) in
    let u_is : bytes_of table c.args.other ≡ u = bytes_stay values table c.args.other c.text_of-3.result.now c.text_of-3.ensures extends ∙ (sym c.in_ok-place.ensures.ok ∙ sym c.as_str-4.ensures.value) in
    let some : (length (bytes_of table c.args.sought) == 0) ≡ false = ap (λ bytes. length bytes == 0) (w_is ∙ (c.as_str-3.ensures.value ∙ sym c.as_str.ensures.value)) ∙ (sym c.is_empty.ensures ∙ c.if-is_empty.false) in
    replaced_some (bytes_of table c.args.id) (bytes_of table c.args.sought) (bytes_of table c.args.other) some
    ∙ (ap (λ bytes. searched (bytes_of table c.args.id) (gives_text (joined_by (bytes_of table c.args.other) (pieces (bytes_of table c.args.sought) bytes)))) v_is
    ∙ (ap (λ bytes. searched (bytes_of table c.args.id) (gives_text (joined_by (bytes_of table c.args.other) (pieces bytes v)))) w_is
    ∙ ap (λ bytes. searched (bytes_of table c.args.id) (gives_text (joined_by bytes (pieces w v)))) u_is)))
    (ends_then (λ table u. gives_text words) c.in_ok-searched.ensures (λ table interned extends. refl)
    (ends_stop (λ table u. gives (text words)) _ (counted_size (λ table. words) _ c.new-out.ensures.bytes (IsUtf8-string_bytes c.put_replaced.new.out) c.in_err-put_replaced.ensures))))

pub returns : goal.returns
returns c =
    let v = c.as_str-2.result.now in let w = c.as_str-3.result.now in let u = c.as_str-4.result.now in let values = c.args.work.now.values in
    let words = joined_by u (pieces w v) in
    ends_as (λ table. replaced (bytes_of table c.args.id) (bytes_of table c.args.sought) (bytes_of table c.args.other)) (λ table. searched (bytes_of table c.args.id) (gives_text words)) (λ table interned extends.
    let v_is : bytes_of table c.args.id ≡ v = bytes_stay values table c.args.id c.text_of.result.now c.text_of.ensures extends ∙ (sym c.in_ok-words.ensures.ok ∙ sym c.as_str-2.ensures.value) in
    let w_is : bytes_of table c.args.sought ≡ w = bytes_stay values table c.args.sought c.text_of-2.result.now c.text_of-2.ensures extends ∙ (sym c.in_ok-piece.ensures.ok ∙ sym c.as_str-3.ensures.value) in
    let u_is : bytes_of table c.args.other ≡ u = bytes_stay values table c.args.other c.text_of-3.result.now c.text_of-3.ensures extends ∙ (sym c.in_ok-place.ensures.ok ∙ sym c.as_str-4.ensures.value) in
    let some : (length (bytes_of table c.args.sought) == 0) ≡ false = ap (λ bytes. length bytes == 0) (w_is ∙ (c.as_str-3.ensures.value ∙ sym c.as_str.ensures.value)) ∙ (sym c.is_empty.ensures ∙ c.if-is_empty.false) in
    replaced_some (bytes_of table c.args.id) (bytes_of table c.args.sought) (bytes_of table c.args.other) some
    ∙ (ap (λ bytes. searched (bytes_of table c.args.id) (gives_text (joined_by (bytes_of table c.args.other) (pieces (bytes_of table c.args.sought) bytes)))) v_is
    ∙ (ap (λ bytes. searched (bytes_of table c.args.id) (gives_text (joined_by (bytes_of table c.args.other) (pieces bytes v)))) w_is
    ∙ ap (λ bytes. searched (bytes_of table c.args.id) (gives_text (joined_by bytes (pieces w v)))) u_is)))
    (ends_then (λ table u. gives_text words) c.in_ok-searched.ensures (λ table interned extends. refl)
    (ends_then (λ table u. gives (text words)) (counted_size (λ table. words) _ c.new-out.ensures.bytes (IsUtf8-string_bytes c.put_replaced.new.out) c.in_ok-put_replaced.ensures)
    (λ table interned extends. ap (λ bytes. gives (text bytes)) (sym (c.as_str-5.ensures.value ∙ (c.in_ok-put_replaced.ensures.bytes_are table interned extends ∙ ap (λ bytes. bytes ++ words) c.new-out.ensures.bytes))))
    (ends_then (λ table made. gives made) c.in_ok-made.ensures.comes (λ table interned extends. refl)
    (ends_gives (λ table. gives (contents table c.in_ok-made.made)) c.text.new.self c.in_ok-made.made
    (c.in_ok-made.ensures.comes.kept.made_is ∙ (c.in_ok-put_replaced.ensures.comes.kept.made_is ∙ (c.in_ok-searched.ensures.kept.made_is ∙ c.requires.fresh))) c.in_ok-made.ensures.comes.is_named (λ table interned extends. refl)))))

pub returns-in_err-searched : goal.returns-in_err-searched
returns-in_err-searched c =
    let values = c.args.work.now.values in
    passes_err (λ result. Ends (λ table. replaced (bytes_of table c.args.id) (bytes_of table c.args.sought) (bytes_of table c.args.other)) c.args.work.now c.searched.new.work result)
    c.from_residual-in_err-searched.result c.from_residual-in_err-searched.ensures.1
    (ends_as (λ table. replaced (bytes_of table c.args.id) (bytes_of table c.args.sought) (bytes_of table c.args.other))
    (λ table. searched (bytes_of table c.args.id) (gives_text (joined_by (bytes_of table c.args.other) (pieces (bytes_of table c.args.sought) (bytes_of table c.args.id)))))
    (λ table interned extends. replaced_some (bytes_of table c.args.id) (bytes_of table c.args.sought) (bytes_of table c.args.other)
    (ap (λ bytes. length bytes == 0) (bytes_stay values table c.args.sought c.text_of-2.result.now c.text_of-2.ensures extends ∙ (sym c.in_ok-piece.ensures.ok ∙ sym c.as_str.ensures.value)) ∙ (sym c.is_empty.ensures ∙ c.if-is_empty.false)))
    (ends_stop (λ table u. gives_text (joined_by (bytes_of table c.args.other) (pieces (bytes_of table c.args.sought) (bytes_of table c.args.id)))) _ c.in_err-searched.ensures))
