use Rattle.std.proofs.Common.{◌≡◌, refl, sym, ap, ◌∙◌, ◌==◌, length, map}
use Rattle.op_numbers.proofs.EndsAlike.{ends_as}
use Rattle.op_texts.proofs.Taken.{bytes_stay}
use Rattle.op_work.proofs.Ending.{ends_then, ends_stop, ends_fault}
use Rattle.op_work.proofs.Going.{passes_err, extends_then}
use Rattle.op_work.specs.Work.{Ends}
use Rattle.py_model.specs.Making.{new_list}
use Rattle.py_model.specs.TextMethods.{searched, split_by, gives_texts}
use Rattle.py_model.specs.Texts.{pieces}
use Rattle.py_value.specs.Contents.{text}
use Rattle.py_value.specs.Seen.{bytes_of}
use Rattle.op_pieces.proofs.Splitting.{split_some, split_none, pieces_are, list_is}
use Rattle.op_pieces.proofs.splits.split_between.Goals as goal

pub returns-then-is_empty : goal.returns-then-is_empty
returns-then-is_empty c =
    let values = c.args.work.now.values in
    ends_fault (λ table. split_by (bytes_of table c.args.id) (bytes_of table c.args.separator)) 10 _ c.fault.result c.fault.ensures
    (λ table interned extends. split_none (bytes_of table c.args.id) (bytes_of table c.args.separator) _
    (ap (λ bytes. length bytes == 0) (bytes_stay values table c.args.separator c.text_of-2.result.now c.text_of-2.ensures (extends_then c.fault.ensures.kept.extends extends)
    ∙ (sym c.in_ok-piece.ensures.ok ∙ sym c.as_str.ensures.value)) ∙ (sym c.is_empty.ensures ∙ c.if-is_empty.true)) refl)

pub returns-in_err-searched : goal.returns-in_err-searched
returns-in_err-searched c =
    let values = c.args.work.now.values in
    passes_err (λ result. Ends (λ table. split_by (bytes_of table c.args.id) (bytes_of table c.args.separator)) c.args.work.now c.searched.new.work result)
    c.from_residual-in_err-searched.result c.from_residual-in_err-searched.ensures.1
    (ends_as (λ table. split_by (bytes_of table c.args.id) (bytes_of table c.args.separator))
    (λ table. searched (bytes_of table c.args.id) (gives_texts (pieces (bytes_of table c.args.separator) (bytes_of table c.args.id))))
    (λ table interned extends. split_some (bytes_of table c.args.id) (bytes_of table c.args.separator)
    (ap (λ bytes. length bytes == 0) (bytes_stay values table c.args.separator c.text_of-2.result.now c.text_of-2.ensures extends ∙ (sym c.in_ok-piece.ensures.ok ∙ sym c.as_str.ensures.value)) ∙ (sym c.is_empty.ensures ∙ c.if-is_empty.false)))
    (ends_stop (λ table u. gives_texts (pieces (bytes_of table c.args.separator) (bytes_of table c.args.id))) _ c.in_err-searched.ensures))

pub returns-in_err-put_between : goal.returns-in_err-put_between
returns-in_err-put_between c =
    let v = c.as_str-2.result.now in let w = c.as_str-3.result.now in let values = c.args.work.now.values in
    passes_err (λ result. Ends (λ table. split_by (bytes_of table c.args.id) (bytes_of table c.args.separator)) c.args.work.now c.put_between.new.work result)
    c.from_residual-in_err-put_between.result c.from_residual-in_err-put_between.ensures.1
    (ends_as (λ table. split_by (bytes_of table c.args.id) (bytes_of table c.args.separator)) (λ table. searched (bytes_of table c.args.id) (gives_texts (pieces w v))) (λ table interned extends.
    let v_is : bytes_of table c.args.id ≡ v = bytes_stay values table c.args.id c.text_of.result.now c.text_of.ensures extends ∙ (sym c.in_ok-words.ensures.ok ∙ sym c.as_str-2.ensures.value) in
    let w_is : bytes_of table c.args.separator ≡ w = bytes_stay values table c.args.separator c.text_of-2.result.now c.text_of-2.ensures extends ∙ (sym c.in_ok-piece.ensures.ok ∙ sym c.as_str-3.ensures.value) in
    pieces_are (bytes_of table c.args.id) (bytes_of table c.args.separator) v w v_is w_is
    (ap (λ bytes. length bytes == 0) (w_is ∙ (c.as_str-3.ensures.value ∙ sym c.as_str.ensures.value)) ∙ (sym c.is_empty.ensures ∙ c.if-is_empty.false)))
    (ends_then (λ table u. gives_texts (pieces w v)) c.in_ok-searched.ensures (λ table interned extends. refl)
    (ends_stop (λ table u. new_list (map text (pieces w v))) _ c.in_err-put_between.ensures.comes)))

pub returns : goal.returns
returns c =
    let v = c.as_str-2.result.now in let w = c.as_str-3.result.now in let values = c.args.work.now.values in
    ends_as (λ table. split_by (bytes_of table c.args.id) (bytes_of table c.args.separator)) (λ table. searched (bytes_of table c.args.id) (gives_texts (pieces w v))) (λ table interned extends.
    let v_is : bytes_of table c.args.id ≡ v = bytes_stay values table c.args.id c.text_of.result.now c.text_of.ensures extends ∙ (sym c.in_ok-words.ensures.ok ∙ sym c.as_str-2.ensures.value) in
    let w_is : bytes_of table c.args.separator ≡ w = bytes_stay values table c.args.separator c.text_of-2.result.now c.text_of-2.ensures extends ∙ (sym c.in_ok-piece.ensures.ok ∙ sym c.as_str-3.ensures.value) in
    pieces_are (bytes_of table c.args.id) (bytes_of table c.args.separator) v w v_is w_is
    (ap (λ bytes. length bytes == 0) (w_is ∙ (c.as_str-3.ensures.value ∙ sym c.as_str.ensures.value)) ∙ (sym c.is_empty.ensures ∙ c.if-is_empty.false)))
    (ends_then (λ table u. gives_texts (pieces w v)) c.in_ok-searched.ensures (λ table interned extends. refl)
    (ends_then (λ table u. new_list (map text (pieces w v))) c.in_ok-put_between.ensures.comes
    (λ table interned extends. list_is table c.put_between.new.made.items c.as_slice.result.now c.new-made.result.items (pieces w v) c.as_slice.ensures.value c.new-made.ensures.items (c.in_ok-put_between.ensures.texts_are table extends))
    c.new_list.ensures))
