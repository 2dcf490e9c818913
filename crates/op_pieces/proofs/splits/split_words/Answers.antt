use Rattle.std.proofs.Common.{refl, sym, ap, ◌∙◌, map}
use Rattle.op_numbers.proofs.EndsAlike.{ends_as}
use Rattle.op_texts.proofs.Taken.{bytes_stay}
use Rattle.op_work.proofs.Ending.{ends_then, ends_stop}
use Rattle.op_work.proofs.Going.{passes_err}
use Rattle.op_work.specs.Work.{Ends}
use Rattle.py_model.specs.Making.{new_list}
use Rattle.py_model.specs.TextMethods.{searched, gives_texts}
use Rattle.py_model.specs.Texts.{words_of}
use Rattle.py_value.specs.Contents.{text}
use Rattle.py_value.specs.Seen.{bytes_of}
use Rattle.op_pieces.proofs.Splitting.{of_words, list_is}
use Rattle.op_pieces.proofs.splits.split_words.Goals as goal

pub returns-in_err-searched : goal.returns-in_err-searched
returns-in_err-searched c = passes_err (λ result. Ends (λ table. of_words (bytes_of table c.args.id)) c.args.work.now c.searched.new.work result)
    c.from_residual-in_err-searched.result c.from_residual-in_err-searched.ensures.1
    (ends_stop (λ table u. gives_texts (words_of (bytes_of table c.args.id))) _ c.in_err-searched.ensures)

pub returns-in_err-put_words_of : goal.returns-in_err-put_words_of
returns-in_err-put_words_of c =
    let v = c.as_str.result.now in let values = c.args.work.now.values in
    passes_err (λ result. Ends (λ table. of_words (bytes_of table c.args.id)) c.args.work.now c.put_words_of.new.work result)
    c.from_residual-in_err-put_words_of.result c.from_residual-in_err-put_words_of.ensures.1
    (ends_as (λ table. of_words (bytes_of table c.args.id)) (λ table. searched (bytes_of table c.args.id) (gives_texts (words_of v)))
    (λ table interned extends. ap (λ bytes. searched (bytes_of table c.args.id) (gives_texts (words_of bytes)))
    (bytes_stay values table c.args.id c.text_of.result.now c.text_of.ensures extends ∙ (sym c.in_ok-words.ensures.ok ∙ sym c.as_str.ensures.value)))
    (ends_then (λ table u. gives_texts (words_of v)) c.in_ok-searched.ensures (λ table interned extends. refl)
    (ends_stop (λ table u. new_list (map text (words_of v))) _ c.in_err-put_words_of.ensures.comes)))

pub returns : goal.returns
returns c =
    let v = c.as_str.result.now in let values = c.args.work.now.values in
    ends_as (λ table. of_words (bytes_of table c.args.id)) (λ table. searched (bytes_of table c.args.id) (gives_texts (words_of v)))
    (λ table interned extends. ap (λ bytes. searched (bytes_of table c.args.id) (gives_texts (words_of bytes)))
    (bytes_stay values table c.args.id c.text_of.result.now c.text_of.ensures extends ∙ (sym c.in_ok-words.ensures.ok ∙ sym c.as_str.ensures.value)))
    (ends_then (λ table u. gives_texts (words_of v)) c.in_ok-searched.ensures (λ table interned extends. refl)
    (ends_then (λ table u. new_list (map text (words_of v))) c.in_ok-put_words_of.ensures.comes
    (λ table interned extends. list_is table c.put_words_of.new.made.items c.as_slice.result.now c.new-made.result.items (words_of v) c.as_slice.ensures.value c.new-made.ensures.items (c.in_ok-put_words_of.ensures.texts_are table extends))
    c.new_list.ensures))
