use Rattle.std.proofs.Common.{◌≡◌, ◌∙◌, sym, ap, map, chars, encode_utf8}
use Rattle.py_model.specs.Walks.{walk}
use Rattle.op_work.specs.Work.{Comes}
use Rattle.op_lists.specs.ValuesSeen.{values_seen}
use Rattle.py_value.specs.Contents.{contents, text}
use Rattle.py_value.specs.Values.{AreNamed}
use Rattle.py_value.specs.declared.value.Value.TheVariants.{Text}
use Rattle.op_work.proofs.Going.{comes_stop, comes_then, comes_same, passes_err}
use Rattle.op_lists.proofs.TextParts.{text_walk, same_bytes}
use Rattle.op_lists.proofs.texts.walk_text.Goals as goal

pub returns-in_err-count : goal.returns-in_err-count
returns-in_err-count c =
    let bytes = c.text_of.result.now in
    let there = c.count.ensures.kept.extends.texts c.args.id bytes c.text_of.ensures in
    passes_err
    (λ result. Comes (λ values vs. AreNamed values vs.items) (λ table vs. values_seen table vs.items) (λ table. walk (contents table (Text c.args.id))) c.args.work.now c.count.new.self result)
    c.from_residual.result c.from_residual.ensures.1
    (comes_same (λ table. walk (contents table (Text c.args.id)))
    (λ table interned extends go. text_walk table c.args.id c.letter_count.result bytes (extends.texts c.args.id bytes there) c.text_of.utf8 c.letter_count.ensures go)
    (comes_stop (λ table done go. go (map text (map encode_utf8 (chars bytes)))) c.in_err-count.ensures))

pub returns : goal.returns
returns c =
    let bytes = c.text_of.result.now in
    let there = c.count.ensures.kept.extends.texts c.args.id bytes c.text_of.ensures in
    let all : chars bytes ≡ c.deref.result.now = ap chars (same_bytes _ _ (sym there ∙ c.text_of-2.ensures)) ∙ (sym c.in_ok-all.ensures ∙ sym c.deref.ensures.value) in
    comes_same (λ table. walk (contents table (Text c.args.id)))
    (λ table interned extends go. text_walk table c.args.id c.letter_count.result bytes (extends.texts c.args.id bytes (c.letter_texts.ensures.kept.extends.texts c.args.id bytes there)) c.text_of.utf8 c.letter_count.ensures go)
    (comes_then (λ table done go. go (map text (map encode_utf8 (chars bytes)))) c.in_ok-count.ensures
    (λ table interned extends go. ap (λ cs. go (map text (map encode_utf8 cs))) all) c.letter_texts.ensures)
