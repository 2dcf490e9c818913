use Rattle.std.proofs.Common.{◌≡◌, ◌∙◌, sym, ap, [], ◌∷◌, map, chars, encode_utf8, unwrap_or, slice_get}
use Rattle.std.specs.Option.{option_map}
use Rattle.py_model.specs.Lists.{getitem}
use Rattle.py_model.specs.Operands.{gives}
use Rattle.py_model.specs.Plan.{counts}
use Rattle.py_value.specs.Contents.{contents, text}
use Rattle.py_value.specs.declared.value.Value.TheVariants.{Text}
use Rattle.op_work.specs.Work.{Ends}
use Rattle.op_work.proofs.Ending.{ends_then, ends_stop}
use Rattle.op_work.proofs.Going.{passes_err}
use Rattle.op_dicts.proofs.EndsEqual.{ends_equal}
use Rattle.op_lists.proofs.TextParts.{same_bytes}
use Rattle.op_items.proofs.GetPlans.{text_is, text_part, letter_is}
use Rattle.op_items.proofs.gets.text_item.Goals as goal

pub returns-in_err-p : goal.returns-in_err-p
returns-in_err-p c =
    let bytes = c.text_of.result.now in
    passes_err (λ result. Ends (λ table. getitem (contents table (Text c.args.id) ∷ contents table c.args.w ∷ [])) c.args.work.now c.index_place.new.work result) c.from_residual.result c.from_residual.ensures.1
    (ends_equal (λ table. getitem (contents table (Text c.args.id) ∷ contents table c.args.w ∷ []))
    (λ table interned extends. text_is table c.args.id c.size-count.result (contents table c.args.w) bytes (extends.texts c.args.id bytes (c.index_place.ensures.kept.extends.texts c.args.id bytes c.text_of.ensures)) c.text_of.utf8 c.size-count.ensures.count)
    (ends_stop (λ table p. text_part (map encode_utf8 (chars bytes)) p) _ c.in_err-p.ensures))

pub returns : goal.returns
returns c =
    let bytes = c.text_of.result.now in
    let there = c.index_place.ensures.kept.extends.texts c.args.id bytes c.text_of.ensures in
    let same : bytes ≡ c.text_of-2.result.now = same_bytes _ _ (sym there ∙ c.text_of-2.ensures) in
    ends_equal (λ table. getitem (contents table (Text c.args.id) ∷ contents table c.args.w ∷ []))
    (λ table interned extends. text_is table c.args.id c.size-count.result (contents table c.args.w) bytes (extends.texts c.args.id bytes (c.letter_answer.ensures.extends.texts c.args.id bytes there)) c.text_of.utf8 c.size-count.ensures.count)
    (ends_then (λ table p. text_part (map encode_utf8 (chars bytes)) p) c.in_ok-p.ensures
    (λ table interned extends. ap (λ found. counts 1 (gives (text (unwrap_or found [])))) (letter_is (chars bytes) c.in_ok-p.p
    ∙ ap (option_map encode_utf8) (ap (λ bs. slice_get (chars bs) c.in_ok-p.p) same ∙ sym c.letter_at-letter.ensures))) c.letter_answer.ensures)
