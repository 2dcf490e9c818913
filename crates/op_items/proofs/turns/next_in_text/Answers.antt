use Rattle.std.proofs.Common.{◌∙◌, sym, ap, [], ◌∷◌, pos, encode_utf8}
use Rattle.std.specs.Option.{option_map}
use Rattle.py_model.specs.Lists.{next}
use Rattle.py_value.specs.Contents.{contents, int, text}
use Rattle.py_value.specs.declared.value.Value.TheVariants.{Text}
use Rattle.op_work.proofs.Ending.{ends_at_end}
use Rattle.op_dicts.proofs.EndsEqual.{ends_equal}
use Rattle.op_items.proofs.TurnPlans.{text_turn, counted}
use Rattle.op_items.proofs.turns.next_in_text.Goals as goal

pub returns-in-Some : goal.returns-in-Some
returns-in-Some c = λ file_line begun.
    let bytes = c.text_of.result.now in
    ends_equal (λ table. next file_line (contents table (Text c.args.id) ∷ int (pos c.args.n) ∷ begun ∷ []))
    (λ table interned extends. text_turn table file_line begun c.args.id c.args.n bytes (extends.texts c.args.id bytes (c.letter_answer.ensures.extends.texts c.args.id bytes c.text_of.ensures)) c.text_of.utf8
    ∙ ap (λ found. counted (option_map text (option_map encode_utf8 found))) (sym c.letter_at.ensures ∙ c.in-Some.is)) c.letter_answer.ensures

pub returns-in-None : goal.returns-in-None
returns-in-None c = λ file_line begun.
    let bytes = c.text_of.result.now in
    ends_at_end (λ table. next file_line (contents table (Text c.args.id) ∷ int (pos c.args.n) ∷ begun ∷ [])) c.args.work.now c.requires.fresh
    (λ table interned extends. text_turn table file_line begun c.args.id c.args.n bytes (extends.texts c.args.id bytes c.text_of.ensures) c.text_of.utf8
    ∙ ap (λ found. counted (option_map text (option_map encode_utf8 found))) (sym c.letter_at.ensures ∙ c.in-None.is))
