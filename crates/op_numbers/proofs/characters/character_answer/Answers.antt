use Rattle.std.proofs.Common.{◌∙◌, refl, sym, ap, encode_utf8}
use Rattle.op_work.specs.Work.{Ends}
use Rattle.py_model.specs.Operands.{gives, gives_text}
use Rattle.py_model.specs.Plan.{counts}
use Rattle.py_value.specs.Contents.{contents, text}
use Rattle.op_work.proofs.Ending.{ends_then, ends_stop, ends_gives}
use Rattle.op_work.proofs.Going.{passes_err}
use Rattle.op_numbers.proofs.CharacterPlans.{size_one}
use Rattle.op_numbers.proofs.EndsAlike.{ends_as}
use Rattle.op_numbers.proofs.characters.character_answer.Goals as goal

pub returns-in_err-count : goal.returns-in_err-count
returns-in_err-count c = passes_err (λ result. Ends (λ table. gives_text (encode_utf8 c.args.c)) c.args.work.now c.count.new.self result) c.from_residual.result c.from_residual.ensures.1
    (ends_as (λ table. gives_text (encode_utf8 c.args.c)) (λ table. counts 1 (gives (text (encode_utf8 c.args.c))))
    (λ table interned extends. ap (λ n. counts n (gives (text (encode_utf8 c.args.c)))) (size_one c.args.c))
    (ends_stop (λ table done. gives (text (encode_utf8 c.args.c))) _ c.in_err-count.ensures))

pub returns : goal.returns
returns c = ends_as (λ table. gives_text (encode_utf8 c.args.c)) (λ table. counts 1 (gives (text (encode_utf8 c.args.c))))
    (λ table interned extends. ap (λ n. counts n (gives (text (encode_utf8 c.args.c)))) (size_one c.args.c))
    (ends_then (λ table done. gives (text (encode_utf8 c.args.c))) c.in_ok-count.ensures (λ table interned extends. ap (λ bytes. gives (text bytes)) (sym c.encode_utf8.ensures.value))
    (ends_then (λ table x. gives x) c.in_ok-text.ensures.comes (λ table interned extends. refl)
    (ends_gives (λ table. gives (contents table c.in_ok-text.text)) c.text.new.self c.in_ok-text.text
    (c.in_ok-text.ensures.comes.kept.made_is ∙ (c.count.ensures.kept.made_is ∙ c.requires.fresh)) c.in_ok-text.ensures.comes.is_named (λ table interned extends. refl))))
