use Rattle.std.proofs.Common.{◌∙◌, sym, ap, [], encode_utf8, unwrap_or}
use Rattle.std.specs.Option.{option_map}
use Rattle.py_model.specs.Operands.{gives}
use Rattle.py_model.specs.Plan.{counts}
use Rattle.py_value.specs.Contents.{text}
use Rattle.op_numbers.proofs.EndsAlike.{ends_as}
use Rattle.op_items.proofs.letters.letter_answer.Goals as goal

pub returns-in-Some : goal.returns-in-Some
returns-in-Some c = ends_as (λ table. counts 1 (gives (text (unwrap_or (option_map encode_utf8 c.args.letter) [])))) (λ table. counts 1 (gives (text c.encode_utf8.result.now)))
    (λ table interned extends. ap (λ found. counts 1 (gives (text (unwrap_or (option_map encode_utf8 found) [])))) c.in-Some.is ∙ ap (λ bytes. counts 1 (gives (text bytes))) (sym c.encode_utf8.ensures.value)) c.counted_text.ensures

pub returns-in-None : goal.returns-in-None
returns-in-None c = ends_as (λ table. counts 1 (gives (text (unwrap_or (option_map encode_utf8 c.args.letter) [])))) (λ table. counts 1 (gives (text [])))
    (λ table interned extends. ap (λ found. counts 1 (gives (text (unwrap_or (option_map encode_utf8 found) [])))) c.in-None.is) c.counted_text-in-None.ensures
