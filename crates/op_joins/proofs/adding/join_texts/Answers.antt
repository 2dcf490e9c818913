use Rattle.std.proofs.Common.{◌∙◌, refl, sym, ap, ◌+◌, ◌++◌}
use Rattle.py_model.specs.Operands.{gives, gives_text}
use Rattle.py_model.specs.Plan.{counts}
use Rattle.py_model.specs.Texts.{size}
use Rattle.py_value.specs.Contents.{text}
use Rattle.py_value.specs.Seen.{bytes_of}
use Rattle.op_numbers.proofs.EndsAlike.{ends_as}
use Rattle.op_work.specs.Work.{Ends}
use Rattle.op_work.proofs.Ending.{ends_then, ends_stop}
use Rattle.op_work.proofs.Going.{passes_err}
use Rattle.op_joins.proofs.AddingPlans.{text_now, same_text, size_both}
use Rattle.op_joins.proofs.adding.join_texts.Goals as goal

pub returns-in_err-count : goal.returns-in_err-count
returns-in_err-count c =
    let one = c.text_of.result.now in let other = c.text_of-2.result.now in let values = c.args.work.now.values in
    let sizes = size_both one other c.text_of-2.utf8 ∙ (ap (λ n. n + size other) (sym c.size.ensures.count) ∙ ap (λ n. c.size.result + n) (sym c.size-2.ensures.count)) in
    passes_err (λ result. Ends (λ table. gives_text (bytes_of table c.args.a ++ bytes_of table c.args.b)) c.args.work.now c.count.new.self result) c.from_residual.result c.from_residual.ensures.1
    (ends_as (λ table. gives_text (bytes_of table c.args.a ++ bytes_of table c.args.b)) (λ table. counts (c.size.result + c.size-2.result) (gives (text (one ++ other))))
    (λ table interned extends. ap (λ b. gives_text (b ++ bytes_of table c.args.b)) (text_now values table c.args.a one c.text_of.ensures extends)
    ∙ (ap (λ b. gives_text (one ++ b)) (text_now values table c.args.b other c.text_of-2.ensures extends) ∙ ap (λ n. counts n (gives (text (one ++ other)))) sizes))
    (ends_stop (λ table done. gives (text (one ++ other))) _ c.in_err-count.ensures))

pub returns-in_err-made : goal.returns-in_err-made
returns-in_err-made c =
    let one = c.text_of.result.now in let other = c.text_of-2.result.now in let values = c.args.work.now.values in let later = c.count.new.self.values in
    let sizes = size_both one other c.text_of-2.utf8 ∙ (ap (λ n. n + size other) (sym c.size.ensures.count) ∙ ap (λ n. c.size.result + n) (sym c.size-2.ensures.count)) in
    let words = (ap (λ b. b ++ other) (same_text values later c.args.a one c.text_of-3.result.now c.text_of.ensures c.count.ensures.kept.extends c.text_of-3.ensures)
    ∙ ap (λ b. c.text_of-3.result.now ++ b) (same_text values later c.args.b other c.text_of-4.result.now c.text_of-2.ensures c.count.ensures.kept.extends c.text_of-4.ensures))
    ∙ (sym c.in_ok-words.ensures ∙ sym c.as_str.ensures.value) in
    passes_err (λ result. Ends (λ table. gives_text (bytes_of table c.args.a ++ bytes_of table c.args.b)) c.args.work.now c.text.new.self result) c.from_residual-in_err-made.result c.from_residual-in_err-made.ensures.1
    (ends_as (λ table. gives_text (bytes_of table c.args.a ++ bytes_of table c.args.b)) (λ table. counts (c.size.result + c.size-2.result) (gives (text (one ++ other))))
    (λ table interned extends. ap (λ b. gives_text (b ++ bytes_of table c.args.b)) (text_now values table c.args.a one c.text_of.ensures extends)
    ∙ (ap (λ b. gives_text (one ++ b)) (text_now values table c.args.b other c.text_of-2.ensures extends) ∙ ap (λ n. counts n (gives (text (one ++ other)))) sizes))
    (ends_then (λ table done. gives (text (one ++ other))) c.in_ok-count.ensures (λ table interned extends. ap (λ b. gives (text b)) words)
    (ends_stop (λ table made. gives made) _ c.in_err-made.ensures.comes)))

pub returns : goal.returns
returns c =
    let one = c.text_of.result.now in let other = c.text_of-2.result.now in let values = c.args.work.now.values in let later = c.count.new.self.values in
    let sizes = size_both one other c.text_of-2.utf8 ∙ (ap (λ n. n + size other) (sym c.size.ensures.count) ∙ ap (λ n. c.size.result + n) (sym c.size-2.ensures.count)) in
    let words = (ap (λ b. b ++ other) (same_text values later c.args.a one c.text_of-3.result.now c.text_of.ensures c.count.ensures.kept.extends c.text_of-3.ensures)
    ∙ ap (λ b. c.text_of-3.result.now ++ b) (same_text values later c.args.b other c.text_of-4.result.now c.text_of-2.ensures c.count.ensures.kept.extends c.text_of-4.ensures))
    ∙ (sym c.in_ok-words.ensures ∙ sym c.as_str.ensures.value) in
    ends_as (λ table. gives_text (bytes_of table c.args.a ++ bytes_of table c.args.b)) (λ table. counts (c.size.result + c.size-2.result) (gives (text (one ++ other))))
    (λ table interned extends. ap (λ b. gives_text (b ++ bytes_of table c.args.b)) (text_now values table c.args.a one c.text_of.ensures extends)
    ∙ (ap (λ b. gives_text (one ++ b)) (text_now values table c.args.b other c.text_of-2.ensures extends) ∙ ap (λ n. counts n (gives (text (one ++ other)))) sizes))
    (ends_then (λ table done. gives (text (one ++ other))) c.in_ok-count.ensures (λ table interned extends. ap (λ b. gives (text b)) words)
    (ends_then (λ table made. gives made) c.in_ok-made.ensures.comes (λ table interned extends. refl) c.value_answer.ensures))
