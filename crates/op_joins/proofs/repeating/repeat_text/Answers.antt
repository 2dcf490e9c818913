use Rattle.std.proofs.Common.{rules, ◌≡◌, ◌∙◌, refl, sym, ap, ◌*◌}
use Rattle.py_model.specs.Arithmetic.{repeated}
use Rattle.py_model.specs.Operands.{gives, gives_text}
use Rattle.py_model.specs.Plan.{counts}
use Rattle.py_value.specs.Contents.{text}
use Rattle.py_value.specs.Seen.{bytes_of}
use Rattle.op_numbers.proofs.EndsAlike.{ends_as}
use Rattle.op_work.specs.Work.{Ends}
use Rattle.op_work.proofs.Ending.{ends_then, ends_stop}
use Rattle.op_work.proofs.Going.{passes_err}
use Rattle.op_joins.proofs.AddingPlans.{text_now, same_text}
use Rattle.op_joins.proofs.ManyTimes.{size_times}
use Rattle.op_joins.proofs.repeating.repeat_text.Goals as goal

pub returns-in_err-count : goal.returns-in_err-count
returns-in_err-count c =
    let bytes = c.text_of.result.now in let n = c.args.n in let values = c.args.work.now.values in
    let found : c.in-Some.count ≡ c.size.result * n = search rules in
    let sizes = size_times n bytes c.text_of.utf8 ∙ (ap (λ k. k * n) (sym c.size.ensures.count) ∙ sym found) in
    passes_err (λ result. Ends (λ table. gives_text (repeated n (bytes_of table c.args.id))) c.args.work.now c.count.new.self result) c.from_residual.result c.from_residual.ensures.1
    (ends_as (λ table. gives_text (repeated n (bytes_of table c.args.id))) (λ table. counts c.in-Some.count (gives (text (repeated n bytes))))
    (λ table interned extends. ap (λ b. gives_text (repeated n b)) (text_now values table c.args.id bytes c.text_of.ensures extends)
    ∙ ap (λ k. counts k (gives (text (repeated n bytes)))) sizes)
    (ends_stop (λ table done. gives (text (repeated n bytes))) _ c.in_err-count.ensures))

pub returns-in_err-made : goal.returns-in_err-made
returns-in_err-made c =
    let bytes = c.text_of.result.now in let n = c.args.n in let values = c.args.work.now.values in let later = c.count.new.self.values in
    let found : c.in-Some.count ≡ c.size.result * n = search rules in
    let sizes = size_times n bytes c.text_of.utf8 ∙ (ap (λ k. k * n) (sym c.size.ensures.count) ∙ sym found) in
    let words = ap (repeated n) (same_text values later c.args.id bytes c.text_of-2.result.now c.text_of.ensures c.count.ensures.kept.extends c.text_of-2.ensures)
    ∙ (sym c.in_ok-words.ensures ∙ sym c.as_str.ensures.value) in
    passes_err (λ result. Ends (λ table. gives_text (repeated n (bytes_of table c.args.id))) c.args.work.now c.text.new.self result) c.from_residual-in_err-made.result c.from_residual-in_err-made.ensures.1
    (ends_as (λ table. gives_text (repeated n (bytes_of table c.args.id))) (λ table. counts c.in-Some.count (gives (text (repeated n bytes))))
    (λ table interned extends. ap (λ b. gives_text (repeated n b)) (text_now values table c.args.id bytes c.text_of.ensures extends)
    ∙ ap (λ k. counts k (gives (text (repeated n bytes)))) sizes)
    (ends_then (λ table done. gives (text (repeated n bytes))) c.in_ok-count.ensures (λ table interned extends. ap (λ b. gives (text b)) words)
    (ends_stop (λ table made. gives made) _ c.in_err-made.ensures.comes)))

pub returns : goal.returns
returns c =
    let bytes = c.text_of.result.now in let n = c.args.n in let values = c.args.work.now.values in let later = c.count.new.self.values in
    let found : c.in-Some.count ≡ c.size.result * n = search rules in
    let sizes = size_times n bytes c.text_of.utf8 ∙ (ap (λ k. k * n) (sym c.size.ensures.count) ∙ sym found) in
    let words = ap (repeated n) (same_text values later c.args.id bytes c.text_of-2.result.now c.text_of.ensures c.count.ensures.kept.extends c.text_of-2.ensures)
    ∙ (sym c.in_ok-words.ensures ∙ sym c.as_str.ensures.value) in
    ends_as (λ table. gives_text (repeated n (bytes_of table c.args.id))) (λ table. counts c.in-Some.count (gives (text (repeated n bytes))))
    (λ table interned extends. ap (λ b. gives_text (repeated n b)) (text_now values table c.args.id bytes c.text_of.ensures extends)
    ∙ ap (λ k. counts k (gives (text (repeated n bytes)))) sizes)
    (ends_then (λ table done. gives (text (repeated n bytes))) c.in_ok-count.ensures (λ table interned extends. ap (λ b. gives (text b)) words)
    (ends_then (λ table made. gives made) c.in_ok-made.ensures.comes (λ table interned extends. refl) c.value_answer.ensures))
