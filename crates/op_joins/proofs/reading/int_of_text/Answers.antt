use Rattle.std.proofs.Common.{◌∙◌, sym, ap}
use Rattle.py_model.specs.Operands.{gives_int}
use Rattle.py_model.specs.Texts.{int_written, all_digits, digits_value, without_white}
use Rattle.py_value.specs.Seen.{bytes_of}
use Rattle.op_numbers.proofs.EndsAlike.{ends_as}
use Rattle.op_joins.proofs.AddingPlans.{text_now}
use Rattle.op_work.proofs.Ending.{ends_fault}
use Rattle.op_joins.specs.Written.{behind_sign, is_negative, with_sign, as_written}
use Rattle.op_joins.proofs.WrittenPlans.{of_word, written_is, by_digits, no_digits}
use Rattle.op_joins.proofs.reading.int_of_text.Goals as goal

pub returns-then-not-all_digits : goal.returns-then-not-all_digits
returns-then-not-all_digits c =
    let bytes = c.text_of.result.now in let word = c.trimmed-word.result.now in
    let written = written_is bytes ∙ ap of_word (sym (c.trimmed-word.ensures ∙ ap without_white c.as_bytes.ensures.value)) in
    let are = ap all_digits (sym c.behind_sign-digits.ensures) ∙ (sym c.all_digits.ensures ∙ c.if-not-all_digits.true) in
    ends_fault (λ table. as_written (int_written (bytes_of table c.args.id))) 10 _ c.fault.result c.fault.ensures
    (λ table interned extends. ap (λ b. as_written (int_written b)) (text_now c.fault.new.self.values table c.args.id bytes (c.fault.ensures.kept.extends.texts c.args.id bytes c.text_of.ensures) extends)
    ∙ ap as_written (written ∙ no_digits (all_digits (behind_sign word)) (with_sign (is_negative word) (digits_value 0 (behind_sign word))) are))

pub returns : goal.returns
returns c =
    let bytes = c.text_of.result.now in let word = c.trimmed-word.result.now in let digits = c.behind_sign-digits.result.now in
    let written = written_is bytes ∙ ap of_word (sym (c.trimmed-word.ensures ∙ ap without_white c.as_bytes.ensures.value)) in
    let are = ap all_digits (sym c.behind_sign-digits.ensures) ∙ (sym c.all_digits.ensures ∙ c.if-not-all_digits.false) in
    let same = ap (λ b. with_sign b (digits_value 0 digits)) c.is_negative.ensures ∙ ap (λ ds. with_sign (is_negative word) (digits_value 0 ds)) c.behind_sign-digits.ensures in
    ends_as (λ table. as_written (int_written (bytes_of table c.args.id))) (λ table. gives_int (with_sign c.is_negative.result (digits_value 0 digits)))
    (λ table interned extends. ap (λ b. as_written (int_written b)) (text_now c.args.work.now.values table c.args.id bytes c.text_of.ensures extends)
    ∙ (ap as_written (written ∙ by_digits (all_digits (behind_sign word)) (with_sign (is_negative word) (digits_value 0 (behind_sign word))) are) ∙ ap gives_int (sym same)))
    (c.int_answer.ensures (with_sign c.is_negative.result (digits_value 0 digits)) c.signed_value-found.ensures)
