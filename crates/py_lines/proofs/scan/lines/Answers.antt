-- What is answered of a text is what it has.
use Rattle.std.proofs.Common.{ℕ, take, arith, ap, ◌∙◌}
use Rattle.py_lines.specs.Counting.{place_after}
use Rattle.py_lines.proofs.Answered.{sound_result, complete_result, bad_result, left_result, ill_formed}
use Rattle.py_lines.proofs.scan.lines.Goals as goal

pub returns-in-Err-clause-not_utf8 : goal.returns-in-Err-clause-not_utf8
returns-in-Err-clause-not_utf8 c =
    ill_formed c.args.text.now c.place_after.result c.in-Err.ensures.cases.0 (omega arith)
    (c.place_after.ensures ∙ ap (λ (n : ℕ). place_after (record { line = 1; col = 1 }) (take n c.args.text.now)) (c.valid_up_to.ensures ∙ c.in-Err.ensures.valid_len))

pub returns-clause-lines : goal.returns-clause-lines
returns-clause-lines c = sound_result c.args.text.now c.scan.result c.in_default.ensures.cases.1 c.scan.ensures

pub returns-clause-complete : goal.returns-clause-complete
returns-clause-complete c = λ found has within. complete_result c.args.text.now c.scan.result c.in_default.ensures.cases.1 c.scan.ensures found has

pub returns-clause-bad_token : goal.returns-clause-bad_token
returns-clause-bad_token c = bad_result c.args.text.now c.scan.result c.scan.ensures

pub returns-clause-left_open : goal.returns-clause-left_open
returns-clause-left_open c = left_result c.args.text.now c.scan.result c.scan.ensures
