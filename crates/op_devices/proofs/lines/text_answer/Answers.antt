use Rattle.std.proofs.Common.{◌≡◌, ◌∙◌, refl, sym, ap, Bool, true, false, List, ℕ}
use Rattle.std.proofs.lemmas.Str.{IsUtf8-from_is_utf8, is_utf8-from_IsUtf8}
use Rattle.std.specs.Str.{is_utf8}
use Rattle.op_devices.specs.Given.{line_given}
use Rattle.op_devices.proofs.LinePlans.{text_line, other_line}
use Rattle.op_dicts.proofs.EndsEqual.{ends_equal}
use Rattle.op_work.specs.Work.{Ends}
use Rattle.op_work.proofs.Ending.{ends_then, ends_stop, ends_fault}
use Rattle.op_work.proofs.Going.{passes_err}
use Rattle.py_model.specs.Operands.{gives}
use Rattle.py_model.specs.Plan.{Plan, a_line, counts, writes, done}
use Rattle.py_model.specs.Texts.{size}
use Rattle.py_value.specs.Contents.{text}
use Rattle.op_devices.proofs.lines.text_answer.Goals as goal

not_true : (b : Bool) → (b ≡ true → ⊥) → b ≡ false
not_true true other = absurd (other refl)
not_true false other = refl

abbrev the_text : List ℕ → Plan
the_text bytes = writes (done (text bytes))

pub returns-in_default : goal.returns-in_default
returns-in_default c = ends_fault (λ table. line_given (a_line c.args.bytes.now)) 10 _ c.fault.result c.fault.ensures
    (λ table interned extends. other_line c.args.bytes.now (not_true (is_utf8 _) (λ is. c.in_default.ensures.cases.0 (IsUtf8-from_is_utf8 _ is))))

pub returns-in_err-count : goal.returns-in_err-count
returns-in_err-count c =
    let same = c.in-Ok.ensures.cases.0 in
    let is = is_utf8-from_IsUtf8 _ c.in-Ok.ensures.cases.1 in
    passes_err (λ result. Ends (λ table. line_given (a_line c.args.bytes.now)) c.args.work.now c.count.new.self result) c.from_residual.result c.from_residual.ensures.1
    (ends_equal (λ table. line_given (a_line c.args.bytes.now))
    (λ table interned extends. text_line c.args.bytes.now is ∙ ap (λ n. counts n (the_text c.args.bytes.now)) (sym (c.size.ensures.count ∙ ap size same)))
    (ends_stop (λ table x. the_text c.args.bytes.now) _ c.in_err-count.ensures))

pub returns : goal.returns
returns c =
    let same = c.in-Ok.ensures.cases.0 in
    let is = is_utf8-from_IsUtf8 _ c.in-Ok.ensures.cases.1 in
    ends_equal (λ table. line_given (a_line c.args.bytes.now))
    (λ table interned extends. text_line c.args.bytes.now is ∙ ap (λ n. counts n (the_text c.args.bytes.now)) (sym (c.size.ensures.count ∙ ap size same)))
    (ends_then (λ table x. the_text c.args.bytes.now) c.in_ok-count.ensures (λ table interned extends. ap the_text (sym same))
    (ends_then (λ table x. gives x) c.in_ok-text.ensures.comes (λ table interned extends. refl) c.value_answer.ensures))
