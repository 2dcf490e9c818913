use Rattle.std.proofs.Common.{refl, ◌∙◌, subst, ℕ, Ok, Err}
use Rattle.py_value.specs.Contents.{contents, text}
use Rattle.py_model.specs.Operands.{gives, gives_text}
use Rattle.py_model.specs.Plan.{Plan, counts}
use Rattle.op_work.specs.Work.{Comes, Ends, is_any, as_is}
use Rattle.op_work.proofs.Ending.{ends_then, ends_stop, ends_gives}
use Rattle.op_work.proofs.Going.{passes_err}
use Rattle.op_texts.proofs.answers.gives_text.Goals as goal

pub returns-in_err-count : goal.returns-in_err-count
returns-in_err-count c =
    let counted = subst (λ (n : ℕ). Comes is_any as_is (λ table (go : Unit {0} → Plan). counts n (go tt)) c.args.work.now c.count.new.self (Err c.in_err-count.field-0.0)) c.size.ensures.count c.in_err-count.ensures in
    passes_err (λ result. Ends (λ table. gives_text c.args.words.now) c.args.work.now c.count.new.self result) c.from_residual.result c.from_residual.ensures.1
    (ends_stop (λ table x. gives (text c.args.words.now)) c.in_err-count.field-0.0 counted)

pub returns : goal.returns
returns c =
    let counted = subst (λ (n : ℕ). Comes is_any as_is (λ table (go : Unit {0} → Plan). counts n (go tt)) c.args.work.now c.count.new.self (Ok c.in_ok-count.field-0)) c.size.ensures.count c.in_ok-count.ensures in
    ends_then (λ table x. gives (text c.args.words.now)) counted (λ table interned extends. refl)
    (ends_then (λ table made. gives made) c.in_ok-made.ensures.comes (λ table interned extends. refl)
    (ends_gives (λ table. gives (contents table c.in_ok-made.made)) c.text.new.self c.in_ok-made.made
    (c.in_ok-made.ensures.comes.kept.made_is ∙ (c.count.ensures.kept.made_is ∙ c.requires)) c.in_ok-made.ensures.comes.is_named (λ table interned extends. refl)))
