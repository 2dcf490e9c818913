use Rattle.std.proofs.Common.{refl, sym, ap, ◌∙◌, map, ℕ, List}
use Rattle.py_value.specs.Contents.{contents}
use Rattle.py_value.specs.Seen.{bytes_of}
use Rattle.py_value.specs.Values.{ValuesView}
use Rattle.py_value.specs.declared.value.Value.TheVariants.{Bool as TruthValue}
use Rattle.py_model.specs.Operands.{gives_truth}
use Rattle.py_model.specs.Plan.{Plan}
use Rattle.py_model.specs.TextMethods.{endswith_plan, searched}
use Rattle.py_model.specs.Texts.{ends_with}
use Rattle.op_work.specs.Work.{Ends}
use Rattle.op_work.proofs.Ending.{ends_then, ends_stop, ends_gives}
use Rattle.op_work.proofs.Going.{passes_err}
use Rattle.op_texts.proofs.Taken.{bytes_stay}
use Rattle.op_texts.proofs.searches.endswith.Goals as goal

abbrev tested : ValuesView → List ℕ × List ℕ → Plan
tested table two = searched two.0 (gives_truth (ends_with two.0 two.1))

pub returns-in_err-text : goal.returns-in_err-text
returns-in_err-text c = passes_err (λ result. Ends (λ table. endswith_plan (map (contents table) c.args.operands.now)) c.args.work.now c.two_texts.new.work result)
    c.from_residual.result c.from_residual.ensures.1 (ends_stop tested c.in_err-text.field-0.0 c.in_err-text.ensures)

pub returns-in_err-searched : goal.returns-in_err-searched
returns-in_err-searched c = passes_err (λ result. Ends (λ table. endswith_plan (map (contents table) c.args.operands.now)) c.args.work.now c.searched.new.work result)
    c.from_residual-in_err-searched.result c.from_residual-in_err-searched.ensures.1
    (ends_then tested c.in_ok-text.ensures (λ table interned extends. refl)
    (ends_stop (λ table x. gives_truth (ends_with (bytes_of table c.in_ok-text.text) (bytes_of table c.in_ok-text.sought))) c.in_err-searched.field-0.0 c.in_err-searched.ensures))

pub returns : goal.returns
returns c =
    let values = c.searched.new.work.values in
    ends_then tested c.in_ok-text.ensures (λ table interned extends. refl)
    (ends_then (λ table x. gives_truth (ends_with (bytes_of table c.in_ok-text.text) (bytes_of table c.in_ok-text.sought))) c.in_ok-searched.ensures (λ table interned extends. refl)
    (ends_gives (λ table. gives_truth (ends_with (bytes_of table c.in_ok-text.text) (bytes_of table c.in_ok-text.sought))) c.searched.new.work (TruthValue c.ends_with-is.result)
    (c.in_ok-searched.ensures.kept.made_is ∙ (c.two_texts.ensures.kept.made_is ∙ c.requires.fresh)) tt
    (λ table interned extends. ap gives_truth (ap (λ bytes. ends_with bytes (bytes_of table c.in_ok-text.sought)) (bytes_stay values table c.in_ok-text.text c.text_of.result.now c.text_of.ensures extends ∙ sym c.as_bytes.ensures.value)
    ∙ (ap (ends_with c.as_bytes.result.now) (bytes_stay values table c.in_ok-text.sought c.text_of-2.result.now c.text_of-2.ensures extends ∙ sym c.as_bytes-2.ensures.value)
    ∙ sym c.ends_with-is.ensures)))))
