use Rattle.std.proofs.Common.{refl, sym, ap, ◌∙◌, map, ℕ, List}
use Rattle.py_value.specs.Contents.{contents}
use Rattle.py_value.specs.Seen.{bytes_of}
use Rattle.py_value.specs.Values.{ValuesView}
use Rattle.py_value.specs.declared.value.Value.TheVariants.{Bool as TruthValue}
use Rattle.py_model.specs.Operands.{gives_truth}
use Rattle.py_model.specs.Plan.{Plan}
use Rattle.py_model.specs.TextMethods.{isdigit_plan}
use Rattle.py_model.specs.Texts.{all_digits}
use Rattle.op_work.specs.Work.{Ends}
use Rattle.op_work.proofs.Ending.{ends_then, ends_stop, ends_gives}
use Rattle.op_work.proofs.Going.{passes_err}
use Rattle.op_texts.proofs.Taken.{bytes_stay}
use Rattle.op_texts.proofs.searches.isdigit.Goals as goal

abbrev tested : ValuesView → List ℕ → Plan
tested table bytes = gives_truth (all_digits bytes)

pub returns-in_err-text : goal.returns-in_err-text
returns-in_err-text c = passes_err (λ result. Ends (λ table. isdigit_plan (map (contents table) c.args.operands.now)) c.args.work.now c.one_text.new.work result)
    c.from_residual.result c.from_residual.ensures.1 (ends_stop tested c.in_err-text.field-0.0 c.in_err-text.ensures)

pub returns : goal.returns
returns c = ends_then tested c.in_ok-text.ensures (λ table interned extends. refl)
    (ends_gives (λ table. tested table (bytes_of table c.in_ok-text.text)) c.one_text.new.work (TruthValue c.all_digits-is.result) (c.one_text.ensures.kept.made_is ∙ c.requires.fresh) tt
    (λ table interned extends. ap gives_truth (ap all_digits (bytes_stay c.one_text.new.work.values table c.in_ok-text.text c.text_of.result.now c.text_of.ensures extends ∙ sym c.as_bytes.ensures.value)
    ∙ sym c.all_digits-is.ensures)))
