use Rattle.std.proofs.Common.{sym, ap, ◌∙◌, map, ℕ, List}
use Rattle.py_value.specs.Contents.{contents}
use Rattle.py_value.specs.Values.{ValuesView}
use Rattle.py_model.specs.Operands.{gives_text}
use Rattle.py_model.specs.Plan.{Plan}
use Rattle.py_model.specs.TextMethods.{upper_plan}
use Rattle.py_model.specs.Texts.{upper_of}
use Rattle.op_work.specs.Work.{Ends}
use Rattle.op_work.proofs.Ending.{ends_then, ends_stop}
use Rattle.op_work.proofs.Going.{passes_err}
use Rattle.op_texts.proofs.Endings.{uppers}
use Rattle.op_texts.proofs.Taken.{bytes_stay}
use Rattle.op_texts.proofs.cases.upper.Goals as goal

abbrev given : ValuesView → List ℕ → Plan
given table bytes = gives_text (map upper_of bytes)

pub returns-in_err-text : goal.returns-in_err-text
returns-in_err-text c = passes_err (λ result. Ends (λ table. upper_plan (map (contents table) c.args.operands.now)) c.args.work.now c.one_text.new.work result)
    c.from_residual.result c.from_residual.ensures.1 (ends_stop given c.in_err-text.field-0.0 c.in_err-text.ensures)

pub returns : goal.returns
returns c = ends_then given c.in_ok-text.ensures
    (λ table interned extends. ap gives_text (ap (map upper_of) (bytes_stay c.one_text.new.work.values table c.in_ok-text.text c.text_of.result.now c.text_of.ensures extends)
    ∙ (sym (uppers c.text_of.result.now) ∙ (sym c.in_ok-made.ensures.ok ∙ sym c.as_str.ensures.value))))
    c.gives_text.ensures
