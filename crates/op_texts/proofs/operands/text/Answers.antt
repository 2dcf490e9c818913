use Rattle.std.proofs.Common.{sym, ap, ◌∙◌}
use Rattle.py_value.specs.Contents.{contents}
use Rattle.py_model.specs.Operands.{with_text}
use Rattle.op_work.proofs.Going.{at_once, fault_comes}
use Rattle.op_texts.proofs.Taken.{text_is, text_named, or_wrong}
use Rattle.op_texts.proofs.operands.text.Goals as goal

pub returns-in-Some : goal.returns-in-Some
returns-in-Some c = at_once (λ table. with_text (contents table c.args.v)) c.args.work.now c.in-Some.id (text_named c.args.work.now.values c.args.v c.in-Some.id (sym c.text_number.ensures ∙ c.in-Some.is) c.requires)
    (λ table interned extends go. text_is table c.args.v go ∙ ap (λ id. or_wrong table id go) (sym c.text_number.ensures ∙ c.in-Some.is))

pub returns-in-None : goal.returns-in-None
returns-in-None c = fault_comes (λ table. with_text (contents table c.args.v)) 9 _ c.fault.result c.fault.ensures
    (λ table interned extends go. text_is table c.args.v go ∙ ap (λ id. or_wrong table id go) (sym c.text_number.ensures ∙ c.in-None.is))
