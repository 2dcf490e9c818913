use Rattle.std.proofs.Common.{◌∙◌, sym, ap}
use Rattle.py_model.specs.Operands.{with_text}
use Rattle.py_value.specs.Contents.{contents}
use Rattle.op_work.proofs.Going.{fault_comes}
use Rattle.op_numbers.proofs.CharacterPlans.{text_is, or_no_text}
use Rattle.op_numbers.proofs.characters.text_number.Goals as goal

pub returns-in-None : goal.returns-in-None
returns-in-None c = fault_comes (λ table. with_text (contents table c.args.v)) 9 _ c.fault.result c.fault.ensures
    (λ table interned extends go. text_is table c.args.v go ∙ ap (λ id. or_no_text table id go) (sym c.text_in.ensures ∙ c.in-None.is))
