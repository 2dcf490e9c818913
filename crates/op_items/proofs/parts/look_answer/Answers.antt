use Rattle.std.proofs.Common.{refl}
use Rattle.py_model.specs.Operands.{gives}
use Rattle.py_model.specs.Plan.{looks}
use Rattle.py_value.specs.Contents.{contents}
use Rattle.op_work.specs.Work.{Ends}
use Rattle.op_work.proofs.Ending.{ends_then, ends_stop}
use Rattle.op_work.proofs.Going.{passes_err}
use Rattle.op_items.proofs.parts.look_answer.Goals as goal

pub returns-in_err-look : goal.returns-in_err-look
returns-in_err-look c = passes_err (λ result. Ends (λ table. looks 1 (gives (contents table c.args.v))) c.args.work.now c.look.new.self result) c.from_residual.result c.from_residual.ensures.1
    (ends_stop (λ table x. gives (contents table c.args.v)) _ c.in_err-look.ensures)

pub returns : goal.returns
returns c = ends_then (λ table x. gives (contents table c.args.v)) c.in_ok-look.ensures (λ table interned extends. refl) c.value_answer.ensures
