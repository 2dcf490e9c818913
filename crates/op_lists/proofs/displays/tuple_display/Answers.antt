use Rattle.std.proofs.Common.{refl, map}
use Rattle.py_model.specs.Lists.{tuple_display}
use Rattle.py_model.specs.Operands.{gives}
use Rattle.py_value.specs.Contents.{contents}
use Rattle.op_work.specs.Work.{Ends}
use Rattle.op_work.proofs.Ending.{ends_then, ends_stop}
use Rattle.op_work.proofs.Going.{passes_err}
use Rattle.op_lists.proofs.displays.tuple_display.Goals as goal

pub returns-in_err-made : goal.returns-in_err-made
returns-in_err-made c = passes_err (λ result. Ends (λ table. tuple_display (map (contents table) c.args.operands.now)) c.args.work.now c.tuple.new.self result)
    c.from_residual.result c.from_residual.ensures.1 (ends_stop (λ table x. gives x) _ c.in_err-made.ensures)

pub returns : goal.returns
returns c = ends_then (λ table x. gives x) c.in_ok-made.ensures (λ table interned extends. refl) c.value_answer.ensures
