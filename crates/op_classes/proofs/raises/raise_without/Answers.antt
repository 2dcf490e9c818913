use Rattle.std.proofs.Common.{refl, []}
use Rattle.py_model.specs.Plan.{raises}
use Rattle.py_value.specs.Contents.{contents}
use Rattle.op_work.specs.Work.{Ends}
use Rattle.op_work.proofs.Ending.{ends_then, ends_stop}
use Rattle.op_work.proofs.Going.{passes_err}
use Rattle.op_classes.specs.Raises.{bare_raised}
use Rattle.op_classes.proofs.raises.raise_without.Goals as goal

pub returns-in_err-end : goal.returns-in_err-end
returns-in_err-end c = passes_err (λ result. Ends (λ table. bare_raised (contents table c.args.of)) c.args.work.now c.end_of_chain.new.work result)
    c.from_residual.result c.from_residual.ensures.1 (ends_stop (λ table end. raises (contents table c.args.of) []) c.in_err-end.field-0.0 c.in_err-end.ensures)

pub returns : goal.returns
returns c = ends_then (λ table end. raises (contents table c.args.of) []) c.in_ok-end.ensures (λ table interned extends. refl) c.throw.ensures
