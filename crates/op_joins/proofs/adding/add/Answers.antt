use Rattle.std.proofs.Common.{refl, map}
use Rattle.py_model.specs.Arithmetic.{added, add_plan}
use Rattle.py_value.specs.Contents.{contents}
use Rattle.op_work.specs.Work.{Ends}
use Rattle.op_work.proofs.Ending.{ends_then, ends_stop}
use Rattle.op_work.proofs.Going.{passes_err}
use Rattle.op_joins.proofs.adding.add.Goals as goal

pub returns-in_err-v : goal.returns-in_err-v
returns-in_err-v c = passes_err (λ result. Ends (λ table. add_plan (map (contents table) c.args.operands.now)) c.args.work.now c.two.new.work result)
    c.from_residual.result c.from_residual.ensures.1 (ends_stop (λ table x. added x.0 x.1) _ c.in_err-v.ensures)

pub returns : goal.returns
returns c = ends_then (λ table x. added x.0 x.1) c.in_ok-v.ensures (λ table interned extends. refl) c.added.ensures
