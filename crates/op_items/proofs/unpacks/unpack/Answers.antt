use Rattle.std.proofs.Common.{refl, map}
use Rattle.py_model.specs.Lists.{unpack}
use Rattle.py_model.specs.Operands.{of_one}
use Rattle.py_value.specs.Contents.{contents}
use Rattle.op_work.specs.Work.{Ends}
use Rattle.op_work.proofs.Ending.{ends_then, ends_stop}
use Rattle.op_work.proofs.Going.{passes_err}
use Rattle.op_numbers.proofs.EndsAlike.{ends_as}
use Rattle.op_items.proofs.UnpackPlans.{parts_for, unpack_is}
use Rattle.op_items.proofs.unpacks.unpack.Goals as goal

pub returns-in_err-v : goal.returns-in_err-v
returns-in_err-v c = passes_err (λ result. Ends (λ table. unpack c.args.targets (map (contents table) c.args.operands.now)) c.args.work.now c.one.new.work result)
    c.from_residual.result c.from_residual.ensures.1
    (ends_as (λ table. unpack c.args.targets (map (contents table) c.args.operands.now)) (λ table. of_one (parts_for c.args.targets) (map (contents table) c.args.operands.now)) (λ table interned extends. unpack_is c.args.targets (map (contents table) c.args.operands.now))
    (ends_stop (λ table v. parts_for c.args.targets v) _ c.in_err-v.ensures))

pub returns : goal.returns
returns c = ends_as (λ table. unpack c.args.targets (map (contents table) c.args.operands.now)) (λ table. of_one (parts_for c.args.targets) (map (contents table) c.args.operands.now)) (λ table interned extends. unpack_is c.args.targets (map (contents table) c.args.operands.now))
    (ends_then (λ table v. parts_for c.args.targets v) c.in_ok-v.ensures (λ table interned extends. refl) c.unpack_value.ensures)
