use Rattle.std.proofs.Common.{refl, map}
use Rattle.op_items.specs.Operands.{of_three}
use Rattle.py_model.specs.Lists.{slice}
use Rattle.py_value.specs.Contents.{contents}
use Rattle.op_work.specs.Work.{Ends}
use Rattle.op_work.proofs.Ending.{ends_then, ends_stop}
use Rattle.op_work.proofs.Going.{passes_err}
use Rattle.op_numbers.proofs.EndsAlike.{ends_as}
use Rattle.op_items.proofs.SlicePlans.{three_slices, slice_is}
use Rattle.op_items.proofs.slices.slice.Goals as goal

pub returns-in_err-v : goal.returns-in_err-v
returns-in_err-v c = passes_err (λ result. Ends (λ table. slice (map (contents table) c.args.operands.now)) c.args.work.now c.three.new.work result)
    c.from_residual.result c.from_residual.ensures.1
    (ends_as (λ table. slice (map (contents table) c.args.operands.now)) (λ table. of_three three_slices (map (contents table) c.args.operands.now)) (λ table interned extends. slice_is (map (contents table) c.args.operands.now))
    (ends_stop (λ table y. three_slices y.0 y.1.0 y.1.1) _ c.in_err-v.ensures))

pub returns : goal.returns
returns c = ends_as (λ table. slice (map (contents table) c.args.operands.now)) (λ table. of_three three_slices (map (contents table) c.args.operands.now)) (λ table interned extends. slice_is (map (contents table) c.args.operands.now))
    (ends_then (λ table y. three_slices y.0 y.1.0 y.1.1) c.in_ok-v.ensures (λ table interned extends. refl) c.value_slice.ensures)
