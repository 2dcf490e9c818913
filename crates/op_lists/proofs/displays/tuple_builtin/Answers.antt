use Rattle.std.proofs.Common.{refl, sym, ap, map}
use Rattle.py_model.specs.Lists.{tuple_builtin, tuple_display}
use Rattle.py_model.specs.Operands.{of_one}
use Rattle.py_value.specs.Contents.{contents}
use Rattle.op_work.specs.Work.{Ends}
use Rattle.op_work.proofs.Ending.{ends_then, ends_stop}
use Rattle.op_work.proofs.Going.{passes_err}
use Rattle.op_numbers.proofs.EndsAlike.{ends_as}
use Rattle.op_lists.proofs.OneSequence.{tuple_of, tuple_is}
use Rattle.op_lists.proofs.displays.tuple_builtin.Goals as goal

pub returns-in_err-sequence : goal.returns-in_err-sequence
returns-in_err-sequence c = passes_err (λ result. Ends (λ table. tuple_builtin (map (contents table) c.args.operands.now)) c.args.work.now c.one.new.work result)
    c.from_residual.result c.from_residual.ensures.1
    (ends_as (λ table. tuple_builtin (map (contents table) c.args.operands.now)) (λ table. of_one tuple_of (map (contents table) c.args.operands.now)) (λ table interned extends. tuple_is (map (contents table) c.args.operands.now))
    (ends_stop (λ table v. tuple_of v) _ c.in_err-sequence.ensures))

pub returns-in_err-items : goal.returns-in_err-items
returns-in_err-items c = passes_err (λ result. Ends (λ table. tuple_builtin (map (contents table) c.args.operands.now)) c.args.work.now c.walk_value.new.work result)
    c.from_residual-in_err-items.result c.from_residual-in_err-items.ensures.1
    (ends_as (λ table. tuple_builtin (map (contents table) c.args.operands.now)) (λ table. of_one tuple_of (map (contents table) c.args.operands.now)) (λ table interned extends. tuple_is (map (contents table) c.args.operands.now))
    (ends_then (λ table v. tuple_of v) c.in_ok-sequence.ensures (λ table interned extends. refl) (ends_stop (λ table items. tuple_display items) _ c.in_err-items.ensures)))

pub returns : goal.returns
returns c = ends_as (λ table. tuple_builtin (map (contents table) c.args.operands.now)) (λ table. of_one tuple_of (map (contents table) c.args.operands.now)) (λ table interned extends. tuple_is (map (contents table) c.args.operands.now))
    (ends_then (λ table v. tuple_of v) c.in_ok-sequence.ensures (λ table interned extends. refl)
    (ends_then (λ table items. tuple_display items) c.in_ok-items.ensures (λ table interned extends. ap (λ vs. tuple_display (map (contents table) vs)) (sym c.as_slice.ensures.value)) c.tuple_display.ensures))
