use Rattle.std.proofs.Common.{refl, sym, ap, map}
use Rattle.py_model.specs.Lists.{zip_builtin}
use Rattle.py_model.specs.Making.{new_list}
use Rattle.py_model.specs.Operands.{of_two}
use Rattle.py_value.specs.Contents.{contents}
use Rattle.op_work.specs.Work.{Ends}
use Rattle.op_work.proofs.Ending.{ends_then, ends_stop}
use Rattle.op_work.proofs.Going.{passes_err}
use Rattle.op_numbers.proofs.EndsAlike.{ends_as}
use Rattle.op_lists.proofs.OneSequence.{pairs_of, zip_is}
use Rattle.op_lists.proofs.pairs.zip.Goals as goal

pub returns-in_err-left : goal.returns-in_err-left
returns-in_err-left c = passes_err (λ result. Ends (λ table. zip_builtin (map (contents table) c.args.operands.now)) c.args.work.now c.two.new.work result)
    c.from_residual.result c.from_residual.ensures.1
    (ends_as (λ table. zip_builtin (map (contents table) c.args.operands.now)) (λ table. of_two pairs_of (map (contents table) c.args.operands.now)) (λ table interned extends. zip_is (map (contents table) c.args.operands.now))
    (ends_stop (λ table x. pairs_of x.0 x.1) _ c.in_err-left.ensures))

pub returns-in_err-items : goal.returns-in_err-items
returns-in_err-items c = passes_err (λ result. Ends (λ table. zip_builtin (map (contents table) c.args.operands.now)) c.args.work.now c.zipped.new.work result)
    c.from_residual-in_err-items.result c.from_residual-in_err-items.ensures.1
    (ends_as (λ table. zip_builtin (map (contents table) c.args.operands.now)) (λ table. of_two pairs_of (map (contents table) c.args.operands.now)) (λ table interned extends. zip_is (map (contents table) c.args.operands.now))
    (ends_then (λ table x. pairs_of x.0 x.1) c.in_ok-left.ensures (λ table interned extends. refl) (ends_stop (λ table items. new_list items) _ c.in_err-items.ensures)))

pub returns : goal.returns
returns c = ends_as (λ table. zip_builtin (map (contents table) c.args.operands.now)) (λ table. of_two pairs_of (map (contents table) c.args.operands.now)) (λ table interned extends. zip_is (map (contents table) c.args.operands.now))
    (ends_then (λ table x. pairs_of x.0 x.1) c.in_ok-left.ensures (λ table interned extends. refl)
    (ends_then (λ table items. new_list items) c.in_ok-items.ensures (λ table interned extends. ap (λ vs. new_list (map (contents table) vs)) (sym c.as_slice.ensures.value)) c.new_list.ensures))
