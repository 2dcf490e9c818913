use Rattle.std.proofs.Common.{refl, sym, ap, map}
use Rattle.py_model.specs.Dicts.{keys_method}
use Rattle.py_model.specs.Making.{new_list}
use Rattle.py_value.specs.Contents.{contents}
use Rattle.op_work.specs.Work.{Ends}
use Rattle.op_work.proofs.Ending.{ends_then, ends_stop}
use Rattle.op_work.proofs.Going.{passes_err}
use Rattle.op_numbers.proofs.EndsAlike.{ends_as}
use Rattle.op_dicts.specs.Receivers.{with_dict}
use Rattle.op_dicts.proofs.ViewPlans.{keys_of, keys_is}
use Rattle.op_dicts.proofs.views.keys.Goals as goal

pub returns-in_err-o : goal.returns-in_err-o
returns-in_err-o c = passes_err (λ result. Ends (λ table. keys_method (map (contents table) c.args.operands.now)) c.args.work.now c.dict_operand.new.work result) c.from_residual.result c.from_residual.ensures.1
    (ends_as (λ table. keys_method (map (contents table) c.args.operands.now)) (λ table. with_dict 1 (map (contents table) c.args.operands.now) keys_of)
    (λ table interned extends. keys_is (map (contents table) c.args.operands.now))
    (ends_stop (λ table o. keys_of o) _ c.in_err-o.ensures.comes))

pub returns-in_err-items : goal.returns-in_err-items
returns-in_err-items c = passes_err (λ result. Ends (λ table. keys_method (map (contents table) c.args.operands.now)) c.args.work.now c.walk_keys.new.work result) c.from_residual-in_err-items.result c.from_residual-in_err-items.ensures.1
    (ends_as (λ table. keys_method (map (contents table) c.args.operands.now)) (λ table. with_dict 1 (map (contents table) c.args.operands.now) keys_of)
    (λ table interned extends. keys_is (map (contents table) c.args.operands.now))
    (ends_then (λ table o. keys_of o) c.in_ok-o.ensures.comes (λ table interned extends. refl) (ends_stop (λ table items. new_list items) _ c.in_err-items.ensures)))

pub returns : goal.returns
returns c = ends_as (λ table. keys_method (map (contents table) c.args.operands.now)) (λ table. with_dict 1 (map (contents table) c.args.operands.now) keys_of)
    (λ table interned extends. keys_is (map (contents table) c.args.operands.now))
    (ends_then (λ table o. keys_of o) c.in_ok-o.ensures.comes (λ table interned extends. refl)
    (ends_then (λ table items. new_list items) c.in_ok-items.ensures (λ table interned extends. ap (λ vs. new_list (map (contents table) vs)) (sym c.as_slice.ensures.value)) c.new_list.ensures))
