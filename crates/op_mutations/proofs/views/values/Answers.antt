use Rattle.std.proofs.Common.{refl, sym, ap, map}
use Rattle.py_model.specs.Dicts.{values_method, read_entries}
use Rattle.py_model.specs.Making.{new_list}
use Rattle.py_value.specs.Contents.{contents}
use Rattle.op_work.specs.Work.{Ends}
use Rattle.op_work.proofs.Ending.{ends_then, ends_stop}
use Rattle.op_work.proofs.Going.{passes_err}
use Rattle.op_numbers.proofs.EndsAlike.{ends_as}
use Rattle.op_dicts.specs.Receivers.{with_dict}
use Rattle.op_mutations.proofs.ViewPlans.{values_of, values_is}
use Rattle.op_mutations.proofs.views.values.Goals as goal

pub returns-in_err-o : goal.returns-in_err-o
returns-in_err-o c =
    let ops = c.args.operands.now in
    passes_err (λ result. Ends (λ table. values_method (map (contents table) ops)) c.args.work.now c.dict_operand.new.work result) c.from_residual.result c.from_residual.ensures.1
    (ends_as (λ table. values_method (map (contents table) ops)) (λ table. with_dict 1 (map (contents table) ops) values_of) (λ table interned extends. values_is (map (contents table) ops))
    (ends_stop (λ table o. values_of o) _ c.in_err-o.ensures.comes))

pub returns-in_err-keys : goal.returns-in_err-keys
returns-in_err-keys c =
    let ops = c.args.operands.now in
    passes_err (λ result. Ends (λ table. values_method (map (contents table) ops)) c.args.work.now c.walk_keys.new.work result) c.from_residual-in_err-keys.result c.from_residual-in_err-keys.ensures.1
    (ends_as (λ table. values_method (map (contents table) ops)) (λ table. with_dict 1 (map (contents table) ops) values_of) (λ table interned extends. values_is (map (contents table) ops))
    (ends_then (λ table o. values_of o) c.in_ok-o.ensures.comes (λ table interned extends. refl)
    (ends_stop (λ table keys. read_entries c.in_ok-o.o keys new_list) _ c.in_err-keys.ensures)))

pub returns-in_err-found : goal.returns-in_err-found
returns-in_err-found c =
    let ops = c.args.operands.now in
    passes_err (λ result. Ends (λ table. values_method (map (contents table) ops)) c.args.work.now c.entry_values.new.work result) c.from_residual-in_err-found.result c.from_residual-in_err-found.ensures.1
    (ends_as (λ table. values_method (map (contents table) ops)) (λ table. with_dict 1 (map (contents table) ops) values_of) (λ table interned extends. values_is (map (contents table) ops))
    (ends_then (λ table o. values_of o) c.in_ok-o.ensures.comes (λ table interned extends. refl)
    (ends_then (λ table keys. read_entries c.in_ok-o.o keys new_list) c.in_ok-keys.ensures (λ table interned extends. ap (λ vs. read_entries c.in_ok-o.o (map (contents table) vs) new_list) (sym c.as_slice.ensures.value))
    (ends_stop (λ table items. new_list items) _ c.in_err-found.ensures))))

pub returns : goal.returns
returns c =
    let ops = c.args.operands.now in
    ends_as (λ table. values_method (map (contents table) ops)) (λ table. with_dict 1 (map (contents table) ops) values_of) (λ table interned extends. values_is (map (contents table) ops))
    (ends_then (λ table o. values_of o) c.in_ok-o.ensures.comes (λ table interned extends. refl)
    (ends_then (λ table keys. read_entries c.in_ok-o.o keys new_list) c.in_ok-keys.ensures (λ table interned extends. ap (λ vs. read_entries c.in_ok-o.o (map (contents table) vs) new_list) (sym c.as_slice.ensures.value))
    (ends_then (λ table items. new_list items) c.in_ok-found.ensures (λ table interned extends. ap (λ vs. new_list (map (contents table) vs)) (sym c.as_slice-2.ensures.value)) c.new_list.ensures)))
