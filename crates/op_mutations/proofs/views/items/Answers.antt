use Rattle.std.proofs.Common.{refl, sym, ap, ◌∙◌, subst, map, ℕ, List}
use Rattle.py_model.specs.Dicts.{items_method, read_entries, paired}
use Rattle.py_model.specs.Making.{new_list}
use Rattle.py_model.specs.Plan.{Plan}
use Rattle.py_value.specs.Contents.{Contents, contents}
use Rattle.py_value.specs.Values.{ValuesView, AreNamed}
use Rattle.py_value.specs.declared.value.Value.{Value}
use Rattle.op_lists.proofs.NamedValues.{all_named_stay}
use Rattle.op_work.specs.Work.{Ends}
use Rattle.op_work.proofs.Ending.{ends_then, ends_stop}
use Rattle.op_work.proofs.Going.{passes_err}
use Rattle.op_numbers.proofs.EndsAlike.{ends_as}
use Rattle.op_dicts.specs.Receivers.{with_dict}
use Rattle.op_mutations.proofs.ViewPlans.{items_of, items_is}
use Rattle.op_mutations.proofs.views.items.Goals as goal

-- what is done with the keys, and with the values
abbrev with_keys : ℕ → ValuesView → List Contents → Plan
with_keys o table keys = read_entries o keys (λ found. new_list (paired keys found))

abbrev with_found : List Value → ValuesView → List Contents → Plan
with_found keys table found = new_list (paired (map (contents table) keys) found)

pub returns-in_err-o : goal.returns-in_err-o
returns-in_err-o c =
    let ops = c.args.operands.now in
    passes_err (λ result. Ends (λ table. items_method (map (contents table) ops)) c.args.work.now c.dict_operand.new.work result) c.from_residual.result c.from_residual.ensures.1
    (ends_as (λ table. items_method (map (contents table) ops)) (λ table. with_dict 1 (map (contents table) ops) items_of) (λ table interned extends. items_is (map (contents table) ops))
    (ends_stop (λ table o. items_of o) _ c.in_err-o.ensures.comes))

pub returns-in_err-keys : goal.returns-in_err-keys
returns-in_err-keys c =
    let ops = c.args.operands.now in
    passes_err (λ result. Ends (λ table. items_method (map (contents table) ops)) c.args.work.now c.walk_keys.new.work result) c.from_residual-in_err-keys.result c.from_residual-in_err-keys.ensures.1
    (ends_as (λ table. items_method (map (contents table) ops)) (λ table. with_dict 1 (map (contents table) ops) items_of) (λ table interned extends. items_is (map (contents table) ops))
    (ends_then (λ table o. items_of o) c.in_ok-o.ensures.comes (λ table interned extends. refl)
    (ends_stop (with_keys c.in_ok-o.o) _ c.in_err-keys.ensures)))

pub returns-in_err-found : goal.returns-in_err-found
returns-in_err-found c =
    let ops = c.args.operands.now in
    passes_err (λ result. Ends (λ table. items_method (map (contents table) ops)) c.args.work.now c.entry_values.new.work result) c.from_residual-in_err-found.result c.from_residual-in_err-found.ensures.1
    (ends_as (λ table. items_method (map (contents table) ops)) (λ table. with_dict 1 (map (contents table) ops) items_of) (λ table interned extends. items_is (map (contents table) ops))
    (ends_then (λ table o. items_of o) c.in_ok-o.ensures.comes (λ table interned extends. refl)
    (ends_then (with_keys c.in_ok-o.o) c.in_ok-keys.ensures (λ table interned extends. ap (λ vs. with_keys c.in_ok-o.o table (map (contents table) vs)) (sym c.as_slice.ensures.value))
    (ends_stop (with_found c.as_slice.result.now) _ c.in_err-found.ensures))))

pub pair_up-requires-clause-lefts : goal.pair_up-requires-clause-lefts
pair_up-requires-clause-lefts c = subst (AreNamed c.entry_values.new.work.values) (sym c.as_slice-2.ensures.value)
    (all_named_stay c.walk_keys.new.work.values c.entry_values.new.work.values c.entry_values.ensures.kept.extends.few c.in_ok-keys.keys.items c.in_ok-keys.ensures.is_named)

pub returns-in_err-both : goal.returns-in_err-both
returns-in_err-both c =
    let ops = c.args.operands.now in
    let keys_same = c.as_slice.ensures.value ∙ sym c.as_slice-2.ensures.value in
    passes_err (λ result. Ends (λ table. items_method (map (contents table) ops)) c.args.work.now c.pair_up.new.work result) c.from_residual-in_err-both.result c.from_residual-in_err-both.ensures.1
    (ends_as (λ table. items_method (map (contents table) ops)) (λ table. with_dict 1 (map (contents table) ops) items_of) (λ table interned extends. items_is (map (contents table) ops))
    (ends_then (λ table o. items_of o) c.in_ok-o.ensures.comes (λ table interned extends. refl)
    (ends_then (with_keys c.in_ok-o.o) c.in_ok-keys.ensures (λ table interned extends. ap (λ vs. with_keys c.in_ok-o.o table (map (contents table) vs)) (sym c.as_slice.ensures.value))
    (ends_then (with_found c.as_slice.result.now) c.in_ok-found.ensures
    (λ table interned extends. ap (λ vs. with_found vs table (map (contents table) c.in_ok-found.found.items)) keys_same ∙ ap (λ vs. with_found c.as_slice-2.result.now table (map (contents table) vs)) (sym c.as_slice-3.ensures.value))
    (ends_stop (λ table items. new_list items) _ c.in_err-both.ensures)))))

pub returns : goal.returns
returns c =
    let ops = c.args.operands.now in
    let keys_same = c.as_slice.ensures.value ∙ sym c.as_slice-2.ensures.value in
    ends_as (λ table. items_method (map (contents table) ops)) (λ table. with_dict 1 (map (contents table) ops) items_of) (λ table interned extends. items_is (map (contents table) ops))
    (ends_then (λ table o. items_of o) c.in_ok-o.ensures.comes (λ table interned extends. refl)
    (ends_then (with_keys c.in_ok-o.o) c.in_ok-keys.ensures (λ table interned extends. ap (λ vs. with_keys c.in_ok-o.o table (map (contents table) vs)) (sym c.as_slice.ensures.value))
    (ends_then (with_found c.as_slice.result.now) c.in_ok-found.ensures
    (λ table interned extends. ap (λ vs. with_found vs table (map (contents table) c.in_ok-found.found.items)) keys_same ∙ ap (λ vs. with_found c.as_slice-2.result.now table (map (contents table) vs)) (sym c.as_slice-3.ensures.value))
    (ends_then (λ table items. new_list items) c.in_ok-both.ensures (λ table interned extends. ap (λ vs. new_list (map (contents table) vs)) (sym c.as_slice-4.ensures.value)) c.new_list.ensures))))
