use Rattle.std.proofs.Common.{rules, ◌≡◌, ◌∙◌, ◌<◌, sym, ap, subst, map, length, slice_index_or, ℤ, w64, to_z, of_z}
use Rattle.object_store.specs.Store.{StoreView}
use Rattle.py_model.specs.Lists.{insert, insert_item}
use Rattle.py_model.specs.Places.{with_index}
use Rattle.py_value.specs.Contents.{contents}
use Rattle.py_value.specs.declared.value.Value.TheVariants.{None as NoneValue}
use Rattle.op_dicts.proofs.OperandPlans.{named_at_2}
use Rattle.op_numbers.proofs.EndsAlike.{ends_as}
use Rattle.op_lists.proofs.NamedValues.{named_stays}
use Rattle.op_work.specs.Work.{Ends}
use Rattle.op_work.proofs.Ending.{ends_then, ends_stop}
use Rattle.op_work.proofs.Going.{extends_then, passes_err}
use Rattle.op_joins.specs.Receivers.{with_list}
use Rattle.op_joins.proofs.ReceiverPlans.{second}
use Rattle.op_mutations.proofs.Operands.{inserts, third, insert_is, second_of_three, third_of_three}
use Rattle.op_mutations.proofs.adding.insert.Goals as goal

pub returns-in_err-o : goal.returns-in_err-o
returns-in_err-o c =
    let ops = c.args.operands.now in
    passes_err (λ result. Ends (λ table. insert (map (contents table) ops)) c.args.work.now c.list_operand.new.work result) c.from_residual.result c.from_residual.ensures.1
    (ends_as (λ table. insert (map (contents table) ops)) (λ table. with_list 3 (map (contents table) ops) (inserts (second (map (contents table) ops)) (third (map (contents table) ops))))
    (λ table interned extends. insert_is (map (contents table) ops))
    (ends_stop (λ table o. inserts (second (map (contents table) ops)) (third (map (contents table) ops)) o) _ c.in_err-o.ensures.comes))

pub returns-in_err-i : goal.returns-in_err-i
returns-in_err-i c =
    let ops = c.args.operands.now in
    passes_err (λ result. Ends (λ table. insert (map (contents table) ops)) c.args.work.now c.index.new.work result) c.from_residual-in_err-i.result c.from_residual-in_err-i.ensures.1
    (ends_as (λ table. insert (map (contents table) ops)) (λ table. with_list 3 (map (contents table) ops) (inserts (second (map (contents table) ops)) (third (map (contents table) ops))))
    (λ table interned extends. insert_is (map (contents table) ops))
    (ends_then (λ table o. inserts (second (map (contents table) ops)) (third (map (contents table) ops)) o) c.in_ok-o.ensures.comes
    (λ table interned extends. ap (λ x. with_index x (insert_item c.in_ok-o.o (third (map (contents table) ops)))) (second_of_three (contents table) ops c.in_ok-o.ensures.count))
    (ends_stop (λ table i. insert_item c.in_ok-o.o (third (map (contents table) ops)) i) _ c.in_err-i.ensures)))

pub insert_item-requires-clause-named : goal.insert_item-requires-clause-named
insert_item-requires-clause-named c =
    let extends = extends_then c.list_operand.ensures.comes.kept.extends c.index.ensures.kept.extends in
    named_stays c.args.work.now.values c.index.new.work.values extends.few _ (named_at_2 c.args.work.now.values c.args.operands.now c.requires.named)

pub insert_item-requires-clause-within : goal.insert_item-requires-clause-within
insert_item-requires-clause-within c = subst (λ (s : StoreView). c.in_ok-o.o < length s.objects) (sym (c.index.ensures.kept.store_is ∙ c.list_operand.ensures.comes.kept.store_is)) c.in_ok-o.ensures.there

pub returns : goal.returns
returns c =
    let ops = c.args.operands.now in let o = c.in_ok-o.o in
    let back : to_z w64 (of_z w64 c.in_ok-i.i) ≡ c.in_ok-i.i = search rules in
    ends_as (λ table. insert (map (contents table) ops)) (λ table. with_list 3 (map (contents table) ops) (inserts (second (map (contents table) ops)) (third (map (contents table) ops))))
    (λ table interned extends. insert_is (map (contents table) ops))
    (ends_then (λ table o. inserts (second (map (contents table) ops)) (third (map (contents table) ops)) o) c.in_ok-o.ensures.comes
    (λ table interned extends. ap (λ x. with_index x (insert_item o (third (map (contents table) ops)))) (second_of_three (contents table) ops c.in_ok-o.ensures.count))
    (ends_then (λ table i. insert_item o (third (map (contents table) ops)) i) c.in_ok-i.ensures
    (λ table interned extends. ap (λ x. insert_item o x c.in_ok-i.i) (third_of_three (contents table) ops c.in_ok-o.ensures.count)
    ∙ ap (λ (i : ℤ). insert_item o (contents table (slice_index_or ops 2 NoneValue)) i) (sym back)) c.insert_item.ensures))
