use Rattle.std.proofs.Common.{◌∙◌, ◌<◌, refl, sym, ap, subst, map, length, Option, []}
use Rattle.object_store.specs.Store.{StoreView, count_with}
use Rattle.py_model.specs.Lists.{reverse_method, turned}
use Rattle.py_model.specs.Making.{set_items}
use Rattle.py_model.specs.Plan.{done}
use Rattle.py_value.specs.Contents.{contents, nothing}
use Rattle.py_value.specs.Values.{AreNamed}
use Rattle.py_value.specs.declared.access.Kind.{Kind}
use Rattle.op_numbers.proofs.EndsAlike.{ends_as}
use Rattle.op_work.specs.Work.{Ends}
use Rattle.op_work.proofs.Ending.{ends_then, ends_stop, ends_writes}
use Rattle.op_work.proofs.Going.{passes_err}
use Rattle.op_joins.specs.Receivers.{with_list}
use Rattle.op_joins.proofs.TurningPlans.{all_set, turns, reverse_is, turned_is, turned_named}
use Rattle.op_joins.proofs.turning.reverse.Goals as goal

pub returns-in_err-o : goal.returns-in_err-o
returns-in_err-o c = passes_err (λ result. Ends (λ table. reverse_method (map (contents table) c.args.operands.now)) c.args.work.now c.list_operand.new.work result) c.from_residual.result c.from_residual.ensures.1
    (ends_as (λ table. reverse_method (map (contents table) c.args.operands.now)) (λ table. with_list 1 (map (contents table) c.args.operands.now) turns)
    (λ table interned extends. reverse_is (map (contents table) c.args.operands.now))
    (ends_stop (λ table o. turns o) _ c.in_err-o.ensures.comes))

pub returns-in_err-walked : goal.returns-in_err-walked
returns-in_err-walked c = passes_err (λ result. Ends (λ table. reverse_method (map (contents table) c.args.operands.now)) c.args.work.now c.walk_value.new.work result) c.from_residual-in_err-walked.result c.from_residual-in_err-walked.ensures.1
    (ends_as (λ table. reverse_method (map (contents table) c.args.operands.now)) (λ table. with_list 1 (map (contents table) c.args.operands.now) turns)
    (λ table interned extends. reverse_is (map (contents table) c.args.operands.now))
    (ends_then (λ table o. turns o) c.in_ok-o.ensures.comes (λ table interned extends. refl)
    (ends_stop (λ table items. all_set c.in_ok-o.o (turned items [])) _ c.in_err-walked.ensures)))

pub set_all-requires-clause-named : goal.set_all-requires-clause-named
set_all-requires-clause-named c = subst (AreNamed c.walk_value.new.work.values) (sym (c.as_slice.ensures.value ∙ c.turned-items.ensures))
    (turned_named c.walk_value.new.work.values c.in_ok-walked.walked.items c.in_ok-walked.ensures.is_named)

pub set_all-requires-clause-within : goal.set_all-requires-clause-within
set_all-requires-clause-within c =
    let store_is = c.walk_value.ensures.kept.store_is ∙ c.list_operand.ensures.comes.kept.store_is in
    let none = c.walk_value.ensures.kept.made_is ∙ (c.list_operand.ensures.comes.kept.made_is ∙ c.requires.fresh) in
    subst (λ (m : Option Kind). c.in_ok-o.o < count_with m c.walk_value.new.work.store) (sym none) (subst (λ (s : StoreView). c.in_ok-o.o < length s.objects) (sym store_is) c.in_ok-o.ensures.there)

pub returns : goal.returns
returns c =
    let items = c.as_slice.result.now in
    let none = c.walk_value.ensures.kept.made_is ∙ (c.list_operand.ensures.comes.kept.made_is ∙ c.requires.fresh) in
    ends_as (λ table. reverse_method (map (contents table) c.args.operands.now)) (λ table. with_list 1 (map (contents table) c.args.operands.now) turns)
    (λ table interned extends. reverse_is (map (contents table) c.args.operands.now))
    (ends_then (λ table o. turns o) c.in_ok-o.ensures.comes (λ table interned extends. refl)
    (ends_then (λ table items. all_set c.in_ok-o.o (turned items [])) c.in_ok-walked.ensures
    (λ table interned extends. ap (all_set c.in_ok-o.o) (turned_is (contents table) c.in_ok-walked.walked.items) ∙ ap (λ vs. all_set c.in_ok-o.o (map (contents table) vs)) (sym (c.as_slice.ensures.value ∙ c.turned-items.ensures)))
    (ends_writes (λ table. all_set c.in_ok-o.o (map (contents table) items)) none (λ table. set_items c.in_ok-o.o 0 (map (contents table) items) (done nothing)) (λ table interned extends. refl) c.set_all.ensures)))
