use Rattle.std.proofs.Common.{rules, ◌≡◌, refl, sym, ap, ◌∙◌, subst, append-nil, ℤ, pos, w64, to_z, of_z, Ok, Err, get_or, ◌++◌, ◌+◌}
use Rattle.py_model.specs.Lists.{numbered}
use Rattle.py_model.specs.Plan.{Plan}
use Rattle.py_value.specs.Contents.{Contents, contents, int}
use Rattle.py_value.specs.Values.{IsNamed, AreNamed}
use Rattle.py_value.specs.declared.value.Value.TheVariants.{None as NoneValue}
use Rattle.op_lists.specs.ValuesSeen.{values_seen}
use Rattle.op_lists.proofs.NamedValues.{all_named_stay, named_behind}
use Rattle.op_work.specs.Work.{Comes}
use Rattle.op_work.proofs.Going.{passes_err, at_once}
use Rattle.op_work.proofs.Turning.{turns_then, turns_same}
use Rattle.op_lists.proofs.Building.{building_more, building_stop}
use Rattle.op_lists.proofs.Pairing.{two_of, numbers_left, numbers_next, numbers_end}
use Rattle.op_lists.proofs.Writing.{item_named}
use Rattle.op_lists.proofs.pairs.numbered.Goals as goal

pub pair-requires-clause-right : goal.pair-requires-clause-right
pair-requires-clause-right c = item_named c.args.work.now.values c.loop-i.work.values c.loop-i.invariant.0.kept.extends.few c.args.items.now c.requires c.loop-i.i c.loop-i-test.true

pub returns-in_err-item : goal.returns-in_err-item
returns-in_err-item c =
    let items = c.args.items.now in let i = c.loop-i.i in
    let number : to_z w64 (of_z w64 c.in-Ok.number) ≡ pos i = (search rules) ∙ c.in-Ok.ensures.1 in
    let step = subst (λ (k : ℤ). Comes IsNamed contents (λ table (go : Contents → Plan). go (two_of (int k) (contents table (get_or items i NoneValue)))) c.loop-i.work c.pair.new.work (Err c.in_err-item.field-0.0)) number c.in_err-item.ensures in
    passes_err
    (λ result. Comes (λ values vs. AreNamed values vs.items) (λ table vs. values_seen table vs.items) (λ table go. go (numbered 0 (values_seen table items))) c.args.work.now c.pair.new.work result)
    c.from_residual.result c.from_residual.ensures.1
    (building_stop (λ table. numbered 0 (values_seen table items)) (numbers_left items i) (numbers_left items (i + 1))
    (λ table. two_of (int (pos i)) (contents table (get_or items i NoneValue))) c.loop-i.made.items (numbers_next items i c.loop-i-test.true) c.loop-i.invariant.0 step)

pub loop-i-preserved : goal.loop-i-preserved
loop-i-preserved c =
    let items = c.args.items.now in let i = c.loop-i.i in let made = c.loop-i.made.items in
    let number : to_z w64 (of_z w64 c.in-Ok.number) ≡ pos i = (search rules) ∙ c.in-Ok.ensures.1 in
    let step = subst (λ (k : ℤ). Comes IsNamed contents (λ table (go : Contents → Plan). go (two_of (int k) (contents table (get_or items i NoneValue)))) c.loop-i.work c.pair.new.work (Ok c.in_ok-item.item)) number c.in_ok-item.ensures in (
      building_more (λ table. numbered 0 (values_seen table items)) (numbers_left items i) (numbers_left items (i + 1))
          (λ table. two_of (int (pos i)) (contents table (get_or items i NoneValue))) made (numbers_next items i c.loop-i-test.true) c.loop-i.invariant.0
          c.push.new.self.items c.in_ok-item.item step c.in_ok-push.ensures.items,
      subst (AreNamed c.pair.new.work.values) (sym c.in_ok-push.ensures.items)
          (named_behind c.pair.new.work.values made c.in_ok-item.item (all_named_stay c.loop-i.work.values c.pair.new.work.values c.pair.ensures.kept.extends.few made c.loop-i.invariant.1) c.in_ok-item.ensures.is_named),
    )

pub returns : goal.returns
returns c =
    let items = c.args.items.now in let i = c.loop-i.i in let made = c.loop-i.made.items in
    turns_then (turns_same c.loop-i.invariant.0 (λ table interned extends go. ap (λ l. go (values_seen table made ++ l)) (numbers_end items i c.loop-i-test.false table)
    ∙ ap go (append-nil (values_seen table made))))
    (at_once (λ table go. go (values_seen table made)) c.loop-i.work c.loop-i.made c.loop-i.invariant.1 (λ table interned extends go. refl))
