use Rattle.std.proofs.Common.{◌≡◌, ◌<◌, ◌≤◌, refl, sym, ap, ◌∙◌, subst, arith, append-nil, ℕ, length, min, get_or, ◌++◌, ◌+◌}
use Rattle.std.proofs.Math.Nat.{min-le_left, min-le_right}
use Rattle.py_model.specs.Dicts.{paired}
use Rattle.py_value.specs.Contents.{contents}
use Rattle.py_value.specs.Values.{AreNamed}
use Rattle.py_value.specs.declared.value.Value.TheVariants.{None as NoneValue}
use Rattle.op_lists.specs.ValuesSeen.{values_seen}
use Rattle.op_lists.proofs.NamedValues.{all_named_stay, named_behind}
use Rattle.op_work.specs.Work.{Comes}
use Rattle.op_work.proofs.Going.{passes_err, at_once}
use Rattle.op_work.proofs.Turning.{turns_then, turns_same}
use Rattle.op_lists.proofs.Building.{building_more, building_stop}
use Rattle.op_lists.proofs.Pairing.{two_of, pairs_left, pairs_next, pairs_end}
use Rattle.op_lists.proofs.Writing.{item_named}
use Rattle.op_lists.proofs.pairs.pair_up.Goals as goal

first_of : (i m n k : ℕ) → i < k → k ≡ min m n → (i < m) × (i < n)
first_of i m n k less is = let one = min-le_left m n in let other = min-le_right m n in (omega (arith, less, is, one), omega (arith, less, is, other))

pub pair-requires-clause-left : goal.pair-requires-clause-left
pair-requires-clause-left c =
    let less = first_of c.loop-i.i (length c.args.lefts.now) (length c.args.rights.now) c.min-i-end.result c.loop-i-test.true c.min-i-end.ensures in
    item_named c.args.work.now.values c.loop-i.work.values c.loop-i.invariant.0.kept.extends.few c.args.lefts.now c.requires.lefts c.loop-i.i less.0

pub pair-requires-clause-right : goal.pair-requires-clause-right
pair-requires-clause-right c =
    let less = first_of c.loop-i.i (length c.args.lefts.now) (length c.args.rights.now) c.min-i-end.result c.loop-i-test.true c.min-i-end.ensures in
    item_named c.args.work.now.values c.loop-i.work.values c.loop-i.invariant.0.kept.extends.few c.args.rights.now c.requires.rights c.loop-i.i less.1

pub returns-in_err-item : goal.returns-in_err-item
returns-in_err-item c =
    let lefts = c.args.lefts.now in let rights = c.args.rights.now in let i = c.loop-i.i in
    let less = first_of i (length lefts) (length rights) c.min-i-end.result c.loop-i-test.true c.min-i-end.ensures in
    passes_err
    (λ result. Comes (λ values vs. AreNamed values vs.items) (λ table vs. values_seen table vs.items) (λ table go. go (paired (values_seen table lefts) (values_seen table rights))) c.args.work.now c.pair.new.work result)
    c.from_residual.result c.from_residual.ensures.1
    (building_stop (λ table. paired (values_seen table lefts) (values_seen table rights)) (pairs_left lefts rights i) (pairs_left lefts rights (i + 1))
    (λ table. two_of (contents table (get_or lefts i NoneValue)) (contents table (get_or rights i NoneValue))) c.loop-i.items.items (pairs_next lefts rights i less.0 less.1) c.loop-i.invariant.0 c.in_err-item.ensures)

pub loop-i-preserved : goal.loop-i-preserved
loop-i-preserved c =
    let lefts = c.args.lefts.now in let rights = c.args.rights.now in let i = c.loop-i.i in let items = c.loop-i.items.items in
    let less = first_of i (length lefts) (length rights) c.min-i-end.result c.loop-i-test.true c.min-i-end.ensures in (
      building_more (λ table. paired (values_seen table lefts) (values_seen table rights)) (pairs_left lefts rights i) (pairs_left lefts rights (i + 1))
          (λ table. two_of (contents table (get_or lefts i NoneValue)) (contents table (get_or rights i NoneValue))) items (pairs_next lefts rights i less.0 less.1) c.loop-i.invariant.0
          c.push.new.self.items c.in_ok-item.item c.in_ok-item.ensures c.in_ok-push.ensures.items,
      subst (AreNamed c.pair.new.work.values) (sym c.in_ok-push.ensures.items)
          (named_behind c.pair.new.work.values items c.in_ok-item.item (all_named_stay c.loop-i.work.values c.pair.new.work.values c.pair.ensures.kept.extends.few items c.loop-i.invariant.1) c.in_ok-item.ensures.is_named),
    )

pub returns : goal.returns
returns c =
    let lefts = c.args.lefts.now in let rights = c.args.rights.now in let i = c.loop-i.i in let items = c.loop-i.items.items in
    turns_then (turns_same c.loop-i.invariant.0 (λ table interned extends go. ap (λ l. go (values_seen table items ++ l)) (pairs_end lefts rights i (subst (λ (k : ℕ). k ≤ i) c.min-i-end.ensures c.loop-i-test.false) table)
    ∙ ap go (append-nil (values_seen table items))))
    (at_once (λ table go. go (values_seen table items)) c.loop-i.work c.loop-i.items c.loop-i.invariant.1 (λ table interned extends go. refl))
