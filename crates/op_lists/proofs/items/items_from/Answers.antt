use Rattle.std.proofs.Common.{refl, sym, subst}
use Rattle.op_lists.specs.ValuesSeen.{values_seen}
use Rattle.op_work.specs.Work.{Comes}
use Rattle.py_model.specs.Walks.{read_items}
use Rattle.py_value.specs.Values.{AreNamed}
use Rattle.op_work.proofs.Going.{comes_stop, passes_err, at_once}
use Rattle.op_work.proofs.Turning.{turns_then, turns_more, turns_same}
use Rattle.op_lists.proofs.NamedValues.{all_named_stay, named_behind}
use Rattle.op_lists.proofs.ManyItems.{next, left_is, next_is, left_none}
use Rattle.op_lists.proofs.items.items_from.Goals as goal

pub returns-in_err-item : goal.returns-in_err-item
returns-in_err-item c = passes_err
    (λ result. Comes (λ values vs. AreNamed values vs.items) (λ table vs. values_seen table vs.items) (λ table. read_items c.args.n c.args.o c.args.first) c.args.work.now c.value_at.new.work result)
    c.from_residual.result c.from_residual.ensures.1
    (turns_then (turns_same c.loop-i.invariant.0 (λ table interned extends go. left_is c.args.n c.args.o c.args.first c.loop-i.i c.loop-i.items.items c.loop-i-test.true table go))
    (comes_stop (next c.args.n c.args.o c.args.first c.loop-i.i c.loop-i.items.items) c.in_err-item.ensures))

pub loop-i-preserved : goal.loop-i-preserved
loop-i-preserved c =
    let n = c.args.n in let o = c.args.o in let first = c.args.first in let i = c.loop-i.i in let items = c.loop-i.items.items in (
      turns_more (next n o first i items)
          (turns_same c.loop-i.invariant.0 (λ table interned extends go. left_is n o first i items c.loop-i-test.true table go))
          c.in_ok-item.ensures
          (λ table interned extends go. next_is n o first i items c.push.new.self.items c.in_ok-item.item c.in_ok-push.ensures.items table go),
      subst (AreNamed c.value_at.new.work.values) (sym c.in_ok-push.ensures.items)
          (named_behind c.value_at.new.work.values items c.in_ok-item.item (all_named_stay c.loop-i.work.values c.value_at.new.work.values c.value_at.ensures.kept.extends.few items c.loop-i.invariant.1) c.in_ok-item.ensures.is_named),
    )

pub returns : goal.returns
returns c = turns_then (turns_same c.loop-i.invariant.0 (λ table interned extends go. left_none c.args.n c.args.o c.args.first c.loop-i.i c.loop-i.items.items c.loop-i-test.false table go))
    (at_once (λ table go. go (values_seen table c.loop-i.items.items)) c.loop-i.work c.loop-i.items c.loop-i.invariant.1 (λ table interned extends go. refl))
