use Rattle.std.proofs.Common.{refl, sym, subst}
use Rattle.op_lists.specs.ValuesSeen.{values_seen}
use Rattle.op_work.specs.Work.{Comes}
use Rattle.py_model.specs.Dicts.{read_entries}
use Rattle.py_value.specs.Values.{AreNamed}
use Rattle.op_lists.proofs.Writing.{item_named}
use Rattle.op_work.proofs.Going.{comes_stop, passes_err, at_once}
use Rattle.op_work.proofs.Turning.{turns_then, turns_more, turns_same}
use Rattle.op_lists.proofs.NamedValues.{all_named_stay, named_behind}
use Rattle.op_mutations.proofs.EntryWalks.{next, left_is, next_is, left_none}
use Rattle.op_mutations.proofs.views.entry_values.Goals as goal

pub entry_value-requires : goal.entry_value-requires
entry_value-requires c = item_named c.args.work.now.values c.loop-i.work.values c.loop-i.invariant.0.kept.extends.few c.args.keys.now c.requires c.loop-i.i c.loop-i-test.true

pub returns-in_err-item : goal.returns-in_err-item
returns-in_err-item c =
    let o = c.args.o in let keys = c.args.keys.now in let i = c.loop-i.i in let items = c.loop-i.items.items in
    passes_err
    (λ result. Comes (λ values vs. AreNamed values vs.items) (λ table vs. values_seen table vs.items) (λ table. read_entries o (values_seen table keys)) c.args.work.now c.entry_value.new.work result)
    c.from_residual.result c.from_residual.ensures.1
    (turns_then (turns_same c.loop-i.invariant.0 (λ table interned extends go. left_is o keys i items c.loop-i-test.true table go))
    (comes_stop (next o keys i items) c.in_err-item.ensures))

pub loop-i-preserved : goal.loop-i-preserved
loop-i-preserved c =
    let o = c.args.o in let keys = c.args.keys.now in let i = c.loop-i.i in let items = c.loop-i.items.items in (
      turns_more (next o keys i items)
          (turns_same c.loop-i.invariant.0 (λ table interned extends go. left_is o keys i items c.loop-i-test.true table go))
          c.in_ok-item.ensures
          (λ table interned extends go. next_is o keys i items c.push.new.self.items c.in_ok-item.item c.in_ok-push.ensures.items table go),
      subst (AreNamed c.entry_value.new.work.values) (sym c.in_ok-push.ensures.items)
          (named_behind c.entry_value.new.work.values items c.in_ok-item.item (all_named_stay c.loop-i.work.values c.entry_value.new.work.values c.entry_value.ensures.kept.extends.few items c.loop-i.invariant.1) c.in_ok-item.ensures.is_named),
    )

pub returns : goal.returns
returns c =
    let items = c.loop-i.items.items in
    turns_then (turns_same c.loop-i.invariant.0 (λ table interned extends go. left_none c.args.o c.args.keys.now c.loop-i.i items c.loop-i-test.false table go))
    (at_once (λ table go. go (values_seen table items)) c.loop-i.work c.loop-i.items c.loop-i.invariant.1 (λ table interned extends go. refl))
