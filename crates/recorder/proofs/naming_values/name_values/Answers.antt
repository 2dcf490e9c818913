use Rattle.std.proofs.Common.{rules, ◌+◌, map, drop, sym, subst}
use Rattle.std.proofs.Math.ListN.{get_or}
use Rattle.std.proofs.lemmas.Option.{slice_get-get_or}
use Rattle.py_value.specs.Contents.{contents}
use Rattle.py_value.specs.Seen.{value_at}
use Rattle.py_value.specs.declared.value.Value.TheVariants.{None as NoneValue}
use Rattle.row_words.specs.Fits.{Each, IsValue}
use Rattle.recorder.proofs.InRange.{each_more}
use Rattle.recorder.specs.Naming.{named_in}
use Rattle.recorder.specs.Numbers.{Goes}
use Rattle.recorder.proofs.Numbering.{one_turn, last_turn}
use Rattle.recorder.proofs.naming_values.name_values.Goals as goal

pub loop-item-init : goal.loop-item-init
loop-item-init c = (rw c.new-own.ensures.items (λ rest end more. more), (c.requires.own, subst (Each IsValue) (sym c.new-own.ensures.items) tt))

pub name_value-requires : goal.name_value-requires
name_value-requires c =
    let items = c.args.items.now in
    let i = c.loop-item.item-index in
    record { own = c.loop-item.invariant.1.0; named = c.requires.named i (get_or items i NoneValue) (slice_get-get_or items i NoneValue c.loop-item-test.true) }

pub loop-item-preserved : goal.loop-item-preserved
loop-item-preserved c =
    let f = contents c.args.values.now in
    let items = c.args.items.now in
    let i = c.loop-item.item-index in
    let now = c.name_value.new.namer in (
      subst (λ done. Goes contents value_at named_in (map f items) (map f (drop (i + 1) items)) c.args.namer.now now done) (sym c.in_ok-push.ensures.items)
          (one_turn contents value_at named_in f items i NoneValue (map f items) c.args.namer.now c.loop-item.namer now c.loop-item.own.items c.in_ok-v.v c.loop-item-test.true c.loop-item.invariant.0 c.in_ok-v.ensures.numbers),
      (c.in_ok-v.ensures.ready, subst (Each IsValue) (sym c.in_ok-push.ensures.items) (each_more IsValue c.loop-item.own.items c.in_ok-v.v c.loop-item.invariant.1.1 c.in_ok-v.ensures.fits)),
    )

pub returns-clause-numbers : goal.returns-clause-numbers
returns-clause-numbers c =
    let f = contents c.args.values.now in
    let items = c.args.items.now in
    last_turn contents value_at named_in f items c.loop-item.item-index (map f items) c.args.namer.now c.loop-item.namer c.loop-item.own.items c.loop-item-test.false c.loop-item.invariant.0 c.loop-item.invariant.1.0.interned

pub returns-clause-fits : goal.returns-clause-fits
returns-clause-fits c = (search rules, c.loop-item.invariant.1.1)
