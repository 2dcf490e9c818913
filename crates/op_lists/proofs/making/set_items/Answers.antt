use Rattle.std.proofs.Common.{refl, arith, map, ◌+◌}
use Rattle.py_model.specs.Making.{set_items}
use Rattle.py_value.specs.Contents.{contents}
use Rattle.op_work.specs.Work.{Wrote}
use Rattle.op_work.proofs.Going.{passes_err}
use Rattle.op_lists.proofs.Writing.{item_named, left, left_is, left_none, writing_same, writing_more, writing_stop, writing_done}
use Rattle.op_lists.proofs.making.set_items.Goals as goal

pub returns-in_err-set : goal.returns-in_err-set
returns-in_err-set c =
    let o = c.args.o in let at = c.loop-item.at in let items = c.args.items.now in let i = c.loop-item.item-index in
    passes_err (λ result. Wrote (λ table. set_items o c.args.first (map (contents table) items)) c.args.work.now c.set.new.self result) c.from_residual.result c.from_residual.ensures.1
    (writing_stop (left o (at + 1) items (i + 1)) (writing_same c.loop-item.invariant.0 (left_is o at items i c.loop-item-test.true)) c.in_err-set.ensures)

pub loop-item-preserved : goal.loop-item-preserved
loop-item-preserved c =
    let o = c.args.o in let at = c.loop-item.at in let items = c.args.items.now in let i = c.loop-item.item-index in (
      writing_more (left o (at + 1) items (i + 1)) (writing_same c.loop-item.invariant.0 (left_is o at items i c.loop-item-test.true)) c.in_ok-set.ensures,
      omega (arith, c.loop-item.invariant.1),
    )

pub returns : goal.returns
returns c = writing_done (writing_same c.loop-item.invariant.0 (left_none c.args.o c.loop-item.at c.args.items.now c.loop-item.item-index c.loop-item-test.false))

pub set-requires-clause-named : goal.set-requires-clause-named
set-requires-clause-named c = (refl, (tt, item_named c.args.work.now.values c.loop-item.work.values c.loop-item.invariant.0.kept.extends.few c.args.items.now c.requires.named c.loop-item.item-index c.loop-item-test.true))
