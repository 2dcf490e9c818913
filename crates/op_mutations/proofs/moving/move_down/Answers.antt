use Rattle.std.proofs.Common.{◌+◌}
use Rattle.op_work.specs.Work.{Wrote}
use Rattle.op_work.proofs.Going.{passes_err}
use Rattle.py_model.specs.Lists.{move_down}
use Rattle.op_lists.proofs.Writing.{writing_same, writing_more, writing_stop, writing_done}
use Rattle.op_mutations.proofs.Moves.{down_left, down_is, down_none, within_kept}
use Rattle.op_mutations.proofs.moving.move_down.Goals as goal

pub returns-in_err-move_item : goal.returns-in_err-move_item
returns-in_err-move_item c =
    let n = c.args.n in let o = c.args.o in let p = c.args.p in let i = c.loop-i.i in
    passes_err (λ result. Wrote (λ table. move_down n o p) c.args.work.now c.move_item.new.self result) c.from_residual.result c.from_residual.ensures.1
    (writing_stop (down_left n o p (i + 1)) (writing_same c.loop-i.invariant (down_is n o p i c.loop-i-test.true)) c.in_err-move_item.ensures)

pub loop-i-preserved : goal.loop-i-preserved
loop-i-preserved c =
    let n = c.args.n in let o = c.args.o in let p = c.args.p in let i = c.loop-i.i in
    writing_more (down_left n o p (i + 1)) (writing_same c.loop-i.invariant (down_is n o p i c.loop-i-test.true)) c.in_ok-move_item.ensures

pub returns : goal.returns
returns c = writing_done (writing_same c.loop-i.invariant (down_none c.args.n c.args.o c.args.p c.loop-i.i c.loop-i-test.false))

pub move_item-requires : goal.move_item-requires
move_item-requires c = within_kept c.args.o c.args.work.now.made c.loop-i.work.made c.args.work.now.store c.loop-i.work.store c.loop-i.invariant.kept.made_is c.loop-i.invariant.kept.store_is c.requires.within
