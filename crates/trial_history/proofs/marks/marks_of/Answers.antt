use Rattle.std.proofs.Common.{rules, arith}
use Rattle.trial_history.proofs.Marked.{reads_next, reads_all}
use Rattle.trial_history.proofs.marks.marks_of.Goals as goal

pub loop-earlier-preserved : goal.loop-earlier-preserved
loop-earlier-preserved g c =
    let next = reads_next c.args.heads.now c.loop-earlier.marks.items c.loop-earlier.earlier _ c.index-heads-earlier.result c.in-Ok.marked (g.K.Keeper.told c.args.keeper.now) (g.K.Keeper.told c.loop-earlier.keeper) (g.K.Keeper.told c.mark_in.new.keeper)
    (omega (arith, c.loop-earlier-test.true)) c.as_str.ensures c.loop-earlier.invariant.reads c.in-Ok.ensures.finds in
    search rules

pub returns-clause-finds : goal.returns-clause-finds
returns-clause-finds g c = reads_all c.args.heads.now c.loop-earlier.marks c.loop-earlier.earlier _ _ (omega (arith, c.loop-earlier-test.false)) c.loop-earlier.invariant.reads
