use Rattle.std.proofs.Common.{rules, ◌+◌, Ok, Err}
use Rattle.trial_keeping.specs.declared.fault.TrialFault.TheVariants.{Memory}
use Rattle.trial_keeping.proofs.HeadsRead.{reads_next, stops_next, leaves_next}
use Rattle.trial_keeping.proofs.heads.first_heads.Goals as goal

pub loop-earlier-preserved : goal.loop-earlier-preserved
loop-earlier-preserved g c =
    let next = reads_next c.loop-earlier.heads.items c.loop-earlier.earlier c.in-Ok.next (g.K.Keeper.told c.args.keeper.now) (g.K.Keeper.told c.loop-earlier.keeper) (g.K.Keeper.told c.counted_head.new.keeper)
    c.loop-earlier.invariant.reads c.in-Ok.ensures.finds in
    search rules

pub returns-in-Err-clause-finds : goal.returns-in-Err-clause-finds
returns-in-Err-clause-finds g c =
    stops_next c.loop-earlier.heads.items c.loop-earlier.earlier (c.loop-earlier.earlier + 1) c.args.count (Err c.in-Err.fault) c.in-Err.fault (g.K.Keeper.told c.args.keeper.now) (g.K.Keeper.told c.loop-earlier.keeper) (g.K.Keeper.told c.counted_head.new.keeper)
    c.loop-earlier.invariant.reads c.in-Err.ensures.finds

pub returns-then-is_err-clause-finds : goal.returns-then-is_err-clause-finds
returns-then-is_err-clause-finds g c =
    stops_next c.loop-earlier.heads.items c.loop-earlier.earlier (c.loop-earlier.earlier + 1) c.args.count (Ok c.in-Ok.next) Memory (g.K.Keeper.told c.args.keeper.now) (g.K.Keeper.told c.loop-earlier.keeper) (g.K.Keeper.told c.counted_head.new.keeper)
    c.loop-earlier.invariant.reads c.in-Ok.ensures.finds

pub returns-in-Err-clause-stops : goal.returns-in-Err-clause-stops
returns-in-Err-clause-stops g c =
    leaves_next (g.K.Keeper.may_leave c.args.keeper.now) (g.K.Keeper.may_leave c.loop-earlier.keeper) (g.K.Keeper.may_leave c.counted_head.new.keeper)
    (g.K.Keeper.told c.args.keeper.now) (g.K.Keeper.told c.loop-earlier.keeper) (g.K.Keeper.told c.counted_head.new.keeper) c.loop-earlier.invariant.stops c.in-Err.ensures.stops

pub returns-then-is_err-clause-stops : goal.returns-then-is_err-clause-stops
returns-then-is_err-clause-stops g c =
    leaves_next (g.K.Keeper.may_leave c.args.keeper.now) (g.K.Keeper.may_leave c.loop-earlier.keeper) (g.K.Keeper.may_leave c.counted_head.new.keeper)
    (g.K.Keeper.told c.args.keeper.now) (g.K.Keeper.told c.loop-earlier.keeper) (g.K.Keeper.told c.counted_head.new.keeper) c.loop-earlier.invariant.stops c.in-Ok.ensures.stops
