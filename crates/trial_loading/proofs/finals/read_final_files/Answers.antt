use Rattle.std.proofs.Common.{rules, arith, ◌≡◌, ◌∷◌, ◌++◌, [], ◌+◌, drop, sym, subst, ◌∙◌}
use Rattle.prov_outside.specs.Tells.{Tells}
use Rattle.trial_loading.proofs.GatheredItems.{front_at, one_final, final_stops, FinalsSoFar, leaves_then}
use Rattle.trial_loading.proofs.finals.read_final_files.Goals as goal

pub loop-file-preserved : goal.loop-file-preserved
loop-file-preserved g c =
    let i = c.loop-file.file-index in
    let files = c.args.files.now in
    let file = c.file-item.result in
    let front = c.loop-file.read.items in
    let is = front_at files i file c.loop-file-test.true c.file-item.is in
    let pushed : c.push.new.self.items ≡ front ++ c.in-Ok.one ∷ [] = search rules in
    record {
      reads = subst (λ read. Tells (g.K.Keeper.told c.args.keeper.now) (g.K.Keeper.told c.read_final.new.keeper) (FinalsSoFar files read (drop (i + 1) files))) (sym pushed)
          (one_final files front c.in-Ok.one file (drop (i + 1) files) _ _ _
          (subst (λ rest. Tells (g.K.Keeper.told c.args.keeper.now) (g.K.Keeper.told c.loop-file.keeper) (FinalsSoFar files front rest)) is c.loop-file.invariant.reads) c.in-Ok.ensures.finds);
      kept = c.in-Ok.ensures.kept;
      stops = leaves_then (g.K.Keeper.told c.args.keeper.now) (g.K.Keeper.told c.loop-file.keeper) (g.K.Keeper.told c.read_final.new.keeper)
          (g.K.Keeper.may_leave c.args.keeper.now) (g.K.Keeper.may_leave c.loop-file.keeper) (g.K.Keeper.may_leave c.read_final.new.keeper) c.loop-file.invariant.stops c.in-Ok.ensures.stops;
      batch = c.in-Ok.ensures.batch ∙ c.loop-file.invariant.batch;
      causes = omega (arith, c.loop-file.invariant.causes, c.in-Ok.ensures.cause.never_falls);
    }

pub returns-in-Err-clause-finds : goal.returns-in-Err-clause-finds
returns-in-Err-clause-finds g c =
    let i = c.loop-file.file-index in
    let files = c.args.files.now in
    let file = c.file-item.result in
    let front = c.loop-file.read.items in
    let is = front_at files i file c.loop-file-test.true c.file-item.is in
    final_stops files front c.in-Err.fault file (drop (i + 1) files) _ _ _
    (subst (λ rest. Tells (g.K.Keeper.told c.args.keeper.now) (g.K.Keeper.told c.loop-file.keeper) (FinalsSoFar files front rest)) is c.loop-file.invariant.reads) c.in-Err.ensures.finds

pub returns-in-Err-clause-stops : goal.returns-in-Err-clause-stops
returns-in-Err-clause-stops g c =
    leaves_then (g.K.Keeper.told c.args.keeper.now) (g.K.Keeper.told c.loop-file.keeper) (g.K.Keeper.told c.read_final.new.keeper)
    (g.K.Keeper.may_leave c.args.keeper.now) (g.K.Keeper.may_leave c.loop-file.keeper) (g.K.Keeper.may_leave c.read_final.new.keeper) c.loop-file.invariant.stops c.in-Err.ensures.stops

pub returns-then-is_err-clause-stops : goal.returns-then-is_err-clause-stops
returns-then-is_err-clause-stops g c =
    leaves_then (g.K.Keeper.told c.args.keeper.now) (g.K.Keeper.told c.loop-file.keeper) (g.K.Keeper.told c.read_final.new.keeper)
    (g.K.Keeper.may_leave c.args.keeper.now) (g.K.Keeper.may_leave c.loop-file.keeper) (g.K.Keeper.may_leave c.read_final.new.keeper) c.loop-file.invariant.stops c.in-Ok.ensures.stops
