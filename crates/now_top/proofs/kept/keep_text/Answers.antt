use Rattle.delivery.specs.Ending.{ending_of}
use Rattle.py_tree.specs.Erasure.{script_of}
use Rattle.now_top.specs.Planned.{plan_of}
use Rattle.now_top.proofs.Meanings.{kept_as, kept_short, not_kept}
use Rattle.now_top.proofs.Preparing.{untouched_store, same_stops}
use Rattle.now_top.proofs.kept.keep_text.Goals as goal

pub returns-in-Err-clause-keeps : goal.returns-in-Err-clause-keeps
returns-in-Err-clause-keeps g c = not_kept c.args.file.now c.args.text.now c.args.steps c.args.arguments.now _ _ _ (ending_of c.in-Err.ending) c.in-Err.ensures.refused

pub returns-in-Ok-kept-clause-keeps : goal.returns-in-Ok-kept-clause-keeps
returns-in-Ok-kept-clause-keeps g c = kept_as c.args.file.now c.args.text.now c.args.steps c.args.arguments.now _ _ _ _ _ _ (script_of c.in-Ok.script) c.in-Ok.ensures.script c.in-Ok-kept.kept
    (rw c.in-Ok-kept.is at c.keep_run-kept.ensures.runs)
    (record { keeps = rw c.in-Ok-kept.is at c.keep_run-kept.ensures.keeps; of_keeping = rw c.in-Ok-kept.is at c.keep_run-kept.ensures.of_keeping; cause = rw c.in-Ok-kept.is at c.keep_run-kept.ensures.cause })
    (rw c.in-Ok-kept.is at c.keep_run-kept.ensures.stops) (plan_of c.planned_kept.result) c.planned_kept.ensures

pub returns-in-Err-kept-clause-keeps : goal.returns-in-Err-kept-clause-keeps
returns-in-Err-kept-clause-keeps g c =
    let same = rw c.in-Err-kept.is at c.keep_run-kept.ensures.untouched in
    kept_short c.args.file.now c.args.text.now c.args.steps c.args.arguments.now _ _ _ _ _ _ (script_of c.in-Ok.script) _ (rw c.in-Err-kept.is at c.keep_run-kept.ensures.runs)
    (untouched_store (g.K.Keeper.told) (g.K.Keeper.faults) _ _ same) (same_stops (g.K.Keeper.may_leave) _ _ same)
