use Rattle.std.proofs.Common.{◌≡◌, refl, ◌∙◌}
use Rattle.trial_history.specs.Restoring.{not_loaded}
use Rattle.trial_history.proofs.Putting.{tells_same}
use Rattle.trial_history.proofs.Restored.{is_seen, is_there, restores_behind, same_after}
use Rattle.trial_history.proofs.Stopping.{stops_behind}
use Rattle.trial_history.proofs.restoring.restore.Goals as goal

pub restore_loaded-done-requires-clause-there : goal.restore_loaded-done-requires-clause-there
restore_loaded-done-requires-clause-there g c =
    is_there _ _ c.args.number c.in-Ok.trial (c.in-Ok.ensures.batch ∙ c.requires.batch) c.in-Ok.ensures.kept (is_seen (g.K.Keeper.told c.args.keeper.now) _ c.args.number c.in-Ok.trial c.in-Ok.ensures.loads)

pub returns-in-Err-clause-restores : goal.returns-in-Err-clause-restores
returns-in-Err-clause-restores g c = not_loaded c.in-Err.fault refl c.in-Err.ensures.of_loading c.in-Err.ensures.loads refl refl (tells_same _ (λ before after. after ≡ before) (λ a. refl))

pub returns-clause-restores : goal.returns-clause-restores
returns-clause-restores g c =
    restores_behind c.args.number c.restore_loaded-done.result _ _ _ _ _ _ _ _ _ (same_after _ _ c.args.number c.in-Ok.trial c.in-Ok.ensures.loads) c.restore_loaded-done.ensures.restores

pub returns-clause-stops : goal.returns-clause-stops
returns-clause-stops g c =
    stops_behind c.args.number c.restore_loaded-done.result (g.K.Keeper.may_leave c.args.keeper.now) (g.K.Keeper.may_leave c.load_trial.new.keeper) (g.K.Keeper.may_leave c.restore_loaded-done.new.keeper) _ _ _
    c.in-Ok.ensures.stops (same_after _ _ c.args.number c.in-Ok.trial c.in-Ok.ensures.loads) c.restore_loaded-done.ensures.stops
