use Rattle.trial_loading.proofs.Whole.{from_joins}
use Rattle.trial_loading.proofs.loading.load_trial.Goals as goal

pub returns-in-Ok-script_of-clause-loads : goal.returns-in-Ok-script_of-clause-loads
returns-in-Ok-script_of-clause-loads g c =
    from_joins c.args.number c.in-Ok.found c.in-Ok-script_of.text c.load_from.result (g.K.Keeper.told c.args.keeper.now) (g.K.Keeper.told c.head.new.keeper)
    (g.K.Keeper.told c.script_of.new.keeper) (g.K.Keeper.told c.load_from.new.keeper) c.in-Ok.ensures.finds c.in-Ok-script_of.ensures.finds c.load_from.ensures.loads
