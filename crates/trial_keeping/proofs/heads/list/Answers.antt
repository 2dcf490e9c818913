use Rattle.trial_keeping.proofs.HeadsRead.{reads_all}
use Rattle.trial_keeping.proofs.heads.list.Goals as goal

pub returns-in-Ok-clause-finds : goal.returns-in-Ok-clause-finds
returns-in-Ok-clause-finds g c =
    reads_all c.in-Ok.count c.first_heads.result (g.K.Keeper.told c.args.keeper.now) (g.K.Keeper.told c.trials.new.self) (g.K.Keeper.told c.first_heads.new.keeper) c.in-Ok.ensures.reads c.first_heads.ensures.finds
