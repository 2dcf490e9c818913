use Rattle.std.proofs.Common.{◌≡◌, IfSome, drop}
use Rattle.keeper.specs.Tables.{HasTrial}
use Rattle.trial_tables.specs.Stages.{HasNoPagesFrom}
use Rattle.trial_tables.specs.Written.{put, with_pages}
use Rattle.trial_tables.proofs.Stepping.{Comes}
use Rattle.trial_tables.proofs.paging.add_pages.Given as goal

abbrev pub invariant-loop-bytes : goal.invariant-loop-bytes
invariant-loop-bytes g l = record {
  so_far : Comes (λ tables. put (with_pages l.trial 0 l.pages tables)) (λ tables. put (with_pages l.trial l.number (drop l.bytes-index l.pages) tables))
      (g.K.Keeper.told l.fn.keeper) (g.K.Keeper.told l.keeper) (g.K.Keeper.may_leave l.fn.keeper) (g.K.Keeper.may_leave l.keeper)
      (g.K.Keeper.is_open l.fn.keeper) (g.K.Keeper.is_open l.keeper) (g.K.Keeper.faults l.fn.keeper) (g.K.Keeper.faults l.keeper);
  numbered : l.number ≡ l.bytes-index;
  trial : IfSome (g.K.Keeper.told l.keeper) (λ kept. HasTrial kept.seen l.trial);
  none : IfSome (g.K.Keeper.told l.keeper) (λ kept. HasNoPagesFrom l.trial l.number kept.seen);
}
