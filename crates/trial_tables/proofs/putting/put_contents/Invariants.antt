use Rattle.std.proofs.Common.{◌≡◌, map, drop}
use Rattle.prov_outside.specs.Tells.{Tells}
use Rattle.trial_tables.specs.Written.{put_each}
use Rattle.trial_tables.proofs.Stepping.{Comes}
use Rattle.trial_tables.proofs.putting.put_contents.Given as goal

abbrev pub invariant-loop-bytes : goal.invariant-loop-bytes
invariant-loop-bytes g l = record {
  so_far : Comes (put_each (map (λ bytes. bytes.now) l.contents)) (put_each (map (λ bytes. bytes.now) (drop l.bytes-index l.contents)))
      (g.K.Keeper.told l.fn.keeper) (g.K.Keeper.told l.keeper) (g.K.Keeper.may_leave l.fn.keeper) (g.K.Keeper.may_leave l.keeper)
      (g.K.Keeper.is_open l.fn.keeper) (g.K.Keeper.is_open l.keeper) (g.K.Keeper.faults l.fn.keeper) (g.K.Keeper.faults l.keeper);
  heads : Tells (g.K.Keeper.told l.fn.keeper) (g.K.Keeper.told l.keeper) (λ before after. after.seen.heads ≡ before.seen.heads);
}
