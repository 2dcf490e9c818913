use Rattle.std.proofs.Common.{◌≡◌, ◌≤◌, None, IfSome}
use Rattle.prov_outside.specs.Tells.{Tells}
use Rattle.keeper.specs.Keeping.{AreKept, LeavesAmong}
use Rattle.trial_loading.proofs.Readings.{Fronts}
use Rattle.trial_loading.proofs.gathering.gather.Given as goal

abbrev pub invariant-loop-number : goal.invariant-loop-number
invariant-loop-number g l = record {
  reads : Tells (g.K.Keeper.told l.fn.keeper) (g.K.Keeper.told l.keeper) (Fronts l.trial l.number l.gathered.bytes.items l.gathered.cuts.items);
  goes_on : l.gathered.ended ≡ None;
  kept : IfSome (g.K.Keeper.told l.keeper) (AreKept (g.K.Keeper.is_open l.keeper));
  stops : Tells (g.K.Keeper.told l.fn.keeper) (g.K.Keeper.told l.keeper) (λ _ _. LeavesAmong (g.K.Keeper.may_leave l.fn.keeper) (g.K.Keeper.may_leave l.keeper));
  batch : g.K.Keeper.is_open l.keeper ≡ g.K.Keeper.is_open l.fn.keeper;
  causes : g.K.Keeper.faults l.fn.keeper ≤ g.K.Keeper.faults l.keeper;
}
