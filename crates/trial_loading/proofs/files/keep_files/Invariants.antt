use Rattle.std.proofs.Common.{◌≡◌, drop, ◌≤◌, IfSome}
use Rattle.prov_outside.specs.Tells.{Tells}
use Rattle.keeper.specs.Keeping.{AreKept, LeavesAmong}
use Rattle.trial_keeping.specs.RecordFits.{AreAscending}
use Rattle.trial_loading.proofs.FileOrder.{AreAhead}
use Rattle.trial_loading.proofs.GatheredItems.{FilesSoFar}
use Rattle.trial_loading.proofs.files.keep_files.Given as goal

abbrev pub invariant-loop-file : goal.invariant-loop-file
invariant-loop-file g l = record {
  reads : Tells (g.K.Keeper.told l.fn.keeper) (g.K.Keeper.told l.keeper) (FilesSoFar l.files l.capture.files (drop l.file-index l.files));
  ahead : AreAhead l.capture.files (drop l.file-index l.files);
  ascend : AreAscending (drop l.file-index l.files);
  others : l.capture ≡ record l.fn.capture { files = l.capture.files };
  kept : IfSome (g.K.Keeper.told l.keeper) (AreKept (g.K.Keeper.is_open l.keeper));
  stops : Tells (g.K.Keeper.told l.fn.keeper) (g.K.Keeper.told l.keeper) (λ _ _. LeavesAmong (g.K.Keeper.may_leave l.fn.keeper) (g.K.Keeper.may_leave l.keeper));
  batch : g.K.Keeper.is_open l.keeper ≡ g.K.Keeper.is_open l.fn.keeper;
  causes : g.K.Keeper.faults l.fn.keeper ≤ g.K.Keeper.faults l.keeper;
}
