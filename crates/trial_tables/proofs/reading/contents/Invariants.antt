use Rattle.std.proofs.Common.{◌≡◌, drop, ◌≤◌, IfSome}
use Rattle.prov_outside.specs.Tells.{Tells}
use Rattle.keeper.specs.Keeping.{AreKept, LeavesAmong}
use Rattle.trial_tables.specs.Whole.{contents_in}
use Rattle.trial_tables.proofs.Gathering.{behind}
use Rattle.trial_tables.proofs.reading.contents.Given as goal

abbrev pub invariant-loop-digest : goal.invariant-loop-digest
invariant-loop-digest g l = record {
  reads : Tells (g.K.Keeper.told l.fn.keeper) (g.K.Keeper.told l.keeper) (λ before after. (after ≡ before)
      × (contents_in before.seen l.digests ≡ behind l.gathered.items (contents_in before.seen (drop l.digest-index l.digests))));
  kept : IfSome (g.K.Keeper.told l.keeper) (AreKept (g.K.Keeper.is_open l.keeper));
  stops : Tells (g.K.Keeper.told l.fn.keeper) (g.K.Keeper.told l.keeper) (λ _ _. LeavesAmong (g.K.Keeper.may_leave l.fn.keeper) (g.K.Keeper.may_leave l.keeper));
  batch : g.K.Keeper.is_open l.keeper ≡ g.K.Keeper.is_open l.fn.keeper;
  causes : g.K.Keeper.faults l.fn.keeper ≤ g.K.Keeper.faults l.keeper;
}
