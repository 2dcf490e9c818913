-- What keeping a trial leaves: the committed tables, and those that a stop may leave (this project's profile).
use Rattle.std.specs.Prelude.{◌≡◌, ◌⊎◌, ◌↔◌, Result, Ok, Err}
use Rattle.keeper.specs.Keeping.{KeeperView}
use Rattle.keeper.specs.Tables.{TablesView}
use Rattle.trial_tables.specs.Written.{Written, put, clash}
use Rattle.trial_tables.specs.declared.write_fault.WriteFault.{WriteFault}
use Rattle.trial_tables.specs.declared.write_fault.WriteFault.TheVariants.{Collision, Keeper, Memory}

-- What was written is committed. Where a content clashes, the answer names the first that does; after every refusal the committed tables are as before.
abbrev pub Commits : {T : Type 0} → (TablesView → Written) → Result T WriteFault → KeeperView → KeeperView → Type 0
Commits change (Ok done) before after = (change before.seen ≡ put after.committed) × (after.seen ≡ after.committed)
Commits change (Err (Collision digest kept given)) before after = (change before.seen ≡ clash digest kept given) × (after.committed ≡ before.committed)
Commits change (Err Keeper) before after = after.committed ≡ before.committed
Commits change (Err Memory) before after = after.committed ≡ before.committed

-- The same from no open batch to no open batch: after a refusal all is as before.
abbrev pub Keeps : {T : Type 0} → (TablesView → Written) → Result T WriteFault → KeeperView → KeeperView → Type 0
Keeps change (Ok done) before after = (change before.committed ≡ put after.committed) × (after.seen ≡ after.committed)
Keeps change (Err (Collision digest kept given)) before after = (change before.committed ≡ clash digest kept given) × (after ≡ before)
Keeps change (Err Keeper) before after = after ≡ before
Keeps change (Err Memory) before after = after ≡ before

-- A stop leaves the committed tables alone, where all went well. After a refusal it leaves what it might have left before, or the tables with the trial.
abbrev pub StopLeaves : {T : Type 0} → (TablesView → Written) → Result T WriteFault → (TablesView → Type 0) → (TablesView → Type 0) → TablesView → TablesView → Type 0
StopLeaves change (Ok done) before after old new = (tables : TablesView) → after tables ↔ (tables ≡ new)
StopLeaves change (Err fault) before after old new = (tables : TablesView) → after tables → before tables ⊎ (change old ≡ put tables)
