-- The current trial of a path, set in one batch (this project's profile): the committed tables, and those that a stop may leave.
use Rattle.std.specs.Prelude.{◌≡◌, ◌⊎◌, ◌↔◌, Result, Ok, Err}
use Rattle.keeper.specs.Keeping.{KeeperView}
use Rattle.keeper.specs.Tables.{TablesView}

-- the tables, committed and seen
abbrev pub settled : TablesView → KeeperView
settled tables = record { committed = tables; seen = tables }

-- The change is committed. After a refusal all is as before.
abbrev pub Sets : {T E : Type 0} → (TablesView → TablesView) → Result T E → KeeperView → KeeperView → Type 0
Sets change (Ok done) before after = after ≡ settled (change before.committed)
Sets change (Err fault) before after = after ≡ before

-- A stop leaves the changed tables alone, where all went well. After a refusal it leaves what it might have left before, or the changed tables.
abbrev pub SetLeaves : {T E : Type 0} → (TablesView → TablesView) → Result T E → (TablesView → Type 0) → (TablesView → Type 0) → TablesView → Type 0
SetLeaves change (Ok done) before after old = (tables : TablesView) → after tables ↔ (tables ≡ change old)
SetLeaves change (Err fault) before after old = (tables : TablesView) → after tables → before tables ⊎ (tables ≡ change old)

-- The same within the batch, of what readers see. After a refusal the committed tables stay. It is the proof's means; no public clause speaks of it.
abbrev pub Commits : {T E : Type 0} → (TablesView → TablesView) → Result T E → KeeperView → KeeperView → Type 0
Commits change (Ok done) before after = after ≡ settled (change before.seen)
Commits change (Err fault) before after = after.committed ≡ before.committed
