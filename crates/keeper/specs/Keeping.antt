-- What a keeper tells, and what each of its calls does to that (this project's profile).
use Rattle.std.specs.Prelude.{◌≡◌, ℕ, ◌+◌, ◌⊎◌, ◌↔◌, Bool, false, length, Result, Ok, Err, IfOk}
use Rattle.keeper.specs.declared.fault.KeepFault.{KeepFault}
use Rattle.keeper.specs.declared.fault.KeepFault.TheVariants.{Failed, Memory}
use Rattle.keeper.specs.declared.records.Head.{Head}
use Rattle.keeper.specs.Tables.{TablesView, AreTables, with_trial}

-- the committed tables, and what readers see: these with the open batch over them
pub record KeeperView : Type 0 where
  pub committed : TablesView
  pub seen : TablesView

-- what holds of a keeper after every call: where no batch is open, readers see the committed tables
pub record AreKept (open_batch : Bool) (kept : KeeperView) : Type 0 where
  pub committed : AreTables kept.committed
  pub seen : AreTables kept.seen
  pub closed : open_batch ≡ false → kept.seen ≡ kept.committed

-- a reader answers what is seen, and leaves all as it was, whatever it answers
abbrev pub Reads : {T : Type 0} → (TablesView → T) → Result T KeepFault → KeeperView → KeeperView → Type 0
Reads answer (Ok value) before after = (value ≡ answer before.seen) × (after ≡ before)
Reads answer (Err fault) before after = after ≡ before

-- A writer changes what is seen. After Failed the batch may hold anything, and the committed tables stay.
abbrev pub Writes : {T : Type 0} → (TablesView → TablesView) → Result T KeepFault → KeeperView → KeeperView → Type 0
Writes change (Ok value) before after = after ≡ record before { seen = change before.seen }
Writes change (Err Failed) before after = after.committed ≡ before.committed
Writes change (Err Memory) before after = after ≡ before

-- a trial is added behind the others, and its number is answered
abbrev pub AddsTrial : Head → Result ℕ KeepFault → KeeperView → KeeperView → Type 0
AddsTrial head result before after =
    Writes (with_trial head) result before after × IfOk result (λ number. number ≡ length before.seen.heads + 1)

-- what was seen is committed; after Failed the batch may hold anything, and the committed tables stay
abbrev pub Commits : {T : Type 0} → Result T KeepFault → KeeperView → KeeperView → Type 0
Commits (Ok done) before after = after ≡ record { committed = before.seen; seen = before.seen }
Commits (Err Failed) before after = after.committed ≡ before.committed
Commits (Err Memory) before after = after ≡ before

-- whatever a batch held is dropped
abbrev pub Drops : KeeperView → KeeperView → Type 0
Drops before after = after ≡ record { committed = before.committed; seen = before.committed }

-- ---- stops

-- the tables that a stop may leave are among those that one might have left before
abbrev pub LeavesAmong : (TablesView → Type 0) → (TablesView → Type 0) → Type 0
LeavesAmong before after = (tables : TablesView) → after tables → before tables

-- After a commit a stop leaves the committed tables alone. After a refused one it leaves what it might have left
-- before, or the tables with the batch.
abbrev pub CommitLeaves : {T : Type 0} → Result T KeepFault → (TablesView → Type 0) → (TablesView → Type 0) → KeeperView → KeeperView → Type 0
CommitLeaves (Ok done) before after old new = (tables : TablesView) → after tables ↔ (tables ≡ new.committed)
CommitLeaves (Err fault) before after old new = (tables : TablesView) → after tables → before tables ⊎ (tables ≡ old.seen)
