-- No public clause cites this file.
-- What a step of writing a trial does to what a keeper tells (this project's profile).
use Rattle.std.specs.Prelude.{◌≡◌, ℕ, ◌≤◌, Result, Ok, Err, None}
use Rattle.keeper.specs.Keeping.{KeeperView}
use Rattle.keeper.specs.Tables.{TablesView}
use Rattle.trial_tables.specs.Written.{Written, put, clash}
use Rattle.trial_tables.specs.declared.write_fault.WriteFault.{WriteFault}
use Rattle.trial_tables.specs.declared.write_fault.WriteFault.TheVariants.{Collision, Keeper, Memory}

-- Readers see the written tables. Where a content clashes, the answer names the first that does. Whatever is answered, the committed tables stay.
abbrev pub Writes : {T : Type 0} → (TablesView → Written) → Result T WriteFault → KeeperView → KeeperView → Type 0
Writes change (Ok done) before after = (change before.seen ≡ put after.seen) × (after.committed ≡ before.committed)
Writes change (Err (Collision digest kept given)) before after = (change before.seen ≡ clash digest kept given) × (after.committed ≡ before.committed)
Writes change (Err Keeper) before after = after.committed ≡ before.committed
Writes change (Err Memory) before after = after.committed ≡ before.committed

-- the trial has no page from this number on
abbrev pub HasNoPagesFrom : ℕ → ℕ → TablesView → Type 0
HasNoPagesFrom trial number tables = (n : ℕ) → number ≤ n → tables.pages trial n ≡ None
