-- What keeping a trial answers, and what it leaves (this project's profile).
use Rattle.std.specs.Prelude.{◌≡◌, ℕ, ◌<◌, ◌≤◌, ◌⊎◌, ◌↔◌, List, length, Result, Ok, Err}
use Rattle.keeper.specs.Keeping.{KeeperView}
use Rattle.keeper.specs.Tables.{TablesView}
use Rattle.trial_tables.specs.Written.{put, clash, next_trial}
use Rattle.trial_keeping.specs.Trial.{Run, parent_in, with_trial_of}
use Rattle.trial_keeping.specs.declared.fault.TrialFault.{TrialFault}
use Rattle.trial_keeping.specs.declared.fault.TrialFault.TheVariants.{NoTrial, Damaged, Keeper, Collision, Full, Memory}

-- how many trials a store holds at most
abbrev pub full_store : ℕ
full_store = 1000000

-- there is room for one trial more
abbrev pub HasRoom : TablesView → Type 0
HasRoom tables = length tables.heads < full_store

-- Without a fault the tables have the run's trial more, under the next number. A full store takes none, and a clash names the first content under whose
-- digest other bytes stand. After every fault all is as before.
abbrev pub KeepsTrial : Run → Result ℕ TrialFault → KeeperView → KeeperView → Type 0
KeepsTrial run (Ok number) before after =
    (HasRoom before.committed × (number ≡ next_trial before.committed)) × ((with_trial_of run before.committed ≡ put after.committed) × (after.seen ≡ after.committed))
KeepsTrial run (Err (Collision digest kept given)) before after = (HasRoom before.committed × (with_trial_of run before.committed ≡ clash digest kept given)) × (after ≡ before)
KeepsTrial run (Err Full) before after = (full_store ≤ length before.committed.heads) × (after ≡ before)
KeepsTrial run (Err Keeper) before after = after ≡ before
KeepsTrial run (Err Memory) before after = after ≡ before
KeepsTrial run (Err (NoTrial number)) before after = ⊥
KeepsTrial run (Err (Damaged number damage)) before after = ⊥

-- What is asked before keeping: the parent, where there is room. All stays as it is.
abbrev pub ParentAnswers : List ℕ → Result ℕ TrialFault → KeeperView → KeeperView → Type 0
ParentAnswers path (Ok parent) before after = (HasRoom before.seen × (parent ≡ parent_in before.seen path)) × (after ≡ before)
ParentAnswers path (Err Full) before after = (full_store ≤ length before.seen.heads) × (after ≡ before)
ParentAnswers path (Err Keeper) before after = after ≡ before
ParentAnswers path (Err Memory) before after = after ≡ before
ParentAnswers path (Err (Collision digest kept given)) before after = ⊥
ParentAnswers path (Err (NoTrial number)) before after = ⊥
ParentAnswers path (Err (Damaged number damage)) before after = ⊥

-- what keeping never answers, whatever keeper it is
abbrev pub IsOfKeeping : TrialFault → Type 0
IsOfKeeping (NoTrial number) = ⊥
IsOfKeeping (Damaged number damage) = ⊥
IsOfKeeping Keeper = Unit {0}
IsOfKeeping (Collision digest kept given) = Unit {0}
IsOfKeeping Full = Unit {0}
IsOfKeeping Memory = Unit {0}

-- A stop leaves the new tables alone, where the trial was kept. After a fault it leaves what it might have left before, or, where there
-- was room, the tables with the trial.
abbrev pub StopLeaves : Run → Result ℕ TrialFault → (TablesView → Type 0) → (TablesView → Type 0) → KeeperView → KeeperView → Type 0
StopLeaves run (Ok number) may may' before after = (tables : TablesView) → may' tables ↔ (tables ≡ after.committed)
StopLeaves run (Err fault) may may' before after = (tables : TablesView) → may' tables → may tables ⊎ (HasRoom before.committed × (with_trial_of run before.committed ≡ put tables))
