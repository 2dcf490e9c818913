-- What a call answers that reads heads of trials (this project's profile).
use Rattle.std.specs.Prelude.{◌≡◌, ℕ, take, Vec, None, Some, Result, Ok, Err}
use Rattle.std.specs.declared.alloc.Global.{Global}
use Rattle.keeper.specs.declared.records.Head.{Head}
use Rattle.keeper.specs.Keeping.{KeeperView}
use Rattle.keeper.specs.Tables.{head_at}
use Rattle.trial_keeping.specs.declared.fault.TrialFault.{TrialFault}
use Rattle.trial_keeping.specs.declared.fault.TrialFault.TheVariants.{NoTrial, Damaged, Keeper, Collision, Full, Memory}

-- It answers the head with this number, and NoTrial exactly where there is none. It leaves all as it was, whatever it answers.
abbrev pub FindsHead : ℕ → Result Head TrialFault → KeeperView → KeeperView → Type 0
FindsHead number (Ok head) before after = (head_at before.seen.heads number ≡ Some head) × (after ≡ before)
FindsHead number (Err (NoTrial other)) before after = (head_at before.seen.heads number ≡ None) × (after ≡ before)
FindsHead number (Err Keeper) before after = after ≡ before
FindsHead number (Err Memory) before after = after ≡ before
FindsHead number (Err (Damaged other damage)) before after = ⊥
FindsHead number (Err (Collision digest kept given)) before after = ⊥
FindsHead number (Err Full) before after = ⊥

-- It answers all heads in their order, and leaves all as it was, whatever it answers.
abbrev pub FindsHeads : Result (Vec Head Global) TrialFault → KeeperView → KeeperView → Type 0
FindsHeads (Ok heads) before after = (heads.items ≡ before.seen.heads) × (after ≡ before)
FindsHeads (Err fault) before after = after ≡ before

-- It answers the head of a trial that was counted. It is the proof's means; no public clause speaks of it.
abbrev pub FindsCounted : ℕ → Result Head TrialFault → KeeperView → KeeperView → Type 0
FindsCounted number (Ok head) before after = (head_at before.seen.heads number ≡ Some head) × (after ≡ before)
FindsCounted number (Err fault) before after = after ≡ before

-- It answers the heads of the first so many trials. It is the proof's means; no public clause speaks of it.
abbrev pub FindsFirst : ℕ → Result (Vec Head Global) TrialFault → KeeperView → KeeperView → Type 0
FindsFirst count (Ok heads) before after = (heads.items ≡ take count before.seen.heads) × (after ≡ before)
FindsFirst count (Err fault) before after = after ≡ before

-- what the reading of a head never answers, whatever keeper it is
abbrev pub IsOfHead : ℕ → TrialFault → Type 0
IsOfHead number (NoTrial other) = other ≡ number
IsOfHead number (Damaged other damage) = ⊥
IsOfHead number Keeper = Unit {0}
IsOfHead number (Collision digest kept given) = ⊥
IsOfHead number Full = ⊥
IsOfHead number Memory = Unit {0}

-- what the reading of all heads never answers, whatever keeper it is
abbrev pub IsOfList : TrialFault → Type 0
IsOfList (NoTrial number) = ⊥
IsOfList (Damaged number damage) = ⊥
IsOfList Keeper = Unit {0}
IsOfList (Collision digest kept given) = ⊥
IsOfList Full = ⊥
IsOfList Memory = Unit {0}
