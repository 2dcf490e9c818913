-- What a stop may leave behind the loading of a trial.
use Rattle.std.proofs.Common.{◌≡◌, ◌⊎◌, inl, inr, ℕ, Option, Some, None, Result, Ok, Err, subst}
use Rattle.prov_outside.specs.Tells.{Tells}
use Rattle.keeper.specs.declared.records.Head.{Head}
use Rattle.keeper.specs.Keeping.{KeeperView, LeavesAmong}
use Rattle.keeper.specs.Tables.{TablesView, head_at, with_current}
use Rattle.trial_history.specs.declared.fault.RestoreFault.{RestoreFault}
use Rattle.trial_history.specs.Restoring.{RestoreLeaves}

-- what one may leave before, or the tables in which the trial is the current one of its path
abbrev Left : ℕ → (TablesView → Type 0) → TablesView → KeeperView → Type 0
Left number may tables view = may tables ⊎ ((head : Head) × (head_at view.seen.heads number ≡ Some head) × (tables ≡ with_current head.path number view.committed))

left_before : (number : ℕ) (m0 m1 : TablesView → Type 0) (tables : TablesView) (view : KeeperView) → (m1 tables → m0 tables) → Left number m1 tables view → Left number m0 tables view
left_before number m0 m1 tables view more (inl left) = inl (more left)
left_before number m0 m1 tables view more (inr one) = inr one

leaves_both : (number : ℕ) (result : Result (Unit {0}) RestoreFault) (m0 m1 m2 : TablesView → Type 0) (a b c : KeeperView) → LeavesAmong m0 m1 → b ≡ a → RestoreLeaves number result m1 m2 b c → RestoreLeaves number result m0 m2 a c
leaves_both number (Ok done) m0 m1 m2 a b c first same second = second
leaves_both number (Err fault) m0 m1 m2 a b c first same second =
    λ tables left. left_before number m0 m1 tables a (first tables) (subst (λ (v : KeeperView). Left number m1 tables v) same (second tables left))

pub stops_behind : (number : ℕ) (result : Result (Unit {0}) RestoreFault) (m0 m1 m2 : TablesView → Type 0) (old mid new : Option KeeperView) → Tells old mid (λ _ _. LeavesAmong m0 m1) → Tells old mid (λ before after. after ≡ before)
    → Tells mid new (RestoreLeaves number result m1 m2) → Tells old new (RestoreLeaves number result m0 m2)
stops_behind number result m0 m1 m2 old mid None first same second = tt
stops_behind number result m0 m1 m2 old None (Some c) first same second = absurd second
stops_behind number result m0 m1 m2 None (Some b) (Some c) first same second = absurd first
stops_behind number result m0 m1 m2 (Some a) (Some b) (Some c) first same second = leaves_both number result m0 m1 m2 a b c first same second
