-- Counts of faults (this project's profile): a call of a device answers Failed only where its own count rose.
use Rattle.std.specs.Prelude.{◌≡◌, ℕ, ◌+◌, ◌<◌, ◌≤◌, ◌^◌, ◌⊎◌, min, Result, Ok, Err, IsErrOf}
use Rattle.prov_base.specs.declared.refusal.Failed.{Failed as Fault}
use Rattle.prov_outside.specs.declared.trouble.Trouble.{Trouble}
use Rattle.prov_outside.specs.declared.trouble.Trouble.TheVariants.{Failed, Memory}

-- the count rose, or stands at the end of its type
abbrev pub Rose : ℕ → ℕ → Type 0
Rose before after = (before < after) ⊎ (after ≡ 18446744073709551615)

-- a number after one more; it stops at the end of its type
abbrev pub one_more : ℕ → ℕ
one_more n = min (n + 1) 18446744073709551615

-- a count of faults after a call with this answer: one more where the call failed
abbrev pub faults_after : {T : Type 0} → Result T Trouble → ℕ → ℕ
faults_after (Ok done) count = count
faults_after (Err Failed) count = one_more count
faults_after (Err Memory) count = count

-- what a call says of its own count: it rises by one where the call failed, and stays in every other
pub record Counts {T : Type 0} (before after : ℕ) (result : Result T Trouble) : Type 0 where
  pub never_falls : before ≤ after
  pub in_range : after < 2 ^ 64
  pub failed : IsErrOf result Failed → Rose before after
  pub counted : after ≡ faults_after result before

-- the answer of a device that takes no memory, among those of devices that may lack it
abbrev pub as_trouble : {T : Type 0} → Result T Fault → Result T Trouble
as_trouble (Ok done) = Ok done
as_trouble (Err fault) = Err Failed
