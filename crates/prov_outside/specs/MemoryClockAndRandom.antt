-- What moments in memory hold (this project's profile).
use Rattle.std.specs.Prelude.{◌≡◌, ℕ, ℤ, List, [], ◌∷◌, Result, Ok, Err}
use Rattle.prov_outside.specs.ClockAndRandom.{ClockAndRandomView}
use Rattle.prov_outside.specs.Numbering.{Numbering}

-- the times and the words that are left, those that were given, the numbering of the calls and the counts of the faults
pub record MemoryClockAndRandomView : Type 0 where
  pub times : List ℤ
  pub words : List ℕ
  pub given : ClockAndRandomView
  pub calls : Numbering
  pub time_faults : ℕ
  pub word_faults : ℕ

-- What was answered is the first of those that were left. An Err leaves them.
abbrev pub TakesFirst : {T E : Type 0} → Result T E → List T → List T → Type 0
TakesFirst (Ok answer) before after = before ≡ answer ∷ after
TakesFirst (Err refusal) before after = after ≡ before
