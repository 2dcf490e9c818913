-- What a clock and a source of random words tell, and what each call does to that (this project's profile).
use Rattle.std.specs.Prelude.{◌≡◌, ℕ, ℤ, List, [], ◌∷◌, ◌++◌, Result, Ok, Err}

-- the times and the words that were given so far, each in the order of asking
pub record ClockAndRandomView : Type 0 where
  pub times : List ℤ
  pub words : List ℕ

-- The time that was answered is one more of those given. After an Err nothing has changed.
abbrev pub GivesTime : {E : Type 0} → Result ℤ E → ClockAndRandomView → ClockAndRandomView → Type 0
GivesTime (Ok time) before after = (after.times ≡ before.times ++ time ∷ []) × (after.words ≡ before.words)
GivesTime (Err refusal) before after = after ≡ before

-- The word that was answered is one more of those given. After an Err nothing has changed.
abbrev pub GivesWord : {E : Type 0} → Result ℕ E → ClockAndRandomView → ClockAndRandomView → Type 0
GivesWord (Ok word) before after = (after.words ≡ before.words ++ word ∷ []) × (after.times ≡ before.times)
GivesWord (Err refusal) before after = after ≡ before
