-- What a question about a kept trial is answered (this project's profile), by what answers it and which trials have no answer to it.
use Rattle.std.specs.Prelude.{◌≡◌, ℕ, None, Result, Ok, Err}
use Rattle.keeper.specs.Keeping.{KeeperView}
use Rattle.keeper.specs.Tables.{TablesView, head_at}
use Rattle.trial_keeping.specs.declared.fault.TrialFault.TheVariants.{NoTrial, Damaged, Keeper, Collision, Full, Memory}
use Rattle.trial_loading.specs.Loading.{IsLoaded, IsTrial, IsDamaged}
use Rattle.trial_loading.specs.declared.trial.Trial.{Trial as OneTrial}
use Rattle.trial_slice.specs.declared.fault.EvaluationFault.{EvaluationFault}
use Rattle.trial_slice.specs.declared.fault.EvaluationFault.TheVariants.{Trial, NoEvaluation}

-- the trial with this number is well kept, and this answers the question
pub record HasAnswer {T : Type 0} (answers : OneTrial → T → Type 0) (tables : TablesView) (number : ℕ) (it : T) : Type 0 where
  pub trial : OneTrial
  pub loaded : IsLoaded tables number trial
  pub answer : answers trial it

-- it is well kept, and this holds of it
pub record IsSuch (such : OneTrial → Type 0) (tables : TablesView) (number : ℕ) : Type 0 where
  pub trial : OneTrial
  pub loaded : IsLoaded tables number trial
  pub so : such trial

-- It answers the question, that the trial has no answer to it, that there is no such trial, or what is amiss of it first. It leaves all as it was, whatever it answers.
abbrev pub AnswersTrial : {T : Type 0} → (OneTrial → T → Type 0) → (OneTrial → Type 0) → ℕ → Result T EvaluationFault → KeeperView → KeeperView → Type 0
AnswersTrial answers lacks number (Ok it) before after = HasAnswer answers before.seen number it × (after ≡ before)
AnswersTrial answers lacks number (Err NoEvaluation) before after = IsSuch lacks before.seen number × (after ≡ before)
AnswersTrial answers lacks number (Err (Trial (NoTrial other))) before after = (head_at before.seen.heads number ≡ None) × (after ≡ before)
AnswersTrial answers lacks number (Err (Trial (Damaged other damage))) before after = IsDamaged before.seen number damage × (after ≡ before)
AnswersTrial answers lacks number (Err (Trial Keeper)) before after = after ≡ before
AnswersTrial answers lacks number (Err (Trial Memory)) before after = after ≡ before
AnswersTrial answers lacks number (Err (Trial (Collision digest kept given))) before after = ⊥
AnswersTrial answers lacks number (Err (Trial Full)) before after = ⊥

-- ---- over any keeper

-- this answers the question in some trial with this number, whose text is its script and whose rows are kept rows
pub record HasSomeAnswer {T : Type 0} (answers : OneTrial → T → Type 0) (number : ℕ) (it : T) : Type 0 where
  pub trial : OneTrial
  pub is_trial : IsTrial number trial
  pub answer : answers trial it

-- this holds of some such trial
pub record IsSomeSuch (such : OneTrial → Type 0) (number : ℕ) : Type 0 where
  pub trial : OneTrial
  pub is_trial : IsTrial number trial
  pub so : such trial

-- what is answered is that of some trial
abbrev pub AnswersSome : {T : Type 0} → (OneTrial → T → Type 0) → (OneTrial → Type 0) → ℕ → Result T EvaluationFault → Type 0
AnswersSome answers lacks number (Ok it) = HasSomeAnswer answers number it
AnswersSome answers lacks number (Err NoEvaluation) = IsSomeSuch lacks number
AnswersSome answers lacks number (Err (Trial fault)) = Unit {0}
