-- What `slice` answers (this project's profile): the slice of an evaluation of a loaded trial.
use Rattle.std.specs.Prelude.{◌≡◌, ℕ, Bool, List, None, Result, Ok, Err}
use Rattle.keeper.specs.Keeping.{KeeperView}
use Rattle.keeper.specs.Tables.{TablesView, head_at}
use Rattle.prov_base.specs.declared.place.Pos.{Pos}
use Rattle.py_model.specs.Occurrences.{up_to_evaluation}
use Rattle.row_moments.specs.Moments.{moments_in}
use Rattle.trial_keeping.specs.declared.fault.TrialFault.TheVariants.{NoTrial, Damaged, Keeper, Collision, Full, Memory}
use Rattle.trial_loading.specs.Loading.{IsLoaded, IsTrial, IsDamaged}
use Rattle.trial_loading.specs.declared.trial.Trial.{Trial as OneTrial}
use Rattle.trial_slice.specs.Sliced.{IsSliceOf}
use Rattle.trial_slice.specs.declared.fault.EvaluationFault.{EvaluationFault}
use Rattle.trial_slice.specs.declared.fault.EvaluationFault.TheVariants.{Trial, NoEvaluation}

-- the trial with this number is well kept, and this is the text of the slice
pub record HasSlice (tables : TablesView) (number : ℕ) (at : Pos) (k : ℕ) (text : List ℕ) : Type 0 where
  pub trial : OneTrial
  pub loaded : IsLoaded tables number trial
  pub keep : ℕ → Bool
  pub is_slice : IsSliceOf trial at k keep text

-- it is well kept, and its rows have no such evaluation
pub record LacksEvaluation (tables : TablesView) (number : ℕ) (at : Pos) (k : ℕ) : Type 0 where
  pub trial : OneTrial
  pub loaded : IsLoaded tables number trial
  pub lacks : up_to_evaluation at k (moments_in trial.rows) ≡ None

-- It answers the slice, that the trial has no such evaluation, that there is no such trial, or what is amiss of it first. It leaves all as it was, whatever it answers.
abbrev pub SlicesTrial : ℕ → Pos → ℕ → Result (List ℕ) EvaluationFault → KeeperView → KeeperView → Type 0
SlicesTrial number at k (Ok text) before after = HasSlice before.seen number at k text × (after ≡ before)
SlicesTrial number at k (Err NoEvaluation) before after = LacksEvaluation before.seen number at k × (after ≡ before)
SlicesTrial number at k (Err (Trial (NoTrial other))) before after = (head_at before.seen.heads number ≡ None) × (after ≡ before)
SlicesTrial number at k (Err (Trial (Damaged other damage))) before after = IsDamaged before.seen number damage × (after ≡ before)
SlicesTrial number at k (Err (Trial Keeper)) before after = after ≡ before
SlicesTrial number at k (Err (Trial Memory)) before after = after ≡ before
SlicesTrial number at k (Err (Trial (Collision digest kept given))) before after = ⊥
SlicesTrial number at k (Err (Trial Full)) before after = ⊥

-- ---- over any keeper

-- this is the text of the slice, in some trial with this number, whose text is its script and whose rows are kept rows
pub record IsSomeSlice (number : ℕ) (at : Pos) (k : ℕ) (text : List ℕ) : Type 0 where
  pub trial : OneTrial
  pub is_trial : IsTrial number trial
  pub keep : ℕ → Bool
  pub is_slice : IsSliceOf trial at k keep text

-- there is such a trial, and its rows have no such evaluation
pub record LacksSome (number : ℕ) (at : Pos) (k : ℕ) : Type 0 where
  pub trial : OneTrial
  pub is_trial : IsTrial number trial
  pub lacks : up_to_evaluation at k (moments_in trial.rows) ≡ None

-- what is answered is that of some trial
abbrev pub SlicesSome : ℕ → Pos → ℕ → Result (List ℕ) EvaluationFault → Type 0
SlicesSome number at k (Ok text) = IsSomeSlice number at k text
SlicesSome number at k (Err NoEvaluation) = LacksSome number at k
SlicesSome number at k (Err (Trial fault)) = Unit {0}
