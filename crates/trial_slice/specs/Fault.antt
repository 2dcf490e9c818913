-- Why a question about an evaluation has no answer, and which of that is counted (this project's profile).
use Rattle.std.specs.Prelude.{ℕ, Bool, true, false, Result, Ok, Err}
use Rattle.trial_keeping.specs.declared.fault.TrialFault.TheVariants.{NoTrial, Damaged, Keeper, Collision, Full, Memory}
use Rattle.trial_loading.specs.Loading.{IsOfLoading}
use Rattle.trial_slice.specs.declared.fault.EvaluationFault.{EvaluationFault}
use Rattle.trial_slice.specs.declared.fault.EvaluationFault.TheVariants.{Trial, NoEvaluation}

-- the answer is that the keeper failed
abbrev pub has_failed : {T : Type 0} → Result T EvaluationFault → Bool
has_failed (Ok done) = false
has_failed (Err (Trial (NoTrial number))) = false
has_failed (Err (Trial (Damaged number damage))) = false
has_failed (Err (Trial Keeper)) = true
has_failed (Err (Trial (Collision digest kept_len given_len))) = false
has_failed (Err (Trial Full)) = false
has_failed (Err (Trial Memory)) = false
has_failed (Err NoEvaluation) = false

-- a fault of the trial is one of its loading
abbrev pub IsOfQuestion : ℕ → EvaluationFault → Type 0
IsOfQuestion number (Trial fault) = IsOfLoading number fault
IsOfQuestion number NoEvaluation = Unit {0}
