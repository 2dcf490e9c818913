-- Why a trial is not restored, and which of that is counted (this project's profile).
use Rattle.std.specs.Prelude.{ℕ, Bool, false, Result, Ok, Err}
use Rattle.trial_keeping.specs.Fault.{has_failed as trial_has_failed}
use Rattle.trial_keeping.specs.declared.fault.TrialFault.{TrialFault}
use Rattle.trial_loading.specs.Loading.{IsOfLoading}
use Rattle.trial_history.specs.declared.fault.RestoreFault.{RestoreFault}
use Rattle.trial_history.specs.declared.fault.RestoreFault.TheVariants.{Trial, Folder}

-- the answer is that the keeper failed
abbrev pub has_failed : {T : Type 0} → Result T RestoreFault → Bool
has_failed (Ok done) = false
has_failed (Err (Trial fault)) = trial_has_failed {T = Unit {0}} (Err fault)
has_failed (Err (Folder path)) = false

-- what restoring never answers, whatever keeper it is
abbrev pub IsOfRestoring : ℕ → RestoreFault → Type 0
IsOfRestoring number (Trial fault) = IsOfLoading number fault
IsOfRestoring number (Folder path) = Unit {0}
