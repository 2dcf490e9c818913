-- What is told of a loaded trial is told of its slice.
use Rattle.std.proofs.Common.{◌≡◌, ℕ, Bool, List, Option, Some, None, Ok, Err}
use Rattle.keeper.specs.Keeping.{KeeperView}
use Rattle.prov_base.specs.declared.place.Pos.{Pos}
use Rattle.prov_outside.specs.Tells.{Tells}
use Rattle.py_model.specs.Occurrences.{up_to_evaluation}
use Rattle.row_moments.specs.Moments.{moments_in}
use Rattle.trial_keeping.specs.declared.fault.TrialFault.{TrialFault}
use Rattle.trial_keeping.specs.declared.fault.TrialFault.TheVariants.{NoTrial, Damaged, Keeper, Collision, Full, Memory}
use Rattle.trial_loading.specs.Loading.{Loads}
use Rattle.trial_loading.specs.declared.trial.Trial.{Trial as OneTrial}
use Rattle.trial_slice.specs.Sliced.{IsSliceOf}
use Rattle.trial_slice.specs.Slices.{SlicesTrial}
use Rattle.trial_slice.specs.declared.fault.EvaluationFault.TheVariants.{Trial, NoEvaluation}

pub sliced : (was is : Option KeeperView) (number : ℕ) (at : Pos) (k : ℕ) (trial : OneTrial) (keep : ℕ → Bool) (text : List ℕ) → IsSliceOf trial at k keep text → Tells was is (Loads number (Ok trial)) → Tells was is (SlicesTrial number at k (Ok text))
sliced was None number at k trial keep text slice told = tt
sliced None (Some new) number at k trial keep text slice told = absurd told
sliced (Some old) (Some new) number at k trial keep text slice told = (record { trial = trial; loaded = told.0; keep = keep; is_slice = slice }, told.1)

pub lacking : (was is : Option KeeperView) (number : ℕ) (at : Pos) (k : ℕ) (trial : OneTrial) → up_to_evaluation at k (moments_in trial.rows) ≡ None → Tells was is (Loads number (Ok trial)) → Tells was is (SlicesTrial number at k (Err NoEvaluation))
lacking was None number at k trial lacks told = tt
lacking None (Some new) number at k trial lacks told = absurd told
lacking (Some old) (Some new) number at k trial lacks told = (record { trial = trial; loaded = told.0; lacks = lacks }, told.1)

pub no_memory : (was is : Option KeeperView) (number : ℕ) (at : Pos) (k : ℕ) (trial : OneTrial) → Tells was is (Loads number (Ok trial)) → Tells was is (SlicesTrial number at k (Err (Trial Memory)))
no_memory was None number at k trial told = tt
no_memory None (Some new) number at k trial told = absurd told
no_memory (Some old) (Some new) number at k trial told = told.1

-- a fault of loading is one of the question
pub unloaded : (was is : Option KeeperView) (number : ℕ) (at : Pos) (k : ℕ) (fault : TrialFault) → Tells was is (Loads number (Err fault)) → Tells was is (SlicesTrial number at k (Err (Trial fault)))
unloaded was is number at k (NoTrial other) told = told
unloaded was is number at k (Damaged other damage) told = told
unloaded was is number at k Keeper told = told
unloaded was is number at k Memory told = told
unloaded was is number at k (Collision digest kept given) told = told
unloaded was is number at k Full told = told
