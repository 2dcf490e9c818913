-- What is told of a loaded trial is told of a question about it.
use Rattle.std.proofs.Common.{ℕ, Option, Some, None, Ok, Err}
use Rattle.keeper.specs.Keeping.{KeeperView}
use Rattle.prov_outside.specs.Tells.{Tells}
use Rattle.trial_keeping.specs.declared.fault.TrialFault.{TrialFault}
use Rattle.trial_keeping.specs.declared.fault.TrialFault.TheVariants.{NoTrial, Damaged, Keeper, Collision, Full, Memory}
use Rattle.trial_loading.specs.Loading.{Loads}
use Rattle.trial_loading.specs.declared.trial.Trial.{Trial as OneTrial}
use Rattle.trial_slice.specs.Questions.{AnswersTrial}
use Rattle.trial_slice.specs.declared.fault.EvaluationFault.TheVariants.{Trial, NoEvaluation}

pub answered : {T : Type 0} (answers : OneTrial → T → Type 0) (lacks : OneTrial → Type 0) (was is : Option KeeperView) (number : ℕ) (trial : OneTrial) (it : T) → answers trial it → Tells was is (Loads number (Ok trial))
    → Tells was is (AnswersTrial answers lacks number (Ok it))
answered answers lacks was None number trial it answer told = tt
answered answers lacks None (Some new) number trial it answer told = absurd told
answered answers lacks (Some old) (Some new) number trial it answer told = (record { trial = trial; loaded = told.0; answer = answer }, told.1)

pub lacking : {T : Type 0} (answers : OneTrial → T → Type 0) (lacks : OneTrial → Type 0) (was is : Option KeeperView) (number : ℕ) (trial : OneTrial) → lacks trial → Tells was is (Loads number (Ok trial))
    → Tells was is (AnswersTrial {T = T} answers lacks number (Err NoEvaluation))
lacking answers lacks was None number trial so told = tt
lacking answers lacks None (Some new) number trial so told = absurd told
lacking answers lacks (Some old) (Some new) number trial so told = (record { trial = trial; loaded = told.0; so = so }, told.1)

pub no_memory : {T : Type 0} (answers : OneTrial → T → Type 0) (lacks : OneTrial → Type 0) (was is : Option KeeperView) (number : ℕ) (trial : OneTrial) → Tells was is (Loads number (Ok trial))
    → Tells was is (AnswersTrial {T = T} answers lacks number (Err (Trial Memory)))
no_memory answers lacks was None number trial told = tt
no_memory answers lacks None (Some new) number trial told = absurd told
no_memory answers lacks (Some old) (Some new) number trial told = told.1

-- a fault of loading is one of the question
pub unloaded : {T : Type 0} (answers : OneTrial → T → Type 0) (lacks : OneTrial → Type 0) (was is : Option KeeperView) (number : ℕ) (fault : TrialFault) → Tells was is (Loads number (Err fault))
    → Tells was is (AnswersTrial {T = T} answers lacks number (Err (Trial fault)))
unloaded answers lacks was is number (NoTrial other) told = told
unloaded answers lacks was is number (Damaged other damage) told = told
unloaded answers lacks was is number Keeper told = told
unloaded answers lacks was is number Memory told = told
unloaded answers lacks was is number (Collision digest kept given) told = told
unloaded answers lacks was is number Full told = told
