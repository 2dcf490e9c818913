-- What is told of a loaded trial is told of its lines.
use Rattle.std.proofs.Common.{◌≡◌, ℕ, List, Option, Some, None, Ok}
use Rattle.keeper.specs.Keeping.{KeeperView}
use Rattle.prov_outside.specs.Tells.{Tells}
use Rattle.trial_loading.specs.Loading.{Loads}
use Rattle.trial_loading.specs.declared.trial.Trial.{Trial}
use Rattle.trial_show.specs.Shows.{ShowsTrial, show_bytes}

pub shown : (was is : Option KeeperView) (number : ℕ) (trial : Trial) (text : List ℕ) → text ≡ show_bytes trial → Tells was is (Loads number (Ok trial)) → Tells was is (ShowsTrial number (Ok text))
shown was None number trial text lines told = tt
shown None (Some new) number trial text lines told = absurd told
shown (Some old) (Some new) number trial text lines told = ((trial, told.0, lines), told.1)
