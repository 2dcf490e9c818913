-- What `list` answers (this project's profile).
use Rattle.std.specs.Prelude.{◌≡◌, ℕ, List, Result, Ok, Err}
use Rattle.keeper.specs.Keeping.{KeeperView}
use Rattle.trial_keeping.specs.declared.fault.TrialFault.{TrialFault}
use Rattle.trial_list.specs.Lines.{list_bytes}

-- It answers the lines of all trials. It leaves all as it was, whatever it answers.
abbrev pub ListsTrials : Result (List ℕ) TrialFault → KeeperView → KeeperView → Type 0
ListsTrials (Ok text) before after = (text ≡ list_bytes before.seen.heads) × (after ≡ before)
ListsTrials (Err fault) before after = after ≡ before
