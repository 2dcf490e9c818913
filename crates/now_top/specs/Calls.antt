-- Calls of the program one after another over one store of trials (this project's profile).
use Rattle.std.specs.Prelude.{◌≡◌, ℕ, true, List, [], ◌∷◌, ◌⊎◌, Some}
use Rattle.keeper.specs.Tables.{TablesView, with_current}
use Rattle.now_words.specs.Command.{run_kept, command_of}
use Rattle.trial_keeping.specs.Keeping.{HasRoom}
use Rattle.trial_keeping.specs.Trial.{Run, with_trial_of}
use Rattle.trial_tables.specs.Written.{put}
use Rattle.now_top.specs.Kept.{KeepsRun, Stored, keeps}
use Rattle.now_top.specs.Replies.{Replies}
use Rattle.now_top.specs.Restored.{RestoresTrial}
use Rattle.now_top.specs.Seen.{Seen}

-- any calls, each with words and devices of its own, the store as the one before left it
pub data Calls : Stored → Stored → Type 0 where
  no_call : (at : Stored) → Calls at at
  one_more : {was is : Stored} (between : Stored) (words : List (List ℕ)) (before after : Seen) (status : ℕ) → Calls was between → Replies words before after between is status → Calls was is
  restored_one : {was is : Stored} (between : Stored) (number : ℕ) (before after : Seen) (status : ℕ) → Calls was between → RestoresTrial number before after between is status → Calls was is

-- a run that is to be kept came to its end, by the status
abbrev pub HasRun : List (List ℕ) → ℕ → Type 0
HasRun words status = (keeps (command_of words) ≡ true) × ((status ≡ 0) ⊎ ((status ≡ 1) ⊎ (status ≡ 9)))

-- The runs that calls kept, the latest first: each is that of a call of `run FILE`, as the call says it. A call with a status of a run kept its run.
pub data KeptBy : (was is : Stored) → Calls was is → List Run → Type 0 where
  none_yet : (at : Stored) → KeptBy at at (no_call at) []
  not_kept : {was is : Stored} (between : Stored) (words : List (List ℕ)) (before after : Seen) (status : ℕ) (earlier : Calls was between) (so : Replies words before after between is status) (runs : List Run)
      → (HasRun words status → ⊥) → KeptBy was between earlier runs → KeptBy was is (one_more between words before after status earlier so) runs
  kept : {was is : Stored} (between : Stored) (words : List (List ℕ)) (before after : Seen) (status : ℕ) (earlier : Calls was between) (so : Replies words before after between is status) (runs : List Run)
      (steps : ℕ) (file : List ℕ) (arguments : List (List ℕ)) (run : Run) → command_of words ≡ Some (run_kept steps file arguments)
      → KeepsRun file steps arguments so.plans.prepares.world so.plans.prepares.began so.plans.prepares.clock so.plans.made run → KeptBy was between earlier runs → KeptBy was is (one_more between words before after status earlier so) (run ∷ runs)
  restored : {was is : Stored} (between : Stored) (number : ℕ) (before after : Seen) (status : ℕ) (earlier : Calls was between) (so : RestoresTrial number before after between is status) (runs : List Run)
      → KeptBy was between earlier runs → KeptBy was is (restored_one between number before after status earlier so) runs

-- The tables with the trials of these runs more, the latest run first, each as the next trial. Between them trials were made the current ones of paths.
pub data HasTrials (before : TablesView) : List Run → TablesView → Type 0 where
  as_before : HasTrials before [] before
  with_run : {earlier : List Run} {after : TablesView} (between : TablesView) (run : Run) → HasTrials before earlier between → HasRoom between → with_trial_of run between ≡ put after → HasTrials before (run ∷ earlier) after
  with_set : {runs : List Run} {after : TablesView} (between : TablesView) (path : List ℕ) (number : ℕ) → HasTrials before runs between → after ≡ with_current path number between → HasTrials before runs after

-- the tables have grown by the trials of the runs that these calls kept
abbrev pub HasTrialsOf : (was is : Stored) → Calls was is → TablesView → TablesView → Type 0
HasTrialsOf was is calls before after = (runs : List Run) × (KeptBy was is calls runs × HasTrials before runs after)
