-- What restoring a trial does to the store and to the folder (this project's profile).
use Rattle.std.specs.Prelude.{◌≡◌, ◌⊎◌, ◌↔◌, ℕ, List, [], ◌∷◌, Option, Some, Result, Ok, Err}
use Rattle.prov_outside.specs.Folder.{Files}
use Rattle.prov_outside.specs.Tells.{Tells}
use Rattle.prov_outside.specs.declared.folder.Found.{Found}
use Rattle.prov_outside.specs.declared.folder.Found.TheVariants.{Bytes, Absent, TooLarge, Failed}
use Rattle.capture.specs.Files.{IsAscending}
use Rattle.keeper.specs.declared.records.Head.{Head}
use Rattle.keeper.specs.Keeping.{KeeperView}
use Rattle.keeper.specs.Tables.{TablesView, head_at, with_current}
use Rattle.trial_keeping.specs.Heads.{IsOfList}
use Rattle.trial_keeping.specs.declared.fault.TrialFault.{TrialFault}
use Rattle.trial_loading.specs.Loading.{IsLoaded, IsOfLoading, IsTrial, Loads}
use Rattle.trial_loading.specs.declared.trial.Trial.{Trial as OneTrial}
use Rattle.trial_history.specs.declared.fault.RestoreFault.{RestoreFault}
use Rattle.trial_history.specs.declared.fault.RestoreFault.TheVariants.{Trial, Folder}
use Rattle.trial_history.specs.Current.{Sets}
use Rattle.trial_history.specs.Puts.{OneFile, Puts}

-- ---- the files of a trial

-- each file that was found with bytes
abbrev pub found_files : List (List ℕ × Found) → List OneFile
found_files [] = []
found_files ((path, Bytes bytes) ∷ files) = (path, bytes) ∷ found_files files
found_files ((path, Absent) ∷ files) = found_files files
found_files ((path, TooLarge) ∷ files) = found_files files
found_files ((path, Failed) ∷ files) = found_files files

-- the script at its path, and then each file that was found with bytes, by path
abbrev pub files_of : OneTrial → List OneFile
files_of trial = (trial.head.path, trial.text) ∷ found_files trial.capture.files

-- ---- the stages

-- what the setting of the current trial may answer
abbrev pub IsOfSetting : Result (Unit {0}) RestoreFault → Type 0
IsOfSetting (Ok done) = Unit {0}
IsOfSetting (Err (Trial fault)) = IsOfList fault
IsOfSetting (Err (Folder path)) = ⊥

-- The trial with this number is loaded: a script with kept rows, and files in ascending order of their paths. A store that tells its tables has it.
pub record IsFrom (number : ℕ) (trial : OneTrial) (kept kept' : Option KeeperView) : Type 0 where
  pub is_trial : IsTrial number trial
  pub by_path : IsAscending trial.capture.files
  pub is_loaded : Tells kept kept' (λ before after. IsLoaded before.seen number trial)

-- How far it came: the trial was not loaded, and nothing was done; or not all of its files were put, and the store is as before; or all of them were put, and the
-- trial was to be made the current one of its path.
pub data Restores (number : ℕ) (result : Result (Unit {0}) RestoreFault) (kept kept' : Option KeeperView) (told told' : List ℕ) (count count' : ℕ) (was is : Option Files) : Type 0 where
  not_loaded : (fault : TrialFault) → result ≡ Err (Trial fault) → IsOfLoading number fault → Tells kept kept' (Loads number (Err fault)) → told' ≡ told → count' ≡ count
      → Tells was is (λ before after. after ≡ before) → Restores number result kept kept' told told' count count' was is
  not_put : (trial : OneTrial) (fault : RestoreFault) → result ≡ Err fault → IsFrom number trial kept kept' → Puts (files_of trial) (Err fault) told told' count count' was is
      → Tells kept kept' (λ before after. after ≡ before) → Restores number result kept kept' told told' count count' was is
  put : (trial : OneTrial) → IsOfSetting result → IsFrom number trial kept kept' → Puts (files_of trial) (Ok tt) told told' count count' was is
      → Tells kept kept' (Sets (with_current trial.head.path number) result) → Restores number result kept kept' told told' count count' was is

-- A stop leaves the new tables alone, where all went well. After every other answer it leaves what it might have left before, or the tables in which the trial is the current one
-- of its path.
abbrev pub RestoreLeaves : {T E : Type 0} → ℕ → Result T E → (TablesView → Type 0) → (TablesView → Type 0) → KeeperView → KeeperView → Type 0
RestoreLeaves number (Ok done) before after old new = (tables : TablesView) → after tables ↔ (tables ≡ new.committed)
RestoreLeaves number (Err fault) before after old new =
    (tables : TablesView) → after tables → before tables ⊎ ((head : Head) × (head_at old.seen.heads number ≡ Some head) × (tables ≡ with_current head.path number old.committed))
