-- What `restore` comes to (this project's profile): the files of a trial are put, it becomes the current one of its path, and what was put is told.
use Rattle.std.specs.Prelude.{◌≡◌, ℕ, ◌⊎◌, List, [], ◌∷◌, ◌++◌, take, Option, Some, None, Result, Ok, Err, IfErr}
use Rattle.delivery.specs.Ending.{Ending, done, nothing_there, folder_failed, store_failed, out_of_memory, damaged_trial, closing_line}
use Rattle.keeper.specs.declared.records.Head.{Head}
use Rattle.keeper.specs.Keeping.{KeeperView}
use Rattle.keeper.specs.Tables.{TablesView, head_at, with_current}
use Rattle.now_words.specs.Command.{Command, run_bare, run_kept, reads, restores}
use Rattle.prov_outside.specs.Console.{ConsoleView}
use Rattle.prov_outside.specs.Count.{Rose}
use Rattle.prov_outside.specs.Folder.{Files}
use Rattle.prov_outside.specs.Tells.{Tells}
use Rattle.trial_history.specs.Current.{settled}
use Rattle.trial_history.specs.Fault.{has_failed, IsOfRestoring}
use Rattle.trial_history.specs.Puts.{OneFile, restored_lines, with_files}
use Rattle.trial_history.specs.Restoring.{IsFrom, RestoreLeaves, Restores, files_of}
use Rattle.trial_history.specs.declared.fault.RestoreFault.{RestoreFault}
use Rattle.trial_history.specs.declared.fault.RestoreFault.TheVariants.{Trial, Folder}
use Rattle.trial_keeping.specs.declared.fault.TrialFault.{TrialFault}
use Rattle.trial_keeping.specs.declared.fault.TrialFault.TheVariants.{NoTrial, Damaged, Keeper, Collision, Full, Memory}
use Rattle.trial_loading.specs.Loading.{IsDamaged}
use Rattle.trial_loading.specs.declared.trial.Trial.{Trial as OneTrial}
use Rattle.trial_show.specs.Details.{detail}
use Rattle.trial_tables.specs.Causes.{Causes}
use Rattle.trial_tables.specs.declared.damage.Damage.{Damage}
use Rattle.now_top.specs.Kept.{Stored}
use Rattle.now_top.specs.Seen.{Seen, Delivers}

-- the number of the trial that a command restores, if it restores one
abbrev pub restored : Option Command → Option ℕ
restored None = None
restored (Some (run_bare steps file arguments)) = None
restored (Some (run_kept steps file arguments)) = None
restored (Some (reads query)) = None
restored (Some (restores number)) = Some number

-- How the command ends by a fault of the trial: there is none; or what is amiss of it first, in words, or memory ran out for these; or the store failed, or memory
-- ran out. Restoring answers neither a collision nor a full store.
abbrev pub EndsByFault : TrialFault → Ending → Type 0
EndsByFault (NoTrial number) ending = ending ≡ nothing_there
EndsByFault (Damaged number damage) ending = (ending ≡ damaged_trial number (detail damage)) ⊎ (ending ≡ out_of_memory)
EndsByFault Keeper ending = ending ≡ store_failed
EndsByFault Memory ending = ending ≡ out_of_memory
EndsByFault (Collision digest kept given) ending = ending ≡ store_failed
EndsByFault Full ending = ending ≡ store_failed

-- how the command ends by what came of the restoring
abbrev pub EndsBy : Result (Unit {0}) RestoreFault → Ending → Type 0
EndsBy (Ok all) ending = ending ≡ done
EndsBy (Err (Trial fault)) ending = EndsByFault fault ending
EndsBy (Err (Folder path)) ending = ending ≡ folder_failed path

-- Nothing changed but the files of the folder, and its count of failed puts.
pub record OnlyPuts (before after : Seen) : Type 0 where
  pub console : after.console ≡ before.console
  pub moments : after.moments ≡ before.moments
  pub line : after.faults.line ≡ before.faults.line
  pub write : after.faults.write ≡ before.faults.write
  pub file : after.faults.file ≡ before.faults.file
  pub source : after.faults.source ≡ before.faults.source
  pub time : after.faults.time ≡ before.faults.time
  pub word : after.faults.word ≡ before.faults.word

-- The trial with the number is restored, as far as that came: its files are put, and then it becomes the current one of its path. Then a line for each file that was put is
-- delivered, and a closing line by what came of the restoring.
pub record RestoresTrial (number : ℕ) (before after : Seen) (was is : Stored) (status : ℕ) : Type 0 where
  pub result : Result (Unit {0}) RestoreFault
  pub ran : Seen
  pub text : List ℕ
  pub ending : Ending
  pub aside : OnlyPuts before ran
  pub restores : Restores number result was.told is.told [] text before.faults.put ran.faults.put before.folder ran.folder
  pub of_restoring : IfErr result (IsOfRestoring number)
  pub cause : Causes (has_failed result) was.faults is.faults
  pub ends : EndsBy result ending
  pub delivers : Delivers (record { ending = ending; text = text; files = [] }) ran after status

-- the same, with the tables that a stop may leave
pub record RestoresWith (number : ℕ) (before after : Seen) (was is : Stored) (may may' : TablesView → Type 0) (status : ℕ) : Type 0 where
  pub of : RestoresTrial number before after was is status
  pub stops : Tells was.told is.told (RestoreLeaves number of.result may may')

-- ---- what stands then

-- The trial's script was put at its path, and then each file that its run found with bytes, by path, and each was told in its order. The trial is the current one of its
-- path. Nothing else is new in the folder, on the console and in the store.
pub record RestoredWhole (number : ℕ) (before after : Seen) (was is : Stored) : Type 0 where
  pub trial : OneTrial
  pub from : IsFrom number trial was.told is.told
  pub folder : Tells before.folder after.folder (λ (old new : Files). (path : List ℕ) → new path ≡ with_files (files_of trial) old path)
  pub console : Tells before.console after.console (λ (old new : ConsoleView). new.written ≡ old.written ++ restored_lines (files_of trial))
  pub tables : Tells was.told is.told (λ (old new : KeeperView). new ≡ settled (with_current trial.head.path number old.committed))

-- The put of one of the trial's files was refused, and the folder counted that. Those before it in their order were put and are told. The closing line names its path, and
-- the store is as before.
pub record RefusedPut (number : ℕ) (before after : Seen) (was is : Stored) : Type 0 where
  pub trial : OneTrial
  pub from : IsFrom number trial was.told is.told
  pub put : List OneFile
  pub path : List ℕ
  pub bytes : List ℕ
  pub rest : List OneFile
  pub files : files_of trial ≡ put ++ (path, bytes) ∷ rest
  pub rose : Rose before.faults.put after.faults.put
  pub console : Tells before.console after.console (λ (old new : ConsoleView). (n : ℕ) × (m : ℕ) × (new.written ≡ old.written ++ take n (restored_lines put) ++ take m (closing_line (folder_failed path))))
  pub tables : Tells was.told is.told (λ (old new : KeeperView). new ≡ old)

-- the tables stay, or the trial has become the current one of its path, and nothing else is new
abbrev pub StayOrSet : ℕ → KeeperView → KeeperView → Type 0
StayOrSet number old new = (new ≡ old) ⊎ ((head : Head) × (head_at old.seen.heads number ≡ Some head) × (new ≡ settled (with_current head.path number old.committed)))

-- The ways in which `restore` ends: all was done; there is no such trial; something is amiss of it first; or the console failed as files were told, the folder at a put, or the
-- keeper, and counted that; or memory ran out.
pub data EndsRestoring (number : ℕ) (before after : Seen) (was is : Stored) (status : ℕ) : Type 0 where
  whole : status ≡ 0 → RestoredWhole number before after was is → EndsRestoring number before after was is status
  not_there : status ≡ 4 → Tells was.told is.told (λ (old new : KeeperView). (head_at old.seen.heads number ≡ None) × (new ≡ old)) → EndsRestoring number before after was is status
  by_console : status ≡ 5 → Rose before.faults.write after.faults.write → (trial : OneTrial) → IsFrom number trial was.told is.told → Tells was.told is.told (StayOrSet number) → EndsRestoring number before after was is status
  by_folder : status ≡ 6 → RefusedPut number before after was is → EndsRestoring number before after was is status
  by_store : status ≡ 7 → Rose was.faults is.faults → Tells was.told is.told (λ (old new : KeeperView). new ≡ old) → EndsRestoring number before after was is status
  no_memory : status ≡ 8 → Tells was.told is.told (StayOrSet number) → EndsRestoring number before after was is status
  amiss : status ≡ 11 → (damage : Damage) → Tells was.told is.told (λ (old new : KeeperView). IsDamaged old.seen number damage × (new ≡ old)) → EndsRestoring number before after was is status
