-- What becomes of a run that is to be kept (this project's profile): when the clock is asked, which run is kept, and what the store of trials has by that.
use Rattle.std.specs.Prelude.{◌≡◌, ℕ, ℤ, Bool, true, false, List, ◌⊎◌, ◌↔◌, Option, Some, None, Result, IfErr}
use Rattle.answer_source.specs.Live.{capture_of}
use Rattle.capture.specs.Capture.{CaptureView}
use Rattle.now_words.specs.Command.{Command, run_bare, run_kept, reads, restores}
use Rattle.now_words.specs.declared.command.Query.{Query}
use Rattle.delivery.specs.Ending.{Ending, done, uncaught, out_of_steps, out_of_memory, store_failed}
use Rattle.keeper.specs.Keeping.{KeeperView, LeavesAmong}
use Rattle.keeper.specs.Tables.{TablesView}
use Rattle.prov_outside.specs.Tells.{Tells}
use Rattle.py_model.specs.Capture.{Telling}
use Rattle.py_tree.specs.Tree.{ScriptTree}
use Rattle.recorded_runs.specs.KeptRun.{AsksClock}
use Rattle.recorded_runs.specs.RecordedRun.{IsRecordedRun}
use Rattle.recorded_runs.specs.declared.recording.Recorded.{Recorded}
use Rattle.py_parser.specs.Reading.{HasScript}
use Rattle.trial_keeping.specs.Fault.{has_failed}
use Rattle.trial_keeping.specs.Keeping.{KeepsTrial, StopLeaves, IsOfKeeping}
use Rattle.trial_keeping.specs.Trial.{Run}
use Rattle.trial_keeping.specs.declared.fault.TrialFault.{TrialFault}
use Rattle.trial_tables.specs.Causes.{Causes}
use Rattle.now_top.specs.Planned.{plan_of_run}
use Rattle.now_top.specs.Unkept.{with_keeping}
use Rattle.now_top.specs.World.{World, Plan, closing, StandsAt}

-- the command keeps its run
abbrev pub keeps : Option Command → Bool
keeps None = false
keeps (Some (run_bare steps file arguments)) = false
keeps (Some (run_kept steps file arguments)) = true
keeps (Some (reads query)) = false
keeps (Some (restores number)) = false

-- the command reads the store
abbrev pub reads_store : Option Command → Bool
reads_store None = false
reads_store (Some (run_bare steps file arguments)) = false
reads_store (Some (run_kept steps file arguments)) = false
reads_store (Some (reads query)) = true
reads_store (Some (restores number)) = false

-- the command runs a script
abbrev pub runs_script : Option Command → Bool
runs_script None = false
runs_script (Some (run_bare steps file arguments)) = true
runs_script (Some (run_kept steps file arguments)) = true
runs_script (Some (reads query)) = false
runs_script (Some (restores number)) = false

-- of a command that runs a script a run comes to such an ending, and nothing else does
abbrev pub ends_a_run : Ending → Bool
ends_a_run done = true
ends_a_run (uncaught class line text) = true
ends_a_run out_of_steps = true
ends_a_run ending = false

-- what the clock answered before a run and after it, where it was asked
abbrev pub Clock : Type 0
Clock = Option (Option ℤ) × Option (Option ℤ)

-- the clock was asked once, or nothing was done
abbrev pub Asks : Option (Option ℤ) → Telling → Telling → Type 0
Asks None before after = after ≡ before
Asks (Some time) before after = AsksClock time before after

-- no run is to be kept: the command keeps none, or its plan is none of a run
abbrev pub HasNoRun : Option Command → Plan → Type 0
HasNoRun command plan = (keeps command ≡ false) ⊎ (ends_a_run plan.ending ≡ false)

-- The clock is asked before and after a run that is to be kept, and else not. Where memory ran out it may have been asked before alone.
pub data IsClockOf (command : Option Command) (plan : Plan) : Clock → Type 0 where
  not_asked : HasNoRun command plan → IsClockOf command plan (None, None)
  begun : (start : Option ℤ) → keeps command ≡ true → plan ≡ closing out_of_memory → IsClockOf command plan (Some start, None)
  over : (start finish : Option ℤ) → keeps command ≡ true → ends_a_run plan.ending ≡ true → IsClockOf command plan (Some start, Some finish)

-- The run that is to be kept is that of the script that FILE has, in what the devices gave, with its moments of start and end. Its answers are kept in ascending
-- order of place and number, and its pages are those of its moments.
pub record KeepsRun (file : List ℕ) (steps : ℕ) (arguments : List (List ℕ)) (world : World) (began : Telling) (clock : Clock) (made : Plan) (run : Run) : Type 0 where
  pub text : List ℕ
  pub stands : StandsAt file world.files text
  pub script : ScriptTree
  pub has : HasScript text script
  pub asked : CaptureView
  pub it : Recorded
  pub records : IsRecordedRun script file arguments steps began world.capture.ends asked it
  pub capture : world.capture ≡ capture_of asked world.capture.ends
  pub made_is : made ≡ plan_of_run it.ended
  pub times : Option ℤ × Option ℤ
  pub clock_is : clock ≡ (Some times.0, Some times.1)
  pub run_is : run ≡ record { text = text; path = file; arguments = arguments; budget = steps; ended = it.ended; pages = it.pages; times = times }

-- what is seen of the store of trials at one moment: what the keeper tells, where it tells, and how often its calls have failed so far
pub record Stored : Type 0 where
  pub told : Option KeeperView
  pub faults : ℕ

-- what a keeper exposes and has counted
abbrev pub stored : {K : Type 0} → (K → Option KeeperView) → (K → ℕ) → K → Stored
stored told faults keeper = record { told = told keeper; faults = faults keeper }

-- the tables that the keeper told before and after, where it told them both times
abbrev pub tables_in : Option KeeperView → Option KeeperView → Option TablesView
tables_in (Some old) (Some new) = Some old.committed
tables_in (Some old) None = None
tables_in None after = None

abbrev pub tables_told : Stored → Stored → Option TablesView
tables_told was is = tables_in was.told is.told

-- nothing was asked of the store
pub record IsUntouched (was is : Stored) : Type 0 where
  pub told : is.told ≡ was.told
  pub faults : is.faults ≡ was.faults

-- the run's trial was kept under this number, or is not for this fault
pub record KeepsIn (run : Run) (number : Result ℕ TrialFault) (was is : Stored) : Type 0 where
  pub keeps : Tells was.told is.told (KeepsTrial run number)
  pub of_keeping : IfErr number IsOfKeeping
  pub cause : Causes (has_failed number) was.faults is.faults

-- the command ends so because the store failed
abbrev pub is_store_failed : Ending → Bool
is_store_failed store_failed = true
is_store_failed ending = false

-- The store was read, and its tables stay. Its count rose where that failed.
pub record IsRead (ending : Ending) (was is : Stored) : Type 0 where
  pub told : Tells was.told is.told (λ (old new : KeeperView). new ≡ old)
  pub cause : Causes (is_store_failed ending) was.faults is.faults

-- the command does not read the store, or memory ran out before it was read
abbrev pub HasNoReading : Option Command → Plan → Type 0
HasNoReading command plan = (reads_store command ≡ false) ⊎ (plan ≡ closing out_of_memory)

-- what a plan comes to by the keeping of its run or by the reading of the store, and what the store has then
pub data Keeps (command : Option Command) (world : World) (began : Telling) (clock : Clock) (made : Plan) (was is : Stored) : Plan → Type 0 where
  no_run : HasNoRun command made → HasNoReading command made → IsUntouched was is → Keeps command world began clock made was is made
  a_run : (steps : ℕ) (file : List ℕ) (arguments : List (List ℕ)) → command ≡ Some (run_kept steps file arguments) → (run : Run) → KeepsRun file steps arguments world began clock made run
      → (number : Result ℕ TrialFault) → KeepsIn run number was is → Keeps command world began clock made was is (with_keeping number made)
  a_reading : (query : Query) → command ≡ Some (reads query) → IsRead made.ending was is → Keeps command world began clock made was is made

-- Which tables a stop may leave then. Where nothing was asked of the store, those that one might have left before; where a run was kept, or was to be, what its
-- keeping says; where the store was read, some of those.
abbrev pub StopsBy : {command : Option Command} {world : World} {began : Telling} {clock : Clock} {made : Plan} {was is : Stored} {plan : Plan} → Keeps command world began clock made was is plan
    → (TablesView → Type 0) → (TablesView → Type 0) → Type 0
StopsBy (no_run none unread still) may may' = (tables : TablesView) → may' tables ↔ may tables
StopsBy {was = was} {is = is} (a_run steps file arguments word run of number kept) may may' = Tells was.told is.told (StopLeaves run number may may')
StopsBy {was = was} {is = is} (a_reading query word read) may may' = Tells was.told is.told (λ (old new : KeeperView). LeavesAmong may may')
