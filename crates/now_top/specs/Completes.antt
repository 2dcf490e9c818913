-- How a call of the program ends, and what stands then, by what its words mean (this project's profile).
use Rattle.std.specs.Prelude.{◌≡◌, ℕ, ◌≤◌, ◌==◌, ◌||◌, Bool, true, List, ◌++◌, length, take, ◌⊎◌, Option, IsSome}
use Rattle.answer_source.specs.Live.{Faults}
use Rattle.now_words.specs.Command.{Command}
use Rattle.delivery.specs.Ending.{Ending, status_of, closing_line}
use Rattle.delivery.specs.Ends.{GetsPrefixes}
use Rattle.delivery.specs.Stands.{HasAll}
use Rattle.keeper.specs.Keeping.{KeeperView}
use Rattle.prov_base.specs.declared.place.Digest.{Digest}
use Rattle.prov_outside.specs.Console.{ConsoleView}
use Rattle.prov_outside.specs.Count.{Rose}
use Rattle.prov_outside.specs.Tells.{Tells}
use Rattle.py_model.specs.Capture.{Telling}
use Rattle.trial_keeping.specs.Keeping.{HasRoom, full_store}
use Rattle.trial_keeping.specs.Trial.{Run, with_trial_of}
use Rattle.trial_loading.specs.declared.trial.Trial.{Trial}
use Rattle.trial_slice.specs.Questions.{HasAnswer}
use Rattle.trial_slice.specs.Slices.{HasSlice}
use Rattle.trial_tables.specs.Written.{put, clash}
use Rattle.now_words.specs.declared.command.Evaluation.{Evaluation}
use Rattle.now_words.specs.declared.command.Query.{Query}
use Rattle.keeper.specs.Tables.{TablesView}
use Rattle.now_top.specs.Kept.{Clock, reads_store, KeepsRun, Stored}
use Rattle.now_top.specs.Reply.{Reply}
use Rattle.now_top.specs.Means.{MeansCommand}
use Rattle.now_top.specs.Seen.{Seen}
use Rattle.now_top.specs.World.{World, Plan}

-- the keeper tells its tables from the call's begin to its end, where the command reads them
abbrev pub IsTold : Option Command → Option TablesView → Type 0
IsTold command tables = reads_store command ≡ true → IsSome tables

-- Other bytes stand in the store under the digest of a content of the run that was to be kept: it, their number, and how many were given.
pub record Clashes (world : World) (began : Telling) (clock : Clock) (made : Plan) (was is : Stored) : Type 0 where
  pub steps : ℕ
  pub file : List ℕ
  pub arguments : List (List ℕ)
  pub run : Run
  pub of : KeepsRun file steps arguments world began clock made run
  pub digest : Digest
  pub kept : ℕ
  pub given : ℕ
  pub tables : Tells was.told is.told (λ (old new : KeeperView). with_trial_of run old.committed ≡ clash digest kept given)

-- The status is that of the ending; or a device or the keeper failed, whose count rose; or the store is full, or other bytes stand in it under the digest of a
-- content of the trial; or memory ran out.
pub data Completes (world : World) (began : Telling) (clock : Clock) (made : Plan) (ending : Ending) (before after : Faults) (was is : Stored) (status : ℕ) : Type 0 where
  as_meant : status ≡ status_of ending → Completes world began clock made ending before after was is status
  by_console : status ≡ 5 → Rose before.write after.write → Completes world began clock made ending before after was is status
  by_folder : status ≡ 6 → Rose before.source after.source ⊎ Rose before.put after.put → Completes world began clock made ending before after was is status
  by_store : status ≡ 7 → Rose was.faults is.faults → Completes world began clock made ending before after was is status
  by_collision : status ≡ 10 → Clashes world began clock made was is → Completes world began clock made ending before after was is status
  by_full : status ≡ 13 → Tells was.told is.told (λ (old new : KeeperView). full_store ≤ length old.committed.heads) → Completes world began clock made ending before after was is status
  no_memory : status ≡ 8 → Completes world began clock made ending before after was is status

-- The words mean the plan, and all of it stands: its files in the folder, its text and its closing line on the console, its status.
pub record DoesWhole (command : Option Command) (world : World) (tables : Option TablesView) (plan : Plan) (before after : Seen) (status : ℕ) : Type 0 where
  pub means : MeansCommand command world tables plan
  pub folder : Tells before.folder after.folder (HasAll plan.files)
  pub console : Tells before.console after.console (λ (was is : ConsoleView). is.written ≡ was.written ++ plan.text ++ closing_line plan.ending)
  pub status_is : status ≡ status_of plan.ending

-- The words mean the plan, and all of it stands but perhaps the end of its closing line.
pub record DoesAsMeant (command : Option Command) (world : World) (tables : Option TablesView) (plan : Plan) (before after : Seen) (status : ℕ) : Type 0 where
  pub means : MeansCommand command world tables plan
  pub folder : Tells before.folder after.folder (HasAll plan.files)
  pub console : Tells before.console after.console (λ (was is : ConsoleView). (n : ℕ) × (is.written ≡ was.written ++ plan.text ++ take n (closing_line plan.ending)))
  pub status_is : status ≡ status_of plan.ending

-- What the console got of a text and a closing line, and whether that is all of them.
abbrev pub WritesPrefixes : List ℕ → ℕ → Seen → Seen → Type 0
WritesPrefixes text status before after = Tells before.console after.console (λ (was is : ConsoleView). GetsPrefixes text before.faults.write after.faults.write status was.written is.written)

-- The console got the slice of the evaluation by the tables, and nothing else: the trial is well kept, and its script was cut to the least closed set of statements.
pub record WritesSlice (of : Evaluation) (tables : TablesView) (before after : Seen) : Type 0 where
  pub text : List ℕ
  pub is_slice : HasSlice tables of.trial of.at of.k text
  pub console : Tells before.console after.console (λ (was is : ConsoleView). is.written ≡ was.written ++ text)

-- The console got the answer to a question about the trial with a number by the tables, and nothing else: the trial is well kept, and the text is its answer.
pub record WritesAnswer (answers : Trial → List ℕ → Type 0) (number : ℕ) (tables : TablesView) (before after : Seen) : Type 0 where
  pub text : List ℕ
  pub answer : HasAnswer answers tables number text
  pub console : Tells before.console after.console (λ (was is : ConsoleView). is.written ≡ was.written ++ text)

-- The store has the trial of the run more, as the next one, and nothing else is new in it.
pub record KeepsOne (file : List ℕ) (steps : ℕ) (arguments : List (List ℕ)) (world : World) (began : Telling) (clock : Clock) (made : Plan) (was is : Stored) : Type 0 where
  pub run : Run
  pub of : KeepsRun file steps arguments world began clock made run
  pub tables : Tells was.told is.told (λ (old new : KeeperView). HasRoom old.committed × (with_trial_of run old.committed ≡ put new.committed))

-- The trial of the run is kept, or the tables stay.
abbrev pub KeepsOrLeaves : List ℕ → ℕ → List (List ℕ) → World → Telling → Clock → Plan → Stored → Stored → Type 0
KeepsOrLeaves file steps arguments world began clock made was is = KeepsOne file steps arguments world began clock made was is ⊎ Tells was.told is.told (λ (old new : KeeperView). new ≡ old)

-- the status of a run, or for lack of memory, or because the store has other bytes under a digest or is full
abbrev pub ComesToARun : ℕ → Type 0
ComesToARun status = ((status ≡ 0) ⊎ ((status ≡ 1) ⊎ (status ≡ 9))) ⊎ ((status ≡ 8) ⊎ ((status ≡ 10) ⊎ (status ≡ 13)))

-- 5, or 6 where FILE could be read: the console failed, or the folder at a file that was put
abbrev pub FailedAtDelivery : Seen → Seen → ℕ → Type 0
FailedAtDelivery before after status = (status ≡ 5) ⊎ ((status ≡ 6) × (Rose before.faults.source after.faults.source → ⊥))

-- 3, 4, 7, 10 and 13: the script is refused, nothing is there, the store failed, has other bytes under a digest, or is full
abbrev pub leaves_tables : ℕ → Bool
leaves_tables status = (status == 3) || ((status == 4) || ((status == 7) || ((status == 10) || (status == 13))))

-- The status and the bytes on the console are those of the reply to the question by these tables: the text, and of the closing line as much as the console
-- took, which is all where no count rose. The tables stay.
pub record RepliesBy (query : Query) (tables : TablesView) (before after : Seen) (was is : Stored) (status : ℕ) : Type 0 where
  pub plan : Plan
  pub is_reply : Reply query tables plan
  pub status_is : status ≡ status_of plan.ending
  pub console : Tells before.console after.console (λ (old new : ConsoleView). (n : ℕ) × (new.written ≡ old.written ++ plan.text ++ take n (closing_line plan.ending)))
  pub whole : (Rose before.faults.put after.faults.put → ⊥) → (Rose before.faults.write after.faults.write → ⊥)
      → Tells before.console after.console (λ (old new : ConsoleView). new.written ≡ old.written ++ plan.text ++ closing_line plan.ending)
  pub store : Tells was.told is.told (λ (old new : KeeperView). new ≡ old)
