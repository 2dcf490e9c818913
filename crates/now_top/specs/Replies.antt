-- What the top call says (this project's profile): how its devices go from one stage of a command to the next, and why the plan that is delivered is that of the words.
use Rattle.std.specs.Prelude.{◌≡◌, ℕ, false, List, Option, Some, None, IsTrue}
use Rattle.answer_source.specs.Live.{IsCaptureOf}
use Rattle.now_words.specs.Command.{Command, reads, command_of}
use Rattle.now_words.specs.declared.command.Query.{Query}
use Rattle.delivery.specs.Ending.{folder_failed, store_failed, out_of_memory}
use Rattle.prov_base.specs.Path.{is_path}
use Rattle.prov_outside.specs.Count.{one_more}
use Rattle.py_model.specs.Capture.{Telling}
use Rattle.run_engine.specs.Bare.{nothing_kept}
use Rattle.now_top.specs.World.{World, Plan, closing, IsUnasked}
use Rattle.keeper.specs.Tables.{TablesView}
use Rattle.now_top.specs.Kept.{Clock, runs_script, tables_told, Asks, IsClockOf, Stored, Keeps, StopsBy}
use Rattle.now_top.specs.Means.{MeansCommand, file_of}
use Rattle.now_top.specs.Reading.{Agrees}
use Rattle.now_top.specs.Reply.{MayReply}
use Rattle.now_top.specs.Seen.{Seen, told_by, OnlyReads, Delivers}

-- Why a plan is made, from what was seen before and after the reading of FILE: the command means it; or FILE, which is a path, could not be read, and the
-- folder counted that; or the store could not be read; or memory ran out, and nothing but a closing line is planned; only a command that runs a script may have asked then. Over a store that does not tell its tables
-- it is a reply that may be given to the question.
pub data Comes (command : Option Command) (before read : Seen) (world : World) (tables : Option TablesView) : Plan → Type 0 where
  meant : (plan : Plan) → read.faults.source ≡ before.faults.source → MeansCommand command world tables plan → Comes command before read world tables plan
  unread : (one : Command) → command ≡ Some one → IsTrue (is_path (file_of one)) → read.faults.source ≡ one_more before.faults.source → IsUnasked world.capture
      → Comes command before read world tables (closing (folder_failed (file_of one)))
  store_unread : (query : Query) → command ≡ Some (reads query) → read.faults.source ≡ before.faults.source → IsUnasked world.capture → Comes command before read world tables (closing store_failed)
  untold : (query : Query) (plan : Plan) → command ≡ Some (reads query) → tables ≡ None → MayReply query plan → read.faults.source ≡ before.faults.source → IsUnasked world.capture → Comes command before read world tables plan
  no_memory : read.faults.source ≡ before.faults.source → (runs_script command ≡ false → IsUnasked world.capture) → Comes command before read world tables (closing out_of_memory)

-- A plan is made: FILE is read, and then its script is run, or nothing else is done. The world has the files of the folder, where it tells
-- them, and what the devices gave from then on, and no more. The tables are those of the store, where it tells them. Where the run is to be kept, the clock is asked before it and after it.
pub record Prepares (command : Option Command) (tables : Option TablesView) (before ran : Seen) (plan : Plan) : Type 0 where
  pub world : World
  pub read : Seen
  pub began : Telling
  pub clock : Clock
  pub reads : OnlyReads before read
  pub agrees : Agrees read.folder world.files
  pub asked : IsClockOf command plan clock
  pub starts : Asks clock.0 (told_by read) began
  pub gave : IsCaptureOf nothing_kept began world.capture
  pub ends : Asks clock.1 world.capture.ends (told_by ran)
  pub comes : Comes command before read world tables plan

-- What the words ask for is planned, and what is to be kept is kept: the plan as it was made, by the tables that the store told before and after, and as it is by that.
pub record Plans (command : Option Command) (before ran : Seen) (was is : Stored) (plan : Plan) : Type 0 where
  pub made : Plan
  pub prepares : Prepares command (tables_told was is) before ran made
  pub keeps : Keeps command prepares.world prepares.began prepares.clock made was is plan

-- A plan is made for what the words ask for, its run is kept, and it is delivered.
pub record Replies (words : List (List ℕ)) (before after : Seen) (was is : Stored) (status : ℕ) : Type 0 where
  pub plan : Plan
  pub ran : Seen
  pub plans : Plans (command_of words) before ran was is plan
  pub delivers : Delivers plan ran after status

-- the same, with the tables that a stop may leave
pub record PlansWith (command : Option Command) (before ran : Seen) (was is : Stored) (may may' : TablesView → Type 0) (plan : Plan) : Type 0 where
  pub plans : Plans command before ran was is plan
  pub stops : StopsBy plans.keeps may may'

pub record RepliesWith (words : List (List ℕ)) (before after : Seen) (was is : Stored) (may may' : TablesView → Type 0) (status : ℕ) : Type 0 where
  pub reply : Replies words before after was is status
  pub stops : StopsBy reply.plans.keeps may may'
