-- No public clause cites this file.
-- What a text at FILE comes to over devices where its run is kept (this project's profile).
use Rattle.std.specs.Prelude.{◌≡◌, ℕ, List, ◌⊎◌, Some}
use Rattle.answer_source.specs.Live.{IsCaptureOf}
use Rattle.now_words.specs.Command.{run_kept}
use Rattle.delivery.specs.Ending.{out_of_memory}
use Rattle.keeper.specs.Tables.{TablesView}
use Rattle.prov_outside.specs.Folder.{Files}
use Rattle.py_model.specs.Capture.{Capture, Telling}
use Rattle.run_engine.specs.Bare.{nothing_kept}
use Rattle.now_top.specs.Kept.{Clock, Asks, IsClockOf, Stored, Keeps, StopsBy}
use Rattle.now_top.specs.RunCommand.{RunsText}
use Rattle.now_top.specs.Seen.{Seen, told_by}
use Rattle.now_top.specs.World.{Plan, closing, StandsAt}

-- The text, which stands at FILE among some files, comes to a plan in what the devices gave, and no more was asked; or memory ran out. Then its run is kept.
pub record KeepsOver (file text : List ℕ) (steps : ℕ) (arguments : List (List ℕ)) (files : Files) (read ran : Seen) (was is : Stored) (may may' : TablesView → Type 0) (plan : Plan) : Type 0 where
  pub made : Plan
  pub capture : Capture
  pub began : Telling
  pub clock : Clock
  pub asked : IsClockOf (Some (run_kept steps file arguments)) made clock
  pub starts : Asks clock.0 (told_by read) began
  pub gave : IsCaptureOf nothing_kept began capture
  pub ends : Asks clock.1 capture.ends (told_by ran)
  pub comes : RunsText file text steps arguments capture made ⊎ (made ≡ closing out_of_memory)
  pub keeps : Keeps (Some (run_kept steps file arguments)) (record { files = files; capture = capture }) began clock made was is plan
  pub stops : StopsBy keeps may may'

-- whatever the files are among which it stands
abbrev pub KeepsText : List ℕ → List ℕ → ℕ → List (List ℕ) → Seen → Seen → Stored → Stored → (TablesView → Type 0) → (TablesView → Type 0) → Plan → Type 0
KeepsText file text steps arguments read ran was is may may' plan = (files : Files) → StandsAt file files text → KeepsOver file text steps arguments files read ran was is may may' plan
