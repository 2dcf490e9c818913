-- What words mean over a world and the tables of the store (this project's profile): what they come to where nothing fails and memory suffices.
use Rattle.std.specs.Prelude.{◌≡◌, ℕ, List, [], Option, Some, None}
use Rattle.now_words.specs.Command.{Command, run_bare, run_kept, reads, restores, command_of}
use Rattle.delivery.specs.Ending.{usage}
use Rattle.keeper.specs.Tables.{TablesView}
use Rattle.now_top.specs.World.{World, Plan, closing, IsUnasked}
use Rattle.now_top.specs.Reply.{Reply}
use Rattle.now_top.specs.RunCommand.{MeansRun}

-- the tables of the store are given where the keeper tells them; over a store that does not tell, a command that reads it means nothing; what `restore` comes to is said apart (`specs/Restored.antt`)
abbrev pub MeansCommand : Option Command → World → Option TablesView → Plan → Type 0
MeansCommand None world tables plan = IsUnasked world.capture × (plan ≡ closing usage)
MeansCommand (Some (run_bare steps file arguments)) world tables plan = MeansRun file steps arguments world plan
MeansCommand (Some (run_kept steps file arguments)) world tables plan = MeansRun file steps arguments world plan
MeansCommand (Some (reads query)) world (Some tables) plan = IsUnasked world.capture × Reply query tables plan
MeansCommand (Some (reads query)) world None plan = ⊥
MeansCommand (Some (restores number)) world tables plan = ⊥

abbrev pub Means : List (List ℕ) → World → Option TablesView → Plan → Type 0
Means words world tables plan = MeansCommand (command_of words) world tables plan

-- the file that a command names, if it names one
abbrev pub file_of : Command → List ℕ
file_of (run_bare steps file arguments) = file
file_of (run_kept steps file arguments) = file
file_of (reads query) = []
file_of (restores number) = []
