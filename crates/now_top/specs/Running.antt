-- No public clause cites this file.
-- What a text at FILE comes to over devices (this project's profile).
use Rattle.std.specs.Prelude.{◌≡◌, ℕ, List, ◌⊎◌}
use Rattle.answer_source.specs.Live.{IsCaptureOf}
use Rattle.delivery.specs.Ending.{out_of_memory}
use Rattle.py_model.specs.Capture.{Capture}
use Rattle.run_engine.specs.Bare.{nothing_kept}
use Rattle.now_top.specs.RunCommand.{RunsText}
use Rattle.now_top.specs.Seen.{Seen, told_by}
use Rattle.now_top.specs.World.{Plan, closing}

-- the text comes to the plan in what the devices gave, and no more was asked; or memory ran out
pub record RunsOver (file text : List ℕ) (steps : ℕ) (arguments : List (List ℕ)) (read ran : Seen) (plan : Plan) : Type 0 where
  pub capture : Capture
  pub gave : IsCaptureOf nothing_kept (told_by read) capture
  pub ends : capture.ends ≡ told_by ran
  pub comes : RunsText file text steps arguments capture plan ⊎ (plan ≡ closing out_of_memory)
