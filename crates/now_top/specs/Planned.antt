-- The plan that the program's own value stands for (this project's profile).
use Rattle.std.specs.Prelude.{ℕ, List, map, Result, Ok, Err}
use Rattle.std.specs.String.{string_bytes}
use Rattle.capture.specs.declared.ended.Ended.{Ended}
use Rattle.capture.specs.declared.ended.RunEnd.{RunEnd}
use Rattle.capture.specs.declared.ended.RunEnd.TheVariants.{Finished, Raised, Spent}
use Rattle.delivery.specs.Ending.{Ending, done, uncaught, out_of_steps, damaged_trial, ending_of}
use Rattle.delivery.specs.PutsAll.{file_out}
use Rattle.now_top.specs.Reply.{telling}
use Rattle.now_top.specs.World.{Plan, closing}
use Rattle.now_top.specs.Unkept.{ending_without, unkept}
use Rattle.trial_keeping.specs.declared.fault.TrialFault.{TrialFault}
use Rattle.now_top.specs.declared.planned.Planned.{Planned}
use Rattle.now_top.specs.declared.planned.Planned.TheVariants.{Closes, Text, DamagedTrial, Ran, Unkept}

-- how the command ends after a run
abbrev pub ending_told : RunEnd → Ending
ending_told Finished = done
ending_told (Raised class line text) = uncaught class line text
ending_told Spent = out_of_steps

abbrev pub plan_of_run : Ended → Plan
plan_of_run over = record { ending = ending_told over.end; text = over.output; files = map file_out over.finals.items }

-- a text that was read of the store, or why none was
abbrev pub plan_of_text : Result (List ℕ) TrialFault → Plan
plan_of_text (Ok text) = telling text
plan_of_text (Err fault) = closing (ending_without fault)

abbrev pub plan_of : Planned → Plan
plan_of (Closes ending) = closing (ending_of ending)
plan_of (Text text) = telling text
plan_of (DamagedTrial trial words) = closing (damaged_trial trial (string_bytes words))
plan_of (Ran over) = plan_of_run over
plan_of (Unkept over fault) = unkept fault (plan_of_run over)
