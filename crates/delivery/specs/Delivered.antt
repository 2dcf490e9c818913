-- What a command leaves that was planned so: its files, its text, its closing line and its status (this project's profile).
use Rattle.std.specs.Prelude.{◌≡◌, ℕ, List, [], length, Option, IsOk}
use Rattle.prov_outside.specs.Console.{ConsoleView}
use Rattle.prov_outside.specs.Count.{faults_after}
use Rattle.prov_outside.specs.Folder.{Files}
use Rattle.prov_outside.specs.Tells.{Tells}
use Rattle.delivery.specs.Ending.{Ending, status_of}
use Rattle.delivery.specs.PutsAll.{OutFile, Outcome, PutsAll, faults_of, ending_after_puts}
use Rattle.delivery.specs.Shown.{Closing, Closes, Shown, after_text, after_line, line_of, outcome_of}

-- the ending by the puts and the text, whose closing line is tried
abbrev pub ending_to_close : Ending → List OutFile → List Outcome → Outcome → Ending
ending_to_close planned files puts text_outcome = after_text text_outcome (ending_after_puts planned files puts)

-- the ending by all of them
abbrev pub last_ending : Ending → List OutFile → List Outcome → Outcome → Closing → Ending
last_ending planned files puts text_outcome closing = after_line closing (ending_to_close planned files puts text_outcome)

-- The outcomes of the puts, of the text and of the closing line, and all that they determine: what stands in the folder and on
-- the console, the counts of faults, and the status.
pub record Delivered (planned : Ending) (text : List ℕ) (files : List OutFile) (put_before put_after : ℕ) (told_before told_after : Option Files)
    (out_before out_after : ℕ) (console_before console_after : Option ConsoleView) (status : ℕ) : Type 0 where
  pub puts : List Outcome
  pub text_outcome : Outcome
  pub closing : Closing
  pub each : length puts ≡ length files
  pub no_text : text ≡ [] → IsOk text_outcome
  pub closes : Closes (ending_to_close planned files puts text_outcome) closing
  pub folder : Tells told_before told_after (PutsAll files puts)
  pub put_faults : put_after ≡ faults_of puts put_before
  pub console : Tells console_before console_after (Shown text text_outcome (line_of (ending_to_close planned files puts text_outcome) closing) (outcome_of closing))
  pub out_faults : out_after ≡ faults_after (outcome_of closing) (faults_after text_outcome out_before)
  pub status_is : status ≡ status_of (last_ending planned files puts text_outcome closing)
