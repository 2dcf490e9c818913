-- No public clause cites this file.
-- What each part of a delivery leaves (this project's profile): the puts, the text, and the closing line.
use Rattle.std.specs.Prelude.{◌≡◌, ℕ, List, length, Bool, true, Option, Some, Ok, Err}
use Rattle.std.specs.Option.{option_or}
use Rattle.prov_outside.specs.Console.{ConsoleView, Writes}
use Rattle.prov_outside.specs.Count.{faults_after}
use Rattle.prov_outside.specs.Folder.{Files}
use Rattle.prov_outside.specs.Tells.{Tells}
use Rattle.prov_outside.specs.declared.trouble.Trouble.TheVariants.{Failed, Memory}
use Rattle.delivery.specs.Ending.{Ending, status_of}
use Rattle.delivery.specs.PutsAll.{OutFile, Outcome, PutsAll, faults_of, ending_after_puts}
use Rattle.delivery.specs.Shown.{Closing, Closes, after_line, line_of, outcome_of}

-- the first path whose put failed, after one more put
abbrev pub first_with : Option (List ℕ) → List ℕ → Outcome → Option (List ℕ)
first_with first path (Ok all) = first
first_with first path (Err Failed) = option_or first (Some path)
first_with first path (Err Memory) = first

-- a call lacked memory, after one more
abbrev pub short_with : Bool → Outcome → Bool
short_with short (Ok all) = short
short_with short (Err Failed) = short
short_with short (Err Memory) = true

-- the status behind a closing line that was tried
abbrev pub status_with : ℕ → Outcome → ℕ
status_with status (Ok all) = status
status_with status (Err Failed) = status
status_with status (Err Memory) = 8

-- the files were put, and this is the ending by that
pub record PutsFiles (planned : Ending) (files : List OutFile) (put_before put_after : ℕ) (told_before told_after : Option Files) (ending : Ending) : Type 0 where
  pub puts : List Outcome
  pub each : length puts ≡ length files
  pub folder : Tells told_before told_after (PutsAll files puts)
  pub put_faults : put_after ≡ faults_of puts put_before
  pub ending_is : ending ≡ ending_after_puts planned files puts

-- a line was written, and this is the status by that
pub record TriesLine (line : List ℕ) (status : ℕ) (out_before out_after : ℕ) (before after : Option ConsoleView) (answer : ℕ) : Type 0 where
  pub outcome : Outcome
  pub written : Tells before after (Writes line outcome)
  pub out_faults : out_after ≡ faults_after outcome out_before
  pub status_is : answer ≡ status_with status outcome

-- the closing line of the ending was tried, and this is the status by that
pub record ClosesWith (ending : Ending) (out_before out_after : ℕ) (before after : Option ConsoleView) (answer : ℕ) : Type 0 where
  pub closing : Closing
  pub closes : Closes ending closing
  pub written : Tells before after (Writes (line_of ending closing) (outcome_of closing))
  pub out_faults : out_after ≡ faults_after (outcome_of closing) out_before
  pub status_is : answer ≡ status_of (after_line closing ending)
