-- What the text of a command and its closing line leave on the console, and how it ends by them (this project's profile).
use Rattle.std.specs.Prelude.{◌≡◌, ℕ, List, [], ◌++◌, take, Bool, true, false, if◌then◌else◌, Ok, Err}
use Rattle.prov_outside.specs.Console.{ConsoleView}
use Rattle.prov_outside.specs.declared.trouble.Trouble.TheVariants.{Failed, Memory}
use Rattle.delivery.specs.Ending.{Ending, done, uncaught, refused, console_failed, folder_failed, out_of_memory, collision, damaged_trial, closing_line, tells_of_store}
use Rattle.delivery.specs.PutsAll.{Outcome}

-- a fault at the text does not change the ending: one of the store or of the folder, or out of memory
abbrev pub outlasts_console : Ending → Bool
outlasts_console (folder_failed path) = true
outlasts_console out_of_memory = true
outlasts_console ending = tells_of_store ending

-- how a command ends behind its text
abbrev pub after_text : Outcome → Ending → Ending
after_text (Ok all) ending = ending
after_text (Err Failed) ending = if outlasts_console ending then ending else console_failed
after_text (Err Memory) ending = out_of_memory

-- What became of the closing line: the ending has none, it was tried, or memory ran out for its text and the line of that was
-- tried in its place.
pub data Closing : Type 0 where
  no_line : Closing
  line_tried : (outcome : Outcome) → Closing
  line_unmade : (outcome : Outcome) → Closing

-- the ending has a closing line
abbrev pub has_line : Ending → Bool
has_line done = false
has_line console_failed = false
has_line ending = true

-- the text of the closing line has to be made, which takes memory
abbrev pub is_made : Ending → Bool
is_made (uncaught class line text) = true
is_made (refused file line column) = true
is_made (folder_failed path) = true
is_made (collision digest kept given) = true
is_made (damaged_trial trial detail) = true
is_made ending = false

-- this can become of the closing line of the ending
abbrev pub Closes : Ending → Closing → Type 0
Closes ending no_line = has_line ending ≡ false
Closes ending (line_tried outcome) = has_line ending ≡ true
Closes ending (line_unmade outcome) = is_made ending ≡ true

-- the line that was tried
abbrev pub line_of : Ending → Closing → List ℕ
line_of ending no_line = []
line_of ending (line_tried outcome) = closing_line ending
line_of ending (line_unmade outcome) = closing_line out_of_memory

-- what its write answered
abbrev pub outcome_of : Closing → Outcome
outcome_of no_line = Ok tt
outcome_of (line_tried outcome) = outcome
outcome_of (line_unmade outcome) = outcome

-- the ending behind a closing line that was tried: a fault changes nothing
abbrev pub after_tried : Outcome → Ending → Ending
after_tried (Ok all) ending = ending
after_tried (Err Failed) ending = ending
after_tried (Err Memory) ending = out_of_memory

-- how a command ends behind its closing line
abbrev pub after_line : Closing → Ending → Ending
after_line no_line ending = ending
after_line (line_tried outcome) ending = after_tried outcome ending
after_line (line_unmade outcome) ending = out_of_memory

-- what a write leaves of its bytes: all, or a prefix
abbrev pub Leaves : List ℕ → Outcome → List ℕ → Type 0
Leaves bytes (Ok all) shown = shown ≡ bytes
Leaves bytes (Err trouble) shown = (n : ℕ) × (shown ≡ take n bytes)

-- The console got of the text what its write left, then of the line what its write left, and no more. The lines to read stay.
pub record Shown (text : List ℕ) (text_outcome : Outcome) (line : List ℕ) (line_outcome : Outcome) (before after : ConsoleView) : Type 0 where
  pub shown : List ℕ
  pub closing : List ℕ
  pub lines : after.lines ≡ before.lines
  pub written : after.written ≡ before.written ++ shown ++ closing
  pub shown_is : Leaves text text_outcome shown
  pub closing_is : Leaves line line_outcome closing
