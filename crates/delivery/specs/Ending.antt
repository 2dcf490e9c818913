-- How a command ends, with its status and its closing line (this project's profile).
use Rattle.std.specs.Prelude.{ℕ, Bool, true, false, List, [], ◌∷◌, ◌++◌, codes, Option, Some, None, option_copied}
use Rattle.std.specs.Fmt.{decimal}
use Rattle.hex.specs.Hex.{encode_lower}
use Rattle.delivery.specs.declared.ending.Ending.{Ending as Planned}
use Rattle.delivery.specs.declared.ending.Ending.TheVariants.{Done, Uncaught, Usage, Refused, NothingThere, FolderFailed, StoreFailed, OutOfSteps, NotReached, Collision, StoreFull, DamagedTrial, OutOfMemory}

-- how a command ends
pub data Ending : Type 0 where
  done : Ending
  uncaught : (class : List ℕ) → (line : ℕ) → (text : Option (List ℕ)) → Ending
  usage : Ending
  refused : (file : List ℕ) → (line : ℕ) → (column : ℕ) → Ending
  nothing_there : Ending
  console_failed : Ending
  folder_failed : (path : List ℕ) → Ending
  store_failed : Ending
  out_of_memory : Ending
  out_of_steps : Ending
  -- the run of a slice does not reach the evaluation
  not_reached : Ending
  -- other bytes stand under a digest: it, their number, and how many were given
  collision : (digest : List ℕ) → (kept : ℕ) → (given : ℕ) → Ending
  store_full : Ending
  -- a trial with this number is not well kept: what is amiss of it, in words
  damaged_trial : (trial : ℕ) → (detail : List ℕ) → Ending

-- the status that the program answers
abbrev pub status_of : Ending → ℕ
status_of done = 0
status_of (uncaught class line text) = 1
status_of usage = 2
status_of (refused file line column) = 3
status_of nothing_there = 4
status_of console_failed = 5
status_of (folder_failed path) = 6
status_of store_failed = 7
status_of out_of_memory = 8
status_of out_of_steps = 9
status_of not_reached = 12
status_of (collision digest kept given) = 10
status_of store_full = 13
status_of (damaged_trial trial detail) = 11

-- a fault in keeping a trial
abbrev pub tells_of_store : Ending → Bool
tells_of_store store_failed = true
tells_of_store (collision digest kept given) = true
tells_of_store store_full = true
tells_of_store ending = false

-- the end of the line of an exception: its text, where it has one, and the LF (10)
abbrev pub line_end : Option (List ℕ) → List ℕ
line_end None = 10 ∷ []
line_end (Some text) = codes ": " ++ text ++ 10 ∷ []

-- the last line on the console, with its LF
abbrev pub closing_line : Ending → List ℕ
closing_line done = []
closing_line (uncaught class line text) = codes "now: uncaught " ++ class ++ codes " at line " ++ decimal line ++ line_end text
closing_line usage = codes "now: usage" ++ 10 ∷ []
closing_line (refused file line column) = codes "now: refused " ++ file ++ codes " at " ++ decimal line ++ codes ":" ++ decimal column ++ 10 ∷ []
closing_line nothing_there = codes "now: nothing there" ++ 10 ∷ []
closing_line console_failed = []
closing_line (folder_failed path) = codes "now: folder failed at " ++ path ++ 10 ∷ []
closing_line store_failed = codes "now: store failed" ++ 10 ∷ []
closing_line out_of_memory = codes "now: out of memory" ++ 10 ∷ []
closing_line out_of_steps = codes "now: out of steps" ++ 10 ∷ []
closing_line not_reached = codes "now: not reached" ++ 10 ∷ []
closing_line (collision digest kept given) = codes "now: collision " ++ encode_lower digest ++ codes " " ++ decimal kept ++ codes " " ++ decimal given ++ 10 ∷ []
closing_line store_full = codes "now: store full" ++ 10 ∷ []
closing_line (damaged_trial trial detail) = codes "now: damaged trial " ++ decimal trial ++ codes ": " ++ detail ++ 10 ∷ []

-- the ending that the program's own type names
abbrev pub ending_of : Planned → Ending
ending_of Done = done
ending_of (Uncaught class line text) = uncaught class.now line (option_copied text)
ending_of Usage = usage
ending_of (Refused file line column) = refused file.now line column
ending_of NothingThere = nothing_there
ending_of (FolderFailed path) = folder_failed path.now
ending_of StoreFailed = store_failed
ending_of OutOfSteps = out_of_steps
ending_of NotReached = not_reached
ending_of (Collision digest kept given) = collision digest.bytes kept given
ending_of StoreFull = store_full
ending_of (DamagedTrial trial detail) = damaged_trial trial detail.now
ending_of OutOfMemory = out_of_memory
