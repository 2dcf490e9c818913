-- What the reading of FILE answers (this project's profile).
use Rattle.std.specs.Prelude.{◌≡◌, ℕ, ◌<◌, List, length, Option, Some, None, Result, Ok, Err, IsTrue}
use Rattle.delivery.specs.Ending.{Ending, done, uncaught, usage, refused, nothing_there, console_failed, folder_failed, store_failed, out_of_memory, out_of_steps, not_reached, collision, store_full, damaged_trial, ending_of}
use Rattle.delivery.specs.declared.ending.Ending.{Ending as Planned}
use Rattle.prov_base.specs.Path.{is_path}
use Rattle.prov_base.specs.declared.place.Pos.{Pos}
use Rattle.prov_outside.specs.Count.{one_more}
use Rattle.prov_outside.specs.Folder.{Files, largest_file}
use Rattle.py_parser.specs.Reading.{IsRefusedAt}
use Rattle.now_top.specs.World.{StandsAt, IsNowhere}

-- the files are those that the folder tells, where it tells them
abbrev pub Agrees : Option Files → Files → Type 0
Agrees None files = Unit {0}
Agrees (Some told) files = files ≡ told

-- the text that stands at FILE, or how the command ends, with the count of the folder's faults at such a text
abbrev pub IsReadAs : List ℕ → Files → ℕ → ℕ → Result (List ℕ) Ending → Type 0
IsReadAs file files was is (Ok text) = (is ≡ was) × StandsAt file files text
IsReadAs file files was is (Err nothing_there) = (is ≡ was) × IsNowhere file files
IsReadAs file files was is (Err (refused name line column)) = (is ≡ was) × ((text : List ℕ) × StandsAt file files text × (largest_file < length text) × (refused name line column ≡ refused file 1 1))
IsReadAs file files was is (Err (folder_failed path)) = (is ≡ one_more was) × (IsTrue (is_path file) × (path ≡ file))
IsReadAs file files was is (Err out_of_memory) = is ≡ was
IsReadAs file files was is (Err done) = ⊥
IsReadAs file files was is (Err usage) = ⊥
IsReadAs file files was is (Err console_failed) = ⊥
IsReadAs file files was is (Err out_of_steps) = ⊥
IsReadAs file files was is (Err not_reached) = ⊥
IsReadAs file files was is (Err store_failed) = ⊥
IsReadAs file files was is (Err (collision digest kept given)) = ⊥
IsReadAs file files was is (Err store_full) = ⊥
IsReadAs file files was is (Err (damaged_trial trial detail)) = ⊥
IsReadAs file files was is (Err (uncaught class line text)) = ⊥

-- the same over some files that agree with what the folder tells
pub record ReadsFile (file : List ℕ) (told : Option Files) (was is : ℕ) (read : Result (List ℕ) Ending) : Type 0 where
  pub files : Files
  pub agrees : Agrees told files
  pub because : IsReadAs file files was is read

-- the same by the program's own value
abbrev pub read_as : Result (List ℕ) Planned → Result (List ℕ) Ending
read_as (Ok text) = Ok text
read_as (Err ending) = Err (ending_of ending)

-- why a text at FILE has no script, or memory ran out
abbrev pub IsRefusedAs : List ℕ → List ℕ → Ending → Type 0
IsRefusedAs file text (refused name line column) = (at : Pos) × IsRefusedAt text at × (refused name line column ≡ refused file at.line at.col)
IsRefusedAs file text out_of_memory = Unit {0}
IsRefusedAs file text done = ⊥
IsRefusedAs file text usage = ⊥
IsRefusedAs file text nothing_there = ⊥
IsRefusedAs file text console_failed = ⊥
IsRefusedAs file text out_of_steps = ⊥
IsRefusedAs file text not_reached = ⊥
IsRefusedAs file text store_failed = ⊥
IsRefusedAs file text (collision digest kept given) = ⊥
IsRefusedAs file text store_full = ⊥
IsRefusedAs file text (damaged_trial trial detail) = ⊥
IsRefusedAs file text (folder_failed path) = ⊥
IsRefusedAs file text (uncaught class line words) = ⊥
