-- What stands in the folder and on the console where nothing fails (this project's profile).
use Rattle.std.specs.Prelude.{◌≡◌, ℕ, List, [], ◌∷◌, ◌++◌, take, Bool, true, false, Option, Some, Ok, Err, IsOk, slice_get}
use Rattle.prov_outside.specs.Console.{ConsoleView}
use Rattle.prov_outside.specs.Folder.{Files}
use Rattle.prov_outside.specs.Tells.{Tells}
use Rattle.delivery.specs.Ending.{Ending, status_of, closing_line}
use Rattle.delivery.specs.PutsAll.{OutFile, Outcome}
use Rattle.delivery.specs.Shown.{Closing, no_line, line_tried, line_unmade}

-- no two of the files have one path
abbrev pub AreDistinct : List OutFile → Type 0
AreDistinct files = (i j : ℕ) (file other : OutFile) → slice_get files i ≡ Some file → slice_get files j ≡ Some other → file.0 ≡ other.0 → i ≡ j

-- one of the files has the path
abbrev pub IsAmong : List ℕ → List OutFile → Type 0
IsAmong path files = (i : ℕ) × (file : OutFile) × (slice_get files i ≡ Some file) × (file.0 ≡ path)

-- Where no two files have one path, each whose put went well stands. Every path that none of them has is as before.
pub record Stand (files : List OutFile) (puts : List Outcome) (before after : Files) : Type 0 where
  pub well : AreDistinct files → (i : ℕ) (file : OutFile) (outcome : Outcome) → slice_get files i ≡ Some file → slice_get puts i ≡ Some outcome → IsOk outcome → after file.0 ≡ Some file.1
  pub others : (path : List ℕ) → (IsAmong path files → ⊥) → after path ≡ before path

-- Where no two files have one path, all of them stand. Every path that none of them has is as before.
pub record HasAll (files : List OutFile) (before after : Files) : Type 0 where
  pub stand : AreDistinct files → (i : ℕ) (file : OutFile) → slice_get files i ≡ Some file → after file.0 ≡ Some file.1
  pub others : (path : List ℕ) → (IsAmong path files → ⊥) → after path ≡ before path

-- all calls went well
abbrev pub all_well : List Outcome → Bool
all_well [] = true
all_well (Ok all ∷ outcomes) = all_well outcomes
all_well (Err trouble ∷ outcomes) = false

-- the closing line was written whole, if there is one
abbrev pub IsWell : Closing → Type 0
IsWell no_line = Unit {0}
IsWell (line_tried outcome) = IsOk outcome
IsWell (line_unmade outcome) = ⊥

-- The command ended as planned: the folder has all files, the console got the whole text and the whole closing line and no more, no
-- call has failed, and the status is that of the planned ending.
pub record WentWell (planned : Ending) (text : List ℕ) (files : List OutFile) (put_before put_after : ℕ) (told_before told_after : Option Files)
    (out_before out_after : ℕ) (console_before console_after : Option ConsoleView) (status : ℕ) : Type 0 where
  pub folder : Tells told_before told_after (HasAll files)
  pub console : Tells console_before console_after (λ before after. (after.lines ≡ before.lines) × (after.written ≡ before.written ++ text ++ closing_line planned))
  pub put_faults : put_after ≡ put_before
  pub out_faults : out_after ≡ out_before
  pub status_is : status ≡ status_of planned

-- Nothing failed but perhaps the closing line: the folder has all files, the console got the whole text and then a prefix of the closing
-- line, and the status is that of the planned ending.
pub record DidAsPlanned (planned : Ending) (text : List ℕ) (files : List OutFile) (put_before put_after : ℕ) (told_before told_after : Option Files)
    (console_before console_after : Option ConsoleView) (status : ℕ) : Type 0 where
  pub folder : Tells told_before told_after (HasAll files)
  pub console : Tells console_before console_after (λ before after. (after.lines ≡ before.lines) × ((n : ℕ) × (after.written ≡ before.written ++ text ++ take n (closing_line planned))))
  pub put_faults : put_after ≡ put_before
  pub status_is : status ≡ status_of planned
