-- What holds of a run that is over by the types in which the program holds it (this project's profile): numbers and lengths are in range, and paths are texts.
use Rattle.std.specs.Prelude.{◌≡◌, ℕ, ◌<◌, ◌^◌, List, length, slice_get, Some}
use Rattle.std.specs.Str.{IsUtf8}
use Rattle.capture.specs.Files.{IsAscending}
use Rattle.capture.specs.declared.answer.Asked.{Asked}
use Rattle.capture.specs.declared.ended.Ended.{Ended as EndedRun}
use Rattle.capture.specs.declared.ended.FileOut.{FileOut}
use Rattle.prov_outside.specs.declared.folder.Found.{Found}
use Rattle.trial_keeping.specs.RecordFits.{IsInRange}

-- UTF-8, and fewer bytes than 64 bits count
abbrev pub IsText : List ℕ → Type 0
IsText bytes = (length bytes < 2 ^ 64) × IsUtf8 bytes

-- so it is with each item, and they are fewer than 64 bits count
abbrev pub EachOf : {A : Type 0} → (A → Type 0) → List A → Type 0
EachOf {A = A} P items = (length items < 2 ^ 64) × ((i : ℕ) (item : A) → slice_get items i ≡ Some item → P item)

-- place and number have 32 bits, and what was given is in range
abbrev pub IsSized : Asked → Type 0
IsSized asked = ((asked.at.line < 2 ^ 32) × (asked.at.col < 2 ^ 32)) × ((asked.k < 2 ^ 32) × IsInRange asked.given)

abbrev pub IsFetched : List ℕ × Found → Type 0
IsFetched file = IsText file.0

abbrev pub IsLeft : FileOut → Type 0
IsLeft file = IsText file.path

-- path and arguments are texts
pub record AreTexts (of : List ℕ) (words : List (List ℕ)) : Type 0 where
  pub path : IsText of
  pub arguments : EachOf IsText words

-- The answers are sized, the paths are texts, and the files that were found ascend by them.
pub record FitsTypes (ended : EndedRun) : Type 0 where
  pub answers : EachOf IsSized ended.capture.answers
  pub files : EachOf IsFetched ended.capture.files
  pub ascending : IsAscending ended.capture.files
  pub finals : EachOf IsLeft ended.finals.items
