-- What a run is kept as: its records, its contents and its head (this project's profile).
use Rattle.std.specs.Prelude.{ℕ, ℤ, List, [], ◌∷◌, ◌++◌, length, map, Option, unwrap_or}
use Rattle.prov_outside.specs.declared.folder.Found.{Found}
use Rattle.prov_outside.specs.declared.folder.Found.TheVariants.{Bytes, Absent, TooLarge, Failed}
use Rattle.capture.specs.declared.ended.Ended.{Ended}
use Rattle.capture.specs.declared.ended.FileOut.{FileOut}
use Rattle.capture.specs.declared.ended.RunEnd.{RunEnd}
use Rattle.capture.specs.declared.ended.RunEnd.TheVariants.{Finished, Raised, Spent}
use Rattle.keeper.specs.declared.records.Head.{Head}
use Rattle.keeper.specs.Tables.{TablesView}
use Rattle.content_store.specs.Contents.{digest_of}
use Rattle.trial_keeping.specs.declared.record.FoundRecord.{FoundRecord}
use Rattle.trial_keeping.specs.declared.record.FoundRecord.TheVariants.{Content, Absent as NoFile, TooLarge as LargeFile, Failed as Refused}
use Rattle.trial_keeping.specs.declared.record.FileRecord.{FileRecord}
use Rattle.trial_keeping.specs.declared.record.FinalRecord.{FinalRecord}
use Rattle.trial_keeping.specs.RecordBytes.{arguments_bytes, capture_bytes, finals_bytes}
use Rattle.trial_tables.specs.Written.{Written, write_in}

-- A run that is over: its script's text and path, its arguments, the steps that it might take, how it ended, the pages of its rows, and when it
-- began and ended, where the clock told that.
pub record Run : Type 0 where
  pub text : List ℕ
  pub path : List ℕ
  pub arguments : List (List ℕ)
  pub budget : ℕ
  pub ended : Ended
  pub pages : List (List ℕ)
  pub times : Option ℤ × Option ℤ

-- the status by how the run ended
abbrev pub status_of : RunEnd → ℕ
status_of Finished = 0
status_of (Raised class line text) = 1
status_of Spent = 9

-- ---- the records

-- a file that was found stands in the record by the digest of its bytes
abbrev pub found_record : Found → FoundRecord
found_record (Bytes bytes) = Content (digest_of bytes)
found_record Absent = NoFile
found_record TooLarge = LargeFile
found_record Failed = Refused

abbrev pub file_record : List ℕ × Found → FileRecord
file_record file = record { path = file.0; found = found_record file.1 }

abbrev pub final_record : FileOut → FinalRecord
final_record file = record { path = file.path; digest = digest_of file.bytes }

abbrev pub capture_record : Ended → List ℕ
capture_record ended = capture_bytes ended.capture.answers (map file_record ended.capture.files)

abbrev pub finals_record : Ended → List ℕ
finals_record ended = finals_bytes (map final_record ended.finals.items)

-- ---- the contents, in the order in which they are put

-- the bytes of the files that were found
abbrev pub found_contents : List (List ℕ × Found) → List (List ℕ)
found_contents [] = []
found_contents ((path, Bytes bytes) ∷ files) = bytes ∷ found_contents files
found_contents ((path, Absent) ∷ files) = found_contents files
found_contents ((path, TooLarge) ∷ files) = found_contents files
found_contents ((path, Failed) ∷ files) = found_contents files

abbrev pub bytes_of : FileOut → List ℕ
bytes_of file = file.bytes

-- the script, the arguments, the capture, the files that were found by path, the files as the run left them, the output, the record of these files
abbrev pub contents_from : List ℕ → List ℕ → Ended → List (List ℕ)
contents_from text arguments ended =
    text ∷ arguments ∷ capture_record ended ∷ found_contents ended.capture.files ++ map bytes_of ended.finals.items ++ ended.output ∷ finals_record ended ∷ []

abbrev pub contents_of : Run → List (List ℕ)
contents_of run = contents_from run.text (arguments_bytes run.arguments) run.ended

-- ---- the head

abbrev pub head_of : Run → ℕ → Head
head_of run parent = record {
  format = 1;
  language = 1;
  path = run.path;
  script = digest_of run.text;
  arguments = digest_of (arguments_bytes run.arguments);
  capture = digest_of (capture_record run.ended);
  output = digest_of run.ended.output;
  finals = digest_of (finals_record run.ended);
  budget = run.budget;
  steps = run.ended.steps;
  status = status_of run.ended.end;
  pages = length run.pages;
  started = run.times.0;
  ended = run.times.1;
  parent = parent;
}

-- the trial that was current for the path before, or 0
abbrev pub parent_in : TablesView → List ℕ → ℕ
parent_in tables path = unwrap_or (tables.current path) 0

-- the tables with the run's trial
abbrev pub with_trial_of : Run → TablesView → Written
with_trial_of run tables = write_in (contents_of run) (head_of run (parent_in tables run.path)) run.pages tables
