-- The contents of a kept trial, read back from the tables (this project's profile).
use Rattle.std.specs.Prelude.{◌≡◌, ℕ, List, [], ◌∷◌, if◌then◌else◌}
use Rattle.prov_base.specs.Path.{is_path}
use Rattle.prov_outside.specs.declared.folder.Found.{Found}
use Rattle.prov_outside.specs.declared.folder.Found.TheVariants.{Bytes, Absent, TooLarge, Failed}
use Rattle.capture.specs.Capture.{CaptureView}
use Rattle.capture.specs.Files.{with_file}
use Rattle.capture.specs.declared.answer.Asked.{Asked}
use Rattle.capture.specs.declared.ended.FileOut.{FileOut}
use Rattle.keeper.specs.declared.records.Head.{Head}
use Rattle.keeper.specs.Tables.{TablesView}
use Rattle.trial_tables.specs.Whole.{Check, fine, damaged, and_then, content_in}
use Rattle.trial_tables.specs.declared.damage.Damage.TheVariants.{Path}
use Rattle.trial_keeping.specs.declared.record.FoundRecord.{FoundRecord}
use Rattle.trial_keeping.specs.declared.record.FoundRecord.TheVariants.{Content, Absent as NoFile, TooLarge as LargeFile, Failed as Refused}
use Rattle.trial_keeping.specs.declared.record.FileRecord.{FileRecord}
use Rattle.trial_keeping.specs.declared.record.FinalRecord.{FinalRecord}
use Rattle.trial_keeping.specs.RecordBytes.{arguments_bytes, finals_bytes}
use Rattle.trial_keeping.specs.RecordFits.{ArgumentsFit, CaptureFits, FinalsFit}
use Rattle.trial_keeping.specs.RecordFaults.{kept_bytes, IsBadArguments, IsBadCapture, AreBadFinals}
use Rattle.trial_loading.specs.Checks.{Then, IsRecordIn}

-- the script's text, where its path is one that a script may open
abbrev pub script_in : TablesView → Head → Check (List ℕ)
script_in tables head = if is_path head.path then content_in tables head.script else damaged Path

-- ---- what stands under the digests of records

-- what was found at a path: a file's bytes stand under their digest
abbrev pub found_in : TablesView → FoundRecord → Check Found
found_in tables (Content digest) = and_then (content_in tables digest) (λ bytes. fine (Bytes bytes))
found_in tables NoFile = fine Absent
found_in tables LargeFile = fine TooLarge
found_in tables Refused = fine Failed

-- what was found at each path, in their order
abbrev pub files_in : TablesView → List FileRecord → Check (List (List ℕ × Found))
files_in tables [] = fine []
files_in tables (file ∷ files) = and_then (found_in tables file.found) (λ found. and_then (files_in tables files) (λ others. fine ((file.path, found) ∷ others)))

-- what the devices gave: the answers, and what was found at each path; no path is noted as written
abbrev pub capture_in : TablesView → List Asked × List FileRecord → Check CaptureView
capture_in tables kept = and_then (files_in tables kept.1) (λ files. fine (record { answers = kept.0; files = files; written = [] }))

-- files that are kept, with one more
abbrev pub file_with : TablesView → FileRecord → List (List ℕ × Found) → Check (List (List ℕ × Found))
file_with tables file files = and_then (found_in tables file.found) (λ found. fine (with_file file.path found files))

-- a file that the run left
abbrev pub final_in : TablesView → FinalRecord → Check FileOut
final_in tables file = and_then (content_in tables file.digest) (λ bytes. fine (record { path = file.path; bytes = bytes }))

-- the files that the run left, in their order
abbrev pub finals_in : TablesView → List FinalRecord → Check (List FileOut)
finals_in tables [] = fine []
finals_in tables (file ∷ files) = and_then (final_in tables file) (λ one. and_then (finals_in tables files) (λ others. fine (one ∷ others)))

-- ---- the records and what they name

-- what is read of a trial besides its script and its rows: the arguments, what the devices gave, what was printed, and the files that the run left
pub record RestView : Type 0 where
  pub arguments : List (List ℕ)
  pub capture : CaptureView
  pub output : List ℕ
  pub finals : List FileOut

-- the three records
pub record RecordsView : Type 0 where
  pub arguments : List (List ℕ)
  pub kept : List Asked × List FileRecord
  pub finals : List FinalRecord

-- what the head and the records name
pub record ContentsView : Type 0 where
  pub output : List ℕ
  pub capture : CaptureView
  pub finals : List FileOut

-- arguments, capture, final files, in this order
abbrev pub AreRecords : TablesView → Head → Check RecordsView → Type 0
AreRecords tables head =
    Then (IsRecordIn arguments_bytes ArgumentsFit IsBadArguments tables head.arguments) (λ arguments.
    Then (IsRecordIn kept_bytes CaptureFits IsBadCapture tables head.capture) (λ kept.
    Then (IsRecordIn finals_bytes FinalsFit AreBadFinals tables head.finals) (λ finals.
    λ check. check ≡ fine (record { arguments = arguments; kept = kept; finals = finals }))))

-- the output, the files that were found, the files that the run left, in this order
abbrev pub contents_in : TablesView → Head → RecordsView → Check ContentsView
contents_in tables head records =
    and_then (content_in tables head.output) (λ output. and_then (capture_in tables records.kept) (λ capture. and_then (finals_in tables records.finals) (λ finals.
    fine (record { output = output; capture = capture; finals = finals }))))

-- the same with the arguments
abbrev pub rest_with : RecordsView → ContentsView → RestView
rest_with records contents = record { arguments = records.arguments; capture = contents.capture; output = contents.output; finals = contents.finals }

abbrev pub rest_in : TablesView → Head → RecordsView → Check RestView
rest_in tables head records = and_then (contents_in tables head records) (λ contents. fine (rest_with records contents))

-- the records, and then what they name
abbrev pub IsRest : TablesView → Head → Check RestView → Type 0
IsRest tables head = Then (AreRecords tables head) (λ records check. rest_in tables head records ≡ check)
