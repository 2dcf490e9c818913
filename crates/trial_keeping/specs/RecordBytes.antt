-- The bytes of a trial's records (this project's profile). Numbers, places, texts and lists are those of a trace's rows.
use Rattle.std.specs.Prelude.{ℕ, List, [], ◌∷◌, ◌++◌}
use Rattle.capture.specs.declared.answer.Ask.{Ask as Question}
use Rattle.capture.specs.declared.answer.Ask.TheVariants.{Time, Word, Line}
use Rattle.capture.specs.declared.answer.Given.{Given}
use Rattle.capture.specs.declared.answer.Given.TheVariants.{Number, Word as WordGiven, Line as LineGiven, End, Failed}
use Rattle.capture.specs.declared.answer.Asked.{Asked}
use Rattle.row_words.specs.Bytes.{number_bytes, signed_bytes, place_bytes, text_bytes, list_bytes}
use Rattle.trial_keeping.specs.declared.record.FoundRecord.{FoundRecord}
use Rattle.trial_keeping.specs.declared.record.FoundRecord.TheVariants.{Content, Absent, TooLarge, Failed as Refused}
use Rattle.trial_keeping.specs.declared.record.FileRecord.{FileRecord}
use Rattle.trial_keeping.specs.declared.record.FinalRecord.{FinalRecord}

abbrev pub ask_byte : Question → ℕ
ask_byte Time = 0
ask_byte Word = 1
ask_byte Line = 2

-- What was given tells what was asked. Where the device failed, a byte tells it.
abbrev pub given_bytes : Question → Given → List ℕ
given_bytes what (Number time) = 0 ∷ signed_bytes time
given_bytes what (WordGiven word) = 1 ∷ number_bytes word
given_bytes what (LineGiven line) = 2 ∷ text_bytes line
given_bytes what End = 3 ∷ []
given_bytes what Failed = 4 ∷ ask_byte what ∷ []

abbrev pub answer_bytes : Asked → List ℕ
answer_bytes asked = place_bytes asked.at ++ (number_bytes asked.k ++ given_bytes asked.what asked.given)

-- a digest has 20 bytes
abbrev pub found_bytes : FoundRecord → List ℕ
found_bytes (Content digest) = 0 ∷ digest.bytes
found_bytes Absent = 1 ∷ []
found_bytes TooLarge = 2 ∷ []
found_bytes Refused = 3 ∷ []

abbrev pub file_bytes : FileRecord → List ℕ
file_bytes file = text_bytes file.path ++ found_bytes file.found

abbrev pub final_bytes : FinalRecord → List ℕ
final_bytes written = text_bytes written.path ++ written.digest.bytes

-- ---- the three records

abbrev pub arguments_bytes : List (List ℕ) → List ℕ
arguments_bytes arguments = list_bytes text_bytes arguments

abbrev pub capture_bytes : List Asked → List FileRecord → List ℕ
capture_bytes answers files = list_bytes answer_bytes answers ++ list_bytes file_bytes files

abbrev pub finals_bytes : List FinalRecord → List ℕ
finals_bytes finals = list_bytes final_bytes finals
