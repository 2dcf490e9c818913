-- No public clause cites this file.
-- The items of records, read from the front. It is the proof's means; no public clause speaks of it.
use Rattle.std.specs.Prelude.{◌≡◌, ℕ, ◌==◌, nat_lt, not, List, [], ◌++◌, length, take, drop, ℤ, Option, Some, None, Result, Ok, Err, if◌then◌else◌, ⊤}
use Rattle.prov_base.specs.Path.{is_path}
use Rattle.prov_base.specs.declared.place.Digest.{Digest}
use Rattle.prov_base.specs.declared.place.Pos.{Pos}
use Rattle.capture.specs.declared.answer.Ask.{Ask as Question}
use Rattle.capture.specs.declared.answer.Ask.TheVariants.{Time, Word, Line}
use Rattle.capture.specs.declared.answer.Given.{Given}
use Rattle.capture.specs.declared.answer.Given.TheVariants.{Number, Word as WordGiven, Line as LineGiven, End, Failed}
use Rattle.capture.specs.declared.answer.Asked.{Asked}
use Rattle.row_words.specs.Reading.{both, into, only, tagged, front_at, number_at, place_at, short_at, signed_at, text_at}
use Rattle.trial_keeping.specs.declared.record_fault.Stop.{Stop}
use Rattle.trial_keeping.specs.declared.record_fault.Stop.TheVariants.{Bad, Memory}
use Rattle.trial_keeping.specs.declared.record.FoundRecord.{FoundRecord}
use Rattle.trial_keeping.specs.declared.record.FoundRecord.TheVariants.{Content, Absent, TooLarge, Failed as Refused}
use Rattle.trial_keeping.specs.declared.record.FileRecord.{FileRecord}
use Rattle.trial_keeping.specs.declared.record.FinalRecord.{FinalRecord}
use Rattle.trial_keeping.specs.declared.tags.GivenTag.{GivenTag}
use Rattle.trial_keeping.specs.declared.tags.GivenTag.TheVariants.{Number as NumberTag, Word as WordTag, Line as LineTag, End as EndTag, Failed as FailedTag}
use Rattle.trial_keeping.specs.declared.tags.FoundTag.{FoundTag}
use Rattle.trial_keeping.specs.declared.tags.FoundTag.TheVariants.{Content as ContentTag, Absent as AbsentTag, TooLarge as TooLargeTag, Failed as RefusedTag}
use Rattle.trial_keeping.specs.RecordFits.{Stand, is_next, is_earlier, is_ahead, is_final}

-- ---- answers

abbrev pub ask_tag : ℕ → Option Question
ask_tag b = if b == 0 then Some Time else if b == 1 then Some Word else if b == 2 then Some Line else None

abbrev pub ask_behind : Question → List ℕ → Option (Question × List ℕ)
ask_behind what rest = Some (what, rest)

unfoldable pub ask_at : List ℕ → Option (Question × List ℕ)
ask_at bytes = tagged ask_tag ask_behind bytes

abbrev pub given_tag : ℕ → Option GivenTag
given_tag b =
    if b == 0 then Some NumberTag else if b == 1 then Some WordTag else if b == 2 then Some LineTag else if b == 3 then Some EndTag
    else if b == 4 then Some FailedTag else None

abbrev pub made_time : ℤ → Question × Given
made_time time = (Time, Number time)

abbrev pub made_word : ℕ → Question × Given
made_word word = (Word, WordGiven word)

abbrev pub made_line : List ℕ → Question × Given
made_line line = (Line, LineGiven line)

abbrev pub made_failed : Question → Question × Given
made_failed what = (what, Failed)

unfoldable pub given_behind : GivenTag → List ℕ → Option ((Question × Given) × List ℕ)
given_behind NumberTag rest = into made_time (signed_at rest)
given_behind WordTag rest = into made_word (number_at rest)
given_behind LineTag rest = into made_line (front_at rest)
given_behind EndTag rest = Some ((Line, End), rest)
given_behind FailedTag rest = into made_failed (ask_at rest)

unfoldable pub given_at : List ℕ → Option ((Question × Given) × List ℕ)
given_at bytes = tagged given_tag given_behind bytes

unfoldable pub asking_at : List ℕ → Option (ℕ × List ℕ)
asking_at bytes = only (λ k. nat_lt 0 k) (short_at bytes)

abbrev pub made_answer : Pos × (ℕ × (Question × Given)) → Asked
made_answer p = record { at = p.0; k = p.1.0; what = p.1.1.0; given = p.1.1.1 }

unfoldable pub answer_at : List ℕ → Option (Asked × List ℕ)
answer_at bytes = into made_answer (both place_at (both asking_at given_at) bytes)

unfoldable pub next_answer : List Asked → List ℕ → Option (Asked × List ℕ)
next_answer before bytes = only (is_next is_earlier before) (answer_at bytes)

-- ---- files

unfoldable pub path_at : List ℕ → Option (List ℕ × List ℕ)
path_at bytes = only is_path (text_at bytes)

abbrev pub made_digest : List ℕ → Digest
made_digest bytes = record { bytes = bytes }

unfoldable pub digest_at : List ℕ → Option (Digest × List ℕ)
digest_at bytes = if nat_lt (length bytes) 20 then None else Some (made_digest (take 20 bytes), drop 20 bytes)

abbrev pub found_tag : ℕ → Option FoundTag
found_tag b =
    if b == 0 then Some ContentTag else if b == 1 then Some AbsentTag else if b == 2 then Some TooLargeTag else if b == 3 then Some RefusedTag else None

unfoldable pub found_behind : FoundTag → List ℕ → Option (FoundRecord × List ℕ)
found_behind ContentTag rest = into Content (digest_at rest)
found_behind AbsentTag rest = Some (Absent, rest)
found_behind TooLargeTag rest = Some (TooLarge, rest)
found_behind RefusedTag rest = Some (Refused, rest)

unfoldable pub found_at : List ℕ → Option (FoundRecord × List ℕ)
found_at bytes = tagged found_tag found_behind bytes

abbrev pub made_file : List ℕ × FoundRecord → FileRecord
made_file p = record { path = p.0; found = p.1 }

unfoldable pub file_at : List ℕ → Option (FileRecord × List ℕ)
file_at bytes = into made_file (both path_at found_at bytes)

unfoldable pub next_file : List FileRecord → List ℕ → Option (FileRecord × List ℕ)
next_file before bytes = only (is_next is_ahead before) (file_at bytes)

-- ---- final files

abbrev pub made_final : List ℕ × Digest → FinalRecord
made_final p = record { path = p.0; digest = p.1 }

unfoldable pub final_at : List ℕ → Option (FinalRecord × List ℕ)
final_at bytes = into made_final (both path_at digest_at bytes)

unfoldable pub next_final : List FinalRecord → List ℕ → Option (FinalRecord × List ℕ)
next_final before bytes = only (λ (written : FinalRecord). not (is_final before written.path)) (final_at bytes)

-- ---- What a function answered: what fits stands at the front, or where the bytes are bad.

abbrev pub Leads : {X A : Type 0} → (A → List ℕ) → (A → Type 0) → (List ℕ → ℕ → Type 0) → (X → A × List ℕ) → List ℕ → Result X Stop → Type 0
Leads spell fits bad view bytes (Ok x) = (bytes ≡ spell (view x).0 ++ (view x).1) × fits (view x).0
Leads spell fits bad view bytes (Err (Bad left)) = bad bytes left
Leads spell fits bad view bytes (Err Memory) = ⊤

-- the same of the whole
abbrev pub Ends : {X : Type 0} → (X → Type 0) → (ℕ → Type 0) → Result X Stop → Type 0
Ends whole bad (Ok x) = whole x
Ends whole bad (Err (Bad left)) = bad left
Ends whole bad (Err Memory) = ⊤

-- so many items, each of which may stand behind those ahead of it
abbrev pub AreSoMany : {A : Type 0} → (List A → A → Type 0) → ℕ → List A → Type 0
AreSoMany may count items = (length items ≡ count) × Stand may [] items
