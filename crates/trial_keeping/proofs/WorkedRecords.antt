-- Worked rows of the definitions, each found by computation.
use Rattle.std.proofs.Common.{◌≡◌, ℕ, List, [], ◌∷◌, codes, negsuc, refl}
use Rattle.prov_base.specs.declared.place.Pos.{Pos}
use Rattle.capture.specs.declared.answer.Ask.TheVariants.{Time, Word, Line}
use Rattle.capture.specs.declared.answer.Given.TheVariants.{Number, Word as WordGiven, Line as LineGiven, End, Failed}
use Rattle.row_words.specs.Bytes.{number_bytes, number_by}
use Rattle.trial_keeping.specs.declared.record.FoundRecord.TheVariants.{Content, Absent}
use Rattle.trial_keeping.specs.RecordBytes.{answer_bytes, file_bytes, arguments_bytes, capture_bytes, finals_bytes}

no_arguments : arguments_bytes [] ≡ 0x00 ∷ []
unfolding number_bytes number_by
no_arguments = refl

-- `a` and `bc`
two_arguments : arguments_bytes (codes "a" ∷ codes "bc" ∷ []) ≡ 0x02 ∷ 0x01 ∷ 0x61 ∷ 0x02 ∷ 0x62 ∷ 0x63 ∷ []
unfolding number_bytes number_by
two_arguments = refl

nothing_captured : capture_bytes [] [] ≡ 0x00 ∷ 0x00 ∷ []
unfolding number_bytes number_by
nothing_captured = refl

abbrev place : Pos
place = record { line = 2; col = 19 }

-- the random word 7, asked for at 2:19 for the first time
a_word : capture_bytes (record { at = place; k = 1; what = Word; given = WordGiven 7 } ∷ []) [] ≡ 0x01 ∷ 0x02 ∷ 0x13 ∷ 0x01 ∷ 0x01 ∷ 0x07 ∷ 0x00 ∷ []
unfolding number_bytes number_by
a_word = refl

-- one nanosecond before 1970
a_time : answer_bytes (record { at = place; k = 1; what = Time; given = Number (negsuc 0) }) ≡ 0x02 ∷ 0x13 ∷ 0x01 ∷ 0x00 ∷ 0x01 ∷ []
unfolding number_bytes number_by
a_time = refl

-- the line `x`, asked for second there
a_line : answer_bytes (record { at = place; k = 2; what = Line; given = LineGiven (codes "x") }) ≡ 0x02 ∷ 0x13 ∷ 0x02 ∷ 0x02 ∷ 0x01 ∷ 0x78 ∷ []
unfolding number_bytes number_by
a_line = refl

no_line_left : answer_bytes (record { at = place; k = 3; what = Line; given = End }) ≡ 0x02 ∷ 0x13 ∷ 0x03 ∷ 0x03 ∷ []
unfolding number_bytes number_by
no_line_left = refl

a_failed_word : answer_bytes (record { at = place; k = 1; what = Word; given = Failed }) ≡ 0x02 ∷ 0x13 ∷ 0x01 ∷ 0x04 ∷ 0x01 ∷ []
unfolding number_bytes number_by
a_failed_word = refl

-- no file at `in.txt`
an_absent_file : capture_bytes [] (record { path = codes "in.txt"; found = Absent } ∷ [])
    ≡ 0x00 ∷ 0x01 ∷ 0x06 ∷ 0x69 ∷ 0x6e ∷ 0x2e ∷ 0x74 ∷ 0x78 ∷ 0x74 ∷ 0x01 ∷ []
unfolding number_bytes number_by
an_absent_file = refl

-- the SHA-1 digest of no bytes, da39a3ee5e6b4b0d3255bfef95601890afd80709
abbrev digest : List ℕ
digest = 0xda ∷ 0x39 ∷ 0xa3 ∷ 0xee ∷ 0x5e ∷ 0x6b ∷ 0x4b ∷ 0x0d ∷ 0x32 ∷ 0x55 ∷ 0xbf ∷ 0xef ∷ 0x95 ∷ 0x60 ∷ 0x18 ∷ 0x90 ∷ 0xaf ∷ 0xd8 ∷ 0x07 ∷ 0x09 ∷ []

-- an empty file was found at `a`
an_empty_file : file_bytes (record { path = codes "a"; found = Content (record { bytes = digest }) }) ≡ 0x01 ∷ 0x61 ∷ 0x00 ∷ digest
unfolding number_bytes number_by
an_empty_file = refl

-- `out.txt` was written, and left empty
a_final_file : finals_bytes (record { path = codes "out.txt"; digest = record { bytes = digest } } ∷ [])
    ≡ 0x01 ∷ 0x07 ∷ 0x6f ∷ 0x75 ∷ 0x74 ∷ 0x2e ∷ 0x74 ∷ 0x78 ∷ 0x74 ∷ digest
unfolding number_bytes number_by
a_final_file = refl
