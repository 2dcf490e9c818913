-- That the items of records are read exactly.
use Rattle.std.proofs.Common.{◌≡◌, ℕ, ◌≤◌, nat_lt, Bool, true, false, not, List, [], ◌∷◌, ◌++◌, length, take, drop, Some, None, if◌then◌else◌, refl, sym, ap, subst, ◌∙◌, append_assoc, arith}
use Rattle.std.specs.Prelude.{⊤}
use Rattle.std.proofs.lemmas.Bool.{ltb-false, le-ltb}
use Rattle.std.proofs.lemmas.List.{take_at, drop_at, take-append-drop, length-append, length-take}
use Rattle.prov_base.specs.Path.{is_path}
use Rattle.prov_base.specs.declared.place.Digest.{Digest}
use Rattle.capture.specs.declared.answer.Ask.{Ask as Question}
use Rattle.capture.specs.declared.answer.Ask.TheVariants.{Time, Word, Line}
use Rattle.capture.specs.declared.answer.Given.{Given}
use Rattle.capture.specs.declared.answer.Given.TheVariants.{Number, Word as WordGiven, Line as LineGiven, End, Failed}
use Rattle.capture.specs.declared.answer.Asked.{Asked}
use Rattle.row_words.specs.Bytes.{number_bytes, text_bytes}
use Rattle.row_words.specs.Fits.{IsLong}
use Rattle.row_words.specs.Reading.{into, number_at, front_at, Took, Reads}
use Rattle.row_words.proofs.Steps.{bound, same_some, not_refused, pick}
use Rattle.row_words.proofs.Exact.{both_reads, into_reads, only_reads, took_into, took_plain, took_tagged}
use Rattle.row_words.proofs.Numbers.{number_reads, short_reads}
use Rattle.row_words.proofs.Words.{signed_reads, place_reads, text_reads}
use Rattle.trial_keeping.specs.declared.record.FoundRecord.{FoundRecord}
use Rattle.trial_keeping.specs.declared.record.FoundRecord.TheVariants.{Content, Absent, TooLarge, Failed as Refused}
use Rattle.trial_keeping.specs.declared.record.FileRecord.{FileRecord}
use Rattle.trial_keeping.specs.declared.record.FinalRecord.{FinalRecord}
use Rattle.trial_keeping.specs.declared.tags.GivenTag.{GivenTag}
use Rattle.trial_keeping.specs.declared.tags.GivenTag.TheVariants.{Number as NumberTag, Word as WordTag, Line as LineTag, End as EndTag, Failed as FailedTag}
use Rattle.trial_keeping.specs.declared.tags.FoundTag.{FoundTag}
use Rattle.trial_keeping.specs.declared.tags.FoundTag.TheVariants.{Content as ContentTag, Absent as AbsentTag, TooLarge as TooLargeTag, Failed as RefusedTag}
use Rattle.trial_keeping.specs.RecordBytes.{ask_byte, given_bytes, answer_bytes, found_bytes, file_bytes, final_bytes}
use Rattle.trial_keeping.specs.RecordFits.{is_next, IsAsking, IsGiven, IsAnswer, is_earlier, MayAnswer, IsPath, IsDigest, IsFound, IsFile, is_ahead, MayBeFound, is_final, MayBeFinal}
use Rattle.trial_keeping.specs.RecordReading.{ask_tag, ask_behind, ask_at, given_tag, made_time, made_word, made_line, made_failed, given_behind, given_at, asking_at, made_answer, answer_at, next_answer, path_at, made_digest, digest_at, found_tag, found_behind, found_at, made_file, file_at, next_file, made_final, final_at, next_final}

-- ---- a length and that many bytes, whatever bytes they are

abbrev IsFront : List ℕ → Type 0
IsFront bytes = IsLong (length bytes)

front_reads : Reads text_bytes IsFront front_at
unfolding front_at
front_reads = record {
  again = λ text rest long.
      let enough : nat_lt (length (text ++ rest)) (length text) ≡ false = le-ltb _ _ (omega (arith, length-append text rest)) in
      ap front_at (append_assoc (number_bytes (length text)) text rest)
      ∙ rw (number_reads.again (length text) (text ++ rest) long, enough, take_at text rest (length text) refl, drop_at text rest (length text) refl) refl;
  takes = λ bytes rest text is.
      let n = bound (number_at bytes) (λ n. if nat_lt (length n.1) n.0 then None else Some (take n.0 n.1, drop n.0 n.1)) (text, rest) is in
      let p = not_refused (nat_lt (length n.0.1) n.0.0) (Some (take n.0.0 n.0.1, drop n.0.0 n.0.1)) (text, rest) n.2 in
      let t = number_reads.takes bytes n.0.1 n.0.0 n.1 in
      let enough : n.0.0 ≤ length n.0.1 = ltb-false _ _ p.0 in
      let count : length (take n.0.0 n.0.1) ≡ n.0.0 = omega (arith, length-take n.0.0 n.0.1) in
      let made : List ℕ × List ℕ = (take n.0.0 n.0.1, drop n.0.0 n.0.1) in
      let whole : bytes ≡ number_bytes (length made.0) ++ (made.0 ++ made.1) =
      t.spelled ∙ (ap (λ (l : List ℕ). number_bytes n.0.0 ++ l) (sym (take-append-drop n.0.0 n.0.1)) ∙ ap (λ (k : ℕ). number_bytes k ++ (made.0 ++ made.1)) (sym count)) in
      subst (λ (z : List ℕ × List ℕ). Took text_bytes IsFront bytes z.0 z.1) (same_some made (text, rest) p.1)
      (record { spelled = whole ∙ sym (append_assoc (number_bytes (length made.0)) made.0 made.1); fit = subst IsLong (sym count) t.fit });
}

-- ---- what was asked where the device failed

abbrev ask_bytes : Question → List ℕ
ask_bytes what = ask_byte what ∷ []

abbrev AnyAsk : Question → Type 0
AnyAsk what = ⊤

is_ask : (b : ℕ) (t : Question) → ask_tag b ≡ Some t → b ≡ ask_byte t
is_ask b t is =
    pick b 0 _ _ t is (λ at here. at ∙ ap ask_byte (same_some _ _ here)) (λ is.
    pick b 1 _ _ t is (λ at here. at ∙ ap ask_byte (same_some _ _ here)) (λ is.
    pick b 2 _ _ t is (λ at here. at ∙ ap ask_byte (same_some _ _ here)) (λ is. absurd (cc is))))

ask_took : (t : Question) (bytes rest : List ℕ) (what : Question) → ask_behind t bytes ≡ Some (what, rest) → Took ask_bytes AnyAsk (ask_byte t ∷ bytes) what rest
ask_took t bytes rest what is = took_plain ask_bytes AnyAsk (ask_byte t) t refl tt bytes rest what is

ask_again : (what : Question) (rest : List ℕ) → AnyAsk what → ask_at (ask_bytes what ++ rest) ≡ Some (what, rest)
unfolding ask_at
ask_again Time rest any = refl
ask_again Word rest any = refl
ask_again Line rest any = refl

ask_reads : Reads ask_bytes AnyAsk ask_at
unfolding ask_at
ask_reads = record { again = ask_again; takes = λ bytes rest what is. took_tagged ask_tag ask_behind ask_byte ask_bytes AnyAsk is_ask ask_took bytes rest what is }

-- ---- what was given

abbrev told_bytes : Question × Given → List ℕ
told_bytes told = given_bytes told.0 told.1

abbrev IsTold : Question × Given → Type 0
IsTold told = IsGiven told.0 told.1

given_number : GivenTag → ℕ
given_number NumberTag = 0
given_number WordTag = 1
given_number LineTag = 2
given_number EndTag = 3
given_number FailedTag = 4

is_given : (b : ℕ) (t : GivenTag) → given_tag b ≡ Some t → b ≡ given_number t
unfolding given_number
is_given b t is =
    pick b 0 _ _ t is (λ at here. at ∙ ap given_number (same_some _ _ here)) (λ is.
    pick b 1 _ _ t is (λ at here. at ∙ ap given_number (same_some _ _ here)) (λ is.
    pick b 2 _ _ t is (λ at here. at ∙ ap given_number (same_some _ _ here)) (λ is.
    pick b 3 _ _ t is (λ at here. at ∙ ap given_number (same_some _ _ here)) (λ is.
    pick b 4 _ _ t is (λ at here. at ∙ ap given_number (same_some _ _ here)) (λ is. absurd (cc is))))))

failed_fits : (what : Question) → IsTold (made_failed what)
failed_fits Time = (tt, tt)
failed_fits Word = (tt, tt)
failed_fits Line = (tt, tt)

given_took : (t : GivenTag) (bytes rest : List ℕ) (told : Question × Given) → given_behind t bytes ≡ Some (told, rest) → Took told_bytes IsTold (given_number t ∷ bytes) told rest
unfolding given_behind given_number
given_took NumberTag bytes rest told is = took_into made_time told_bytes IsTold (0 ∷ []) signed_reads (λ t fit. refl) (λ t fit. (tt, fit)) bytes rest told is
given_took WordTag bytes rest told is = took_into made_word told_bytes IsTold (1 ∷ []) number_reads (λ w fit. refl) (λ w fit. (tt, fit)) bytes rest told is
given_took LineTag bytes rest told is = took_into made_line told_bytes IsTold (2 ∷ []) front_reads (λ l fit. refl) (λ l fit. (tt, fit)) bytes rest told is
given_took EndTag bytes rest told is = took_plain told_bytes IsTold 3 (Line, End) refl (tt, tt) bytes rest told is
given_took FailedTag bytes rest told is = took_into made_failed told_bytes IsTold (4 ∷ []) ask_reads (λ what fit. refl) (λ what fit. failed_fits what) bytes rest told is

given_again : (what : Question) (given : Given) (rest : List ℕ) → IsGiven what given → given_at (given_bytes what given ++ rest) ≡ Some ((what, given), rest)
unfolding given_at given_behind
given_again Time (Number time) rest fit = ap (into made_time) (signed_reads.again time rest fit.1)
given_again Word (WordGiven word) rest fit = ap (into made_word) (number_reads.again word rest fit.1)
given_again Line (LineGiven line) rest fit = ap (into made_line) (front_reads.again line rest fit.1)
given_again Line End rest fit = refl
given_again what Failed rest fit = ap (into made_failed) (ask_reads.again what rest tt)
given_again Time (WordGiven word) rest fit = absurd fit.0
given_again Time (LineGiven line) rest fit = absurd fit.0
given_again Time End rest fit = absurd fit.0
given_again Word (Number time) rest fit = absurd fit.0
given_again Word (LineGiven line) rest fit = absurd fit.0
given_again Word End rest fit = absurd fit.0
given_again Line (Number time) rest fit = absurd fit.0
given_again Line (WordGiven word) rest fit = absurd fit.0

given_reads : Reads told_bytes IsTold given_at
unfolding given_at
given_reads = record {
  again = λ told rest fit. given_again told.0 told.1 rest fit;
  takes = λ bytes rest told is. took_tagged given_tag given_behind given_number told_bytes IsTold is_given given_took bytes rest told is;
}

-- ---- answers

asking_reads : Reads number_bytes IsAsking asking_at
unfolding asking_at
asking_reads = only_reads (λ k. nat_lt 0 k) IsAsking short_reads (λ k fit. fit.0) (λ k fit. fit.1) (λ k short some. (short, some))

pub answer_reads : Reads answer_bytes IsAnswer answer_at
unfolding answer_at
answer_reads =
    into_reads made_answer (λ (asked : Asked). (asked.at, (asked.k, (asked.what, asked.given)))) answer_bytes IsAnswer (both_reads place_reads (both_reads asking_reads given_reads))
    (λ p fit. refl) (λ p fit. fit) (λ asked fit. refl) (λ asked fit. fit) (λ asked fit. refl)

pub next_answer_reads : (before : List Asked) → Reads answer_bytes (MayAnswer before) (next_answer before)
unfolding next_answer
next_answer_reads before = only_reads (is_next is_earlier before) (MayAnswer before) answer_reads (λ asked fit. fit.0) (λ asked fit. fit.1) (λ asked fit behind. (fit, behind))

-- ---- files

path_reads : Reads text_bytes IsPath path_at
unfolding path_at
path_reads = only_reads is_path IsPath text_reads (λ path fit. fit.0) (λ path fit. fit.1) (λ path fit is. (fit, is))

abbrev digest_bytes : Digest → List ℕ
digest_bytes digest = digest.bytes

digest_reads : Reads digest_bytes IsDigest digest_at
unfolding digest_at
digest_reads = record {
  again = λ digest rest fit.
      let enough : nat_lt (length (digest.bytes ++ rest)) 20 ≡ false = le-ltb _ _ (omega (arith, length-append digest.bytes rest, fit)) in
      rw (enough, take_at digest.bytes rest 20 fit, drop_at digest.bytes rest 20 fit) refl;
  takes = λ bytes rest digest is.
      let p = not_refused (nat_lt (length bytes) 20) (Some (made_digest (take 20 bytes), drop 20 bytes)) (digest, rest) is in
      let enough : 20 ≤ length bytes = ltb-false _ _ p.0 in
      let made : Digest × List ℕ = (made_digest (take 20 bytes), drop 20 bytes) in
      subst (λ (z : Digest × List ℕ). Took digest_bytes IsDigest bytes z.0 z.1) (same_some made (digest, rest) p.1)
      (record { spelled = sym (take-append-drop 20 bytes); fit = omega (arith, length-take 20 bytes) });
}

found_number : FoundTag → ℕ
found_number ContentTag = 0
found_number AbsentTag = 1
found_number TooLargeTag = 2
found_number RefusedTag = 3

is_found : (b : ℕ) (t : FoundTag) → found_tag b ≡ Some t → b ≡ found_number t
unfolding found_number
is_found b t is =
    pick b 0 _ _ t is (λ at here. at ∙ ap found_number (same_some _ _ here)) (λ is.
    pick b 1 _ _ t is (λ at here. at ∙ ap found_number (same_some _ _ here)) (λ is.
    pick b 2 _ _ t is (λ at here. at ∙ ap found_number (same_some _ _ here)) (λ is.
    pick b 3 _ _ t is (λ at here. at ∙ ap found_number (same_some _ _ here)) (λ is. absurd (cc is)))))

found_took : (t : FoundTag) (bytes rest : List ℕ) (found : FoundRecord) → found_behind t bytes ≡ Some (found, rest) → Took found_bytes IsFound (found_number t ∷ bytes) found rest
unfolding found_behind found_number
found_took ContentTag bytes rest found is = took_into Content found_bytes IsFound (0 ∷ []) digest_reads (λ d fit. refl) (λ d fit. fit) bytes rest found is
found_took AbsentTag bytes rest found is = took_plain found_bytes IsFound 1 Absent refl tt bytes rest found is
found_took TooLargeTag bytes rest found is = took_plain found_bytes IsFound 2 TooLarge refl tt bytes rest found is
found_took RefusedTag bytes rest found is = took_plain found_bytes IsFound 3 Refused refl tt bytes rest found is

found_again : (found : FoundRecord) (rest : List ℕ) → IsFound found → found_at (found_bytes found ++ rest) ≡ Some (found, rest)
unfolding found_at found_behind
found_again (Content digest) rest fit = ap (into Content) (digest_reads.again digest rest fit)
found_again Absent rest fit = refl
found_again TooLarge rest fit = refl
found_again Refused rest fit = refl

found_reads : Reads found_bytes IsFound found_at
unfolding found_at
found_reads = record { again = found_again; takes = λ bytes rest found is. took_tagged found_tag found_behind found_number found_bytes IsFound is_found found_took bytes rest found is }

pub file_reads : Reads file_bytes IsFile file_at
unfolding file_at
file_reads = into_reads made_file (λ (file : FileRecord). (file.path, file.found)) file_bytes IsFile (both_reads path_reads found_reads) (λ p fit. refl) (λ p fit. fit) (λ file fit. refl) (λ file fit. fit) (λ file fit. refl)

pub next_file_reads : (before : List FileRecord) → Reads file_bytes (MayBeFound before) (next_file before)
unfolding next_file
next_file_reads before = only_reads (is_next is_ahead before) (MayBeFound before) file_reads (λ file fit. fit.0) (λ file fit. fit.1) (λ file fit behind. (fit, behind))

-- ---- final files

abbrev pub IsFinal : FinalRecord → Type 0
IsFinal written = IsPath written.path × IsDigest written.digest

pub final_reads : Reads final_bytes IsFinal final_at
unfolding final_at
final_reads = into_reads made_final (λ (written : FinalRecord). (written.path, written.digest)) final_bytes IsFinal (both_reads path_reads digest_reads) (λ p fit. refl) (λ p fit. fit) (λ written fit. refl) (λ written fit. fit) (λ written fit. refl)

turned : (b : Bool) → b ≡ false → not b ≡ true
turned b is = rw is refl

turned_back : (b : Bool) → not b ≡ true → b ≡ false
turned_back true is = absurd cc
turned_back false is = refl

pub next_final_reads : (before : List FinalRecord) → Reads final_bytes (MayBeFinal before) (next_final before)
unfolding next_final
next_final_reads before =
    only_reads (λ (written : FinalRecord). not (is_final before written.path)) (MayBeFinal before) final_reads (λ written fit. fit.0) (λ written fit. turned (is_final before written.path) fit.1)
    (λ written fit new. (fit, turned_back (is_final before written.path) new))
