-- What was kept of a run fits its records where a trial with these contents was loaded: bytes tell what they are.
use Rattle.std.proofs.Common.{◌≡◌, ℕ, zero, suc, ◌*◌, List, [], ◌∷◌, ◌++◌, length, map, refl, ap, subst, ◌∙◌, arith, ◌/◌, slice_index}
use Rattle.std.specs.Int.{w32, to_be_bytes}
use Rattle.std.proofs.lemmas.List.{length-append}
use Rattle.sha1.specs.Sha1.{sha1, digest_bytes, hash_after, padded_message}
use Rattle.capture.specs.declared.answer.Asked.{Asked}
use Rattle.capture.specs.declared.ended.FileOut.{FileOut}
use Rattle.prov_outside.specs.declared.folder.Found.{Found}
use Rattle.prov_outside.specs.declared.folder.Found.TheVariants.{Bytes, Absent, TooLarge, Failed}
use Rattle.row_words.specs.Bytes.{text_bytes, list_bytes}
use Rattle.row_words.specs.Fits.{Each}
use Rattle.sound_trials.proofs.Spelling.{Anything, AnswerFits, FileFits, FinalFits, text_one, answer_one, file_one, final_one, list_one}
use Rattle.trial_keeping.specs.RecordBytes.{answer_bytes, file_bytes, final_bytes, arguments_bytes, capture_bytes, finals_bytes}
use Rattle.trial_keeping.specs.RecordFaults.{kept_bytes}
use Rattle.trial_keeping.specs.RecordFits.{Stand, ArgumentsFit, CaptureFits, FinalsFit, MayAnswer, MayBeFound, MayBeFinal}
use Rattle.trial_keeping.specs.Trial.{file_record, final_record}
use Rattle.trial_keeping.specs.declared.record.FileRecord.{FileRecord}
use Rattle.trial_keeping.specs.declared.record.FinalRecord.{FinalRecord}

-- ---- a digest has 20 bytes

words_long : (h : List ℕ) (n : ℕ) → length (digest_bytes h n) ≡ 4 * n
unfolding digest_bytes
words_long h zero = refl
words_long h (suc n) = let more : length (digest_bytes h n) ≡ 4 * n = words_long h n in by more
  where
    by : length (digest_bytes h n) ≡ 4 * n → length (digest_bytes h n ++ to_be_bytes w32 (slice_index h n)) ≡ 4 * suc n
    by more = omega (arith, more, length-append (digest_bytes h n) (to_be_bytes w32 (slice_index h n)))

pub digest_long : (bytes : List ℕ) → length (sha1 bytes) ≡ 20
unfolding sha1
digest_long bytes = words_long (hash_after (padded_message bytes) (length (padded_message bytes) / 64)) 5

files_fit : (files : List (List ℕ × Found)) → Each FileFits (map file_record files)
files_fit [] = tt
files_fit ((path, Bytes bytes) ∷ files) = (digest_long bytes, files_fit files)
files_fit ((path, Absent) ∷ files) = (tt, files_fit files)
files_fit ((path, TooLarge) ∷ files) = (tt, files_fit files)
files_fit ((path, Failed) ∷ files) = (tt, files_fit files)

finals_fit : (files : List FileOut) → Each FinalFits (map final_record files)
finals_fit [] = tt
finals_fit (file ∷ files) = (digest_long file.bytes, finals_fit files)

-- ---- what fits, fits by itself

each_stands : {A : Type 0} (may : List A → A → Type 0) (f : A → Type 0) → ((before : List A) (a : A) → may before a → f a) → (before items : List A) → Stand may before items → Each f items
each_stands may f each before [] stand = tt
each_stands may f each before (item ∷ items) stand = (each before item stand.0, each_stands may f each (before ++ item ∷ []) items stand.1)

anything : (texts : List (List ℕ)) → Each Anything texts
anything [] = tt
anything (text ∷ texts) = (tt, anything texts)

-- ---- equal bytes, equal records

at_end : (bytes : List ℕ) (others : List ℕ) → bytes ≡ others → bytes ++ [] ≡ others ++ []
at_end bytes others is = ap (λ (l : List ℕ). l ++ []) is

pub one_arguments : (a b : List (List ℕ)) → arguments_bytes a ≡ arguments_bytes b → a ≡ b
one_arguments a b is = (list_one text_bytes text_one a b [] [] (anything a) (anything b) (at_end (arguments_bytes a) (arguments_bytes b) is)).same

one_finals : (a b : List FinalRecord) → Each FinalFits a → Each FinalFits b → finals_bytes a ≡ finals_bytes b → a ≡ b
one_finals a b fit fits is = (list_one final_bytes final_one a b [] [] fit fits (at_end (finals_bytes a) (finals_bytes b) is)).same

abbrev both : List Asked → List FileRecord → List Asked × List FileRecord
both answers files = (answers, files)

one_capture : (a b : List Asked) (c d : List FileRecord) → Each AnswerFits a → Each AnswerFits b → Each FileFits c → Each FileFits d → capture_bytes a c ≡ capture_bytes b d → both a c ≡ both b d
one_capture a b c d fit fits good goods is =
    let front = list_one answer_bytes answer_one a b (list_bytes file_bytes c) (list_bytes file_bytes d) fit fits is in
    let back = list_one file_bytes file_one c d [] [] good goods (at_end (list_bytes file_bytes c) (list_bytes file_bytes d) front.rests) in
    ap (λ (x : List Asked). both x c) front.same ∙ ap (λ (x : List FileRecord). both b x) back.same

pub arguments_fit : (read given : List (List ℕ)) → arguments_bytes read ≡ arguments_bytes given → ArgumentsFit read → ArgumentsFit given
arguments_fit read given is fit = subst (λ (x : List (List ℕ)). ArgumentsFit x) (one_arguments read given is) fit

pub finals_are : (read : List FinalRecord) (files : List FileOut) → finals_bytes read ≡ finals_bytes (map final_record files) → FinalsFit read → read ≡ map final_record files
finals_are read files is fit =
    one_finals read (map final_record files) (each_stands MayBeFinal FinalFits (λ before a may. may.0.1) [] read fit.1) (finals_fit files) is

pub capture_is : (read : List Asked × List FileRecord) (answers : List Asked) (files : List (List ℕ × Found)) → Each AnswerFits answers → kept_bytes read ≡ capture_bytes answers (map file_record files)
    → CaptureFits read → read ≡ both answers (map file_record files)
capture_is read answers files fits is fit =
    one_capture read.0 answers read.1 (map file_record files) (each_stands MayAnswer AnswerFits (λ before a may. may.0.1.1.0) [] read.0 fit.0.1) fits
    (each_stands MayBeFound FileFits (λ before a may. may.0.1) [] read.1 fit.1.1) (files_fit files) is
