-- That the three records are read exactly, and where bytes stop being one.
use Rattle.std.proofs.Common.{inr, ◌≡◌, eqb, false, Err, ℕ, ◌<◌, List, [], ◌∷◌, ◌++◌, length, refl, sym, ap, subst, ◌∙◌, append_assoc, arith}
use Rattle.std.proofs.lemmas.Bool.{true≢false}
use Rattle.capture.specs.declared.answer.Asked.{Asked}
use Rattle.row_words.specs.Bytes.{text_bytes, list_bytes}
use Rattle.row_words.proofs.Words.{text_reads}
use Rattle.trial_keeping.specs.declared.record_fault.Stop.{Stop}
use Rattle.trial_keeping.specs.declared.record_fault.Stop.TheVariants.{Bad}
use Rattle.trial_keeping.specs.declared.record.FileRecord.{FileRecord}
use Rattle.trial_keeping.specs.RecordBytes.{answer_bytes, file_bytes, final_bytes, arguments_bytes, finals_bytes}
use Rattle.trial_keeping.specs.RecordFits.{MayFollow, MayAnswer, MayBeFound, MayBeFinal, ArgumentsFit, AnswersFit, FilesFit, CaptureFits, FinalsFit}
use Rattle.trial_keeping.specs.RecordFaults.{IsBadPair, IsBadList, IsMore, IsRecord, answers_bytes, kept_bytes, AreBad, FilesAreBad}
use Rattle.trial_keeping.specs.RecordReading.{Ends}
use Rattle.trial_keeping.proofs.ItemsExact.{answer_reads, file_reads, final_reads}
use Rattle.trial_keeping.proofs.OneWay.{Exact, reads_exact, pair_exact, list_exact, whole_none}

pub arguments_exact : Exact arguments_bytes ArgumentsFit (IsBadList text_bytes MayFollow)
arguments_exact = list_exact MayFollow (λ before argument may. may) (reads_exact text_reads)

answers_exact : Exact answers_bytes AnswersFit (IsBadList answer_bytes MayAnswer)
answers_exact = list_exact MayAnswer (λ before asked may. may.0) (reads_exact answer_reads)

files_exact : (answers : List Asked) → Exact (λ (files : List FileRecord). list_bytes file_bytes files) FilesFit (FilesAreBad answers)
files_exact answers = list_exact MayBeFound (λ before file may. may.0) (reads_exact file_reads)

pub capture_exact : Exact kept_bytes CaptureFits AreBad
capture_exact = pair_exact answers_exact files_exact

pub finals_exact : Exact finals_bytes FinalsFit (IsBadList final_bytes MayBeFinal)
finals_exact = list_exact MayBeFinal (λ before written may. may.0) (reads_exact final_reads)

-- ---- the whole, from its parts

-- not nothing is left
pub some_left : (rest : List ℕ) → false ≡ eqb (length rest) 0 → 0 < length rest
some_left [] is = absurd (true≢false (sym is))
some_left (b ∷ rest) is = omega arith

-- bytes are left behind the record
pub too_long : {A : Type 0} (spell : A → List ℕ) (fits : A → Type 0) (bad : List ℕ → ℕ → Type 0) (bytes : List ℕ) (a : A) (rest : List ℕ) → (bytes ≡ spell a ++ rest) × fits a → 0 < length rest
    → IsBadPair spell fits bad IsMore bytes (length rest)
too_long spell fits bad bytes a rest read some = inr (record { first = a; rest = rest; spelled = read.0; fit = read.1; behind = (refl, some) })

-- the two lists of a capture, one behind the other
pub both_lists : (bytes : List ℕ) (answers : List Asked) (middle : List ℕ) (files : List FileRecord) (rest : List ℕ) → (bytes ≡ answers_bytes answers ++ middle) × AnswersFit answers
    → (middle ≡ list_bytes file_bytes files ++ rest) × FilesFit files → (bytes ≡ kept_bytes (answers, files) ++ rest) × CaptureFits (answers, files)
both_lists bytes answers middle files rest read also =
    (read.0 ∙ (ap (λ (l : List ℕ). answers_bytes answers ++ l) also.0 ∙ sym (append_assoc (answers_bytes answers) (list_bytes file_bytes files) rest)), (read.1, also.1))

-- reading stopped where no record is
pub stopped_there : {A : Type 0} {w : A → List ℕ} {f : A → Type 0} {bad : List ℕ → ℕ → Type 0} → Exact w f bad → (bytes : List ℕ) (stop : Stop) (left : ℕ) → stop ≡ Bad left
    → Ends (IsRecord w f bytes) (IsBadPair w f bad IsMore bytes) (Err stop) → (a : A) → IsRecord w f bytes a → ⊥
stopped_there {A = A} {w = w} {f = f} {bad = bad} one bytes stop left is ends a whole =
    whole_none one bytes left a (subst (λ (other : Stop). Ends (IsRecord w f bytes) (IsBadPair w f bad IsMore bytes) (Err other)) is ends) whole
