-- Where bytes stop being a record (this project's profile): at the first count or item that is not so, or behind the last item. The place is
-- said by how many bytes are left from there on.
use Rattle.std.specs.Prelude.{◌≡◌, ◌⊎◌, ℕ, ◌+◌, ◌<◌, List, [], ◌++◌, length, Result, Ok, Err, ⊤}
use Rattle.capture.specs.declared.answer.Asked.{Asked}
use Rattle.row_words.specs.Bytes.{number_bytes, text_bytes, each_bytes, list_bytes}
use Rattle.row_words.specs.Fits.{IsLong}
use Rattle.trial_keeping.specs.declared.record_fault.RecordFault.{RecordFault}
use Rattle.trial_keeping.specs.declared.record_fault.RecordFault.TheVariants.{BadRecord, Memory}
use Rattle.trial_keeping.specs.declared.record.FileRecord.{FileRecord}
use Rattle.trial_keeping.specs.RecordBytes.{answer_bytes, file_bytes, final_bytes, arguments_bytes, capture_bytes, finals_bytes}
use Rattle.trial_keeping.specs.RecordFits.{Stand, MayFollow, MayAnswer, MayBeFound, MayBeFinal, ArgumentsFit, AnswersFit, CaptureFits, FinalsFit}

-- the bytes begin with nothing that fits
abbrev pub IsNone : {A : Type 0} → (A → List ℕ) → (A → Type 0) → List ℕ → ℕ → Type 0
IsNone {A = A} spell fits bytes left = (left ≡ length bytes) × ((a : A) (rest : List ℕ) → fits a → bytes ≡ spell a ++ rest → ⊥)

-- the bytes begin with one thing that fits, and what is bad lies behind it
pub record LiesBehind {A : Type 0} (spell : A → List ℕ) (fits : A → Type 0) (bad : A → List ℕ → ℕ → Type 0) (bytes : List ℕ) (left : ℕ) : Type 0 where
  pub first : A
  pub rest : List ℕ
  pub spelled : bytes ≡ spell first ++ rest
  pub fit : fits first
  pub behind : bad first rest left

-- the first thing is bad, or what stands behind it
abbrev pub IsBadPair : {A : Type 0} → (A → List ℕ) → (A → Type 0) → (List ℕ → ℕ → Type 0) → (A → List ℕ → ℕ → Type 0) → List ℕ → ℕ → Type 0
IsBadPair spell fits bad next bytes left = bad bytes left ⊎ LiesBehind spell fits next bytes left

-- Of so many items the first that is not so: those ahead of it may stand so, and what stands here is no item that may stand behind them.
pub record IsBadItem {A : Type 0} (spell : A → List ℕ) (may : List A → A → Type 0) (count : ℕ) (bytes : List ℕ) (left : ℕ) : Type 0 where
  pub items : List A
  pub rest : List ℕ
  pub spelled : bytes ≡ each_bytes spell items ++ rest
  pub stand : Stand may [] items
  pub within : length items < count
  pub none : IsNone spell (may items) rest left

-- the count of a list is bad, or one of its items
abbrev pub IsBadList : {A : Type 0} → (A → List ℕ) → (List A → A → Type 0) → List ℕ → ℕ → Type 0
IsBadList spell may bytes left = IsBadPair number_bytes IsLong (IsNone number_bytes IsLong) (IsBadItem spell may) bytes left

-- bytes are left
abbrev pub IsMore : {A : Type 0} → A → List ℕ → ℕ → Type 0
IsMore whole bytes left = (left ≡ length bytes) × (0 < length bytes)

-- ---- the three records

abbrev pub IsBadArguments : List ℕ → ℕ → Type 0
IsBadArguments bytes left = IsBadPair arguments_bytes ArgumentsFit (IsBadList text_bytes MayFollow) IsMore bytes left

abbrev pub answers_bytes : List Asked → List ℕ
answers_bytes answers = list_bytes answer_bytes answers

abbrev pub kept_bytes : List Asked × List FileRecord → List ℕ
kept_bytes kept = capture_bytes kept.0 kept.1

abbrev pub FilesAreBad : List Asked → List ℕ → ℕ → Type 0
FilesAreBad answers bytes left = IsBadList file_bytes MayBeFound bytes left

abbrev pub AreBad : List ℕ → ℕ → Type 0
AreBad bytes left = IsBadPair answers_bytes AnswersFit (IsBadList answer_bytes MayAnswer) FilesAreBad bytes left

abbrev pub IsBadCapture : List ℕ → ℕ → Type 0
IsBadCapture bytes left = IsBadPair kept_bytes CaptureFits AreBad IsMore bytes left

abbrev pub AreBadFinals : List ℕ → ℕ → Type 0
AreBadFinals bytes left = IsBadPair finals_bytes FinalsFit (IsBadList final_bytes MayBeFinal) IsMore bytes left

-- ---- what is answered

-- the bytes are the record of the value
abbrev pub IsRecord : {A : Type 0} → (A → List ℕ) → (A → Type 0) → List ℕ → A → Type 0
IsRecord spell fits bytes a = (bytes ≡ spell a) × fits a

-- what is bad begins at this byte, counted from 0
pub record IsBadAt (bad : List ℕ → ℕ → Type 0) (bytes : List ℕ) (place : ℕ) : Type 0 where
  pub left : ℕ
  pub sum : place + left ≡ length bytes
  pub is_bad : bad bytes left

-- What a record was decoded as. Out of memory says nothing.
abbrev pub Decodes : {A : Type 0} → (A → List ℕ) → (A → Type 0) → (List ℕ → ℕ → Type 0) → List ℕ → Result A RecordFault → Type 0
Decodes spell fits bad bytes (Ok a) = IsRecord spell fits bytes a
Decodes spell fits bad bytes (Err (BadRecord place)) = IsBadAt bad bytes place
Decodes spell fits bad bytes (Err Memory) = ⊤

-- It was decoded as this, unless memory ran out.
abbrev pub IsDecodedAs : {A : Type 0} → A → Result A RecordFault → Type 0
IsDecodedAs a (Ok other) = other ≡ a
IsDecodedAs a (Err (BadRecord place)) = ⊥
IsDecodedAs a (Err Memory) = ⊤

-- two values with the same bytes are the same, a record has no bad place, and no bytes have two
pub record IsReadOneWay {A : Type 0} (spell : A → List ℕ) (fits : A → Type 0) (bad : List ℕ → ℕ → Type 0) : Type 0 where
  pub one : (bytes : List ℕ) (a b : A) → IsRecord spell fits bytes a → IsRecord spell fits bytes b → a ≡ b
  pub none : (bytes : List ℕ) (a : A) (place : ℕ) → IsRecord spell fits bytes a → IsBadAt bad bytes place → ⊥
  pub places : (bytes : List ℕ) (place other : ℕ) → IsBadAt bad bytes place → IsBadAt bad bytes other → place ≡ other
