-- Which values have a record (this project's profile): numbers are in range, an answer is of a kind that its question may have, a path is one
-- that a script may open, and lists by a key ascend.
use Rattle.std.specs.Prelude.{◌≡◌, ℕ, ◌-◌, nat_lt, Bool, true, false, ◌&&◌, ◌||◌, nat_eq, FitsSigned, List, [], ◌∷◌, ◌++◌, length, slice_get, Option, Some, None, bytes_eq, ⊤}
use Rattle.std.specs.Int.{w64}
use Rattle.std.specs.List.{list_any}
use Rattle.prov_base.specs.Path.{is_path}
use Rattle.prov_base.specs.declared.place.Digest.{Digest}
use Rattle.capture.specs.declared.answer.Ask.{Ask as Question}
use Rattle.capture.specs.declared.answer.Given.{Given}
use Rattle.capture.specs.declared.answer.Given.TheVariants.{Number, Word as WordGiven, Line as LineGiven, End, Failed}
use Rattle.capture.specs.declared.answer.Asked.{Asked}
use Rattle.capture.specs.Answers.{Fits}
use Rattle.capture.specs.Files.{is_before}
use Rattle.row_words.specs.Fits.{IsShort, IsLong, IsPlace, IsText}
use Rattle.trial_keeping.specs.declared.record.FoundRecord.{FoundRecord}
use Rattle.trial_keeping.specs.declared.record.FoundRecord.TheVariants.{Content, Absent, TooLarge, Failed as Refused}
use Rattle.trial_keeping.specs.declared.record.FileRecord.{FileRecord}
use Rattle.trial_keeping.specs.declared.record.FinalRecord.{FinalRecord}

-- each item may stand behind those ahead of it
abbrev pub Stand : {A : Type 0} → (List A → A → Type 0) → List A → List A → Type 0
Stand may before [] = ⊤
Stand may before (item ∷ items) = may before item × Stand may (before ++ item ∷ []) items

abbrev pub IsListOf : {A : Type 0} → (List A → A → Type 0) → List A → Type 0
IsListOf may items = IsLong (length items) × Stand may [] items

-- the item is the first, or the one ahead of it is ahead of it in order too
abbrev pub is_behind : {A : Type 0} → (A → A → Bool) → Option A → A → Bool
is_behind is_ahead None item = true
is_behind is_ahead (Some last) item = is_ahead last item

abbrev pub is_next : {A : Type 0} → (A → A → Bool) → List A → A → Bool
is_next is_ahead before item = is_behind is_ahead (slice_get before (length before - 1)) item

-- ---- arguments

abbrev pub MayFollow : List (List ℕ) → List ℕ → Type 0
MayFollow before argument = IsText argument

abbrev pub ArgumentsFit : List (List ℕ) → Type 0
ArgumentsFit arguments = IsListOf MayFollow arguments

-- ---- answers

abbrev pub IsInRange : Given → Type 0
IsInRange (Number time) = FitsSigned w64 time
IsInRange (WordGiven word) = IsLong word
IsInRange (LineGiven line) = IsLong (length line)
IsInRange End = ⊤
IsInRange Failed = ⊤

-- askings are numbered from 1
abbrev pub IsAsking : ℕ → Type 0
IsAsking k = IsShort k × (nat_lt 0 k ≡ true)

abbrev pub IsGiven : Question → Given → Type 0
IsGiven what given = Fits what given × IsInRange given

abbrev pub IsAnswer : Asked → Type 0
IsAnswer asked = IsPlace asked.at × (IsAsking asked.k × IsGiven asked.what asked.given)

-- by line, on one line by column, and at one place by number
abbrev pub is_earlier : Asked → Asked → Bool
is_earlier a b =
    nat_lt a.at.line b.at.line
    || nat_eq a.at.line b.at.line && (nat_lt a.at.col b.at.col || nat_eq a.at.col b.at.col && nat_lt a.k b.k)

abbrev pub MayAnswer : List Asked → Asked → Type 0
MayAnswer before asked = IsAnswer asked × (is_next is_earlier before asked ≡ true)

abbrev pub AnswersFit : List Asked → Type 0
AnswersFit answers = IsListOf MayAnswer answers

-- ---- files

abbrev pub IsPath : List ℕ → Type 0
IsPath path = IsText path × (is_path path ≡ true)

abbrev pub IsDigest : Digest → Type 0
IsDigest digest = length digest.bytes ≡ 20

abbrev pub IsFound : FoundRecord → Type 0
IsFound (Content digest) = IsDigest digest
IsFound Absent = ⊤
IsFound TooLarge = ⊤
IsFound Refused = ⊤

abbrev pub IsFile : FileRecord → Type 0
IsFile file = IsPath file.path × IsFound file.found

-- by the bytes of the paths
abbrev pub is_ahead : FileRecord → FileRecord → Bool
is_ahead file other = is_before file.path other.path

-- the path stands before those of all the files
abbrev pub IsAheadOfAll : FileRecord → List FileRecord → Type 0
IsAheadOfAll file [] = ⊤
IsAheadOfAll file (other ∷ files) = (is_ahead file other ≡ true) × IsAheadOfAll file files

-- the paths ascend, and no two are the same
abbrev pub AreAscending : List FileRecord → Type 0
AreAscending [] = ⊤
AreAscending (file ∷ files) = IsAheadOfAll file files × AreAscending files

abbrev pub MayBeFound : List FileRecord → FileRecord → Type 0
MayBeFound before file = IsFile file × (is_next is_ahead before file ≡ true)

abbrev pub FilesFit : List FileRecord → Type 0
FilesFit files = IsListOf MayBeFound files

-- ---- final files: each path once

abbrev pub is_final : List FinalRecord → List ℕ → Bool
is_final finals path = list_any (λ (other : FinalRecord). bytes_eq path other.path) finals

abbrev pub MayBeFinal : List FinalRecord → FinalRecord → Type 0
MayBeFinal before written = (IsPath written.path × IsDigest written.digest) × (is_final before written.path ≡ false)

abbrev pub FinalsFit : List FinalRecord → Type 0
FinalsFit finals = IsListOf MayBeFinal finals

-- ---- a capture

abbrev pub CaptureFits : List Asked × List FileRecord → Type 0
CaptureFits kept = AnswersFit kept.0 × FilesFit kept.1
