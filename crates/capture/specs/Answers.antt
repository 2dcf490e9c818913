-- Kept answers (this project's profile): what was asked and given, by the place of the call and the number of the asking there.
use Rattle.std.specs.Prelude.{◌≡◌, ℕ, ◌+◌, ◌<◌, Bool, true, false, ◌&&◌, ◌⊎◌, nat_eq, List, Option, Some, None, find, slice_get, if◌then◌else◌}
use Rattle.std.specs.List.{list_any}
use Rattle.prov_base.specs.declared.place.Pos.{Pos}
use Rattle.prov_base.specs.contracts.place.PosPartialEq.TheImpl.{ghosts as places}
use Rattle.capture.specs.declared.answer.Ask.{Ask as Question}
use Rattle.capture.specs.declared.answer.Ask.TheVariants.{Time, Word, Line}
use Rattle.capture.specs.declared.answer.Given.{Given}
use Rattle.capture.specs.declared.answer.Given.TheVariants.{Number, Word as WordGiven, Line as LineGiven, End, Failed}
use Rattle.capture.specs.declared.answer.Asked.{Asked}

-- the answer is kept under this place and number
abbrev pub is_under : Pos → ℕ → Asked → Bool
is_under at k asked = places.eq at asked.at && nat_eq k asked.k

-- the answer that is kept under a place and a number
abbrev pub answer_at : List Asked → Pos → ℕ → Option Asked
answer_at answers at k = find (is_under at k) answers

-- something is kept under the place and the number
abbrev pub is_kept : List Asked → Pos → ℕ → Bool
is_kept answers at k = list_any (is_under at k) answers

-- both ask for the same
abbrev pub is_same : Question → Question → Bool
is_same Time Time = true
is_same Word Word = true
is_same Line Line = true
is_same Time Word = false
is_same Time Line = false
is_same Word Time = false
is_same Word Line = false
is_same Line Time = false
is_same Line Word = false

-- what was given, where this was asked
abbrev pub given_if : Question → Option Asked → Option Given
given_if what None = None
given_if what (Some asked) = if is_same what asked.what then Some asked.given else None

-- what is kept as given to this question, under a place and a number
abbrev pub given_at : List Asked → Question → Pos → ℕ → Option Given
given_at answers what at k = given_if what (answer_at answers at k)

-- The number of the last answer that is kept at the place: nothing is kept there under a greater one. It is 0 where
-- nothing is kept there.
pub record IsLast (answers : List Asked) (at : Pos) (last : ℕ) : Type 0 where
  pub none_later : (k : ℕ) → last < k → is_kept answers at k ≡ false
  pub reached : (last ≡ 0) ⊎ (is_kept answers at last ≡ true)

-- the number of the next answer at the place: one more than the last
abbrev pub IsNext : List Asked → Pos → ℕ → Type 0
IsNext answers at k = (last : ℕ) × IsLast answers at last × (k ≡ last + 1)

-- the answer stands before the other: by line, on one line by column, and at one place by number
abbrev pub IsEarlier : Asked → Asked → Type 0
IsEarlier a b = (a.at.line < b.at.line) ⊎ ((a.at.line ≡ b.at.line) × ((a.at.col < b.at.col) ⊎ ((a.at.col ≡ b.at.col) × (a.k < b.k))))

-- each answer stands before the next one
abbrev pub AreInOrder : List Asked → Type 0
AreInOrder answers = (i : ℕ) (a b : Asked) → slice_get answers i ≡ Some a → slice_get answers (i + 1) ≡ Some b → IsEarlier a b

-- no two answers have the same place and number
abbrev pub AreOnce : List Asked → Type 0
AreOnce answers = (i j : ℕ) (a b : Asked) → slice_get answers i ≡ Some a → slice_get answers j ≡ Some b → a.at ≡ b.at → a.k ≡ b.k → i ≡ j

-- what may be given to a question
abbrev pub Fits : Question → Given → Type 0
Fits Time (Number time) = Unit {0}
Fits Word (WordGiven word) = Unit {0}
Fits Line (LineGiven line) = Unit {0}
Fits Line End = Unit {0}
Fits what Failed = Unit {0}
Fits Time (WordGiven word) = ⊥
Fits Time (LineGiven line) = ⊥
Fits Time End = ⊥
Fits Word (Number time) = ⊥
Fits Word (LineGiven line) = ⊥
Fits Word End = ⊥
Fits Line (Number time) = ⊥
Fits Line (WordGiven word) = ⊥
