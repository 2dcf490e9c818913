-- Lines at the front of the bytes that a source has left.
use Rattle.std.specs.Prelude.{◌≡◌, ◌≢◌, ◌<◌, ◌≤◌, ◌+◌, ◌⊎◌, ℕ, Bool, true, false, List, [], ◌∷◌, ◌++◌, length, take, drop, Option, Some, None, Result, Ok, Err}
use Rattle.std.specs.Io.KnownBytes.{IsAtEnd}
pub use Rattle.prov_outside.specs.Console.{IsLine}
use Rattle.prov_outside.specs.declared.trouble.Trouble.{Trouble}
use Rattle.prov_outside.specs.declared.trouble.Trouble.TheVariants.{Failed, Memory}

-- The line stood at the front with an LF behind it, or it was all that was left, and not empty.
abbrev pub TakesLine : List ℕ → List ℕ → List ℕ → Type 0
TakesLine line before after = (before ≡ line ++ 10 ∷ after) ⊎ ((before ≡ line) × (after ≡ []) × (line ≢ []))

-- No line is given only where nothing is left, and a refusal takes nothing.
abbrev pub ReadsLine : Result (Option (List ℕ)) Trouble → List ℕ → List ℕ → Type 0
ReadsLine (Ok (Some line)) before after = IsLine line × TakesLine line before after
ReadsLine (Ok None) before after = (before ≡ []) × (after ≡ [])
ReadsLine (Err trouble) before after = after ≡ before

-- The fact holds of the known bytes, which stay known.
abbrev pub WhereKnown : Option (List ℕ) → Option (List ℕ) → (List ℕ → List ℕ → Type 0) → Type 0
WhereKnown None after P = Unit {0}
WhereKnown (Some before) None P = ⊥
WhereKnown (Some before) (Some after) P = P before after

-- more bytes stand there than the longest line has, with no LF among the first of them
pub record IsTooLong (longest : ℕ) (bytes : List ℕ) : Type 0 where
  pub more : longest < length bytes
  pub line : IsLine (take (longest + 1) bytes)

-- A line that ends within the bytes read so far is taken from them with its LF. It is refused only where it is too long, whatever
-- stands behind it.
abbrev pub GivesWholeLine : ℕ → Result (Option (List ℕ)) Trouble → List ℕ → List ℕ → Type 0
GivesWholeLine longest (Ok (Some line)) before after = IsLine line × (length line ≤ longest) × (before ≡ line ++ 10 ∷ after)
GivesWholeLine longest (Ok None) before after = IsLine before × (after ≡ before)
GivesWholeLine longest (Err Failed) before after = IsTooLong longest before × (after ≡ before)
GivesWholeLine longest (Err Memory) before after = after ≡ before

-- all that is left is the line
abbrev pub GivesLastLine : Option (List ℕ) → List ℕ → List ℕ → Type 0
GivesLastLine None before after = (before ≡ []) × (after ≡ [])
GivesLastLine (Some line) before after = (before ≡ line) × (after ≡ []) × (line ≢ [])

-- more bytes stand there, or the source is at its end
abbrev pub Grows : List ℕ → List ℕ → Option (List ℕ) → Bool → Type 0
Grows before after left true = length before < length after
Grows before after left false = (after ≡ before) × IsAtEnd left

-- the place of the first LF
abbrev pub IsLineFeed : List ℕ → Option ℕ → Type 0
IsLineFeed bytes None = IsLine bytes
IsLineFeed bytes (Some at) = (at < length bytes) × IsLine (take at bytes) × (drop at bytes ≡ 10 ∷ drop (at + 1) bytes)

-- of the bytes from the start on, the first that were searched hold no LF
pub record IsSearched (bytes : List ℕ) (start searched : ℕ) : Type 0 where
  pub begun : start ≤ length bytes
  pub within : searched ≤ length (drop start bytes)
  pub line : IsLine (take searched (drop start bytes))
