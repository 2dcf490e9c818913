-- What bytes a page is, and where bytes stop being one (this project's profile).
use Rattle.std.specs.Prelude.{◌≡◌, ◌<◌, ◌≤◌, ℕ, List, ◌++◌, length, Result, Ok, Err, ⊤}
use Rattle.trace_rows.specs.declared.fault.PageFault.{PageFault}
use Rattle.trace_rows.specs.declared.fault.PageFault.TheVariants.{BadRow, Memory}
use Rattle.trace_rows.specs.declared.row.Row.{Row}
use Rattle.trace_rows.specs.RowBytes.{rows_bytes, AreRows}

-- the bytes are a page of these rows
pub record IsPage (bytes : List ℕ) (rows : List Row) : Type 0 where
  pub spelled : bytes ≡ rows_bytes rows
  pub are_rows : AreRows rows

-- a front of the bytes is a page of these rows
pub record BeginsWith (bytes : List ℕ) (rows : List Row) : Type 0 where
  pub behind : List ℕ
  pub spelled : bytes ≡ rows_bytes rows ++ behind
  pub are_rows : AreRows rows

-- The first row that is none starts here: the longest front that is rows ends here, and more bytes follow.
pub record IsFirstBad (bytes : List ℕ) (place : ℕ) : Type 0 where
  pub rows : List Row
  pub begins : BeginsWith bytes rows
  pub ends : length (rows_bytes rows) ≡ place
  pub longest : (others : List Row) → BeginsWith bytes others → length (rows_bytes others) ≤ place
  pub goes_on : place < length bytes

-- What a page was decoded as. Out of memory says nothing.
abbrev pub Decodes : List ℕ → Result (List Row) PageFault → Type 0
Decodes bytes (Ok rows) = IsPage bytes rows
Decodes bytes (Err (BadRow place)) = IsFirstBad bytes place
Decodes bytes (Err Memory) = ⊤

-- It was decoded as these rows, unless memory ran out.
abbrev pub IsDecodedAs : List Row → Result (List Row) PageFault → Type 0
IsDecodedAs rows (Ok others) = others ≡ rows
IsDecodedAs rows (Err (BadRow place)) = ⊥
IsDecodedAs rows (Err Memory) = ⊤
