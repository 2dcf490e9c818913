-- The bytes of a trace's rows (this project's profile). A row begins with a byte that tells its kind.
use Rattle.std.specs.Prelude.{◌≡◌, ℕ, true, List, [], ◌∷◌, ◌++◌, ⊤}
use Rattle.py_model.specs.Told.{is_operation}
use Rattle.row_words.specs.Bytes.{number_bytes, place_bytes, text_bytes, value_bytes, values_bytes, each_bytes}
use Rattle.row_words.specs.Fits.{IsShort, IsPlace, IsText, IsValue, AreValues, IsMade, Each}
use Rattle.row_words.specs.AccessBytes.{accesses_bytes, AreAccesses}
use Rattle.trace_rows.specs.PartBytes.{how_byte, deed_bytes, outcome_bytes, touches_bytes, IsAnswer}
use Rattle.trace_rows.specs.declared.row.Row.{Row}
use Rattle.trace_rows.specs.declared.row.Row.TheVariants.{Text, Tuple, Begin, Do, Enter, Leave, End}

abbrev pub row_bytes : Row → List ℕ
row_bytes (Text text) = 1 ∷ text_bytes text
row_bytes (Tuple parts) = 2 ∷ values_bytes parts
row_bytes (Begin statement) = 3 ∷ number_bytes statement
row_bytes (Do at op values answer made accesses weight) =
    4 ∷ deed_bytes at op ++ (values_bytes values ++ (outcome_bytes answer made ++ touches_bytes accesses weight))
row_bytes (Enter call def values accesses) = 5 ∷ place_bytes call ++ (place_bytes def ++ (values_bytes values ++ accesses_bytes accesses))
row_bytes (Leave v) = 6 ∷ value_bytes v
row_bytes (End how) = 7 ∷ how_byte how ∷ []

-- the rows of a page, one behind the other
abbrev pub rows_bytes : List Row → List ℕ
rows_bytes rows = each_bytes row_bytes rows

-- ---- Numbers in range, the number of an operation, contents and changes of their locations' own kinds.

abbrev pub IsRow : Row → Type 0
IsRow (Text text) = IsText text
IsRow (Tuple parts) = AreValues parts
IsRow (Begin statement) = IsShort statement
IsRow (Do at op values answer made accesses weight) =
    (IsPlace at × (is_operation op ≡ true)) × (AreValues values × ((IsAnswer answer × IsMade made) × (AreAccesses accesses × IsShort weight)))
IsRow (Enter call def values accesses) = IsPlace call × (IsPlace def × (AreValues values × AreAccesses accesses))
IsRow (Leave v) = IsValue v
IsRow (End how) = ⊤

abbrev pub AreRows : List Row → Type 0
AreRows rows = Each IsRow rows
