-- No public clause cites this file.
-- Rows, read from the front. It is the proof's means; no public clause speaks of it.
use Rattle.std.specs.Prelude.{◌≡◌, ℕ, ◌==◌, List, Option, Some, None, Result, Ok, Err, if◌then◌else◌, ⊤}
use Rattle.prov_base.specs.declared.place.Pos.{Pos}
use Rattle.py_value.specs.declared.access.Access.{Access}
use Rattle.py_value.specs.declared.access.Kind.{Kind}
use Rattle.py_value.specs.declared.value.Value.{Value}
use Rattle.py_model.specs.declared.moment.Answer.{Answer}
use Rattle.row_words.specs.Reading.{both, into, tagged, short_at, place_at, text_at, value_at}
use Rattle.trace_rows.specs.PartReading.{how_at, values_at, accesses_at, deed_at, outcome_at, touches_at}
use Rattle.trace_rows.specs.declared.row.Row.{Row}
use Rattle.trace_rows.specs.declared.row.Row.TheVariants.{Text, Tuple, Begin, Do, Enter, Leave, End}
use Rattle.trace_rows.specs.declared.fault.PageFault.{PageFault}
use Rattle.trace_rows.specs.declared.fault.PageFault.TheVariants.{BadRow, Memory}
use Rattle.trace_rows.specs.declared.tags.RowTag.{RowTag}
use Rattle.trace_rows.specs.declared.tags.RowTag.TheVariants.{Text as TextRow, Tuple as TupleRow, Begin as BeginRow, Do as DoRow, Enter as EnterRow, Leave as LeaveRow, End as EndRow}

abbrev pub made_do : (Pos × ℕ) × (List Value × ((Answer × Option Kind) × (List Access × ℕ))) → Row
made_do p = Do p.0.0 p.0.1 p.1.0 p.1.1.0.0 p.1.1.0.1 p.1.1.1.0 p.1.1.1.1

abbrev pub made_enter : Pos × (Pos × (List Value × List Access)) → Row
made_enter p = Enter p.0 p.1.0 p.1.1.0 p.1.1.1

abbrev pub row_tag : ℕ → Option RowTag
row_tag b =
    if b == 1 then Some TextRow else if b == 2 then Some TupleRow else if b == 3 then Some BeginRow else if b == 4 then Some DoRow
    else if b == 5 then Some EnterRow else if b == 6 then Some LeaveRow else if b == 7 then Some EndRow else None

unfoldable pub row_behind : RowTag → List ℕ → Option (Row × List ℕ)
row_behind TextRow rest = into Text (text_at rest)
row_behind TupleRow rest = into Tuple (values_at rest)
row_behind BeginRow rest = into Begin (short_at rest)
row_behind DoRow rest = into made_do (both deed_at (both values_at (both outcome_at touches_at)) rest)
row_behind EnterRow rest = into made_enter (both place_at (both place_at (both values_at accesses_at)) rest)
row_behind LeaveRow rest = into Leave (value_at rest)
row_behind EndRow rest = into End (how_at rest)

unfoldable pub row_at : List ℕ → Option (Row × List ℕ)
row_at bytes = tagged row_tag row_behind bytes

-- a row was read here, or none stands here
abbrev pub Misses : ℕ → PageFault → Option (Row × List ℕ) → Type 0
Misses place (BadRow at) read = (at ≡ place) × (read ≡ None)
Misses place Memory read = ⊤

abbrev pub GivesRow : {X : Type 0} → ℕ → (X → Row × List ℕ) → Result X PageFault → Option (Row × List ℕ) → Type 0
GivesRow place view (Ok x) read = read ≡ Some (view x)
GivesRow place view (Err fault) read = Misses place fault read
