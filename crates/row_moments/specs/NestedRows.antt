-- Rows that nest as brackets (this project's profile).
use Rattle.std.specs.Prelude.{◌≡◌, ℕ, true, List, [], take, slice_get, Some}
use Rattle.trace_rows.specs.declared.row.Row.{Row}
use Rattle.row_checks.specs.Nesting.{open_behind, closes}

-- each End closes the innermost statement, and each Leave the innermost activation
abbrev pub AreNested : List Row → Type 0
AreNested rows = (i : ℕ) (row : Row) → slice_get rows i ≡ Some row → closes (open_behind [] (take i rows)) row ≡ true
