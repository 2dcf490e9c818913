-- No public clause cites this file.
-- What the index knows after so many rows.
use Rattle.std.specs.Prelude.{◌≡◌, ◌<◌, ℕ, ◌&&◌, Bool, List, [], length, slice_get, slice_index_or, Option, Some, None, is_some}
use Rattle.trace_rows.specs.declared.row.Row.{Row}
use Rattle.trace_rows.specs.declared.row.Row.TheVariants.{Begin}
use Rattle.row_moments.specs.declared.index.Index.{Index}
use Rattle.row_moments.specs.declared.places.Place.{Place}
use Rattle.row_moments.specs.IndexPlaces.{inner_row, after_row, places_before, owner_by}
use Rattle.row_moments.specs.RowOccurrences.{begun, is_number, with_row, rows_where}

abbrev pub list_at : List (List ℕ) → ℕ → List ℕ
list_at lists i = slice_index_or lists i []

-- a row begins a statement, and the innermost one that is open began at another
abbrev pub has_parent : List Row → ℕ → ℕ → Bool
has_parent rows b i = is_some (begun (slice_get rows i)) && is_number b (inner_row (places_before rows i))

pub record KnowsRows (statements : ℕ) (rows : List Row) (i : ℕ) (index : Index) (places : List (Option Place)) : Type 0 where
  pub places_are : places ≡ places_before rows i
  pub many : length index.occurrences.items ≡ statements
  pub passed : length index.children.items ≡ i
  pub owned : length index.owners.items ≡ i
  pub occurrences : (s : ℕ) → s < statements → list_at index.occurrences.items s ≡ rows_where (λ j. is_number s (begun (slice_get rows j))) i
  pub children : (b : ℕ) → b < i → list_at index.children.items b ≡ rows_where (has_parent rows b) i
  pub owners : (j : ℕ) → j < i → slice_index_or index.owners.items j None ≡ owner_by (slice_get rows j) (places_before rows j)

-- A row is put behind the rows that begin a statement, and behind the children of what is innermost, wherever it begins a statement.
pub record HasGone (old : Index) (places : List (Option Place)) (row : Row) (at : ℕ) (new : Index) (next : List (Option Place)) : Type 0 where
  pub places_are : next ≡ after_row (Some row) at places
  pub owners : new.owners.items ≡ old.owners.items
  pub many : length new.occurrences.items ≡ length old.occurrences.items
  pub passed : length new.children.items ≡ length old.children.items
  pub occurrences : (s : ℕ) → s < length old.occurrences.items → list_at new.occurrences.items s ≡ with_row (is_number s (begun (Some row))) at (list_at old.occurrences.items s)
  pub children : (b : ℕ) → b < length old.children.items
      → list_at new.children.items b ≡ with_row (is_some (begun (Some row)) && is_number b (inner_row places)) at (list_at old.children.items b)

abbrev pub HasBegun : Index → List (Option Place) → ℕ → ℕ → Index → List (Option Place) → Type 0
HasBegun old places stmt at new next = HasGone old places (Begin stmt) at new next
