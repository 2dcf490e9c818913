-- Occurrences of statements by the numbers of rows (this project's profile). A row tells a moment, and the rows before it the moments before.
use Rattle.std.specs.Prelude.{◌≡◌, ◌<◌, ℕ, zero, suc, ◌==◌, ◌&&◌, ◌||◌, Bool, false, List, [], ◌∷◌, ◌++◌, length, reverse, take, slice_get, slice_index_or, Option, Some, None, is_some, if◌then◌else◌}
use Rattle.py_model.specs.Moment.{Moment}
use Rattle.py_model.specs.Occurrences.{Occurrence, Frame, frames_after, block_parent, activation_parent, owner_stmt}
use Rattle.row_checks.specs.KeptRows.{view_in}
use Rattle.row_moments.specs.Moments.{moments_by}
use Rattle.trace_rows.specs.declared.row.Row.{Row}
use Rattle.trace_rows.specs.declared.row.Row.TheVariants.{Begin, Do, Enter}
use Rattle.row_moments.specs.declared.index.Index.{Index}

-- the moments that the rows before a row tell, the latest first, and what is open there
abbrev pub told_before : List Row → ℕ → List Moment
told_before rows i = moments_by (view_in rows) (reverse (take i rows))

abbrev pub frames_before : List Row → ℕ → List Frame
frames_before rows i = frames_after (told_before rows i)

-- the row numbers below a bound that pass a test, in order
abbrev pub with_row : Bool → ℕ → List ℕ → List ℕ
with_row passes i numbers = if passes then numbers ++ i ∷ [] else numbers

abbrev pub rows_where : (ℕ → Bool) → ℕ → List ℕ
rows_where test zero = []
rows_where test (suc i) = with_row (test i) i (rows_where test i)

-- the statement that a row begins
abbrev pub begun : Option Row → Option ℕ
begun (Some (Begin s)) = Some s
begun other = None

abbrev pub is_number : ℕ → Option ℕ → Bool
is_number n None = false
is_number n (Some m) = m == n

-- the rows that begin a statement
abbrev pub occurrences_in : List Row → ℕ → List ℕ
occurrences_in rows s = rows_where (λ i. is_number s (begun (slice_get rows i))) (length rows)

-- A statement that begins now is a child of the occurrence that began at a time: of its block, or of an activation that it entered.
abbrev pub began_at : ℕ → Option Occurrence → Bool
began_at time None = false
began_at time (Some o) = o.began == time

abbrev pub is_child_of : ℕ → List Frame → Bool
is_child_of time frames = began_at time (block_parent frames) || began_at time (activation_parent frames)

-- the rows that begin the children of the occurrence which a row begins
abbrev pub children_in : List Row → ℕ → List ℕ
children_in rows b = rows_where (λ i. is_some (begun (slice_get rows i)) && is_child_of (length (told_before rows b)) (frames_before rows i)) (length rows)

-- the statement whose own moment a row tells: a Do and an Enter are such moments
abbrev pub owner_at : Option Row → List Moment → Option ℕ
owner_at (Some (Do at op values answer made accesses weight)) told = owner_stmt told
owner_at (Some (Enter call def values accesses)) told = owner_stmt told
owner_at other told = None

abbrev pub owner_in : List Row → ℕ → Option ℕ
owner_in rows i = owner_at (slice_get rows i) (told_before rows i)

-- The index has, of these rows: for each statement of the script the rows that begin it, for each row that begins a statement its children,
-- and for each row its owner.
pub record IsIndexOf (statements : ℕ) (rows : List Row) (index : Index) : Type 0 where
  pub occurrences : (s : ℕ) → s < statements → slice_index_or index.occurrences.items s [] ≡ occurrences_in rows s
  pub children : (b s : ℕ) → begun (slice_get rows b) ≡ Some s → slice_index_or index.children.items b [] ≡ children_in rows b
  pub owners : (i : ℕ) → i < length rows → slice_index_or index.owners.items i None ≡ owner_in rows i
