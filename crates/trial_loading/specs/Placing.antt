-- No public clause cites this file.
-- Where rows stand on pages, and which of them may not stand there. It is the proof's means; no public clause speaks of it.
use Rattle.std.specs.Prelude.{◌≡◌, ℕ, ◌+◌, ◌-◌, ◌≤◌, ltb, List, [], ◌∷◌, ◌++◌, length, map, take, drop, Option, Some, None, Result, Ok, Err, if◌then◌else◌, ⊤}
use Rattle.trace_rows.specs.declared.row.Row.{Row}
use Rattle.trace_rows.specs.RowBytes.{rows_bytes}
use Rattle.row_checks.specs.KeptRows.{AreKeptRows}
use Rattle.trial_tables.specs.declared.damage.Damage.{Damage}
use Rattle.trial_tables.specs.declared.damage.Damage.TheVariants.{RowAt}
use Rattle.trial_tables.specs.declared.read_fault.ReadFault.{ReadFault}
use Rattle.trial_tables.specs.declared.read_fault.ReadFault.TheVariants.{Damaged, Keeper, Memory}
use Rattle.trial_loading.specs.declared.paged_rows.PagedRows.{PagedRows}
use Rattle.trial_loading.specs.TrialPages.{rows_on}

-- the page of a row, from this one on, and how many rows of the page stand before it
abbrev pub place_from : ℕ → List ℕ → ℕ → Option (ℕ × ℕ)
place_from page [] row = None
place_from page (count ∷ more) row = if ltb row count then Some (page, row) else place_from (page + 1) more (row - count)

-- the damage of the row with this number
abbrev pub IsDamageAt : List Row → List ℕ → ℕ → Damage → Type 0
IsDamageAt rows cuts row damage =
    (page : ℕ) × (left : ℕ) × (place_from 0 cuts row ≡ Some (page, left)) × (left ≤ row) × (damage ≡ RowAt page (length (rows_bytes (drop (row - left) (take row rows)))))

-- the first of the rows on these pages that may not stand there
pub record IsBadOf (statements : ℕ) (each : List (List Row)) (damage : Damage) : Type 0 where
  pub before : List (List Row)
  pub front : List Row
  pub row : Row
  pub behind : List Row
  pub after : List (List Row)
  pub pages_are : each ≡ before ++ (front ++ row ∷ behind) ∷ after
  pub kept : AreKeptRows statements (rows_on before ++ front)
  pub unkept : AreKeptRows statements (rows_on before ++ front ++ row ∷ []) → ⊥
  pub is_there : damage ≡ RowAt (length before) (length (rows_bytes front))

-- what the rows on these pages are found to be
abbrev pub Judges : ℕ → List (List Row) → Result PagedRows ReadFault → Type 0
Judges statements each (Ok read) = (read.rows ≡ rows_on each) × ((read.cuts.items ≡ map length each) × AreKeptRows statements (rows_on each))
Judges statements each (Err (Damaged damage)) = IsBadOf statements each damage
Judges statements each (Err Keeper) = ⊥
Judges statements each (Err Memory) = ⊤
