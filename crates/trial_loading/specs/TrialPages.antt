-- The rows of a kept trial, page by page, or what is amiss of them first (this project's profile).
use Rattle.std.specs.Prelude.{◌≡◌, ℕ, ◌+◌, ◌<◌, ◌⊎◌, List, [], ◌∷◌, ◌++◌, length, map, ⊤}
use Rattle.keeper.specs.Tables.{TablesView}
use Rattle.trace_rows.specs.declared.row.Row.{Row}
use Rattle.trace_rows.specs.RowBytes.{rows_bytes}
use Rattle.trace_rows.specs.Page.{IsPage, IsFirstBad}
use Rattle.row_checks.specs.KeptRows.{AreKeptRows}
use Rattle.trial_tables.specs.Whole.{Check, fine, damaged, page_in}
use Rattle.trial_tables.specs.declared.damage.Damage.{Damage}
use Rattle.trial_tables.specs.declared.damage.Damage.TheVariants.{RowAt}
use Rattle.trial_loading.specs.declared.paged_rows.PagedRows.{PagedRows}

-- the page is there, has its digest, and is one of these rows
abbrev pub HoldsRows : Check (List ℕ) → List Row → Type 0
HoldsRows (fine bytes) rows = IsPage bytes rows
HoldsRows (damaged damage) rows = ⊥

-- This is amiss of the page with this number: it is not there, it has another digest, or a row of it is none.
abbrev pub IsPageDamage : ℕ → Check (List ℕ) → Damage → Type 0
IsPageDamage number (damaged found) damage = damage ≡ found
IsPageDamage number (fine bytes) damage = (byte : ℕ) × (IsFirstBad bytes byte × (damage ≡ RowAt number byte))

-- the pages of a trial from this number on begin with pages of these rows
abbrev pub HoldPages : TablesView → ℕ → ℕ → List (List Row) → Type 0
HoldPages tables trial number [] = ⊤
HoldPages tables trial number (rows ∷ more) = HoldsRows (page_in tables trial number) rows × HoldPages tables trial (number + 1) more

-- the rows of all pages, one behind the other
abbrev pub rows_on : List (List Row) → List Row
rows_on [] = []
rows_on (rows ∷ more) = rows ++ rows_on more

-- The trial has so many pages of rows, and these are their rows, which are kept.
pub record AreRowsOf (tables : TablesView) (trial pages statements : ℕ) (read : PagedRows) : Type 0 where
  pub each : List (List Row)
  pub count : length each ≡ pages
  pub hold : HoldPages tables trial 0 each
  pub rows_are : read.rows ≡ rows_on each
  pub cuts_are : read.cuts.items ≡ map length each
  pub kept : AreKeptRows statements read.rows

-- The pages before hold kept rows, and of the page behind them this is amiss.
pub record IsBadPage (tables : TablesView) (trial pages statements : ℕ) (damage : Damage) : Type 0 where
  pub each : List (List Row)
  pub within : length each < pages
  pub hold : HoldPages tables trial 0 each
  pub kept : AreKeptRows statements (rows_on each)
  pub amiss : IsPageDamage (length each) (page_in tables trial (length each)) damage

-- The pages before, and this one, hold rows. The row with which they are no longer kept is on this page, behind these rows of it.
pub record IsBadRow (tables : TablesView) (trial pages statements : ℕ) (damage : Damage) : Type 0 where
  pub each : List (List Row)
  pub front : List Row
  pub row : Row
  pub behind : List Row
  pub within : length each < pages
  pub hold : HoldPages tables trial 0 (each ++ (front ++ row ∷ behind) ∷ [])
  pub kept : AreKeptRows statements (rows_on each ++ front)
  pub unkept : AreKeptRows statements (rows_on each ++ front ++ row ∷ []) → ⊥
  pub is_there : damage ≡ RowAt (length each) (length (rows_bytes front))

-- This is amiss first of the rows of a trial that has so many pages, and whose script has so many statements.
abbrev pub IsRowDamage : TablesView → ℕ → ℕ → ℕ → Damage → Type 0
IsRowDamage tables trial pages statements damage = IsBadPage tables trial pages statements damage ⊎ IsBadRow tables trial pages statements damage
