-- No public clause cites this file.
-- Pages that were gathered, and what ended that. It is the proof's means; no public clause speaks of it.
use Rattle.std.specs.Prelude.{◌≡◌, ℕ, ◌<◌, List, length, map, Option, Some, None, Result, Ok, Err, ⊤}
use Rattle.keeper.specs.Tables.{TablesView}
use Rattle.trace_rows.specs.declared.row.Row.{Row}
use Rattle.trace_rows.specs.Page.{IsPage}
use Rattle.trial_tables.specs.Whole.{Check, fine, damaged, page_in}
use Rattle.trial_tables.specs.declared.damage.Damage.{Damage}
use Rattle.trial_tables.specs.declared.read_fault.ReadFault.{ReadFault}
use Rattle.trial_tables.specs.declared.read_fault.ReadFault.TheVariants.{Damaged, Keeper, Memory}
use Rattle.trial_loading.specs.declared.gathering.OnePage.{OnePage}
use Rattle.trial_loading.specs.declared.gathering.Gathered.{Gathered}
use Rattle.trial_loading.specs.TrialPages.{HoldPages, IsPageDamage, rows_on}

-- these bytes are so many rows
abbrev pub AreSoMany : List ℕ → ℕ → Type 0
AreSoMany bytes count = (rows : List Row) × (IsPage bytes rows × (length rows ≡ count))

abbrev pub CountsRows : ℕ → List ℕ → Result ℕ ReadFault → Type 0
CountsRows number bytes (Ok count) = AreSoMany bytes count
CountsRows number bytes (Err (Damaged damage)) = IsPageDamage number (fine bytes) damage
CountsRows number bytes (Err Keeper) = ⊥
CountsRows number bytes (Err Memory) = ⊤

-- the page is there, with its digest, and is so many rows
abbrev pub IsOnePage : Check (List ℕ) → OnePage → Type 0
IsOnePage (fine bytes) page = (page.bytes ≡ bytes) × AreSoMany bytes page.count
IsOnePage (damaged damage) page = ⊥

-- the first pages of a trial, with all their bytes and how many rows each has
pub record IsFront (tables : TablesView) (trial number : ℕ) (bytes cuts : List ℕ) : Type 0 where
  pub each : List (List Row)
  pub count : length each ≡ number
  pub hold : HoldPages tables trial 0 each
  pub is_page : IsPage bytes (rows_on each)
  pub cuts_are : cuts ≡ map length each

-- all pages were gathered, or this is amiss of the next
abbrev pub Ends : TablesView → ℕ → ℕ → ℕ → Option Damage → Type 0
Ends tables trial pages number None = number ≡ pages
Ends tables trial pages number (Some damage) = (number < pages) × IsPageDamage number (page_in tables trial number) damage

abbrev pub IsGathered : TablesView → ℕ → ℕ → Gathered → Type 0
IsGathered tables trial pages gathered =
    (number : ℕ) × (IsFront tables trial number gathered.bytes.items gathered.cuts.items × Ends tables trial pages number gathered.ended)
