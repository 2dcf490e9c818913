-- How many of the statements at a location each statement asked for already.
use Rattle.std.specs.Prelude.{◌≡◌, ℕ, ◌==◌, ◌≤◌, true, List, [], length, take, unwrap_or}
use Rattle.std.specs.Map.{lookup}
use Rattle.py_tree.specs.Tree.{ScriptTree}
use Rattle.py_value.specs.declared.access.Location.{Location}
use Rattle.py_value.specs.contracts.access.LocationPartialEq.TheImpl.{ghosts as locations}
use Rattle.slice_law.specs.Closed.{has}
use Rattle.slice_edges.specs.declared.ask.Ask.{Ask}
use Rattle.slice_edges.specs.declared.memo.Memo.{Memo}
use Rattle.slice_law.specs.Edges.{by_data}
use Rattle.slice_edges.specs.Asks.{among_by}
use Rattle.slice_edges.specs.Binder.{AreBinders}
use Rattle.slice_edges.specs.Writers.{noted_at}

abbrev pub count_in : List (ℕ × ℕ) → ℕ → ℕ
count_in entries asker = unwrap_or (lookup (λ other. asker == other) entries) 0

abbrev pub count_at : List (Location × List (ℕ × ℕ)) → Location → ℕ → ℕ
count_at entries l asker = count_in (unwrap_or (lookup (locations.eq l) entries) []) asker

-- of the statements at each location, each statement asked for the first so many, for data
abbrev pub AreCounted : List Ask → List (Location × List ℕ) → List (Location × List (ℕ × ℕ)) → Type 0
AreCounted asks entries counts = (l : Location) (asker : ℕ)
    → (count_at counts l asker ≤ length (noted_at entries l)) × ((r : ℕ) → has r (take (count_at counts l asker) (noted_at entries l)) ≡ true → among_by asks by_data asker r ≡ true)

-- What need not be sought or asked for again is right: binders that were found, and what was asked for.
pub record IsRight (script : ScriptTree) (texts : List (List ℕ)) (asks : List Ask) (entries : List (Location × List ℕ)) (memo : Memo) : Type 0 where
  pub binders : AreBinders script texts memo.binders.entries
  pub counted : AreCounted asks entries memo.counts.entries
