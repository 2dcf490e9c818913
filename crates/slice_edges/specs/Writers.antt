-- The statements that are noted at locations, and which locations accesses set or change.
use Rattle.std.specs.Prelude.{◌≡◌, ℕ, Bool, true, false, List, [], ◌∷◌, ◌++◌, Option, Some, None, is_some, unwrap_or, if◌then◌else◌}
use Rattle.std.specs.List.{list_any}
use Rattle.std.specs.Map.{lookup}
use Rattle.py_value.specs.declared.access.Access.{Access}
use Rattle.py_value.specs.declared.access.Access.TheVariants.{Read, Set, Update}
use Rattle.py_value.specs.declared.access.Location.{Location}
use Rattle.py_value.specs.contracts.access.LocationPartialEq.TheImpl.{ghosts as locations}
use Rattle.slice_law.specs.Closed.{has}
use Rattle.slice_law.specs.Edges.{from_option}

-- what is noted at a location: nothing, or statements, which may be none
abbrev pub found_at : List (Location × List ℕ) → Location → Option (List ℕ)
found_at entries l = lookup (locations.eq l) entries

abbrev pub is_noted : List (Location × List ℕ) → Location → Bool
is_noted entries l = is_some (found_at entries l)

abbrev pub noted_at : List (Location × List ℕ) → Location → List ℕ
noted_at entries l = unwrap_or (found_at entries l) []

-- a statement behind the others, unless it is there; and the same where there may be none
abbrev pub with_stmt : ℕ → List ℕ → List ℕ
with_stmt s numbers = if has s numbers then numbers else numbers ++ s ∷ []

abbrev pub with_owner : Option ℕ → List ℕ → List ℕ
with_owner None numbers = numbers
with_owner (Some s) numbers = with_stmt s numbers

-- what is noted once a location is set, or changed, by a statement or by none
abbrev pub after_set : Bool → Option ℕ → Option (List ℕ) → Option (List ℕ)
after_set set owner found = if set then Some (from_option owner) else found

abbrev pub after_change : Bool → Option ℕ → Option (List ℕ) → Option (List ℕ)
after_change changed owner found = if changed then Some (with_owner owner (unwrap_or found [])) else found

-- whether an access sets a location, or changes it; and whether one of several does
abbrev pub sets_one : Location → Access → Bool
sets_one l (Set m content) = locations.eq m l
sets_one l (Read m) = false
sets_one l (Update m change) = false

abbrev pub updates_one : Location → Access → Bool
updates_one l (Update m change) = locations.eq m l
updates_one l (Read m) = false
updates_one l (Set m content) = false

abbrev pub sets_in : Location → List Access → Bool
sets_in l accesses = list_any (sets_one l) accesses

abbrev pub updates_in : Location → List Access → Bool
updates_in l accesses = list_any (updates_one l) accesses

-- what was found in a list is there
abbrev pub AreAmong : List ℕ → List ℕ → Type 0
AreAmong numbers known = (s : ℕ) → has s known ≡ true → has s numbers ≡ true
