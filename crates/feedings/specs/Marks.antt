-- No public clause cites this file.
-- Marks by time, and flags by location, as the two passes over rows keep them.
use Rattle.std.specs.Prelude.{ℕ, ◌==◌, ◌||◌, Bool, false, List, [], ◌∷◌, length, slice_index_or, Option, Some, None, unwrap_or, if◌then◌else◌}
use Rattle.std.specs.Map.{lookup}
use Rattle.py_value.specs.declared.access.Access.{Access}
use Rattle.py_value.specs.declared.access.Access.TheVariants.{Read, Set, Update}
use Rattle.py_value.specs.declared.access.Location.{Location}
use Rattle.py_value.specs.contracts.access.LocationPartialEq.TheImpl.{ghosts as locations}
use Rattle.trace_rows.specs.declared.row.Row.{Row}
use Rattle.trace_rows.specs.declared.row.Row.TheVariants.{Text, Tuple, Begin, Do, Enter, Leave, End}

abbrev pub mark_at : List Bool → ℕ → Bool
mark_at marks time = slice_index_or marks time false

abbrev pub some_marked : (ℕ → Bool) → List ℕ → Bool
some_marked marks [] = false
some_marked marks (time ∷ times) = marks time || some_marked marks times

abbrev pub flag_at : List (Location × Bool) → Location → Bool
flag_at entries l = unwrap_or (lookup (locations.eq l) entries) false

-- the accesses of the moment that a row tells, if it tells one
abbrev pub accesses_in : Row → Option (List Access)
accesses_in (Text text) = None
accesses_in (Tuple parts) = None
accesses_in (Begin statement) = Some []
accesses_in (Do at op values answer made accesses weight) = Some accesses
accesses_in (Enter call def values accesses) = Some accesses
accesses_in (Leave v) = Some []
accesses_in (End how) = Some []

-- whether an access reads a location that passes, or writes one; and whether one of several does
abbrev pub reads_one : (Location → Bool) → Access → Bool
reads_one test (Read m) = test m
reads_one test (Set m content) = false
reads_one test (Update m change) = false

abbrev pub reads_some : (Location → Bool) → List Access → Bool
reads_some test [] = false
reads_some test (access ∷ accesses) = reads_one test access || reads_some test accesses

abbrev pub writes_one : (Location → Bool) → Access → Bool
writes_one test (Read m) = false
writes_one test (Set m content) = test m
writes_one test (Update m change) = test m

abbrev pub writes_some : (Location → Bool) → List Access → Bool
writes_some test [] = false
writes_some test (access ∷ accesses) = writes_one test access || writes_some test accesses

-- the flag of a location after an access, and after several: a Set gives it a flag, and an Update adds one
abbrev pub after_access : Bool → Location → Access → Bool → Bool
after_access flag l (Read m) old = old
after_access flag l (Set m content) old = if locations.eq m l then flag else old
after_access flag l (Update m change) old = if locations.eq m l then flag || old else old

abbrev pub after_all : Bool → Location → List Access → Bool → Bool
after_all flag l [] old = old
after_all flag l (access ∷ accesses) old = after_all flag l accesses (after_access flag l access old)

-- whether one of several accesses reads, sets or changes a location
abbrev pub reads_in : Location → List Access → Bool
reads_in l accesses = reads_some (λ m. locations.eq m l) accesses

-- The mark of the next moment, forward: it is the one at a time, or a marked one passes to it, or it reads a location with a flag.
abbrev pub next_mark : ℕ → List Bool → List (Location × Bool) → List ℕ → List Access → Bool
next_mark time marks entries times accesses = (length marks == time) || (some_marked (mark_at marks) times || reads_some (flag_at entries) accesses)

-- The mark of a moment, backward: it has one, or it writes a location with a flag.
abbrev pub mark_back : ℕ → List Bool → List (Location × Bool) → List Access → Bool
mark_back time marks entries accesses = mark_at marks time || writes_some (flag_at entries) accesses
