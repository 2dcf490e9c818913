-- No public clause cites this file.
-- What the two passes over rows have found after so many moments.
use Rattle.std.specs.Prelude.{◌≡◌, ◌<◌, ◌≤◌, ◌⊎◌, ℕ, Bool, true, List, ◌++◌, length}
use Rattle.py_tree.specs.Tree.{ScriptTree}
use Rattle.py_value.specs.declared.access.Location.{Location}
use Rattle.py_value.specs.Seen.{location_seen, IsNamedLocation}
use Rattle.py_value.specs.Values.{ValuesView}
use Rattle.py_model.specs.Moment.{Moment}
use Rattle.py_model.specs.Occurrences.{reach}
use Rattle.slice_law.specs.Closed.{has}
use Rattle.feedings.specs.Feeding.{feeds}
use Rattle.feedings.specs.Marks.{mark_at, some_marked, flag_at}

-- a mark at a time, and wherever a mark feeds
pub record AreForward (script : ScriptTree) (told : List Moment) (time : ℕ) (marks : ℕ → Bool) : Type 0 where
  pub own : time < length told → marks time ≡ true
  pub spread : (x y : ℕ) → feeds script told x y ≡ true → marks x ≡ true → marks y ≡ true
  pub only : (y : ℕ) → marks y ≡ true → (y ≡ time) ⊎ ((x : ℕ) × (marks x ≡ true) × (feeds script told x y ≡ true))

-- a mark at a time, and wherever a mark is fed from
pub record AreBackward (script : ScriptTree) (told : List Moment) (time : ℕ) (marks : ℕ → Bool) : Type 0 where
  pub own : time < length told → marks time ≡ true
  pub spread : (x y : ℕ) → feeds script told x y ≡ true → marks y ≡ true → marks x ≡ true
  pub only : (x : ℕ) → marks x ≡ true → (x ≡ time) ⊎ ((y : ℕ) × (marks y ≡ true) × (feeds script told x y ≡ true))

-- After moments there is a mark for each, and a location has a flag where one of its reach is marked.
pub record HasMarked (view : ValuesView) (script : ScriptTree) (time : ℕ) (told : List Moment) (marks : List Bool) (entries : List (Location × Bool)) : Type 0 where
  pub many : length marks ≡ length told
  pub forward : AreForward script told time (mark_at marks)
  pub flags : (l : Location) → IsNamedLocation view l → flag_at entries l ≡ some_marked (mark_at marks) (reach (location_seen view l) told)

-- A time is sought for: it is marked, or it is in the reach of a location with a flag.
pub data Owed (view : ValuesView) (marks : ℕ → Bool) (flags : Location → Bool) (told : List Moment) (x : ℕ) : Type 0 where
  by_mark : marks x ≡ true → Owed view marks flags told x
  by_reach : (l : Location) → flags l ≡ true → has x (reach (location_seen view l) told) ≡ true → Owed view marks flags told x

-- why it is: it is the time itself, or it feeds a marked one from a bound on
pub data Because (script : ScriptTree) (all : List Moment) (time : ℕ) (bound : ℕ) (marks : ℕ → Bool) (x : ℕ) : Type 0 where
  itself : x ≡ time → Because script all time bound marks x
  feeding : (y : ℕ) → bound ≤ y → marks y ≡ true → feeds script all x y ≡ true → Because script all time bound marks x

-- The marks are right for the moments behind those that were told before.
pub record HasSought (view : ValuesView) (script : ScriptTree) (time : ℕ) (all : List Moment) (told : List Moment) (marks : ℕ → Bool) (flags : Location → Bool) : Type 0 where
  pub below : (x : ℕ) → marks x ≡ true → x < length all
  pub named : (l : Location) → flags l ≡ true → IsNamedLocation view l
  pub own : time < length all → Owed view marks flags told time
  pub spread : (x y : ℕ) → length told ≤ y → marks y ≡ true → feeds script all x y ≡ true → Owed view marks flags told x
  pub only : (x : ℕ) → Owed view marks flags told x → Because script all time (length told) marks x

-- the moments that were told come before others
pub record Later (all told : List Moment) : Type 0 where
  pub later : List Moment
  pub is : all ≡ later ++ told

-- what the pass backward has: how many moments are left, a mark for each of all, and what is sought
pub record HasPassed (view : ValuesView) (script : ScriptTree) (time : ℕ) (all told : List Moment) (count : ℕ) (marks : List Bool) (entries : List (Location × Bool)) : Type 0 where
  pub left : count ≡ length told
  pub many : length marks ≡ length all
  pub sought : HasSought view script time all told (mark_at marks) (flag_at entries)
