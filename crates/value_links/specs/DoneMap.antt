-- The times of what was done last at each point, in a map.
use Rattle.std.specs.Prelude.{◌≡◌, ℕ, List, Option}
use Rattle.std.specs.Map.{lookup}
use Rattle.value_links.specs.declared.link.Point.{Point}
use Rattle.value_links.specs.contracts.link.PointPartialEq.TheImpl.{ghosts as points}
use Rattle.value_links.specs.Taken.{Done, last_at}

-- the time that entries have at a point
abbrev pub time_in : List (Point × ℕ) → Point → Option ℕ
time_in entries p = lookup (points.eq p) entries

-- The entries have at each point the time of the last operation that was done there.
pub record IsDone (entries : List (Point × ℕ)) (done : List Done) : Type 0 where
  pub times : (p : Point) → time_in entries p ≡ last_at p done
