-- The links of a script by the point that takes, and what is taken along links where the last times are known by point.
use Rattle.std.specs.Prelude.{◌≡◌, ℕ, nat_le, List, [], ◌∷◌, ◌++◌, Option, Some, None, unwrap_or, if◌then◌else◌}
use Rattle.std.specs.Map.{lookup}
use Rattle.value_links.specs.declared.link.Point.{Point}
use Rattle.value_links.specs.declared.link.Link.{Link}
use Rattle.value_links.specs.contracts.link.PointPartialEq.TheImpl.{ghosts as points}
use Rattle.value_links.specs.Taken.{same_point, taken_at}

-- the links that entries have at a point
abbrev pub found_links : List (Point × List Link) → Point → Option (List Link)
found_links entries p = lookup (points.eq p) entries

abbrev pub links_at : List (Point × List Link) → Point → List Link
links_at entries p = unwrap_or (found_links entries p) []

-- the links by which a point takes
abbrev pub links_to : Point → List Link → List Link
links_to p [] = []
links_to p (l ∷ ls) = if same_point l.to p then l ∷ links_to p ls else links_to p ls

-- The entries have at each point the links by which it takes.
pub record IsTaking (links : List Link) (entries : List (Point × List Link)) : Type 0 where
  pub takes : (p : Point) → links_at entries p ≡ links_to p links

-- the links at each point once one more is put there
abbrev pub with_link : Link → Point → List Link → List Link
with_link l p found = if points.eq l.to p then found ++ l ∷ [] else found

-- what is taken along a link, and along several by an operation with so many values
abbrev pub rival_by : (Point → Option ℕ) → Option Point → Option ℕ
rival_by at None = None
rival_by at (Some rival) = at rival

abbrev pub along : (Point → Option ℕ) → Link → List ℕ
along at l = taken_at (at l.from) (rival_by at l.rival)

abbrev pub along_all : ℕ → (Point → Option ℕ) → List Link → List ℕ
along_all count at [] = []
along_all count at (l ∷ ls) = if nat_le l.least count then along at l ++ along_all count at ls else along_all count at ls
