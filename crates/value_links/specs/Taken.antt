-- Which answers an operation takes along links, from those that were done in its occurrence (this project's profile).
use Rattle.std.specs.Prelude.{ℕ, ◌==◌, ◌&&◌, nat_le, nat_lt, Bool, List, [], ◌∷◌, ◌++◌, Option, Some, None, if◌then◌else◌}
use Rattle.prov_base.specs.contracts.place.PosPartialEq.TheImpl.{ghosts as places}
use Rattle.value_links.specs.declared.link.Point.{Point}
use Rattle.value_links.specs.declared.link.Link.{Link}

-- an operation that was done in an occurrence, as others take its answer, and its time
pub record Done : Type 0 where
  pub point : Point
  pub time : ℕ

abbrev pub same_point : Point → Point → Bool
same_point p q = places.eq p.at q.at && (p.kind == q.kind)

abbrev pub last_at : Point → List Done → Option ℕ
last_at point [] = None
last_at point (d ∷ done) = if same_point d.point point then Some d.time else last_at point done

-- the time at which a link takes an answer, unless its rival is later
abbrev pub unless_later : ℕ → Option ℕ → List ℕ
unless_later time None = time ∷ []
unless_later time (Some other) = if nat_lt time other then [] else time ∷ []

abbrev pub rival_at : Option Point → List Done → Option ℕ
rival_at None done = None
rival_at (Some rival) done = last_at rival done

abbrev pub taken_at : Option ℕ → Option ℕ → List ℕ
taken_at None rival = []
taken_at (Some time) rival = unless_later time rival

abbrev pub taken_along : Link → List Done → List ℕ
taken_along l done = taken_at (last_at l.from done) (rival_at l.rival done)

-- the times of the operations whose answers an operation with so many values takes, in its occurrence
abbrev pub is_link_to : Point → ℕ → Link → Bool
is_link_to to count l = same_point l.to to && nat_le l.least count

abbrev pub taken_by_links : Point → ℕ → List Done → List Link → List ℕ
taken_by_links to count done [] = []
taken_by_links to count done (l ∷ ls) = if is_link_to to count l then taken_along l done ++ taken_by_links to count done ls else taken_by_links to count done ls
