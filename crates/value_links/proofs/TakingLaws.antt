-- What links give by the point that takes is what they give as they stand in the script.
use Rattle.std.proofs.Common.{◌≡◌, ℕ, ◌&&◌, Bool, true, false, List, [], ◌∷◌, ◌++◌, Option, Some, None, refl, ap, ◌∙◌, if◌then◌else◌, rules}
use Rattle.std.specs.Prelude.{nat_le, Result, Ok, Err, IfOk}
use Rattle.std.proofs.lemmas.List.{append_assoc}
use Rattle.value_links.specs.declared.link.Point.{Point}
use Rattle.value_links.specs.declared.link.Link.{Link}
use Rattle.value_links.specs.contracts.link.PointPartialEq.TheImpl.{ghosts as points}
use Rattle.value_links.specs.Taken.{Done, same_point, last_at, rival_at, taken_at, taken_along, taken_by_links}
use Rattle.value_links.specs.DoneMap.{IsDone, time_in}
use Rattle.value_links.specs.Takings.{IsTaking, along, along_all, links_at, links_to, rival_by, with_link}

-- the derived equality of points
pub points_are : (p q : Point) → points.eq p q ≡ same_point p q
points_are p q = search rules

-- ---- one link more

pub one_link : (l : Link) (p : Point) (ls found : List Link) → with_link l p found ++ links_to p ls ≡ found ++ links_to p (l ∷ ls)
one_link l p ls found = ap (λ (b : Bool). (if b then found ++ l ∷ [] else found) ++ links_to p ls) (points_are l.to p) ∙ by (same_point l.to p)
  where
    by : (b : Bool) → (if b then found ++ l ∷ [] else found) ++ links_to p ls ≡ found ++ (if b then l ∷ links_to p ls else links_to p ls)
    by true = append_assoc found (l ∷ []) (links_to p ls)
    by false = refl

-- ---- what is taken

module _ (entries : List (Point × ℕ)) (done : List Done) (is : IsDone entries done) where
  rivals : (rival : Option Point) → rival_by (time_in entries) rival ≡ rival_at rival done
  rivals None = refl
  rivals (Some rival) = is.times rival

  one_along : (l : Link) → along (time_in entries) l ≡ taken_along l done
  one_along l = ap (λ (time : Option ℕ). taken_at time (rival_by (time_in entries) l.rival)) (is.times l.from) ∙ ap (taken_at (last_at l.from done)) (rivals l.rival)

  one_more : (to : Point) (count : ℕ) (l : Link) (ls : List Link) (b c : Bool) → nat_le l.least count ≡ c → along_all count (time_in entries) (links_to to ls) ≡ taken_by_links to count done ls
      → along_all count (time_in entries) (if b then l ∷ links_to to ls else links_to to ls) ≡ (if (b && c) then taken_along l done ++ taken_by_links to count done ls else taken_by_links to count done ls)
  one_more to count l ls true c fits rest =
      ap (λ (d : Bool). if d then along (time_in entries) l ++ along_all count (time_in entries) (links_to to ls) else along_all count (time_in entries) (links_to to ls)) fits ∙ by c
    where
      by : (d : Bool) → (if d then along (time_in entries) l ++ along_all count (time_in entries) (links_to to ls) else along_all count (time_in entries) (links_to to ls))
          ≡ (if d then taken_along l done ++ taken_by_links to count done ls else taken_by_links to count done ls)
      by true = ap (λ (times : List ℕ). times ++ along_all count (time_in entries) (links_to to ls)) (one_along l) ∙ ap (λ (times : List ℕ). taken_along l done ++ times) rest
      by false = rest
  one_more to count l ls false c fits rest = rest

  pub all_along : (to : Point) (count : ℕ) (ls : List Link) → along_all count (time_in entries) (links_to to ls) ≡ taken_by_links to count done ls
  all_along to count [] = refl
  all_along to count (l ∷ ls) = one_more to count l ls (same_point l.to to) (nat_le l.least count) refl (all_along to count ls)

-- ---- an operation takes

pub if_ok : {T E : Type 0} {P Q : T → Type 0} (r : Result T E) → IfOk r P → ((x : T) → P x → Q x) → IfOk r Q
if_ok (Ok x) holds follows = follows x holds
if_ok (Err want) holds follows = tt

pub taken_is : (entries : List (Point × ℕ)) (done : List Done) (by_point : List (Point × List Link)) (links : List Link) (to : Point) (count : ℕ) (times : List ℕ) → IsTaking links by_point → IsDone entries done
    → times ≡ along_all count (time_in entries) (links_at by_point to) → times ≡ taken_by_links to count done links
taken_is entries done by_point links to count times taking is taken =
    taken ∙ ap (along_all count (time_in entries)) (taking.takes to) ∙ all_along entries done is to count links
