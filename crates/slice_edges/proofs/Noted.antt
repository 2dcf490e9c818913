-- How much is open, and where statements are noted.
use Rattle.std.proofs.Common.{◌≡◌, ℕ, suc, Bool, true, false, List, [], ◌∷◌, ◌⊎◌, inl, inr, map, length, unwrap_or, Some, refl, sym, ap, if◌then◌else◌, true≢false}
use Rattle.std.specs.Map.{lookup}
use Rattle.py_value.specs.declared.access.Location.{Location}
use Rattle.py_value.specs.contracts.access.LocationPartialEq.TheImpl.{ghosts as locations}
use Rattle.py_value.proofs.Equality.{location_same}
use Rattle.slice_law.specs.Closed.{has, IsIn}
use Rattle.slice_edges.specs.declared.frames.Frame.{Frame}
use Rattle.slice_edges.specs.Frames.{open_in}
use Rattle.slice_edges.specs.Writers.{noted_at}

pub as_many : (frames : List Frame) → length (open_in frames) ≡ length frames
as_many [] = refl
as_many (frame ∷ frames) = ap suc (as_many frames)

-- where a statement is noted, the place is among the keys
pub noted_in : (entries : List (Location × List ℕ)) (l : Location) (s : ℕ) → has s (noted_at entries l) ≡ true → IsIn (map (λ entry. entry.0) entries) l
noted_in [] l s is = absurd (true≢false (sym is))
noted_in (first ∷ entries) l s is = by (locations.eq l first.0) refl is (λ more. noted_in entries l s more)
  where
    by : (b : Bool) → locations.eq l first.0 ≡ b → has s (unwrap_or (if b then Some first.1 else lookup (locations.eq l) entries) []) ≡ true
        → (has s (noted_at entries l) ≡ true → IsIn (map (λ entry. entry.0) entries) l) → (first.0 ≡ l) ⊎ IsIn (map (λ entry. entry.0) entries) l
    by true same is more = inl (sym (location_same l first.0 same))
    by false same is more = inr (more is)
