-- Sets of statements that are closed along pairs of statements, an asker and what it asks for. A set is a test of numbers.
use Rattle.std.specs.Prelude.{◌≡◌, ◌<◌, ℕ, Bool, true, List, [], ◌∷◌, ⊤}

abbrev pub AllIn : (ℕ → Bool) → List ℕ → Type 0
AllIn keep [] = ⊤
AllIn keep (s ∷ more) = (keep s ≡ true) × AllIn keep more

abbrev pub IsClosedAlong : (ℕ → Bool) → List (ℕ × ℕ) → Type 0
IsClosedAlong keep [] = ⊤
IsClosedAlong keep (pair ∷ more) = (keep pair.0 ≡ true → keep pair.1 ≡ true) × IsClosedAlong keep more

-- The least set: it has the roots, it is closed along the pairs, and it lies inside every set that is so.
pub record IsLeastAlong (pairs : List (ℕ × ℕ)) (roots : List ℕ) (keep : ℕ → Bool) : Type 0 where
  pub has_roots : AllIn keep roots
  pub closed : IsClosedAlong keep pairs
  pub inside : (other : ℕ → Bool) → AllIn other roots → IsClosedAlong other pairs → (s : ℕ) → keep s ≡ true → other s ≡ true

-- numbers of statements, where a script has so many
abbrev pub AreBelow : ℕ → List ℕ → Type 0
AreBelow bound [] = ⊤
AreBelow bound (s ∷ more) = (s < bound) × AreBelow bound more

abbrev pub ArePairsBelow : ℕ → List (ℕ × ℕ) → Type 0
ArePairsBelow bound [] = ⊤
ArePairsBelow bound (pair ∷ more) = ((pair.0 < bound) × (pair.1 < bound)) × ArePairsBelow bound more
