-- No public clause cites this file.
-- What it is that something new is put behind others.
use Rattle.std.specs.Prelude.{◌≡◌, Bool, true, false, List, [], ◌∷◌, ◌++◌, Contains}

-- it is new and stands behind the others, or it was there
abbrev pub IsAdded : {A : Type 0} → List A → A → List A → Bool → Type 0
IsAdded old x new true = (Contains old x → ⊥) × (new ≡ old ++ x ∷ [])
IsAdded old x new false = Contains old x
