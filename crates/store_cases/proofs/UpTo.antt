-- What holds of each access of a plan before a place, and of the one there, holds up to the next place.
use Rattle.std.proofs.Common.{◌≡◌, ℕ, ◌+◌, ◌<◌, List, slice_get, Some, sym, ◌∙◌, subst, below_more}
use Rattle.std.proofs.lemmas.Option.{same_Some}
use Rattle.py_value.specs.declared.access.Access.{Access}

pub up_to : (P : Access → Type 0) (plan : List Access) (i : ℕ) (access : Access) → slice_get plan i ≡ Some access → P access
    → ((k : ℕ) (a : Access) → k < i → slice_get plan k ≡ Some a → P a) → (k : ℕ) (a : Access) → k < i + 1 → slice_get plan k ≡ Some a → P a
up_to P plan i access at here before = λ k a below is.
    below_more (λ j. (b : Access) → slice_get plan j ≡ Some b → P b) i (λ j less b found. before j b less found) (λ b found. subst P (same_Some access b (sym at ∙ found)) here) k below a is
