-- What has an earlier number was there; what has the next number is new.
use Rattle.std.proofs.Common.{◌≡◌, ℕ, ◌<◌, ◌≤◌, ⊎_elim, List, [], ◌∷◌, ◌++◌, length, slice_get, Some, Contains, sym, ap, ◌∙◌, arith}
use Rattle.std.proofs.lemmas.Option.{slice_get_within}
use Rattle.py_value.specs.Values.{Adds}
use Rattle.py_value.proofs.Interning.{contains_at, which}

module _ {A : Type 0} (old new : List A) (x : A) (id : ℕ) (adds : Adds old new x) (at : slice_get new id ≡ Some x) where
  pub was_there : id < length old → Contains old x
  was_there below = ⊎_elim (λ a. a.0) (λ a. here a.1) adds
    where
      here : new ≡ old ++ x ∷ [] → Contains old x
      here is = ⊎_elim (λ b. contains_at old x id b) (λ b. absurd (omega (arith, below, b.0))) (which old x x id (ap (λ xs. slice_get xs id) (sym is) ∙ at))

  pub is_new : length old ≤ id → (Contains old x → ⊥) × (new ≡ old ++ x ∷ [])
  is_new above = ⊎_elim (λ a. absurd (omega (arith, above, slice_get_within old id x (ap (λ xs. slice_get xs id) (sym a.1) ∙ at)))) (λ a. a) adds
