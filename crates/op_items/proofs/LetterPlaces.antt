-- The character at a place.
use Rattle.std.proofs.Common.{◌≡◌, ◌∙◌, refl, sym, ap, arith, ℕ, zero, suc, ◌-◌, List, ◌∷◌, Some, slice_get}

pub next_at : (all rest : List ℕ) (c left : ℕ) → all ≡ c ∷ rest → (left ≡ 0 → ⊥) → slice_get rest (left - 1) ≡ slice_get all left
next_at all rest c zero is apart = absurd (apart refl)
next_at all rest c (suc left) is apart = ap (slice_get rest) (less left) ∙ ap (λ xs. slice_get xs (suc left)) (sym is)
  where
    less : (n : ℕ) → suc n - 1 ≡ n
    less n = omega (arith)

pub first_at : (all rest : List ℕ) (c left : ℕ) → all ≡ c ∷ rest → left ≡ 0 → Some c ≡ slice_get all left
first_at all rest c zero is none = ap (λ xs. slice_get xs zero) (sym is)
first_at all rest c (suc left) is none = absurd (omega (arith, none))
