-- Whether a class of the language derives from another, step by step.
use Rattle.std.proofs.Common.{◌≡◌, refl, ap, arith, ℕ, suc, ◌+◌, ◌-◌, ◌<◌, ◌==◌, eqb-true, Bool, true, false, Option, Some, None, if◌then◌else◌}
use Rattle.py_model.specs.Classes.{derives}
use Rattle.py_model.specs.Faults.{base_class}

differ : (at from : ℕ) → (at ≡ from → ⊥) → (at == from) ≡ false
differ at from not_same = by_test (at == from) refl
  where
    by_test : (b : Bool) → (at == from) ≡ b → (at == from) ≡ false
    by_test true is = absurd (not_same (eqb-true at from is))
    by_test false is = is

-- the walk goes on behind a class that is another
abbrev pub behind : ℕ → ℕ → Option ℕ → Bool
behind n from base = elim base [ None ↦ false | Some base ↦ derives n base from ]

pub derives_on : (n at from : ℕ) → (at ≡ from → ⊥) → derives (suc n) at from ≡ behind n from (base_class at)
derives_on n at from is = ap (λ (b : Bool). if b then true else behind n from (base_class at)) (differ at from is)

pub one_less : (i : ℕ) → i < 19 → 19 - i ≡ suc (19 - (i + 1))
one_less i less = omega (arith, less)
