-- A set that has more lacks fewer.
use Rattle.std.proofs.Common.{◌≡◌, ℕ, zero, suc, ◌≤◌, ◌<◌, Bool, true, false, ◌==◌, ap, subst, arith, eqb-true, refl}
use Rattle.std.proofs.lemmas.Bool.{false≢true, eqb-false}
use Rattle.slicer.specs.Lacking.{unless, lacking}

unless_less : (a b : Bool) → (a ≡ true → b ≡ true) → unless b ≤ unless a
unless_less a true more = omega arith
unless_less true false more = absurd (false≢true (more refl))
unless_less false false more = omega arith

module _ (keep more : ℕ → Bool) (grows : (s : ℕ) → keep s ≡ true → more s ≡ true) where
  pub lacking_more : (n : ℕ) → lacking more n ≤ lacking keep n
  lacking_more zero = omega arith
  lacking_more (suc n) = omega (arith, unless_less (keep n) (more n) (grows n), lacking_more n)

  pub lacking_less : (s n : ℕ) → s < n → keep s ≡ false → more s ≡ true → lacking more n < lacking keep n
  lacking_less s zero below new there = absurd (omega (arith, below))
  lacking_less s (suc n) below new there = by_test (n == s) refl (λ less. lacking_less s n less new there)
    where
      by_test : (b : Bool) → (n == s) ≡ b → (s < n → lacking more n < lacking keep n) → lacking more (suc n) < lacking keep (suc n)
      by_test true is less =
          let same : s ≡ n = omega (arith, eqb-true n s is) in
          let before : unless (keep n) ≡ 1 = ap unless (subst (λ k. keep k ≡ false) same new) in
          let behind : unless (more n) ≡ 0 = ap unless (subst (λ k. more k ≡ true) same there) in
          omega (arith, before, behind, lacking_more n)
      by_test false is less = omega (arith, unless_less (keep n) (more n) (grows n), less (omega (arith, below, eqb-false n s is)))
