-- Operations on atoms ask nothing.
use Rattle.std.proofs.Common.{◌≡◌, ◌∙◌, sym, ap, refl, ℕ, Bool, true, false, ◌==◌, ◌||◌}
use Rattle.std.proofs.lemmas.Bool.{eqb-true, false≢true}
use Rattle.op_atoms.specs.Answers.{is_atomic}
use Rattle.py_model.specs.Quiet.{may_ask}

another : (k n : ℕ) → is_atomic k ≡ false → is_atomic n ≡ true → (n == k) ≡ false
another k n none all = by (n == k) refl
  where
    by : (b : Bool) → (n == k) ≡ b → b ≡ false
    by false is = refl
    by true is = absurd (false≢true (sym none ∙ (ap is_atomic (sym (eqb-true n k is)) ∙ all)))

pub atomic_asks_nothing : (n : ℕ) → is_atomic n ≡ true → may_ask n ≡ false
atomic_asks_nothing n all =
    ap (λ b. b || ((n == 62) || ((n == 109) || ((n == 110) || (n == 111))))) (another 55 n refl all)
    ∙ (ap (λ b. b || ((n == 109) || ((n == 110) || (n == 111)))) (another 62 n refl all)
    ∙ (ap (λ b. b || ((n == 110) || (n == 111))) (another 109 n refl all)
    ∙ (ap (λ b. b || (n == 111)) (another 110 n refl all) ∙ another 111 n refl all)))
