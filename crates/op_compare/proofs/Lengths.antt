-- Which of two lengths is the smaller.
use Rattle.std.proofs.Common.{◌≡◌, sym, ap₂, ◌∙◌, arith, le-leb, ◌⊎◌, inl, inr, ℕ, zero, suc, ◌<◌, ◌≤◌, Bool, true, false, nat_lt, if◌then◌else◌}
use Rattle.std.proofs.lemmas.Bool.{lt-leb}
use Rattle.py_model.specs.Walks.{Comparison, alike, before, behind, by_length}

pub lt_yes : (a b : ℕ) → a < b → nat_lt a b ≡ true
lt_yes a b less = le-leb (suc a) b (omega (arith, less))

pub lt_no : (a b : ℕ) → b ≤ a → nat_lt a b ≡ false
lt_no a b more = lt-leb (suc a) b (omega (arith, more))

order : (a b : ℕ) → (a < b) ⊎ (b ≤ a)
order zero zero = inr (omega (arith))
order zero (suc b) = inl (omega (arith))
order (suc a) zero = inr (omega (arith))
order (suc a) (suc b) = next (order a b)
  where
    next : (a < b) ⊎ (b ≤ a) → (suc a < suc b) ⊎ (suc b ≤ suc a)
    next (inl less) = inl (omega (arith, less))
    next (inr more) = inr (omega (arith, more))

pub lt_suc : (a b : ℕ) → nat_lt a b ≡ nat_lt (suc a) (suc b)
lt_suc a b = by_order (order a b)
  where
    by_order : (a < b) ⊎ (b ≤ a) → nat_lt a b ≡ nat_lt (suc a) (suc b)
    by_order (inl less) = lt_yes a b less ∙ sym (lt_yes (suc a) (suc b) (omega (arith, less)))
    by_order (inr more) = lt_no a b more ∙ sym (lt_no (suc a) (suc b) (omega (arith, more)))

abbrev by_tests : Bool → Bool → Comparison
by_tests less more = if less then before else if more then behind else alike

pub by_length_suc : (m n : ℕ) → by_length m n ≡ by_length (suc m) (suc n)
by_length_suc m n = ap₂ by_tests (lt_suc m n) (lt_suc n m)

pub none_longer : (n : ℕ) → before ≡ by_length 0 (suc n)
none_longer n = sym (ap₂ by_tests (lt_yes 0 (suc n) (omega (arith))) (lt_no (suc n) 0 (omega (arith))))

pub longer_none : (n : ℕ) → behind ≡ by_length (suc n) 0
longer_none n = sym (ap₂ by_tests (lt_no (suc n) 0 (omega (arith))) (lt_yes 0 (suc n) (omega (arith))))
