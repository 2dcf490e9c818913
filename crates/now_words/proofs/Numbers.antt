-- The number that digits stand for, digit by digit.
use Rattle.std.proofs.Common.{◌≡◌, ℕ, ◌+◌, ◌-◌, ◌*◌, ◌<◌, ◌≤◌, nat_le, false, List, [], ◌∷◌, Some, None, if◌then◌else◌, length, drop, get_or, refl, sym, ◌∙◌, ap, arith, add-one, drop-cons, rules}
use Rattle.now_words.specs.Numbers.{number_after}

-- more digits make no smaller number
pub number_after-ge : (n : ℕ) (digits : List ℕ) → n ≤ number_after n digits
number_after-ge n [] = omega arith
number_after-ge n (d ∷ ds) = omega (arith, number_after-ge (10 * n + (d - 48)) ds)

-- one digit more was read
pub number_after-step : (n i total : ℕ) (digits : List ℕ) → i < length digits → number_after n (drop i digits) ≡ total → number_after (10 * n + (get_or digits i 0 - 48)) (drop (i + 1) digits) ≡ total
number_after-step n i total digits below is = rw add-one (sym (ap (λ (ds : List ℕ). number_after n ds) (drop-cons digits i 0 below)) ∙ is)

-- what was read up to a digit is at most the whole
pub number_so_far : (n i total : ℕ) (digits : List ℕ) → i < length digits → number_after n (drop i digits) ≡ total → 10 * n + (get_or digits i 0 - 48) ≤ total
number_so_far n i total digits below is =
    omega (arith, number_after-step n i total digits below is, number_after-ge (10 * n + (get_or digits i 0 - 48)) (drop (i + 1) digits))

-- a number past the greatest is none
pub past : (most total : ℕ) → most < total → None ≡ (if nat_le total most then Some total else None)
past most total more = let no : nat_le total most ≡ false = search rules in rw no refl
