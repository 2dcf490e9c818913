-- Numbers as they are printed.
use Rattle.std.proofs.Common.{rules, ◌≡◌, sym, ap, arith, ℕ, ◌+◌, ◌/◌, ◌%◌, ◌^◌, ◌<◌, ◌≤◌, pos, true, false, nat_lt, if◌then◌else◌, [], ◌∷◌, ◌++◌}
use Rattle.std.specs.Fmt.{decimal}
use Rattle.std.proofs.lemmas.Fmt.{AppendsLastDigit, decimal_from_appends, length-decimal-le}
use Rattle.py_model.specs.Numbers.{digits_of, int_text}

low : (n : ℕ) → n < 10 → nat_lt n 10 ≡ true
low n less = search rules

high : (n : ℕ) → 10 ≤ n → nat_lt n 10 ≡ false
high n more = search rules

appends : AppendsLastDigit digits_of
appends = record {
  one = λ k n less. ap (λ t. if t then (48 + n) ∷ [] else (digits_of k (n / 10) ++ (48 + n % 10) ∷ [])) (low n less);
  more = λ k n enough. ap (λ t. if t then (48 + n) ∷ [] else (digits_of k (n / 10) ++ (48 + n % 10) ∷ [])) (high n enough);
}

pub natural_is : (n : ℕ) → n < 2 ^ 64 → decimal n ≡ int_text (pos n)
natural_is n small = sym (decimal_from_appends digits_of appends 20 n small (length-decimal-le 20 n (omega arith) (omega (arith, small)) small))
