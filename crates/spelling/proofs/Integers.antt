-- Integers as they are printed.
use Rattle.std.proofs.Common.{rules, ◌≡◌, sym, ap, arith, ℕ, suc, ◌+◌, ◌/◌, ◌%◌, ◌^◌, ◌<◌, ◌≤◌, ℤ, pos, negsuc, true, false, nat_lt, if◌then◌else◌, [], ◌∷◌, ◌++◌, w64, SFits}
use Rattle.std.specs.Fmt.{decimal, signed_decimal}
use Rattle.std.proofs.lemmas.Fmt.{AppendsLastDigit, decimal_from_appends, length-decimal-le}
use Rattle.py_model.specs.Numbers.{digits_of, int_text}

low : (n : ℕ) → n < 10 → nat_lt n 10 ≡ true
low n less = search rules

high : (n : ℕ) → 10 ≤ n → nat_lt n 10 ≡ false
high n more = search rules

appends : AppendsLastDigit digits_of
appends = record {
  one = λ k n less. ap (λ t. if t then (48 + n) ∷ [] else (digits_of k (n / 10) ++ (48 + n % 10) ∷ [])) (low n less);
  more = λ k n enough. ap (λ t. if t then (48 + n) ∷ [] else (digits_of k (n / 10) ++ (48 + n % 10) ∷ [])) (high n enough);
}

digits_are : (n : ℕ) → n < 2 ^ 64 → digits_of 20 n ≡ decimal n
digits_are n small = decimal_from_appends digits_of appends 20 n small (length-decimal-le 20 n (omega arith) (omega (arith, small)) small)

pos_is : (n : ℕ) → n < 2 ^ 64 → signed_decimal (pos n) ≡ int_text (pos n)
pos_is n small = sym (digits_are n small)

neg_is : (n : ℕ) → suc n < 2 ^ 64 → signed_decimal (negsuc n) ≡ int_text (negsuc n)
neg_is n small = ap (λ digits. 45 ∷ digits) (sym (digits_are (suc n) small))

pub int_is : (i : ℤ) → SFits w64 i → signed_decimal i ≡ int_text i
int_is (pos n) fits = pos_is n (omega (arith, fits))
int_is (negsuc n) fits = neg_is n (omega (arith, fits))
