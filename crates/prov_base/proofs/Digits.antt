-- One more digit at the end of those that stand at the front of a buffer.
use Rattle.std.proofs.Common.{◌≡◌, ℕ, ◌+◌, ◌<◌, ◌≤◌, ◌/◌, ◌%◌, ◌^◌, List, [], ◌∷◌, ◌++◌, length, drop, get_or, sym, ◌∙◌, ap, add-one, append_assoc, drop-cons, slice_set, arith, length-append}
use Rattle.std.specs.Fmt.{decimal}
use Rattle.std.proofs.lemmas.Fmt.{decimal_step, decimal_digit, length-decimal-le}
use Rattle.std.proofs.Math.Seq.{set-append_seam}

pub put_digit : (ds out : List ℕ) (digit : ℕ) → length ds < length out → slice_set (ds ++ drop (length ds) out) (length ds) digit ≡ (ds ++ digit ∷ []) ++ drop (length ds + 1) out
put_digit ds out digit room =
    ap (λ (rest : List ℕ). slice_set (ds ++ rest) (length ds) digit) (drop-cons out (length ds) 0 room)
    ∙ set-append_seam ds (get_or out (length ds) 0) _ digit
    ∙ rw (add-one, append_assoc)

-- one digit is the whole text of a number below ten
pub first_digit : (n : ℕ) (out : List ℕ) → n < 10 → 0 < length out → slice_set out 0 (48 + n) ≡ decimal n ++ drop 1 out
first_digit n out small room = put_digit [] out (48 + n) room ∙ ap (λ (ds : List ℕ). ds ++ drop 1 out) (sym (decimal_digit n small))

-- the last digit behind those of the tenth part
pub last_digit : (n at : ℕ) (out : List ℕ) → 10 ≤ n → n < 2 ^ 64 → at ≡ length (decimal (n / 10)) → length out ≡ 20 → slice_set (decimal (n / 10) ++ drop at out) at (48 + n % 10) ≡ decimal n ++ drop (at + 1) out
last_digit n at out large fits is long =
    let room : length (decimal (n / 10)) < length out = omega (arith, length-decimal-le 19 (n / 10) (omega arith) (omega arith) (omega arith)) in
    rw is (put_digit (decimal (n / 10)) out (48 + n % 10) room ∙ ap (λ (ds : List ℕ). ds ++ drop (length (decimal (n / 10)) + 1) out) (sym (decimal_step n large fits)))

pub one_more : (n at : ℕ) → 10 ≤ n → n < 2 ^ 64 → at ≡ length (decimal (n / 10)) → at + 1 ≡ length (decimal n)
one_more n at large fits is = omega (arith, is, ap length (decimal_step n large fits), length-append (decimal (n / 10)) ((48 + n % 10) ∷ []))

pub few_digits : (n at : ℕ) → n < 2 ^ 64 → at ≡ length (decimal (n / 10)) → at < 20
few_digits n at fits is = omega (arith, is, length-decimal-le 19 (n / 10) (omega arith) (omega arith) (omega arith))
