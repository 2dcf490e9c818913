-- That numbers are read exactly.
use Rattle.std.proofs.Common.{inl, inr, ◌≡◌, ℕ, zero, suc, ◌+◌, ◌-◌, ◌*◌, ◌/◌, ◌%◌, ◌^◌, ◌<◌, ◌≤◌, ◌==◌, nat_lt, Bool, true, false, List, [], ◌∷◌, ◌++◌, Option, Some, None, if◌then◌else◌, refl, sym, ap, subst, ◌∙◌, arith, lit≤}
use Rattle.std.proofs.lemmas.Bool.{cases_lt, ltb-true, lt-ltb, le-ltb, eqb-true}
use Rattle.row_words.specs.Bytes.{number_by, number_bytes}
use Rattle.row_words.specs.Fits.{IsLong, IsShort}
use Rattle.row_words.specs.Reading.{◌>>=◌, number_in, number_at, short_at, Took, Reads}
use Rattle.row_words.proofs.Steps.{bound, same_some, took_same, passed, not_refused}
use Rattle.row_words.proofs.Exact.{only_reads}

below : (n : ℕ) → n < 128 → nat_lt n 128 ≡ true
below n small = lt-ltb n 128 small

above : (n : ℕ) → 128 ≤ n → nat_lt n 128 ≡ false
above n large = le-ltb n 128 large

by_small : (steps n : ℕ) → n < 128 → number_by steps n ≡ n ∷ []
unfolding number_by
by_small zero n small = refl
by_small (suc steps) n small = rw (below n small, number_by) refl

by_large : (steps n : ℕ) → 128 ≤ n → number_by (suc steps) n ≡ (128 + n % 128) ∷ number_by steps (n / 128)
unfolding number_by
by_large steps n large = rw (above n large, number_by) refl

-- more steps change nothing
by_more : (steps more n : ℕ) → n ≤ steps → n ≤ more → number_by steps n ≡ number_by more n
by_more zero more n enough also = let small : n < 128 = omega arith in by_small zero n small ∙ sym (by_small more n small)
by_more (suc steps) zero n enough also = let small : n < 128 = omega arith in by_small (suc steps) n small ∙ sym (by_small zero n small)
by_more (suc steps) (suc more) n enough also =
    elim (cases_lt n 128) [
      | inl small ↦ by_small (suc steps) n small ∙ sym (by_small (suc more) n small)
      | inr large ↦
          by_large steps n large ∙ (ap (λ (l : List ℕ). (128 + n % 128) ∷ l) (by_more steps more (n / 128) (omega arith) (omega arith)) ∙ sym (by_large more n large))
    ]

pub small_number : (n : ℕ) → n < 128 → number_bytes n ≡ n ∷ []
unfolding number_bytes
small_number n small = by_small n n small

pub large_number : (n : ℕ) → 128 ≤ n → number_bytes n ≡ (128 + n % 128) ∷ number_bytes (n / 128)
unfolding number_bytes
large_number zero large = absurd (omega arith)
large_number (suc n) large = by_large n (suc n) large ∙ ap (λ (l : List ℕ). (128 + suc n % 128) ∷ l) (by_more n (suc n / 128) (suc n / 128) (omega arith) (omega arith))

-- ---- what was written is read

Again : ℕ → ℕ → Type 0
Again more limit = (n : ℕ) → n < limit → (rest : List ℕ) → number_in more (number_bytes n ++ rest) ≡ Some (n, rest)

again_small : (more n : ℕ) → n < 128 → (rest : List ℕ) → number_in more (number_bytes n ++ rest) ≡ Some (n, rest)
unfolding number_in
again_small more n small rest = rw (small_number n small, below n small) refl

again_first : Again 0 128
unfolding Again
again_first n small rest = again_small 0 n small rest

false_where : (t : Bool) → (t ≡ true → ⊥) → t ≡ false
false_where true none = absurd (none refl)
false_where false none = refl

not_zero : (n : ℕ) → 0 < n → (n == 0) ≡ false
not_zero n some = false_where (n == 0) (λ is. let zero_is : n ≡ 0 = eqb-true n 0 is in omega arith)

-- one byte in front of those that give `high`
in_front : (more high low : ℕ) (bytes rest : List ℕ) → number_in more bytes ≡ Some (high, rest) → 0 < high → high < 2 ^ 57 → low < 128
    → number_in (suc more) ((128 + low) ∷ bytes) ≡ Some (high * 128 + low, rest)
unfolding number_in
in_front more high low bytes rest is some fits bits =
    let one : nat_lt (128 + low) 128 ≡ false = le-ltb (128 + low) 128 (omega arith) in
    let two : (suc more == 0) ≡ false = not_zero (suc more) (omega arith) in
    let three : suc more - 1 ≡ more = omega arith in
    let four : (high == 0) ≡ false = not_zero high some in
    let five : nat_lt high (2 ^ 57) ≡ true = lt-ltb high (2 ^ 57) fits in
    let six : nat_lt (128 + low) 256 ≡ true = lt-ltb (128 + low) 256 (omega arith) in
    let seven : 128 + low - 128 ≡ low = omega arith in
    rw (one, two, three, is, four, five, six, seven) refl

again_next : (more limit : ℕ) → limit ≤ 2 ^ 57 → Again more limit → Again (suc more) (128 * limit)
unfolding Again
again_next more limit fits before n small rest =
    elim (cases_lt n 128) [
      | inl tiny ↦ again_small (suc more) n tiny rest
      | inr large ↦
          let bits : n % 128 < 128 = omega arith in
          let high : n / 128 < limit = omega arith in
          let some : 0 < n / 128 = omega arith in
          let whole : n / 128 * 128 + n % 128 ≡ n = omega arith in
          rw (large_number n large)
          (in_front more (n / 128) (n % 128) (number_bytes (n / 128) ++ rest) rest (before (n / 128) high rest) some (omega arith) bits
          ∙ ap (λ (m : ℕ). Some (m, rest)) whole)
    ]

again_less : (more limit less : ℕ) → less ≤ limit → Again more limit → Again more less
unfolding Again
again_less more limit less fits before n small rest = before n (omega arith) rest

number_again : (n : ℕ) (rest : List ℕ) → IsLong n → number_at (number_bytes n ++ rest) ≡ Some (n, rest)
unfolding number_at Again
number_again n rest long =
    let p1 : Again 1 (2 ^ 14) = again_next 0 (2 ^ 7) (lit≤ tt) again_first in
    let p2 : Again 2 (2 ^ 21) = again_next 1 (2 ^ 14) (lit≤ tt) p1 in
    let p3 : Again 3 (2 ^ 28) = again_next 2 (2 ^ 21) (lit≤ tt) p2 in
    let p4 : Again 4 (2 ^ 35) = again_next 3 (2 ^ 28) (lit≤ tt) p3 in
    let p5 : Again 5 (2 ^ 42) = again_next 4 (2 ^ 35) (lit≤ tt) p4 in
    let p6 : Again 6 (2 ^ 49) = again_next 5 (2 ^ 42) (lit≤ tt) p5 in
    let p7 : Again 7 (2 ^ 56) = again_next 6 (2 ^ 49) (lit≤ tt) p6 in
    let p8 : Again 8 (2 ^ 57) = again_less 8 (2 ^ 63) (2 ^ 57) (lit≤ tt) (again_next 7 (2 ^ 56) (lit≤ tt) p7) in
    let p9 : Again 9 (2 ^ 64) = again_next 8 (2 ^ 57) (lit≤ tt) p8 in
    p9 n long rest

-- ---- what is read was written

large_spelled : (b high : ℕ) → 128 ≤ b → b < 256 → 0 < high → number_bytes (high * 128 + (b - 128)) ≡ b ∷ number_bytes high
large_spelled b high large byte some =
    let low : (high * 128 + (b - 128)) % 128 ≡ b - 128 = omega arith in
    let up : (high * 128 + (b - 128)) / 128 ≡ high = omega arith in
    let back : 128 + (b - 128) ≡ b = omega arith in
    large_number (high * 128 + (b - 128)) (omega arith) ∙ rw (low, up, back) refl

took_front : (b high : ℕ) (bytes rest : List ℕ) → 128 ≤ b → b < 256 → 0 < high → high < 2 ^ 57 → Took number_bytes IsLong bytes high rest
    → Took number_bytes IsLong (b ∷ bytes) (high * 128 + (b - 128)) rest
took_front b high bytes rest large byte some fits t = record {
  spelled = ap (λ (l : List ℕ). b ∷ l) t.spelled ∙ ap (λ (l : List ℕ). l ++ rest) (sym (large_spelled b high large byte some));
  fit = omega arith;
}

in_takes : (more : ℕ) (bytes rest : List ℕ) (n : ℕ) → number_in more bytes ≡ Some (n, rest) → Took number_bytes IsLong bytes n rest
unfolding number_in
in_takes more [] rest n is = absurd cc
in_takes more (b ∷ bytes) rest n is =
    elim (cases_lt b 128) [
      | inl small ↦
          let read : ◌≡◌ {A = Option (ℕ × List ℕ)} (Some (b, bytes)) (Some (n, rest)) = rw (below b small) at is in
          let whole : ℕ × List ℕ = (b, bytes) in
          subst (λ (z : ℕ × List ℕ). Took number_bytes IsLong (b ∷ bytes) z.0 z.1) (same_some whole (n, rest) read)
          (record { spelled = rw (small_number b small) refl; fit = omega arith })
      | inr large ↦
          let read = rw (above b large) at is in
          let one = not_refused (more == 0) (number_in (more - 1) bytes >>= λ high. if (high.0 == 0) then None else if (nat_lt high.0 (2 ^ 57)) then (if (nat_lt b 256) then Some (high.0 * 128 + (b - 128), high.1) else None) else None) (n, rest) read in
          let two = bound (number_in (more - 1) bytes) (λ high. if (high.0 == 0) then None else if (nat_lt high.0 (2 ^ 57)) then (if (nat_lt b 256) then Some (high.0 * 128 + (b - 128), high.1) else None) else None) (n, rest) one.1 in
          let high = two.0.0 in
          let three = not_refused (high == 0) (if (nat_lt high (2 ^ 57)) then (if (nat_lt b 256) then Some (high * 128 + (b - 128), two.0.1) else None) else None) (n, rest) two.2 in
          let four = passed (nat_lt high (2 ^ 57)) (if (nat_lt b 256) then Some (high * 128 + (b - 128), two.0.1) else None) (n, rest) three.1 in
          let five = passed (nat_lt b 256) (Some (high * 128 + (b - 128), two.0.1)) (n, rest) four.1 in
          let t = in_takes (more - 1) bytes two.0.1 high two.1 in
          let fits : high < 2 ^ 57 = ltb-true _ _ four.0 in
          let byte : b < 256 = ltb-true _ _ five.0 in
          let some : 0 < high = some_high high three.0 in
          let made : ℕ × List ℕ = (high * 128 + (b - 128), two.0.1) in
          took_same (b ∷ bytes) made (n, rest) five.1 (took_front b high bytes two.0.1 large byte some fits t)
    ]
  where
    some_high : (n : ℕ) → (n == 0) ≡ false → 0 < n
    some_high zero is = absurd cc
    some_high (suc n) is = omega arith

pub number_reads : Reads number_bytes IsLong number_at
unfolding number_at
number_reads = record { again = number_again; takes = λ bytes rest n is. in_takes 9 bytes rest n is }

pub short_reads : Reads number_bytes IsShort short_at
unfolding short_at
short_reads = only_reads (λ n. nat_lt n (2 ^ 32)) IsShort number_reads (λ n short. omega arith) (λ n short. lt-ltb n (2 ^ 32) short) (λ n long is. ltb-true n (2 ^ 32) is)
