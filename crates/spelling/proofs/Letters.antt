-- The characters of literals.
use Rattle.std.proofs.Common.{rules, ◌≡◌, refl, sym, ap, ap₂, ◌∙◌, arith, append-nil, inl, inr, ℕ, suc, ◌<◌, ◌≤◌, nat_lt, Bool, true, false, List, [], ◌∷◌, ◌++◌, length, get_or, ◌==◌, encode_utf8, Option, Some, None}
use Rattle.std.specs.Borrow.{Bor}
use Rattle.std.proofs.lemmas.Bool.{cases_lt}
use Rattle.std.proofs.lemmas.List.{append_assoc}
use Rattle.std.proofs.lemmas.Str.{encode_ascii, inside_one}
use Rattle.py_model.specs.Printing.{spelled, spelled_all}
use Rattle.spelling.specs.Spelling.{quote_of, or_itself, letter_or_itself}

pub all_append : (q : ℕ) (xs ys : List ℕ) → spelled_all q (xs ++ ys) ≡ spelled_all q xs ++ spelled_all q ys
all_append q [] ys = refl
all_append q (x ∷ xs) ys = ap (λ rest. spelled q x ++ rest) (all_append q xs ys) ∙ sym (append_assoc (spelled q x) (spelled_all q xs) (spelled_all q ys))

-- a byte that no quote is, above ASCII
high : (q b : ℕ) → q < 128 → 128 ≤ b → spelled q b ≡ b ∷ []
high q b low big =
    let a : b == 92 ≡ false = search rules in
    let k : b == q ≡ false = search rules in
    let n : b == 10 ≡ false = search rules in
    let r : b == 13 ≡ false = search rules in
    let t : b == 9 ≡ false = search rules in
    let l : nat_lt b 32 ≡ false = search rules in
    let d : b == 127 ≡ false = search rules in
    rw (a, k, n, r, t, l, d) refl

all_high : (q : ℕ) → q < 128 → (bs : List ℕ) → ((k : ℕ) → k < length bs → 128 ≤ get_or bs k 0) → spelled_all q bs ≡ bs
all_high q low [] each = refl
all_high q low (b ∷ bs) each = ap₂ (λ (one rest : List ℕ). one ++ rest) (high q b low (each 0 (omega arith))) (all_high q low bs (λ k less. each (suc k) (omega (arith, less))))

small : (double : Bool) → quote_of double < 128
small true = omega arith
small false = omega arith

-- a character above ASCII is spelled by itself
pub high_letter : (double : Bool) (c : ℕ) → 128 ≤ c → spelled_all (quote_of double) (encode_utf8 c) ≡ encode_utf8 c
high_letter double c big = all_high (quote_of double) (small double) (encode_utf8 c) (λ k below. elim (cases_lt (get_or (encode_utf8 c) k 0) 128) [
  | inl low ↦ absurd (omega (arith, big, inside_one c [] (encode_utf8 c) k (sym (append-nil _)) below low))
  | inr h ↦ h
])

-- a character of ASCII is spelled as its byte
pub low_letter : (double : Bool) (c : ℕ) → c < 128 → spelled_all (quote_of double) (encode_utf8 c) ≡ spelled (quote_of double) c
low_letter double c less = ap (spelled_all (quote_of double)) (encode_ascii c less) ∙ append-nil (spelled (quote_of double) c)

pub ascii_letter : (spelling : Option (Bor (List ℕ))) (c : ℕ) → c < 128 → letter_or_itself spelling c ≡ or_itself spelling c
ascii_letter (Some words) c less = refl
ascii_letter None c less = encode_ascii c less
