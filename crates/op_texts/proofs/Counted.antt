-- Characters are counted by where they begin.
use Rattle.std.proofs.Common.{◌≡◌, refl, sym, ap, ◌∙◌, ℕ, zero, suc, ◌+◌, ◌-◌, ◌==◌, length, ◌≤◌, arith, take, drop, Bool, true, false, List, [], ◌∷◌, if◌then◌else◌, ◌++◌, append-nil, nat_le, nat_lt, ◌&&◌, leb-true}
use Rattle.std.proofs.Math.Seq.{take-length}
use Rattle.std.proofs.lemmas.Bool.{lt-leb}
use Rattle.std.specs.Str.{IsCharBoundary}
use Rattle.py_model.specs.Texts.{is_continuation, characters, onto_first, size, spaces}
use Rattle.op_texts.specs.Heads.{heads}

onto_keeps : (byte n : ℕ) (all : List (List ℕ)) → length all ≡ suc n → length (onto_first byte all) ≡ suc n
onto_keeps byte n [] is = cc
onto_keeps byte n (first ∷ rest) is = is

by_next : (goes_on : Bool) (byte n : ℕ) (all : List (List ℕ)) → length all ≡ suc n
    → length (if goes_on then onto_first byte all else (byte ∷ []) ∷ all) ≡ suc (if goes_on then n else suc n)
by_next true byte n all is = onto_keeps byte n all is
by_next false byte n all is = ap suc is

pub heads_size : (byte : ℕ) (bytes : List ℕ) → size (byte ∷ bytes) ≡ suc (heads bytes)
heads_size byte [] = refl
heads_size byte (next ∷ bytes) = by_next (is_continuation next) byte (heads bytes) (characters (next ∷ bytes)) (heads_size next bytes)

pub size_is : (bytes : List ℕ) → 1 ≤ length bytes → size bytes ≡ suc (heads (drop 1 bytes))
size_is [] more = absurd (omega (arith, more))
size_is (byte ∷ bytes) more = heads_size byte bytes

-- the first character is counted beside the others
pub size_behind : (bytes : List ℕ) (n : ℕ) → (length bytes == 0) ≡ false → n ≡ heads (take (length bytes - 1) (drop 1 bytes)) → n + 1 ≡ size bytes
size_behind [] n some is = cc
size_behind (byte ∷ bytes) n some is = omega (arith, one) ∙ sym (heads_size byte bytes)
  where
    one : n ≡ heads bytes
    one = is ∙ ap heads (ap (λ m. take m bytes) (omega (arith)) ∙ take-length bytes)

heads_spaces : (bytes : List ℕ) (k : ℕ) → heads (spaces k ++ bytes) ≡ k + heads bytes
heads_spaces bytes zero = omega (arith)
heads_spaces bytes (suc k) = ap suc (heads_spaces bytes k) ∙ omega (arith)

by_head : (goes_on : Bool) (n m k : ℕ) → n ≡ m + k → (if goes_on then n else suc n) ≡ (if goes_on then m else suc m) + k
by_head true n m k is = is
by_head false n m k is = omega (arith, is)

heads_behind : (bytes : List ℕ) (k : ℕ) → heads (bytes ++ spaces k) ≡ heads bytes + k
heads_behind [] k = ap heads (sym (append-nil (spaces k))) ∙ (heads_spaces [] k ∙ omega (arith))
heads_behind (byte ∷ bytes) k = by_head (is_continuation byte) (heads (bytes ++ spaces k)) (heads bytes) k (heads_behind bytes k)

size_spaces : (k : ℕ) → size (spaces k) ≡ k
size_spaces zero = refl
size_spaces (suc k) = heads_size 32 (spaces k) ∙ ap suc (heads_behind [] k ∙ omega (arith))

-- spaces behind a text, and before it
pub size_with_behind : (bytes : List ℕ) (k : ℕ) → size (bytes ++ spaces k) ≡ size bytes + k
size_with_behind [] k = size_spaces k ∙ omega (arith)
size_with_behind (byte ∷ bytes) k =
    let whole = heads_size byte (bytes ++ spaces k) in
    let alone = heads_size byte bytes in
    let behind = heads_behind bytes k in
    omega (arith, whole, alone, behind)

begins : (byte : ℕ) → (128 ≤ byte → 192 ≤ byte) → is_continuation byte ≡ false
begins byte first = by_low (nat_le 128 byte) refl
  where
    by_low : (low : Bool) → nat_le 128 byte ≡ low → (low && nat_lt byte 192) ≡ false
    by_low false is = refl
    by_low true is = let high = first (leb-true 128 byte is) in lt-leb (suc byte) 192 (omega (arith, high))

heads_first : (byte : ℕ) (bytes : List ℕ) → is_continuation byte ≡ false → heads (byte ∷ bytes) ≡ suc (heads bytes)
heads_first byte bytes is = ap (λ t. if t then heads bytes else suc (heads bytes)) is

heads_all : (bytes : List ℕ) → IsCharBoundary bytes 0 → heads bytes ≡ size bytes
heads_all [] first = refl
heads_all (byte ∷ bytes) first = heads_first byte bytes (begins byte (first.1 (omega (arith)))) ∙ sym (heads_size byte bytes)

pub size_with_before : (bytes : List ℕ) (k : ℕ) → IsCharBoundary bytes 0 → size (spaces k ++ bytes) ≡ size bytes + k
size_with_before bytes zero first = omega (arith)
size_with_before bytes (suc k) first =
    let whole = heads_size 32 (spaces k ++ bytes) in
    let rest = heads_spaces bytes k in
    let all = heads_all bytes first in
    omega (arith, whole, rest, all)
