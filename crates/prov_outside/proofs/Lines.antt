-- The first line of an input, by the place of its first LF.
use Rattle.std.proofs.Common.{◌≡◌, ℕ, suc, ◌+◌, ◌<◌, Bool, true, false, not, cond, List, [], ◌∷◌, length, take, drop, ◌==◌, unwrap_or, position, slice_index_or, zero, ◌≢◌, IsTrue, refl, sym, ap, ◌∙◌, true≢false, arith}
use Rattle.std.proofs.lemmas.Bool.{and_parts}
use Rattle.prov_outside.specs.Console.{IsLine}
use Rattle.std.proofs.lemmas.Bool.Decides.{nat_tests}
use Rattle.std.proofs.lemmas.List.Sums.{prefix_len-le-length}
use Rattle.prov_base.specs.Pieces.{is_free}
use Rattle.std.specs.List.{position_or_len}
use Rattle.prov_outside.specs.MemoryConsole.{lines_of, onto_first}

abbrev pub is_lf : ℕ → Bool
is_lf byte = byte == 10

-- a byte before the first line
onto_first-lines_of : (byte : ℕ) (rest : List ℕ) (n : ℕ) → lines_of rest ≡ take n rest ∷ lines_of (drop (n + 1) rest) → onto_first byte (lines_of rest) ≡ take (1 + n) (byte ∷ rest) ∷ lines_of (drop (1 + n + 1) (byte ∷ rest))
onto_first-lines_of byte rest n first =
    let one : 1 + n ≡ suc n = omega arith in
    let two : suc n + 1 ≡ suc (n + 1) = omega arith in
    rw (first, one, two) refl

-- the first line, if what stands behind its first byte is known
first-step : (byte : ℕ) (rest : List ℕ) (n : ℕ) → onto_first byte (lines_of rest) ≡ take (1 + n) (byte ∷ rest) ∷ lines_of (drop (1 + n + 1) (byte ∷ rest)) → (t : Bool) → cond t ([] ∷ lines_of rest) (onto_first byte (lines_of rest)) ≡ take (cond (not t) (1 + n) 0) (byte ∷ rest) ∷ lines_of (drop (cond (not t) (1 + n) 0 + 1) (byte ∷ rest))
first-step byte rest n later true = refl
first-step byte rest n later false = later

-- The first line reaches to the first LF, or to the end.
pub lines_of-first : (bytes : List ℕ) → 0 < length bytes → lines_of bytes ≡ take (position_or_len is_lf bytes) bytes ∷ lines_of (drop (position_or_len is_lf bytes + 1) bytes)
lines_of-first [] within = absurd (omega arith)
lines_of-first (byte ∷ []) within = first-step byte [] 0 refl (is_lf byte)
lines_of-first (byte ∷ (next ∷ rest)) within =
    first-step byte (next ∷ rest) (position_or_len is_lf (next ∷ rest))
    (onto_first-lines_of byte (next ∷ rest) (position_or_len is_lf (next ∷ rest)) (lines_of-first (next ∷ rest) (omega arith)))
    (is_lf byte)

-- a byte before what holds no LF
free-step : (byte : ℕ) (rest : List ℕ) (n : ℕ) → IsTrue (is_free 10 (take n rest)) → (t : Bool) → is_lf byte ≡ t → IsTrue (is_free 10 (take (cond (not t) (1 + n) 0) (byte ∷ rest)))
free-step byte rest n free true is = refl
free-step byte rest n free false is =
    let one : 1 + n ≡ suc n = omega arith in
    rw (one, is) free

-- no LF stands before the first one
free-first : (bytes : List ℕ) → IsTrue (is_free 10 (take (position_or_len is_lf bytes) bytes))
free-first [] = refl
free-first (byte ∷ bytes) = free-step byte bytes (position_or_len is_lf bytes) (free-first bytes) (is_lf byte) refl

each : (xs : List ℕ) → IsTrue (is_free 10 xs) → (k : ℕ) (d : ℕ) → k < length xs → slice_index_or xs k d ≢ 10
each [] free k d within = absurd (omega (arith, within))
each (x ∷ xs) free zero d within = λ is. absurd (true≢false (sym (and_parts (not (x == 10)) (is_free 10 xs) free).0 ∙ ap (λ y. not (y == 10)) is))
each (x ∷ xs) free (suc k) d within = each xs (and_parts (not (x == 10)) (is_free 10 xs) free).1 k d (omega (arith, within))

-- so the first line is one
pub first-is_line : (bytes : List ℕ) → IsLine (take (position_or_len is_lf bytes) bytes)
first-is_line bytes = each (take (position_or_len is_lf bytes) bytes) (free-first bytes)

-- the place of the first LF, or the length
pub first_or_length : (bytes : List ℕ) → unwrap_or (position is_lf bytes) (length bytes) ≡ position_or_len is_lf bytes
first_or_length bytes = grind (arith, nat_tests, prefix_len-le-length)
