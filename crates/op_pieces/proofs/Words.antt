-- The words of a text, one after the other.
use Rattle.std.proofs.Common.{◌≡◌, refl, sym, ap, ◌∙◌, subst, arith, ℕ, zero, suc, ◌<◌, ◌≤◌, ◌==◌, Bool, true, false, List, [], ◌∷◌, ◌++◌, length, take, drop, slice_index, if◌then◌else◌}
use Rattle.std.proofs.lemmas.Bool.{eqb-true}
use Rattle.std.proofs.lemmas.List.{append_assoc}
use Rattle.std.specs.Str.{IsCharBoundary}
use Rattle.op_texts.proofs.White.{white_ascii}
use Rattle.py_model.specs.Texts.{is_white, onto_first, pieces_by_white, filled, words_of, without_white_front}
use Rattle.op_pieces.specs.Puts.{word_end}

-- white space at the start makes no word
front_one : (byte : ℕ) (bytes : List ℕ) (white : Bool) → is_white byte ≡ white → words_of (without_white_front bytes) ≡ words_of bytes → words_of (without_white_front (byte ∷ bytes)) ≡ words_of (byte ∷ bytes)
front_one byte bytes true is rest = ap (λ t. words_of (if t then without_white_front bytes else byte ∷ bytes)) is ∙ (rest
    ∙ sym (ap (λ t. filled (elim t [ true ↦ [] ∷ pieces_by_white bytes | false ↦ onto_first byte (pieces_by_white bytes) ])) is))
front_one byte bytes false is rest = ap (λ t. words_of (if t then without_white_front bytes else byte ∷ bytes)) is

pub front_words : (bytes : List ℕ) → words_of (without_white_front bytes) ≡ words_of bytes
front_words [] = refl
front_words (byte ∷ bytes) = front_one byte bytes (is_white byte) refl (front_words bytes)

-- what begins with no white space begins with a word
abbrev front_of : ℕ → List ℕ → Bool → List ℕ
front_of byte bytes white = if white then without_white_front bytes else byte ∷ bytes

black_one : (byte : ℕ) (bytes : List ℕ) (white : Bool) → is_white byte ≡ white → (0 < length (without_white_front bytes) → 0 < word_end (without_white_front bytes))
    → 0 < length (without_white_front (byte ∷ bytes)) → 0 < word_end (without_white_front (byte ∷ bytes))
black_one byte bytes true is rest some = subst (λ t. 0 < word_end (front_of byte bytes t)) (sym is) (rest (subst (λ t. 0 < length (front_of byte bytes t)) is some))
black_one byte bytes false is rest some = subst (λ t. 0 < word_end (front_of byte bytes t)) (sym is) (subst (λ t. 0 < (if t then 0 else suc (word_end bytes))) (sym is) (omega (arith)))

pub front_black : (bytes : List ℕ) → 0 < length (without_white_front bytes) → 0 < word_end (without_white_front bytes)
front_black [] some = some
front_black (byte ∷ bytes) some = black_one byte bytes (is_white byte) refl (front_black bytes) some

pub front_few : (bytes : List ℕ) → length (without_white_front bytes) ≤ length bytes
front_few [] = omega (arith)
front_few (byte ∷ bytes) = by_white (is_white byte) (front_few bytes)
  where
    by_white : (white : Bool) → length (without_white_front bytes) ≤ length bytes → length (if white then without_white_front bytes else byte ∷ bytes) ≤ suc (length bytes)
    by_white true few = omega (arith, few)
    by_white false few = omega (arith)

-- the pieces behind the first
abbrev behind_first : List ℕ → List (List ℕ)
behind_first [] = []
behind_first (byte ∷ bytes) = pieces_by_white bytes

first_one : (byte : ℕ) (bytes : List ℕ) (white : Bool) → is_white byte ≡ white
    → pieces_by_white bytes ≡ take (word_end bytes) bytes ∷ behind_first (drop (word_end bytes) bytes)
    → pieces_by_white (byte ∷ bytes) ≡ take (word_end (byte ∷ bytes)) (byte ∷ bytes) ∷ behind_first (drop (word_end (byte ∷ bytes)) (byte ∷ bytes))
first_one byte bytes true is rest =
    ap (λ t. elim t [ true ↦ [] ∷ pieces_by_white bytes | false ↦ onto_first byte (pieces_by_white bytes) ]) is
    ∙ sym (ap (λ t. take (if t then 0 else suc (word_end bytes)) (byte ∷ bytes) ∷ behind_first (drop (if t then 0 else suc (word_end bytes)) (byte ∷ bytes))) is)
first_one byte bytes false is rest =
    ap (λ t. elim t [ true ↦ [] ∷ pieces_by_white bytes | false ↦ onto_first byte (pieces_by_white bytes) ]) is
    ∙ (ap (onto_first byte) rest
    ∙ sym (ap (λ t. take (if t then 0 else suc (word_end bytes)) (byte ∷ bytes) ∷ behind_first (drop (if t then 0 else suc (word_end bytes)) (byte ∷ bytes))) is))

first_piece : (bytes : List ℕ) → pieces_by_white bytes ≡ take (word_end bytes) bytes ∷ behind_first (drop (word_end bytes) bytes)
first_piece [] = refl
first_piece (byte ∷ bytes) = first_one byte bytes (is_white byte) refl (first_piece bytes)

-- at the end of a word stands white space, or nothing
white_one : (byte : ℕ) (bytes : List ℕ) (white : Bool) → is_white byte ≡ white → (word_end bytes < length bytes → is_white (slice_index bytes (word_end bytes)) ≡ true)
    → word_end (byte ∷ bytes) < length (byte ∷ bytes) → is_white (slice_index (byte ∷ bytes) (word_end (byte ∷ bytes))) ≡ true
white_one byte bytes true is rest some = ap (λ t. is_white (slice_index (byte ∷ bytes) (if t then 0 else suc (word_end bytes)))) is ∙ is
white_one byte bytes false is rest some = ap (λ t. is_white (slice_index (byte ∷ bytes) (if t then 0 else suc (word_end bytes)))) is
    ∙ rest (below (word_end bytes) (length bytes) (subst (λ t. (if t then 0 else suc (word_end bytes)) < length (byte ∷ bytes)) is some))
  where
    below : (n m : ℕ) → suc n < suc m → n < m
    below n m less = omega (arith, less)

pub end_white : (bytes : List ℕ) → word_end bytes < length bytes → is_white (slice_index bytes (word_end bytes)) ≡ true
end_white [] some = absurd (omega (arith, some))
end_white (byte ∷ bytes) some = white_one byte bytes (is_white byte) refl (end_white bytes) some

pub end_within : (bytes : List ℕ) → word_end bytes ≤ length bytes
end_within [] = omega (arith)
end_within (byte ∷ bytes) = by_white (is_white byte) (end_within bytes)
  where
    by_white : (white : Bool) → word_end bytes ≤ length bytes → (if white then 0 else suc (word_end bytes)) ≤ suc (length bytes)
    by_white true within = omega (arith)
    by_white false within = omega (arith, within)

behind_words : (bytes : List ℕ) (end : ℕ) → (end < length bytes → is_white (slice_index bytes end) ≡ true) → filled (behind_first (drop end bytes)) ≡ words_of (drop end bytes)
behind_words [] zero white = refl
behind_words [] (suc end) white = refl
behind_words (byte ∷ bytes) zero white = sym (ap (λ t. filled (elim t [ true ↦ [] ∷ pieces_by_white bytes | false ↦ onto_first byte (pieces_by_white bytes) ])) (white (omega (arith))))
behind_words (byte ∷ bytes) (suc end) white = behind_words bytes end (λ less. white (omega (arith, less)))

filled_first : (bytes : List ℕ) (end : ℕ) (more : List (List ℕ)) → 0 < end → end ≤ length bytes → filled (take end bytes ∷ more) ≡ take end bytes ∷ filled more
filled_first bytes zero more some within = absurd (omega (arith, some))
filled_first [] (suc end) more some within = absurd (omega (arith, within))
filled_first (byte ∷ bytes) (suc end) more some within = refl

-- the first word, and the others
pub word_first : (bytes : List ℕ) → 0 < word_end bytes → words_of bytes ≡ take (word_end bytes) bytes ∷ words_of (drop (word_end bytes) bytes)
word_first bytes some = ap filled (first_piece bytes)
    ∙ (filled_first bytes (word_end bytes) (behind_first (drop (word_end bytes) bytes)) some (end_within bytes)
    ∙ ap (λ ws. take (word_end bytes) bytes ∷ ws) (behind_words bytes (word_end bytes) (end_white bytes)))

-- a character begins at the end of a word, or nothing does
pub end_boundary : (bytes : List ℕ) (end : ℕ) → end ≡ word_end bytes → IsCharBoundary bytes end
end_boundary bytes end is = (within, λ less high. absurd (low less high))
  where
    within : end ≤ length bytes
    within = let few = end_within bytes in omega (arith, is, few)

    low : end < length bytes → 128 ≤ slice_index bytes end → ⊥
    low less high =
        let white : is_white (slice_index bytes end) ≡ true = ap (λ n. is_white (slice_index bytes n)) is ∙ end_white bytes (omega (arith, is, less)) in
        let ascii = white_ascii (slice_index bytes end) white in
        omega (arith, high, ascii)

-- one word more
pub word_more : (done : List (List ℕ)) (rest whole : List ℕ) (end : ℕ) (word back : List ℕ) → end ≡ word_end rest → 0 < word_end rest → word ≡ take end rest → back ≡ drop end rest
    → done ++ words_of rest ≡ words_of whole → (done ++ word ∷ []) ++ words_of back ≡ words_of whole
word_more done rest whole end word back at some front behind left =
    append_assoc done (word ∷ []) (words_of back)
    ∙ (ap (λ w. done ++ w ∷ words_of back) (front ∙ ap (λ n. take n rest) at)
    ∙ (ap (λ b. done ++ take (word_end rest) rest ∷ words_of b) (behind ∙ ap (λ n. drop n rest) at)
    ∙ (ap (λ ws. done ++ ws) (sym (word_first rest some)) ∙ left)))

pub words_none : (rest : List ℕ) → (length rest == 0) ≡ true → words_of rest ≡ []
words_none [] is = refl
words_none (byte ∷ rest) is = absurd (apart (length rest) is)
  where
    apart : (n : ℕ) → (suc n == 0) ≡ true → ⊥
    apart n is = let same = eqb-true (suc n) 0 is in omega (arith, same)
