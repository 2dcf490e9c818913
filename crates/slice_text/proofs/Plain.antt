-- Texts of ASCII bytes are UTF-8.
use Rattle.std.proofs.Common.{◌≡◌, ℕ, zero, suc, ◌<◌, ◌==◌, nat_le, Bool, true, false, List, [], ◌∷◌, get_or, leb-true, eqb-true, refl, sym, subst, arith}
use Rattle.std.specs.List.{list_all}
use Rattle.std.specs.Str.{IsUtf8}
use Rattle.std.proofs.lemmas.Bool.{false≢true, and_parts}
use Rattle.std.proofs.lemmas.Str.{IsUtf8-append, IsUtf8-from_ascii}
use Rattle.py_lines.specs.Piece.{Piece, word, number, sign, literal, blank, comment, line_end, text_of, line_end_text}
use Rattle.slice_text.proofs.Letters.{is_space}

ascii : (bytes : List ℕ) → list_all (λ byte. nat_le byte 127) bytes ≡ true → (i : ℕ) → get_or bytes i 0 < 128
ascii [] all i = omega arith
ascii (b ∷ bytes) all zero = let low = leb-true b 127 (and_parts (nat_le b 127) (list_all (λ byte. nat_le byte 127) bytes) all).0 in omega (arith, low)
ascii (b ∷ bytes) all (suc i) = ascii bytes (and_parts (nat_le b 127) (list_all (λ byte. nat_le byte 127) bytes) all).1 i

pub plain_utf8 : (bytes : List ℕ) → list_all (λ byte. nat_le byte 127) bytes ≡ true → IsUtf8 bytes
plain_utf8 bytes all = IsUtf8-from_ascii bytes (ascii bytes all)

pub end_utf8 : (return : Bool) → IsUtf8 (line_end_text return)
end_utf8 false = plain_utf8 (10 ∷ []) refl
end_utf8 true = plain_utf8 (13 ∷ 10 ∷ []) refl

pub spaces_utf8 : (xs : List Piece) → list_all is_space xs ≡ true → IsUtf8 (text_of xs)
spaces_utf8 [] all = plain_utf8 [] refl
spaces_utf8 (word name ∷ xs) all = absurd (false≢true all)
spaces_utf8 (number digits ∷ xs) all = absurd (false≢true all)
spaces_utf8 (sign bytes ∷ xs) all = absurd (false≢true all)
spaces_utf8 (literal mark triple items ∷ xs) all = absurd (false≢true all)
spaces_utf8 (comment bytes ∷ xs) all = absurd (false≢true all)
spaces_utf8 (blank byte ∷ xs) all =
    let parts = and_parts (byte == 32) (list_all is_space xs) all in
    IsUtf8-append (byte ∷ []) (text_of xs) (subst (λ (n : ℕ). IsUtf8 (n ∷ [])) (sym (eqb-true byte 32 parts.0)) (plain_utf8 (32 ∷ []) refl)) (spaces_utf8 xs parts.1)
spaces_utf8 (line_end return ∷ xs) all = IsUtf8-append (line_end_text return) (text_of xs) (end_utf8 return) (spaces_utf8 xs all)
