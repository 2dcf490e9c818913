-- By how much `pass` makes a line longer.
use Rattle.std.proofs.Common.{◌≡◌, ℕ, ◌+◌, ◌-◌, Bool, true, false, List, [], ◌∷◌, ◌++◌, length, drop, if◌then◌else◌, refl, sym, ap, ◌∙◌, arith}
use Rattle.std.proofs.lemmas.List.{append_assoc, length-append}
use Rattle.std.proofs.Math.Seq.{drop-append_seam}
use Rattle.py_lines.specs.Piece.{ends_line}
use Rattle.slice_text.specs.Cut.{to_line_end}
use Rattle.slice_text.proofs.Letters.{skip, is_end}

-- what the letters leave of the bytes, and the letters, are longer than the bytes by those that find no place
pub length_skip : (letters bytes : List ℕ) → length (skip letters bytes) + length letters ≡ length bytes + (length letters - to_line_end bytes)
length_skip [] bytes = omega arith
length_skip (letter ∷ letters) [] = omega arith
length_skip (letter ∷ letters) (byte ∷ bytes) = by (ends_line byte) (length_skip letters bytes)
  where
    by : (b : Bool) → length (skip letters bytes) + length letters ≡ length bytes + (length letters - to_line_end bytes)
        → length (if b then byte ∷ bytes else skip letters bytes) + length (letter ∷ letters) ≡ length (byte ∷ bytes) + (length (letter ∷ letters) - (if b then 0 else 1 + to_line_end bytes))
    by true later = omega arith
    by false later = omega (arith, later)

-- behind a line's bytes nothing counts
pub end_over : (bytes rest : List ℕ) → is_end rest ≡ true → to_line_end (bytes ++ rest) ≡ to_line_end bytes
end_over [] [] is = refl
end_over [] (byte ∷ rest) is = ap (λ b. if b then 0 else 1 + to_line_end rest) is
end_over (byte ∷ bytes) rest is = ap (λ n. if ends_line byte then 0 else 1 + n) (end_over bytes rest is)

-- the bytes of a line from an offset on
pub end_from : (text front ahead back rest : List ℕ) (at : ℕ) → text ≡ front ++ ((ahead ++ back) ++ rest) → at ≡ length front + length ahead → is_end rest ≡ true → to_line_end (drop at text) ≡ to_line_end back
end_from text front ahead back rest at text_is at_is is =
    let count : at ≡ length (front ++ ahead) = at_is ∙ sym (length-append front ahead) in
    let whole : text ≡ (front ++ ahead) ++ (back ++ rest) = text_is ∙ (ap (λ (l : List ℕ). front ++ l) (append_assoc ahead back rest) ∙ sym (append_assoc front ahead (back ++ rest))) in
    ap to_line_end (ap (λ n. drop n text) count ∙ (ap (λ (l : List ℕ). drop (length (front ++ ahead)) l) whole ∙ drop-append_seam (front ++ ahead) (back ++ rest))) ∙ end_over back rest is
