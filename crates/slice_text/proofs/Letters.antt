-- `pass` over bytes that go: its letters, and spaces for what they leave. As pieces: the word, spaces and line ends.
use Rattle.std.proofs.Common.{◌≡◌, ℕ, ◌==◌, Bool, true, false, ◌&&◌, ◌||◌, not, List, [], ◌∷◌, ◌++◌, map, drop, codes, if◌then◌else◌, refl, sym, ap, ◌∙◌, append-nil}
use Rattle.std.specs.List.{list_all}
use Rattle.std.proofs.lemmas.Bool.{false≢true, and_parts, and_from, or_left, or_from}
use Rattle.py_lines.specs.Piece.{Piece, word, number, sign, literal, blank, comment, line_end, ends_line, text_of, are_cut, ends, is_name_byte}
use Rattle.py_lines.proofs.Accepting.{other_byte}
use Rattle.slice_text.proofs.BlankPieces.{returns_end, blank_from}
use Rattle.slice_text.proofs.CutRows.{blank_byte, over}
use Rattle.slice_text.proofs.Recut.{is_plain}
use Rattle.slice_text.proofs.Returns.{Returns}

-- ---- bytes

-- the bytes behind those that the letters take the place of
abbrev pub skip : (letters bytes : List ℕ) → List ℕ
skip [] bytes = bytes
skip (letter ∷ letters) [] = []
skip (letter ∷ letters) (byte ∷ bytes) = if ends_line byte then byte ∷ bytes else skip letters bytes

pub over_skips : (letters bytes : List ℕ) → over letters bytes ≡ letters ++ map blank_byte (skip letters bytes)
over_skips [] [] = refl
over_skips (letter ∷ letters) [] = sym (append-nil (letter ∷ letters))
over_skips [] (byte ∷ bytes) = chosen (ends_line byte) ∙ ap (λ (l : List ℕ). blank_byte byte ∷ l) (over_skips [] bytes)
  where
    chosen : (b : Bool) → (if b then [] ++ byte ∷ over [] bytes else 32 ∷ over (drop 1 []) bytes) ≡ (if b then byte else 32) ∷ over [] bytes
    chosen true = refl
    chosen false = refl
over_skips (letter ∷ letters) (byte ∷ bytes) = chosen (ends_line byte) refl (over_skips [] bytes) (over_skips letters bytes)
  where
    chosen : (b : Bool) → ends_line byte ≡ b → over [] bytes ≡ map blank_byte bytes → over letters bytes ≡ letters ++ map blank_byte (skip letters bytes)
        → (if b then (letter ∷ letters) ++ byte ∷ over [] bytes else letter ∷ over letters bytes) ≡ (letter ∷ letters) ++ map blank_byte (if b then byte ∷ bytes else skip letters bytes)
    chosen true is one two =
        ap (λ (l : List ℕ). (letter ∷ letters) ++ byte ∷ l) one ∙ ap (λ b. (letter ∷ letters) ++ (if b then byte else 32) ∷ map blank_byte bytes) (sym is)
    chosen false is one two = ap (λ (l : List ℕ). letter ∷ l) two

pub returns_skip : (letters bytes : List ℕ) → Returns bytes → Returns (skip letters bytes)
returns_skip [] bytes is = is
returns_skip (letter ∷ letters) [] is = refl
returns_skip (letter ∷ letters) (byte ∷ bytes) is = chosen (byte == 10) (byte == 13) is (returns_skip letters bytes)
  where
    chosen : (lf cr : Bool) → (if lf then returns_end false bytes else (true && (if cr then returns_end true bytes else returns_end false bytes))) ≡ true
        → (Returns bytes → Returns (skip letters bytes)) → Returns (if lf || cr then byte ∷ bytes else skip letters bytes)
    chosen true cr one later = is
    chosen false true one later = is
    chosen false false one later = later one

-- ---- pieces

-- a space or a line end
abbrev pub is_space : Piece → Bool
is_space (blank byte) = byte == 32
is_space (line_end return) = true
is_space piece = false

pub blanks_are : (r : Bool) (bytes : List ℕ) → list_all is_space (blank_from r bytes) ≡ true
blanks_are r [] = refl
blanks_are r (byte ∷ bytes) = chosen (byte == 10) (byte == 13) (blanks_are false bytes) (blanks_are true bytes)
  where
    chosen : (lf cr : Bool) → list_all is_space (blank_from false bytes) ≡ true → list_all is_space (blank_from true bytes) ≡ true
        → list_all is_space (if lf then line_end r ∷ blank_from false bytes else (if cr then blank_from true bytes else blank 32 ∷ blank_from false bytes)) ≡ true
    chosen true cr one two = one
    chosen false true one two = two
    chosen false false one two = one

ends_blank : (byte : ℕ) (text : List ℕ) → ends (blank byte) text ≡ true
ends_blank byte [] = refl
ends_blank byte (b ∷ text) = refl

pub ends_end : (return : Bool) (text : List ℕ) → ends (line_end return) text ≡ true
ends_end return [] = refl
ends_end return (b ∷ text) = refl

pub spaces_cut : (xs : List Piece) (rest : List ℕ) → list_all is_space xs ≡ true → are_cut xs rest ≡ true
spaces_cut [] rest all = refl
spaces_cut (word name ∷ xs) rest all = absurd (false≢true all)
spaces_cut (number digits ∷ xs) rest all = absurd (false≢true all)
spaces_cut (sign bytes ∷ xs) rest all = absurd (false≢true all)
spaces_cut (literal mark triple items ∷ xs) rest all = absurd (false≢true all)
spaces_cut (comment bytes ∷ xs) rest all = absurd (false≢true all)
spaces_cut (blank byte ∷ xs) rest all =
    let parts = and_parts (byte == 32) (list_all is_space xs) all in
    and_from (((byte == 32) || (byte == 9)) && ends (blank byte) (text_of xs ++ rest)) (are_cut xs rest)
    (and_from ((byte == 32) || (byte == 9)) (ends (blank byte) (text_of xs ++ rest)) (or_left (byte == 32) (byte == 9) parts.0) (ends_blank byte (text_of xs ++ rest))) (spaces_cut xs rest parts.1)
spaces_cut (line_end return ∷ xs) rest all =
    and_from (ends (line_end return) (text_of xs ++ rest)) (are_cut xs rest) (ends_end return (text_of xs ++ rest)) (spaces_cut xs rest all)

-- what stands behind a line: nothing, or a line end
abbrev pub is_end : List ℕ → Bool
is_end [] = true
is_end (byte ∷ bytes) = ends_line byte

abbrev pub is_gap : List ℕ → Bool
is_gap [] = true
is_gap (byte ∷ bytes) = (byte == 32) || ends_line byte

gap_end : (rest : List ℕ) → is_end rest ≡ true → is_gap rest ≡ true
gap_end [] is = refl
gap_end (byte ∷ rest) is = right (byte == 32) (ends_line byte) is
  where
    right : (a b : Bool) → b ≡ true → (a || b) ≡ true
    right true b is = refl
    right false b is = is

pub spaces_gap : (xs : List Piece) (rest : List ℕ) → list_all is_space xs ≡ true → is_end rest ≡ true → is_gap (text_of xs ++ rest) ≡ true
spaces_gap [] rest all is = gap_end rest is
spaces_gap (word name ∷ xs) rest all is = absurd (false≢true all)
spaces_gap (number digits ∷ xs) rest all is = absurd (false≢true all)
spaces_gap (sign bytes ∷ xs) rest all is = absurd (false≢true all)
spaces_gap (literal mark triple items ∷ xs) rest all is = absurd (false≢true all)
spaces_gap (comment bytes ∷ xs) rest all is = absurd (false≢true all)
spaces_gap (blank byte ∷ xs) rest all is = or_left (byte == 32) (ends_line byte) (and_parts (byte == 32) (list_all is_space xs) all).0
spaces_gap (line_end false ∷ xs) rest all is = refl
spaces_gap (line_end true ∷ xs) rest all is = refl

pub gap_plain : (text : List ℕ) → is_gap text ≡ true → is_plain text ≡ true
gap_plain [] is = refl
gap_plain (byte ∷ text) is = or_left ((byte == 32) || ends_line byte) (byte == 112) is

-- `pass` stands before spaces and line ends
pub pass_ends : (text : List ℕ) → is_gap text ≡ true → ends (word (codes "pass")) text ≡ true
pass_ends [] is = refl
pass_ends (byte ∷ text) is = differs (is_name_byte byte) refl
  where
    differs : (b : Bool) → is_name_byte byte ≡ b → not b ≡ true
    differs false on = refl
    differs true on = absurd (false≢true (sym (or_from (byte == 32) (ends_line byte) (other_byte is_name_byte byte 32 on refl)
        (or_from (byte == 10) (byte == 13) (other_byte is_name_byte byte 10 on refl) (other_byte is_name_byte byte 13 on refl))) ∙ is))
