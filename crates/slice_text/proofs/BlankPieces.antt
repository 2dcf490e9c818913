-- Blank bytes as pieces: spaces between line ends.
use Rattle.std.proofs.Common.{◌≡◌, ℕ, ◌==◌, Bool, true, false, ◌&&◌, ◌||◌, not, List, [], ◌∷◌, ◌++◌, map, if◌then◌else◌, eqb-true, refl, sym, ap, ◌∙◌}
use Rattle.std.proofs.lemmas.Bool.{false≢true}
use Rattle.py_lines.specs.Piece.{Piece, blank, line_end, text_of}
use Rattle.slice_text.proofs.CutRows.{blank_byte}

-- a CR stands only before an LF; `r` says that one stands before these bytes
abbrev pub returns_end : (r : Bool) → List ℕ → Bool
returns_end r [] = not r
returns_end r (b ∷ bs) = if b == 10 then returns_end false bs else (not r && (if b == 13 then returns_end true bs else returns_end false bs))

-- a space for each byte, but for line ends
abbrev pub blank_from : (r : Bool) → List ℕ → List Piece
blank_from r [] = []
blank_from r (b ∷ bs) = if b == 10 then line_end r ∷ blank_from false bs else (if b == 13 then blank_from true bs else blank 32 ∷ blank_from false bs)

-- the CR that stands before
abbrev pub held : Bool → List ℕ
held true = 13 ∷ []
held false = []

pub blank_text : (r : Bool) (bytes : List ℕ) → returns_end r bytes ≡ true → text_of (blank_from r bytes) ≡ held r ++ map blank_byte bytes
blank_text false [] is = refl
blank_text true [] is = absurd (false≢true is)
blank_text r (b ∷ bs) is = chosen r (b == 10) (b == 13) refl refl is (blank_text false bs) (blank_text true bs)
  where
    chosen : (r lf cr : Bool) → (b == 10) ≡ lf → (b == 13) ≡ cr → (if lf then returns_end false bs else (not r && (if cr then returns_end true bs else returns_end false bs))) ≡ true
        → (returns_end false bs ≡ true → text_of (blank_from false bs) ≡ map blank_byte bs) → (returns_end true bs ≡ true → text_of (blank_from true bs) ≡ 13 ∷ map blank_byte bs)
        → text_of (if lf then line_end r ∷ blank_from false bs else (if cr then blank_from true bs else blank 32 ∷ blank_from false bs)) ≡ held r ++ (if lf || cr then b else 32) ∷ map blank_byte bs
    chosen false true cr e1 e2 is one two = ap (λ (l : List ℕ). 10 ∷ l) (one is) ∙ ap (λ (x : ℕ). x ∷ map blank_byte bs) (sym (eqb-true b 10 e1))
    chosen true true cr e1 e2 is one two = ap (λ (l : List ℕ). 13 ∷ 10 ∷ l) (one is) ∙ ap (λ (x : ℕ). 13 ∷ x ∷ map blank_byte bs) (sym (eqb-true b 10 e1))
    chosen true false cr e1 e2 is one two = absurd (false≢true is)
    chosen false false true e1 e2 is one two = two is ∙ ap (λ (x : ℕ). x ∷ map blank_byte bs) (sym (eqb-true b 13 e2))
    chosen false false false e1 e2 is one two = ap (λ (l : List ℕ). 32 ∷ l) (one is)
