-- What is written, with one piece or one line end more.
use Rattle.std.proofs.Common.{◌≡◌, ℕ, ◌+◌, Bool, true, false, ◌&&◌, List, [], ◌∷◌, ◌++◌, length, refl, sym, ap, ◌∙◌, append_assoc, append-nil, length-append, arith}
use Rattle.py_lines.specs.declared.parts.Line.{Line}
use Rattle.py_lines.specs.Piece.{Piece, line_end, text_of, line_end_text}
use Rattle.py_lines.specs.Written.{Written, last, more, pieces_of, is_line, are_lines, behind_line, line_at, lines_of}
use Rattle.py_lines.specs.Faults.{last_line, last_from, are_lines_before}
use Rattle.py_lines.proofs.Snoc.{text_of-append}

abbrev pub put : Written → Piece → Written
put (last line) piece = last (line ++ piece ∷ [])
put (more line return rest) piece = more line return (put rest piece)

abbrev pub ended : Written → Bool → Written
ended (last line) return = more line return (last [])
ended (more line return rest) return' = more line return (ended rest return')

-- the logical lines before the last line
abbrev pub lines_before : List ℕ → ℕ → Written → List Line
lines_before text at (last line) = []
lines_before text at (more line return rest) = line_at text at line ++ lines_before text (behind_line at line return) rest

pub put-pieces : (w : Written) (p : Piece) → pieces_of (put w p) ≡ pieces_of w ++ p ∷ []
put-pieces (last line) p = refl
put-pieces (more line return rest) p =
    ap (λ (ps : List Piece). line ++ line_end return ∷ ps) (put-pieces rest p) ∙ sym (append_assoc line (line_end return ∷ pieces_of rest) (p ∷ []))

pub put-last_line : (w : Written) (p : Piece) → last_line (put w p) ≡ last_line w ++ p ∷ []
put-last_line (last line) p = refl
put-last_line (more line return rest) p = put-last_line rest p

pub put-last_from : (at : ℕ) (w : Written) (p : Piece) → last_from at (put w p) ≡ last_from at w
put-last_from at (last line) p = refl
put-last_from at (more line return rest) p = put-last_from (behind_line at line return) rest p

pub put-before : (at : ℕ) (w : Written) (p : Piece) → are_lines_before at (put w p) ≡ are_lines_before at w
put-before at (last line) p = refl
put-before at (more line return rest) p = ap (λ (b : Bool). is_line at line && b) (put-before (behind_line at line return) rest p)

pub put-lines : (text : List ℕ) (at : ℕ) (w : Written) (p : Piece) → lines_before text at (put w p) ≡ lines_before text at w
put-lines text at (last line) p = refl
put-lines text at (more line return rest) p = ap (λ (ls : List Line). line_at text at line ++ ls) (put-lines text (behind_line at line return) rest p)

pub ended-pieces : (w : Written) (r : Bool) → pieces_of (ended w r) ≡ pieces_of w ++ line_end r ∷ []
ended-pieces (last line) r = refl
ended-pieces (more line return rest) r =
    ap (λ (ps : List Piece). line ++ line_end return ∷ ps) (ended-pieces rest r) ∙ sym (append_assoc line (line_end return ∷ pieces_of rest) (line_end r ∷ []))

pub ended-last_line : (w : Written) (r : Bool) → last_line (ended w r) ≡ []
ended-last_line (last line) r = refl
ended-last_line (more line return rest) r = ended-last_line rest r

pub ended-last_from : (at : ℕ) (w : Written) (r : Bool) → last_from at (ended w r) ≡ behind_line (last_from at w) (last_line w) r
ended-last_from at (last line) r = refl
ended-last_from at (more line return rest) r = ended-last_from (behind_line at line return) rest r

and_true : (b : Bool) → (b && true) ≡ b
and_true true = refl
and_true false = refl

and_assoc : (a b c : Bool) → (a && (b && c)) ≡ ((a && b) && c)
and_assoc true b c = refl
and_assoc false b c = refl

pub ended-before : (at : ℕ) (w : Written) (r : Bool) → are_lines_before at (ended w r) ≡ (are_lines_before at w && is_line (last_from at w) (last_line w))
ended-before at (last line) r = and_true (is_line at line)
ended-before at (more line return rest) r =
    ap (λ (b : Bool). is_line at line && b) (ended-before (behind_line at line return) rest r)
    ∙ and_assoc (is_line at line) (are_lines_before (behind_line at line return) rest) (is_line (last_from (behind_line at line return) rest) (last_line rest))

pub ended-lines : (text : List ℕ) (at : ℕ) (w : Written) (r : Bool) → lines_before text at (ended w r) ≡ lines_before text at w ++ line_at text (last_from at w) (last_line w)
ended-lines text at (last line) r = append-nil (line_at text at line)
ended-lines text at (more line return rest) r =
    ap (λ (ls : List Line). line_at text at line ++ ls) (ended-lines text (behind_line at line return) rest r)
    ∙ sym (append_assoc (line_at text at line) (lines_before text (behind_line at line return) rest) (line_at text (last_from (behind_line at line return) rest) (last_line rest)))

-- ---- the whole, where the last line is its end

pub whole-lines : (text : List ℕ) (at : ℕ) (w : Written) → lines_of text at w ≡ lines_before text at w ++ line_at text (last_from at w) (last_line w)
whole-lines text at (last line) = refl
whole-lines text at (more line return rest) =
    ap (λ (ls : List Line). line_at text at line ++ ls) (whole-lines text (behind_line at line return) rest)
    ∙ sym (append_assoc (line_at text at line) (lines_before text (behind_line at line return) rest) (line_at text (last_from (behind_line at line return) rest) (last_line rest)))

pub whole-are : (at : ℕ) (w : Written) → are_lines at w ≡ (are_lines_before at w && is_line (last_from at w) (last_line w))
whole-are at (last line) = refl
whole-are at (more line return rest) =
    ap (λ (b : Bool). is_line at line && b) (whole-are (behind_line at line return) rest)
    ∙ and_assoc (is_line at line) (are_lines_before (behind_line at line return) rest) (is_line (last_from (behind_line at line return) rest) (last_line rest))

pub whole-length : (at : ℕ) (w : Written) → at + length (text_of (pieces_of w)) ≡ last_from at w + length (text_of (last_line w))
whole-length at (last line) = refl
whole-length at (more line return rest) =
    let tail = whole-length (behind_line at line return) rest in
    let whole = ap length (text_of-append line (line_end return ∷ pieces_of rest)) in
    let parts = length-append (text_of line) (line_end_text return ++ text_of (pieces_of rest)) in
    let ending = length-append (line_end_text return) (text_of (pieces_of rest)) in
    omega (arith, tail, whole, parts, ending)
