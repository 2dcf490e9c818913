-- A line of a cut text whose blanks hold line ends is spread over rows.
use Rattle.std.proofs.Common.{◌≡◌, ℕ, ◌+◌, ◌==◌, Bool, true, List, [], ◌∷◌, ◌++◌, length, Some, refl, sym, ap, subst, ◌∙◌, append_assoc, append-nil, length-append, eqb-true, arith}
use Rattle.std.specs.List.{list_all}
use Rattle.std.proofs.lemmas.Bool.{false≢true, and_parts, and_from}
use Rattle.py_lines.specs.declared.parts.Line.{Line}
use Rattle.py_lines.specs.Piece.{Piece, word, number, sign, literal, blank, comment, line_end, spelled, text_of, line_end_text}
use Rattle.py_lines.specs.Written.{Written, last, more, pieces_of, open_after, is_closed, is_indented, is_line, behind_line, are_lines, line_at, lines_of}
use Rattle.slice_text.proofs.Fronts.{space_indented, space_open, space_moved}
use Rattle.slice_text.proofs.Letters.{is_space}
use Rattle.slice_text.proofs.Moved.{Move}
use Rattle.slice_text.proofs.Redone.{AreMoved}

-- what stands behind a row: nothing, or a line end and further rows
pub data Behind : Type 0 where
  nothing : Behind
  ended : (return : Bool) → (rest : Written) → Behind

abbrev pub pieces_behind : Behind → List Piece
pieces_behind nothing = []
pieces_behind (ended return rest) = line_end return ∷ pieces_of rest

-- a row begun by the pieces `acc`, and the blanks behind them
abbrev pub spread : (acc xs : List Piece) → Behind → Written
spread acc [] nothing = last acc
spread acc [] (ended return rest) = more acc return rest
spread acc (line_end return ∷ xs) behind = more acc return (spread [] xs behind)
spread acc (piece ∷ xs) behind = spread (acc ++ piece ∷ []) xs behind

one_more : (acc xs : List Piece) (p : Piece) (b : Behind) → ((acc ++ p ∷ []) ++ xs) ++ pieces_behind b ≡ (acc ++ p ∷ xs) ++ pieces_behind b
one_more acc xs p b = ap (λ (l : List Piece). l ++ pieces_behind b) (append_assoc acc (p ∷ []) xs)

pub spread_pieces : (acc xs : List Piece) (b : Behind) → pieces_of (spread acc xs b) ≡ (acc ++ xs) ++ pieces_behind b
spread_pieces acc [] nothing = sym (append-nil (acc ++ []) ∙ append-nil acc)
spread_pieces acc [] (ended return rest) = ap (λ (l : List Piece). l ++ line_end return ∷ pieces_of rest) (sym (append-nil acc))
spread_pieces acc (line_end return ∷ xs) b = ap (λ (l : List Piece). acc ++ line_end return ∷ l) (spread_pieces [] xs b) ∙ sym (append_assoc acc (line_end return ∷ xs) (pieces_behind b))
spread_pieces acc (word name ∷ xs) b = spread_pieces (acc ++ word name ∷ []) xs b ∙ one_more acc xs (word name) b
spread_pieces acc (number digits ∷ xs) b = spread_pieces (acc ++ number digits ∷ []) xs b ∙ one_more acc xs (number digits) b
spread_pieces acc (sign bytes ∷ xs) b = spread_pieces (acc ++ sign bytes ∷ []) xs b ∙ one_more acc xs (sign bytes) b
spread_pieces acc (literal mark triple items ∷ xs) b = spread_pieces (acc ++ literal mark triple items ∷ []) xs b ∙ one_more acc xs (literal mark triple items) b
spread_pieces acc (blank byte ∷ xs) b = spread_pieces (acc ++ blank byte ∷ []) xs b ∙ one_more acc xs (blank byte) b
spread_pieces acc (comment bytes ∷ xs) b = spread_pieces (acc ++ comment bytes ∷ []) xs b ∙ one_more acc xs (comment bytes) b

-- ---- rows

-- a row that is a line, with these lines left of it
pub record Row (m : Move) (text : List ℕ) (at : ℕ) (lines : List Line) (line : List Piece) : Type 0 where
  pub indented : is_indented line ≡ true
  pub closed : open_after at [] line ≡ Some []
  pub moved : AreMoved m lines (line_at text at line)

pub record Rows (m : Move) (text : List ℕ) (at : ℕ) (lines : List Line) (w : Written) : Type 0 where
  pub are : are_lines at w ≡ true
  pub moved : AreMoved m lines (lines_of text at w)

abbrev pub RowsBehind : Move → List ℕ → ℕ → List Line → Behind → Type 0
RowsBehind m text at lines nothing = lines ≡ []
RowsBehind m text at lines (ended return rest) = Rows m text (at + length (line_end_text return)) lines rest

pub moved_both : (m : Move) (a b x y : List Line) → AreMoved m a x → AreMoved m b y → AreMoved m (a ++ b) (x ++ y)
moved_both m [] b [] y one two = two
moved_both m [] b (o ∷ x) y one two = absurd one
moved_both m (l ∷ a) b [] y one two = absurd one
moved_both m (l ∷ a) b (o ∷ x) y one two = (one.0, moved_both m a b x y one.1 two)

is_row : (m : Move) (text : List ℕ) (at : ℕ) (lines : List Line) (line : List Piece) → Row m text at lines line → is_line at line ≡ true
is_row m text at lines line row = and_from (is_indented line) (is_closed (open_after at [] line)) row.indented (ap is_closed row.closed)

wider : (m : Move) (text : List ℕ) (at : ℕ) (lines : List Line) (line : List Piece) → Row m text at lines line → Row m text at lines (line ++ blank 32 ∷ [])
wider m text at lines line row = record {
  indented = space_indented line row.indented;
  closed = space_open at line row.closed;
  moved = space_moved m lines text at line row.moved;
}

pub empty_row : (m : Move) (text : List ℕ) (at : ℕ) → Row m text at [] []
empty_row m text at = record { indented = refl; closed = refl; moved = tt }

length_over : (a b : List Piece) → length (text_of (a ++ b)) ≡ length (text_of a) + length (text_of b)
length_over [] b = omega arith
length_over (p ∷ a) b =
    let rest = length_over a b in
    let one = length-append (spelled p) (text_of (a ++ b)) in
    let two = length-append (spelled p) (text_of a) in omega (arith, rest, one, two)

pub spread_rows : (m : Move) (text : List ℕ) (at : ℕ) (lines later : List Line) (acc xs : List Piece) (b : Behind) → list_all is_space xs ≡ true → Row m text at lines acc
    → RowsBehind m text (at + length (text_of (acc ++ xs))) later b → Rows m text at (lines ++ later) (spread acc xs b)
spread_rows m text at lines later acc [] nothing all row none = record {
  are = is_row m text at lines acc row;
  moved = subst (λ (ls : List Line). AreMoved m ls (line_at text at acc)) (sym (ap (λ (ls : List Line). lines ++ ls) none ∙ append-nil lines)) row.moved;
}
spread_rows m text at lines later acc [] (ended return rest) all row further =
    let offset : at + length (text_of (acc ++ [])) + length (line_end_text return) ≡ behind_line at acc return = ap (λ (l : List Piece). at + length (text_of l) + length (line_end_text return)) (append-nil acc) in
    let rows = subst (λ n. Rows m text n later rest) offset further in
    record {
      are = and_from (is_line at acc) (are_lines (behind_line at acc return) rest) (is_row m text at lines acc row) rows.are;
      moved = moved_both m lines later (line_at text at acc) (lines_of text (behind_line at acc return) rest) row.moved rows.moved;
    }
spread_rows m text at lines later acc (line_end return ∷ xs) b all row further =
    let next : ℕ = behind_line at acc return in
    let sum = length_over acc (line_end return ∷ xs) in
    let one = length-append (line_end_text return) (text_of xs) in
    let offset : at + length (text_of (acc ++ line_end return ∷ xs)) ≡ next + length (text_of ([] ++ xs)) = omega (arith, sum, one) in
    let rows = spread_rows m text next [] later [] xs b all (empty_row m text next) (subst (λ n. RowsBehind m text n later b) offset further) in
    record {
      are = and_from (is_line at acc) (are_lines next (spread [] xs b)) (is_row m text at lines acc row) rows.are;
      moved = moved_both m lines later (line_at text at acc) (lines_of text next (spread [] xs b)) row.moved rows.moved;
    }
spread_rows m text at lines later acc (blank byte ∷ xs) b all row further =
    let parts = and_parts (byte == 32) (list_all is_space xs) all in
    let same : byte ≡ 32 = eqb-true byte 32 parts.0 in
    spread_rows m text at lines later (acc ++ blank byte ∷ []) xs b parts.1 (subst (λ n. Row m text at lines (acc ++ blank n ∷ [])) (sym same) (wider m text at lines acc row))
    (subst (λ (l : List Piece). RowsBehind m text (at + length (text_of l)) later b) (sym (append_assoc acc (blank byte ∷ []) xs)) further)
spread_rows m text at lines later acc (word name ∷ xs) b all row further = absurd (false≢true all)
spread_rows m text at lines later acc (number digits ∷ xs) b all row further = absurd (false≢true all)
spread_rows m text at lines later acc (sign bytes ∷ xs) b all row further = absurd (false≢true all)
spread_rows m text at lines later acc (literal mark triple items ∷ xs) b all row further = absurd (false≢true all)
spread_rows m text at lines later acc (comment bytes ∷ xs) b all row further = absurd (false≢true all)
