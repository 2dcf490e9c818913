-- The tokens of a text's logical lines stand in its order: their places ascend, and so do their bytes.
use Rattle.std.proofs.Common.{◌≡◌, inl, inr, ◌⊎◌, ℕ, ◌+◌, ◌<◌, ◌≤◌, ◌==◌, Bool, true, false, ◌&&◌, ◌||◌, List, [], ◌∷◌, ◌++◌, length, Option, Some, None, is_some, if◌then◌else◌, refl, sym, ap, subst, ◌∙◌, append_assoc, append-nil, length-append, arith, eq-eqb}
use Rattle.std.specs.Prelude.{⊤, nat_lt}
use Rattle.std.specs.List.{list_all, list_any}
use Rattle.std.specs.Option.{option_map_or}
use Rattle.std.proofs.lemmas.Bool.{false≢true, and_parts, lt-ltb}
use Rattle.prov_base.specs.declared.place.Pos.{Pos}
use Rattle.py_lines.specs.declared.parts.Line.{Line}
use Rattle.py_lines.specs.declared.parts.Token.{Token}
use Rattle.py_lines.specs.declared.parts.TokenKind.{TokenKind}
use Rattle.py_lines.specs.Piece.{Piece, word, number, sign, literal, blank, comment, line_end, spelled, text_of, is_piece, ends, are_cut}
use Rattle.py_lines.specs.Place.{place, place_behind}
use Rattle.py_lines.specs.Counting.{next_place, place_after}
use Rattle.py_lines.specs.Written.{Written, last, more, pieces_of, behind_line, kind_of, is_token, token_at, tokens_of, indentation, line_at, lines_of}
use Rattle.py_lines.specs.Logical.{HasLines}
use Rattle.py_lines.proofs.PlaceLemmas.{place_behind-append, place-front}
use Rattle.py_tree.specs.Places.{is_before, are_ascending}
use Rattle.py_grammar.proofs.NestedBytes.{Rises, Runs, rises_sooner}
use Rattle.py_grammar.proofs.ScriptPlaces.{spots, line_spots, spots_append, line_spots_append}

-- ---- places in order

-- the one place stands before the other
abbrev pub IsBefore : Pos → Pos → Type 0
IsBefore one other = (one.line < other.line) ⊎ ((one.line ≡ other.line) × (one.col < other.col))

-- the other place is this one or stands behind it
abbrev pub IsFrom : Pos → Pos → Type 0
IsFrom one other = (one ≡ other) ⊎ IsBefore one other

before_before : (a b c : Pos) → IsBefore a b → IsBefore b c → IsBefore a c
before_before a b c (inl one) (inl two) = inl (omega (arith, one, two))
before_before a b c (inl one) (inr two) = inl (let same = two.0 in omega (arith, one, same))
before_before a b c (inr one) (inl two) = inl (let same = one.0 in omega (arith, two, same))
before_before a b c (inr one) (inr two) = inr (one.0 ∙ two.0, let near = one.1 in let far = two.1 in omega (arith, near, far))

pub before_from : (a b c : Pos) → IsBefore a b → IsFrom b c → IsBefore a c
before_from a b c one (inl same) = subst (λ (p : Pos). IsBefore a p) same one
before_from a b c one (inr two) = before_before a b c one two

-- each byte leads to a place further on
next_before : (here : Pos) (byte : ℕ) → IsBefore here (next_place here byte)
next_before here byte = by (byte == 10)
  where
    by : (ends : Bool) → IsBefore here (if ends then record { line = here.line + 1; col = 1 } else record { line = here.line; col = here.col + 1 })
    by true = inl (omega arith)
    by false = inr (refl, omega arith)

after_from : (here : Pos) (bytes : List ℕ) → IsFrom here (place_after here bytes)
after_from here [] = inl refl
after_from here (byte ∷ bytes) = inr (before_from here (next_place here byte) (place_after (next_place here byte) bytes) (next_before here byte) (after_from (next_place here byte) bytes))

-- ---- no piece is empty

record Begins (bytes : List ℕ) : Type 0 where
  first : ℕ
  behind : List ℕ
  is : bytes ≡ first ∷ behind

begins_front : (a b : List ℕ) → Begins a → Begins (a ++ b)
begins_front a b s = record { first = s.first; behind = s.behind ++ b; is = ap (λ (bytes : List ℕ). bytes ++ b) s.is }

some_byte : (p : Piece) → is_piece p ≡ true → Begins (spelled p)
some_byte (word []) is = absurd (false≢true is)
some_byte (word (c ∷ cs)) is = record { first = c; behind = cs; is = refl }
some_byte (number []) is = absurd (false≢true is)
some_byte (number (d ∷ ds)) is = record { first = d; behind = ds; is = refl }
some_byte (sign []) is = absurd (false≢true is)
some_byte (sign (c ∷ cs)) is = record { first = c; behind = cs; is = refl }
some_byte (literal mark true items) is = record { first = mark; behind = _; is = refl }
some_byte (literal mark false items) is = record { first = mark; behind = _; is = refl }
some_byte (blank byte) is = record { first = byte; behind = []; is = refl }
some_byte (comment bytes) is = record { first = 35; behind = bytes; is = refl }
some_byte (line_end true) is = record { first = 13; behind = 10 ∷ []; is = refl }
some_byte (line_end false) is = record { first = 10; behind = []; is = refl }

-- what stands behind a piece stands behind where the piece begins
pub piece_before : (front : List ℕ) (p : Piece) → is_piece p ≡ true → IsBefore (place_behind front) (place_behind (front ++ spelled p))
piece_before front p is =
    let some = some_byte p is in
    let here : Pos = place_behind front in
    subst (λ (other : Pos). IsBefore here other) (ap (place_after here) (sym some.is) ∙ sym (place_behind-append front (spelled p)))
    (before_from here (next_place here some.first) (place_after (next_place here some.first) some.behind) (next_before here some.first) (after_from (next_place here some.first) some.behind))

or_one : (a b : Bool) → a ≡ true → (a || b) ≡ true
or_one a b is = ap (λ (x : Bool). x || b) is

or_two : (a b : Bool) → b ≡ true → (a || b) ≡ true
or_two true b is = refl
or_two false b is = is

both : (a b : Bool) → a ≡ true → b ≡ true → (a && b) ≡ true
both a b one two = ap (λ (x : Bool). x && b) one ∙ two

before_is : (a b : Pos) → IsBefore a b → is_before a b ≡ true
before_is a b (inl one) = or_one (nat_lt a.line b.line) ((a.line == b.line) && nat_lt a.col b.col) (lt-ltb a.line b.line one)
before_is a b (inr one) = or_two (nat_lt a.line b.line) ((a.line == b.line) && nat_lt a.col b.col) (both (a.line == b.line) (nat_lt a.col b.col) (eq-eqb a.line b.line one.0) (lt-ltb a.col b.col one.1))

-- ---- the places of tokens

-- none of these tokens stands before this place
abbrev AreFrom : Pos → List Token → Type 0
AreFrom here [] = ⊤
AreFrom here (t ∷ ts) = IsFrom here t.at × AreFrom here ts

from_sooner : (a b : Pos) (ts : List Token) → IsBefore a b → AreFrom b ts → AreFrom a ts
from_sooner a b [] one from = tt
from_sooner a b (t ∷ ts) one from = (inr (before_from a b t.at one from.0), from_sooner a b ts one from.1)

from_behind : (a b : Pos) (ts : List Token) → IsBefore a b → AreFrom b ts → list_all (is_before a) (spots ts) ≡ true
from_behind a b [] one from = refl
from_behind a b (t ∷ ts) one from = both (is_before a t.at) (list_all (is_before a) (spots ts)) (before_is a t.at (before_from a b t.at one from.0)) (from_behind a b ts one from.1)

-- these tokens stand from this place on, each before those behind it
record AreInOrder (here : Pos) (tokens : List Token) : Type 0 where
  from : AreFrom here tokens
  ascending : are_ascending (spots tokens) ≡ true

in_order : (text front rest : List ℕ) (ps : List Piece) → text ≡ front ++ (text_of ps ++ rest) → list_all is_piece ps ≡ true → AreInOrder (place_behind front) (tokens_of text (length front) ps)
in_order text front rest [] text_is all = record { from = tt; ascending = refl }
in_order text front rest (p ∷ ps) text_is all =
    by (kind_of p)
    (subst (λ (at : ℕ). AreInOrder there (tokens_of text at ps)) (length-append front (spelled p))
    (in_order text (front ++ spelled p) rest ps (text_is ∙ ap (λ (bytes : List ℕ). front ++ bytes) (append_assoc (spelled p) (text_of ps) rest) ∙ sym (append_assoc front (spelled p) (text_of ps ++ rest))) parts.1))
  where
    parts : (is_piece p ≡ true) × (list_all is_piece ps ≡ true)
    parts = and_parts (is_piece p) (list_all is_piece ps) all

    here : Pos
    here = place_behind front

    there : Pos
    there = place_behind (front ++ spelled p)

    further : IsBefore here there
    further = piece_before front p parts.0

    here_is : place text (length front) ≡ here
    here_is = ap (λ (whole : List ℕ). place whole (length front)) text_is ∙ place-front front (text_of (p ∷ ps) ++ rest)

    by : (kind : Option TokenKind) → AreInOrder there (tokens_of text (length front + length (spelled p)) ps)
        → AreInOrder here (option_map_or (λ kind. record { at = place text (length front); span = record { from = length front; to = length front + length (spelled p) }; kind = kind } ∷ []) kind [] ++ tokens_of text (length front + length (spelled p)) ps)
    by None later = record { from = from_sooner here there (tokens_of text (length front + length (spelled p)) ps) further later.from; ascending = later.ascending }
    by (Some kind) later = record {
      from = (inl (sym here_is), from_sooner here there (tokens_of text (length front + length (spelled p)) ps) further later.from);
      ascending = both (list_all (is_before (place text (length front))) (spots (tokens_of text (length front + length (spelled p)) ps))) (are_ascending (spots (tokens_of text (length front + length (spelled p)) ps)))
          (subst (λ (at : Pos). list_all (is_before at) (spots (tokens_of text (length front + length (spelled p)) ps)) ≡ true) (sym here_is)
          (from_behind here there (tokens_of text (length front + length (spelled p)) ps) further later.from))
          later.ascending;
    }

-- ---- the tokens of lines are those of the text

no_tokens : (text : List ℕ) (at : ℕ) (line : List Piece) → list_any is_token line ≡ false → tokens_of text at line ≡ []
no_tokens text at [] none = refl
no_tokens text at (p ∷ line) none = by (kind_of p) none (no_tokens text (at + length (spelled p)) line)
  where
    by : (kind : Option TokenKind) → (is_some kind || list_any is_token line) ≡ false → (list_any is_token line ≡ false → tokens_of text (at + length (spelled p)) line ≡ [])
        → option_map_or (λ kind. record { at = place text at; span = record { from = at; to = at + length (spelled p) }; kind = kind } ∷ []) kind [] ++ tokens_of text (at + length (spelled p)) line ≡ []
    by None none later = later none
    by (Some kind) none later = absurd (false≢true (sym none))

tokens_both : (text : List ℕ) (at : ℕ) (a b : List Piece) → tokens_of text at (a ++ b) ≡ tokens_of text at a ++ tokens_of text (at + length (text_of a)) b
tokens_both text at [] b = ap (λ (n : ℕ). tokens_of text n b) (omega arith)
tokens_both text at (p ∷ a) b =
    ap (λ (ts : List Token). token_at text at p ++ ts) (tokens_both text (at + length (spelled p)) a b)
    ∙ sym (append_assoc (token_at text at p) (tokens_of text (at + length (spelled p)) a) (tokens_of text ((at + length (spelled p)) + length (text_of a)) b))
    ∙ ap (λ (n : ℕ). (token_at text at p ++ tokens_of text (at + length (spelled p)) a) ++ tokens_of text n b) (let whole = length-append (spelled p) (text_of a) in omega (arith, whole))

line_tokens : (text : List ℕ) (at : ℕ) (line : List Piece) → line_spots (line_at text at line) ≡ spots (tokens_of text at line)
line_tokens text at line = by (list_any is_token line) refl
  where
    by : (b : Bool) → list_any is_token line ≡ b
        → line_spots (if b then record { indent = length (indentation line); tokens = tokens_of text at line; span = record { from = at; to = at + length (text_of line) } } ∷ [] else []) ≡ spots (tokens_of text at line)
    by false none = sym (ap spots (no_tokens text at line none))
    by true has = append-nil (spots (tokens_of text at line))

text_tokens : (text : List ℕ) (at : ℕ) (w : Written) → line_spots (lines_of text at w) ≡ spots (tokens_of text at (pieces_of w))
text_tokens text at (last line) = line_tokens text at line
text_tokens text at (more line return rest) =
    line_spots_append (line_at text at line) (lines_of text (behind_line at line return) rest)
    ∙ ap (λ (ps : List Pos). ps ++ line_spots (lines_of text (behind_line at line return) rest)) (line_tokens text at line)
    ∙ ap (λ (ps : List Pos). spots (tokens_of text at line) ++ ps) (text_tokens text (behind_line at line return) rest)
    ∙ sym (spots_append (tokens_of text at line) (tokens_of text (behind_line at line return) (pieces_of rest)))
    ∙ ap spots (sym (tokens_both text at line (line_end return ∷ pieces_of rest)))

pub are_pieces : (ps : List Piece) (rest : List ℕ) → are_cut ps rest ≡ true → list_all is_piece ps ≡ true
are_pieces [] rest cut = refl
are_pieces (p ∷ ps) rest cut =
    let parts = and_parts (is_piece p && ends p (text_of ps ++ rest)) (are_cut ps rest) cut in
    let first = and_parts (is_piece p) (ends p (text_of ps ++ rest)) parts.0 in
    ap (λ (b : Bool). b && list_all is_piece ps) first.0 ∙ are_pieces ps rest parts.1

pub lines_ascend : (text : List ℕ) (lines : List Line) → HasLines text lines → are_ascending (line_spots lines) ≡ true
lines_ascend text lines has =
    ap (λ (ls : List Line). are_ascending (line_spots ls)) has.lines_are
    ∙ ap are_ascending (text_tokens text 0 has.written)
    ∙ (in_order text [] [] (pieces_of has.written) (has.is_written.text_is ∙ sym (append-nil (text_of (pieces_of has.written)))) (are_pieces (pieces_of has.written) [] has.is_written.cut)).ascending

-- ---- the bytes of tokens

tokens_rise : (text : List ℕ) (at : ℕ) (line : List Piece) → Rises at (at + length (text_of line)) (tokens_of text at line)
tokens_rise text at [] = omega arith
tokens_rise text at (p ∷ line) =
    by (kind_of p)
    (subst (λ (to : ℕ). Rises (at + length (spelled p)) to (tokens_of text (at + length (spelled p)) line)) (let whole = length-append (spelled p) (text_of line) in omega (arith, whole))
    (tokens_rise text (at + length (spelled p)) line))
  where
    by : (kind : Option TokenKind) → Rises (at + length (spelled p)) (at + length (text_of (p ∷ line))) (tokens_of text (at + length (spelled p)) line)
        → Rises at (at + length (text_of (p ∷ line))) (option_map_or (λ kind. record { at = place text at; span = record { from = at; to = at + length (spelled p) }; kind = kind } ∷ []) kind [] ++ tokens_of text (at + length (spelled p)) line)
    by None later = rises_sooner at (at + length (spelled p)) (at + length (text_of (p ∷ line))) (tokens_of text (at + length (spelled p)) line) (omega arith) later
    by (Some kind) later = (omega arith, rises_sooner at (at + length (spelled p)) (at + length (text_of (p ∷ line))) (tokens_of text (at + length (spelled p)) line) (omega arith) later)

line_runs : (text : List ℕ) (lo at : ℕ) (line : List Piece) (others : List Line) → lo ≤ at → ((from : ℕ) → from ≤ at + length (text_of line) → Runs from others) → Runs lo (line_at text at line ++ others)
line_runs text lo at line others sooner later = by (list_any is_token line)
  where
    by : (b : Bool) → Runs lo ((if b then record { indent = length (indentation line); tokens = tokens_of text at line; span = record { from = at; to = at + length (text_of line) } } ∷ [] else []) ++ others)
    by false = later lo (omega (arith, sooner))
    by true = (rises_sooner lo at (at + length (text_of line)) (tokens_of text at line) sooner (tokens_rise text at line), later (at + length (text_of line)) (omega arith))

text_runs : (text : List ℕ) (lo at : ℕ) (w : Written) → lo ≤ at → Runs lo (lines_of text at w)
text_runs text lo at (last line) sooner = subst (λ (ls : List Line). Runs lo ls) (append-nil (line_at text at line)) (line_runs text lo at line [] sooner (λ from by. tt))
text_runs text lo at (more line return rest) sooner =
    line_runs text lo at line (lines_of text (behind_line at line return) rest) sooner (λ from by. text_runs text from (behind_line at line return) rest (omega (arith, by)))

pub lines_run : (text : List ℕ) (lines : List Line) → HasLines text lines → Runs 0 lines
lines_run text lines has = subst (λ (ls : List Line). Runs 0 ls) (sym has.lines_are) (text_runs text 0 0 has.written (omega arith))
