-- The tokens of a text's logical lines stand at different places, since each begins behind the bytes of those before it.
use Rattle.std.proofs.Common.{◌≡◌, inl, inr, ℕ, ◌+◌, ◌==◌, Bool, true, false, ◌&&◌, ◌||◌, List, [], ◌∷◌, ◌++◌, length, Option, Some, None, is_some, if◌then◌else◌, refl, sym, ap, subst, ◌∙◌, append_assoc, append-nil, length-append, arith}
use Rattle.std.specs.Prelude.{⊤}
use Rattle.std.specs.List.{list_all, list_any}
use Rattle.std.specs.Option.{option_map_or}
use Rattle.std.proofs.lemmas.Bool.{false≢true, and_parts, and_left, and_right, ne_eqb}
use Rattle.prov_base.specs.declared.place.Pos.{Pos}
use Rattle.py_lines.specs.declared.parts.Line.{Line}
use Rattle.py_lines.specs.declared.parts.Token.{Token}
use Rattle.py_lines.specs.declared.parts.TokenKind.{TokenKind}
use Rattle.py_lines.specs.Piece.{Piece, line_end, spelled, text_of, line_end_text, is_piece}
use Rattle.py_lines.specs.Place.{place, place_behind}
use Rattle.py_lines.specs.Written.{Written, last, more, pieces_of, behind_line, kind_of, is_token, tokens_of, indentation, line_at, lines_of}
use Rattle.py_lines.specs.Logical.{HasLines}
use Rattle.py_lines.proofs.PlaceLemmas.{place-front}
use Rattle.py_lines.proofs.Snoc.{text_of-append}
use Rattle.py_grammar.proofs.LineOrder.{IsBefore, IsFrom, before_from, piece_before, are_pieces}
use Rattle.py_expressions.specs.Lies.{is_place, IsApart}
use Rattle.py_parser.specs.Faults.{ArePlacedApart, ArePlaced}

-- ---- places in order

before_apart : (a b : Pos) → IsBefore a b → is_place b a ≡ false
before_apart a b (inl one) = and_left (b.line == a.line) (b.col == a.col) (ne_eqb b.line a.line (λ same. omega (arith, one, same)))
before_apart a b (inr one) = and_right (b.line == a.line) (b.col == a.col) (ne_eqb b.col a.col (λ same. let near = one.1 in omega (arith, near, same)))

-- ---- the tokens of a line

-- none of these tokens stands before this place
abbrev AreFrom : Pos → List Token → Type 0
AreFrom here [] = ⊤
AreFrom here (t ∷ ts) = IsFrom here t.at × AreFrom here ts

from_sooner : (a b : Pos) (ts : List Token) → IsBefore a b → AreFrom b ts → AreFrom a ts
from_sooner a b [] one from = tt
from_sooner a b (t ∷ ts) one from = (inr (before_from a b t.at one from.0), from_sooner a b ts one from.1)

from_apart : (a b : Pos) (ts : List Token) → IsBefore a b → AreFrom b ts → IsApart a ts
from_apart a b [] one from = tt
from_apart a b (t ∷ ts) one from = (before_apart a t.at (before_from a b t.at one from.0), from_apart a b ts one from.1)

-- these tokens stand from this place on, and no two at one place
record AreInOrder (here : Pos) (tokens : List Token) : Type 0 where
  from : AreFrom here tokens
  apart : ArePlacedApart tokens

in_order : (text front rest : List ℕ) (line : List Piece) → text ≡ front ++ (text_of line ++ rest) → list_all is_piece line ≡ true → AreInOrder (place_behind front) (tokens_of text (length front) line)
in_order text front rest [] text_is all = record { from = tt; apart = tt }
in_order text front rest (p ∷ line) text_is all =
    by (kind_of p)
    (subst (λ (at : ℕ). AreInOrder there (tokens_of text at line)) (length-append front (spelled p))
    (in_order text (front ++ spelled p) rest line (text_is ∙ ap (λ (bytes : List ℕ). front ++ bytes) (append_assoc (spelled p) (text_of line) rest) ∙ sym (append_assoc front (spelled p) (text_of line ++ rest))) parts.1))
  where
    parts : (is_piece p ≡ true) × (list_all is_piece line ≡ true)
    parts = and_parts (is_piece p) (list_all is_piece line) all

    here : Pos
    here = place_behind front

    there : Pos
    there = place_behind (front ++ spelled p)

    further : IsBefore here there
    further = piece_before front p parts.0

    here_is : place text (length front) ≡ here
    here_is = ap (λ (whole : List ℕ). place whole (length front)) text_is ∙ place-front front (text_of (p ∷ line) ++ rest)

    by : (kind : Option TokenKind) → AreInOrder there (tokens_of text (length front + length (spelled p)) line)
        → AreInOrder here (option_map_or (λ kind. record { at = place text (length front); span = record { from = length front; to = length front + length (spelled p) }; kind = kind } ∷ []) kind [] ++ tokens_of text (length front + length (spelled p)) line)
    by None later = record { from = from_sooner here there (tokens_of text (length front + length (spelled p)) line) further later.from; apart = later.apart }
    by (Some kind) later = record {
      from = (inl (sym here_is), from_sooner here there (tokens_of text (length front + length (spelled p)) line) further later.from);
      apart = (
        subst (λ (at : Pos). IsApart at (tokens_of text (length front + length (spelled p)) line)) (sym here_is)
            (from_apart here there (tokens_of text (length front + length (spelled p)) line) further later.from),
        later.apart,
      );
    }

some_tokens : (text : List ℕ) (at : ℕ) (line : List Piece) → list_any is_token line ≡ true → tokens_of text at line ≡ [] → ⊥
some_tokens text at [] has none = false≢true has
some_tokens text at (p ∷ line) has none = by (kind_of p) has (some_tokens text (at + length (spelled p)) line) none
  where
    some : (t : Token) (ts : List Token) → t ∷ ts ≡ [] → ⊥
    some t ts is = cc

    by : (kind : Option TokenKind) → (is_some kind || list_any is_token line) ≡ true → (list_any is_token line ≡ true → tokens_of text (at + length (spelled p)) line ≡ [] → ⊥)
        → option_map_or (λ kind. record { at = place text at; span = record { from = at; to = at + length (spelled p) }; kind = kind } ∷ []) kind [] ++ tokens_of text (at + length (spelled p)) line ≡ [] → ⊥
    by None has later none = later has none
    by (Some kind) has later none = some (record { at = place text at; span = record { from = at; to = at + length (spelled p) }; kind = kind }) (tokens_of text (at + length (spelled p)) line) none

-- ---- the lines of a text

line_placed : (text front rest : List ℕ) (line : List Piece) → text ≡ front ++ (text_of line ++ rest) → list_all is_piece line ≡ true → ArePlaced (line_at text (length front) line)
line_placed text front rest line text_is all = by (list_any is_token line) refl
  where
    by : (b : Bool) → list_any is_token line ≡ b
        → ArePlaced (if b then record { indent = length (indentation line); tokens = tokens_of text (length front) line; span = record { from = length front; to = length front + length (text_of line) } } ∷ [] else [])
    by false none = tt
    by true has = (some_tokens text (length front) line has, (in_order text front rest line text_is all).apart, tt)

both_placed : (a b : List Line) → ArePlaced a → ArePlaced b → ArePlaced (a ++ b)
both_placed [] b one two = two
both_placed (line ∷ a) b one two = (one.0, one.1, both_placed a b one.2 two)

all_parts : (a b : List Piece) → list_all is_piece (a ++ b) ≡ true → (list_all is_piece a ≡ true) × (list_all is_piece b ≡ true)
all_parts [] b all = (refl, all)
all_parts (p ∷ a) b all =
    let parts = and_parts (is_piece p) (list_all is_piece (a ++ b)) all in
    let more = all_parts a b parts.1 in
    (ap (λ (b : Bool). b && list_all is_piece a) parts.0 ∙ more.0, more.1)

written_placed : (text front : List ℕ) (w : Written) → text ≡ front ++ text_of (pieces_of w) → list_all is_piece (pieces_of w) ≡ true → ArePlaced (lines_of text (length front) w)
written_placed text front (last line) text_is all = line_placed text front [] line (text_is ∙ ap (λ (bytes : List ℕ). front ++ bytes) (sym (append-nil (text_of line)))) all
written_placed text front (more line return rest) text_is all =
    let parts = all_parts line (line_end return ∷ pieces_of rest) all in
    let ended : List ℕ = (front ++ text_of line) ++ line_end_text return in
    let after : List ℕ = text_of (pieces_of rest) in
    let cut : text ≡ front ++ (text_of line ++ (line_end_text return ++ after)) = text_is ∙ ap (λ (bytes : List ℕ). front ++ bytes) (text_of-append line (line_end return ∷ pieces_of rest)) in
    let further : text ≡ ended ++ after = cut ∙ sym (append_assoc front (text_of line) (line_end_text return ++ after)) ∙ sym (append_assoc (front ++ text_of line) (line_end_text return) after) in
    let offset : length ended ≡ behind_line (length front) line return =
    length-append (front ++ text_of line) (line_end_text return) ∙ ap (λ (n : ℕ). n + length (line_end_text return)) (length-append front (text_of line)) in
    both_placed (line_at text (length front) line) (lines_of text (behind_line (length front) line return) rest)
    (line_placed text front (line_end_text return ++ after) line cut parts.0)
    (subst (λ (at : ℕ). ArePlaced (lines_of text at rest)) offset (written_placed text ended rest further parts.1))

pub lines_placed : (text : List ℕ) (lines : List Line) → HasLines text lines → ArePlaced lines
lines_placed text lines has =
    subst ArePlaced (sym has.lines_are) (written_placed text [] has.written has.is_written.text_is (are_pieces (pieces_of has.written) [] has.is_written.cut))
