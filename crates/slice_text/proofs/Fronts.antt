-- Fronts of lines: their indentation, their tokens, and that spaces behind a line change neither.
use Rattle.std.proofs.Common.{◌≡◌, ℕ, ◌+◌, Bool, true, false, ◌||◌, not, List, [], ◌∷◌, ◌++◌, length, Option, Some, None, if◌then◌else◌, option_and_then, is_some, refl, sym, ap, subst, ◌∙◌, append-nil, length-append, arith}
use Rattle.std.specs.List.{list_any}
use Rattle.std.specs.Option.{option_map_or}
use Rattle.std.proofs.lemmas.Bool.{false≢true, or_left, or_right}
use Rattle.py_lines.specs.declared.parts.Line.{Line}
use Rattle.py_lines.specs.declared.parts.Token.{Token}
use Rattle.py_lines.specs.declared.parts.TokenKind.{TokenKind}
use Rattle.py_lines.specs.Piece.{Piece, word, number, sign, literal, blank, comment, line_end, spelled, text_of}
use Rattle.py_lines.specs.Place.{place}
use Rattle.py_lines.specs.Written.{Open, open_after, kind_of, is_token, token_at, tokens_of, is_blank, is_tab, indentation, is_indented, line_at}
use Rattle.py_lines.proofs.InLines.{token_blanks}
use Rattle.py_lines.proofs.Snoc.{tokens_of-snoc, open_after-snoc, list_any-snoc, indentation-snoc_more}
use Rattle.slice_text.proofs.Moved.{Move}
use Rattle.slice_text.proofs.Redone.{IsMoved, AreMoved}

-- ---- indentation

-- the indentation ends before a piece that is no blank
pub indent_front : (front : List Piece) (p : Piece) (back : List Piece) → is_blank p ≡ false → indentation (front ++ p ∷ back) ≡ indentation front
indent_front [] p back is = ap (λ b. if b then p ∷ indentation back else []) is
indent_front (q ∷ front) p back is = ap (λ (l : List Piece). if is_blank q then q ∷ l else []) (indent_front front p back is)

pub has_token : (front : List Piece) (p : Piece) (back : List Piece) → is_token p ≡ true → list_any is_token (front ++ p ∷ back) ≡ true
has_token [] p back is = or_left (is_token p) (list_any is_token back) is
has_token (q ∷ front) p back is = or_right (is_token q) (list_any is_token (front ++ p ∷ back)) (has_token front p back is)

pub token_not_blank : (p : Piece) → is_token p ≡ true → is_blank p ≡ false
token_not_blank (word name) is = refl
token_not_blank (number digits) is = refl
token_not_blank (sign bytes) is = refl
token_not_blank (literal mark triple items) is = refl
token_not_blank (blank byte) is = absurd (false≢true is)
token_not_blank (comment bytes) is = refl
token_not_blank (line_end return) is = refl

-- a line with a token has no tab in its indentation
pub no_tab : (line : List Piece) → list_any is_token line ≡ true → is_indented line ≡ true → list_any is_tab (indentation line) ≡ false
no_tab line has is = by (list_any is_token line) (list_any is_tab (indentation line)) has is
  where
    by : (a b : Bool) → a ≡ true → (not a || not b) ≡ true → b ≡ false
    by true false has is = refl
    by true true has is = absurd (false≢true is)
    by false b has is = absurd (false≢true has)

pub tabless : (line : List Piece) → list_any is_tab (indentation line) ≡ false → is_indented line ≡ true
tabless line none = or_right (not (list_any is_token line)) (not (list_any is_tab (indentation line))) (ap not none)

pub tokenless : (line : List Piece) → list_any is_token line ≡ false → is_indented line ≡ true
tokenless line none = or_left (not (list_any is_token line)) (not (list_any is_tab (indentation line))) (ap not none)

-- ---- a space more

or_false : (b : Bool) → (b || false) ≡ b
or_false true = refl
or_false false = refl

space_tokens : (line : List Piece) → list_any is_token (line ++ blank 32 ∷ []) ≡ list_any is_token line
space_tokens line = list_any-snoc is_token line (blank 32) ∙ or_false (list_any is_token line)

space_indent : (line : List Piece) → list_any is_token line ≡ true → indentation (line ++ blank 32 ∷ []) ≡ indentation line
space_indent line has = indentation-snoc_more line (blank 32) (token_blanks line has)

pub space_indented : (line : List Piece) → is_indented line ≡ true → is_indented (line ++ blank 32 ∷ []) ≡ true
space_indented line is = by (list_any is_token line) refl
  where
    by : (b : Bool) → list_any is_token line ≡ b → is_indented (line ++ blank 32 ∷ []) ≡ true
    by false none = tokenless (line ++ blank 32 ∷ []) (space_tokens line ∙ none)
    by true has = tabless (line ++ blank 32 ∷ []) (ap (list_any is_tab) (space_indent line has) ∙ no_tab line has is)

pub space_open : (at : ℕ) (line : List Piece) → open_after at [] line ≡ Some [] → open_after at [] (line ++ blank 32 ∷ []) ≡ Some []
space_open at line is = open_after-snoc at [] line (blank 32) ∙ by (open_after at [] line) is
  where
    by : (o : Option (List Open)) → o ≡ Some [] → option_and_then (λ now. Some now) o ≡ Some []
    by None is = is
    by (Some opened) is = is

-- what is left of a line is the line but for spaces behind it
pub space_moved : (m : Move) (lines : List Line) (text : List ℕ) (at : ℕ) (line : List Piece) → AreMoved m lines (line_at text at line) → AreMoved m lines (line_at text at (line ++ blank 32 ∷ []))
space_moved m lines text at line are = by (list_any is_token line) refl lines are
  where
    other : Line
    other = record { indent = length (indentation (line ++ blank 32 ∷ [])); tokens = tokens_of text at (line ++ blank 32 ∷ []); span = record { from = at; to = at + length (text_of (line ++ blank 32 ∷ [])) } }

    by : (b : Bool) → list_any is_token line ≡ b → (lines : List Line)
        → AreMoved m lines (if b then record { indent = length (indentation line); tokens = tokens_of text at line; span = record { from = at; to = at + length (text_of line) } } ∷ [] else [])
        → AreMoved m lines (line_at text at (line ++ blank 32 ∷ []))
    by false none lines are = subst (λ b. AreMoved m lines (if b then other ∷ [] else [])) (sym (space_tokens line ∙ none)) are
    by true has [] are = absurd are
    by true has (first ∷ lines) are =
        let indents : length (indentation (line ++ blank 32 ∷ [])) ≡ length (indentation line) = ap (λ (l : List Piece). length l) (space_indent line has) in
        let tokens : tokens_of text at (line ++ blank 32 ∷ []) ≡ tokens_of text at line = tokens_of-snoc text at line (blank 32) ∙ append-nil (tokens_of text at line) in
        let moved : IsMoved m first other = record { indent_is = indents ∙ are.0.indent_is; tokens_are = tokens ∙ are.0.tokens_are } in
        subst (λ b. AreMoved m (first ∷ lines) (if b then other ∷ [] else [])) (sym (space_tokens line ∙ has)) (moved, are.1)

-- ---- a line taken apart at a token

pub record Split (text : List ℕ) (at : ℕ) (line : List Piece) (ahead : List Token) (t : Token) (behind : List Token) : Type 0 where
  pub front : List Piece
  pub piece : Piece
  pub back : List Piece
  pub line_is : line ≡ front ++ piece ∷ back
  pub front_is : tokens_of text at front ≡ ahead
  pub is_token : is_token piece ≡ true
  pub at_is : t.at ≡ place text (at + length (text_of front))
  pub from_is : t.span.from ≡ at + length (text_of front)

-- the token that a piece makes
abbrev made : List ℕ → ℕ → Piece → TokenKind → Token
made text at q kind = record { at = place text at; span = record { from = at; to = at + length (spelled q) }; kind = kind }

pub split_at : (text : List ℕ) (at : ℕ) (line : List Piece) (ahead : List Token) (t : Token) (behind : List Token) → tokens_of text at line ≡ ahead ++ t ∷ behind → Split text at line ahead t behind
split_at text at [] [] t behind is = absurd (cc)
split_at text at [] (u ∷ ahead) t behind is = absurd (cc)
split_at text at (q ∷ line) ahead t behind is = by (kind_of q) refl ahead is (λ ahead later. split_at text (at + length (spelled q)) line ahead t behind later)
  where
    further : (ahead' ahead : List Token) → token_at text at q ++ ahead' ≡ ahead → Split text (at + length (spelled q)) line ahead' t behind → Split text at (q ∷ line) ahead t behind
    further ahead' ahead are s =
        let sum : at + length (spelled q) + length (text_of s.front) ≡ at + length (spelled q ++ text_of s.front) = simp length-append (omega arith) in
        record {
          front = q ∷ s.front;
          piece = s.piece;
          back = s.back;
          line_is = ap (λ (l : List Piece). q ∷ l) s.line_is;
          front_is = ap (λ (ts : List Token). token_at text at q ++ ts) s.front_is ∙ are;
          is_token = s.is_token;
          at_is = s.at_is ∙ ap (place text) sum;
          from_is = s.from_is ∙ sum;
        }

    by : (kind : Option TokenKind) → kind_of q ≡ kind → (ahead : List Token) → option_map_or (λ kind. made text at q kind ∷ []) kind [] ++ tokens_of text (at + length (spelled q)) line ≡ ahead ++ t ∷ behind
        → ((ahead : List Token) → tokens_of text (at + length (spelled q)) line ≡ ahead ++ t ∷ behind → Split text (at + length (spelled q)) line ahead t behind) → Split text at (q ∷ line) ahead t behind
    by None none ahead is later = further ahead ahead (ap (λ o. option_map_or (λ kind. made text at q kind ∷ []) o [] ++ ahead) none) (later ahead is)
    by (Some kind) some [] is later =
        let first : made text at q kind ≡ t = cc in
        let sum : at ≡ at + length {A = ℕ} [] = omega arith in
        record {
          front = [];
          piece = q;
          back = line;
          line_is = refl;
          front_is = refl;
          is_token = ap is_some some;
          at_is = ap (λ (u : Token). u.at) (sym first) ∙ ap (place text) sum;
          from_is = ap (λ (u : Token). u.span.from) (sym first) ∙ sum;
        }
    by (Some kind) some (u ∷ ahead) is later =
        let first : made text at q kind ≡ u = cc in
        let rest : tokens_of text (at + length (spelled q)) line ≡ ahead ++ t ∷ behind = cc in
        further ahead (u ∷ ahead) (ap (λ o. option_map_or (λ kind. made text at q kind ∷ []) o [] ++ ahead) some ∙ ap (λ (v : Token). v ∷ ahead) first) (later ahead rest)
