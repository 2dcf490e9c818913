-- What the reader keeps is what is written so far.
use Rattle.std.proofs.Common.{◌≡◌, ℕ, ◌+◌, Bool, true, false, ◌&&◌, ◌||◌, List, [], ◌∷◌, ◌++◌, length, Option, Some, None, is_some, refl, sym, ap, ◌∙◌, subst, append_assoc, append-nil, length-append, arith}
use Rattle.std.specs.List.{list_all, list_any}
use Rattle.prov_base.specs.declared.place.Pos.{Pos}
use Rattle.py_lines.specs.declared.grouping.Grouping.{Grouping}
use Rattle.py_lines.specs.declared.parts.Line.{Line}
use Rattle.py_lines.specs.declared.parts.Token.{Token}
use Rattle.py_lines.specs.declared.parts.TokenKind.{TokenKind}
use Rattle.py_lines.specs.Piece.{Piece, line_end, spelled, text_of, line_end_text, ends_line}
use Rattle.py_lines.specs.Place.{place, place_behind}
use Rattle.py_lines.specs.Written.{Written, pieces_of, Open, open_after, is_closed, kind_of, is_token, token_at, tokens_of, is_blank, indentation, is_indented, is_line, line_at}
use Rattle.py_lines.specs.Faults.{last_line, last_from, are_lines_before}
use Rattle.py_lines.specs.Counting.{place_after}
use Rattle.py_lines.specs.Grouping.{with_line, with_line_ended, passed}
use Rattle.py_lines.proofs.Snoc.{text_of-snoc}
use Rattle.py_lines.proofs.WrittenLemmas.{put, ended, lines_before, put-pieces, put-last_line, put-last_from, put-before, put-lines, ended-pieces, ended-last_line, ended-last_from, ended-before, ended-lines, whole-length}
use Rattle.py_lines.proofs.PlaceLemmas.{place_behind-append, place-front}
use Rattle.py_lines.proofs.InLines.{InLine, brackets_at, no_token_at, shown_token}

-- nothing follows, or CR or LF
abbrev pub begins_line_end : List ℕ → Bool
begins_line_end [] = true
begins_line_end (byte ∷ bytes) = ends_line byte

pub record Tracks (text : List ℕ) (w : Written) (g : Grouping) (next : List ℕ) : Type 0 where
  pub text_is : text ≡ text_of (pieces_of w) ++ next
  pub at : g.at ≡ length (text_of (pieces_of w))
  pub here : g.here ≡ place_behind (text_of (pieces_of w))
  pub from : g.from ≡ last_from 0 w
  pub lines : g.lines ≡ lines_before text 0 w
  pub before : are_lines_before 0 w ≡ true
  pub line : InLine text (last_from 0 w) (last_line w) g
  -- behind a comment outside brackets the line ends
  pub comment_ends : list_all is_blank (last_line w) ≡ false → list_any is_token (last_line w) ≡ false → begins_line_end next ≡ true

pub offset_is : (text next : List ℕ) (w : Written) (g : Grouping) → Tracks text w g next → g.at ≡ last_from 0 w + length (text_of (last_line w))
offset_is text next w g t = let at = t.at in let whole = whole-length 0 w in omega (arith, at, whole)

pub place_is : (text next : List ℕ) (w : Written) (g : Grouping) → Tracks text w g next → g.here ≡ place text (last_from 0 w + length (text_of (last_line w)))
place_is text next w g t =
    let front : List ℕ = text_of (pieces_of w) in
    let at : length front ≡ last_from 0 w + length (text_of (last_line w)) = sym t.at ∙ offset_is text next w g t in
    t.here ∙ sym (place-front front next) ∙ ap (λ (whole : List ℕ). place whole (length front)) (sym t.text_is) ∙ ap (place text) at

in_line_passed : (text : List ℕ) (from : ℕ) (line : List Piece) (before g : Grouping) (piece : List ℕ) → InLine text from line g → InLine text from line (passed before g piece)
in_line_passed text from line before g piece l = record {
  tokens = l.tokens;
  opened = l.opened;
  opened_is = l.opened_is;
  brackets = l.brackets;
  indented = l.indented;
  blanks = l.blanks;
  tab = l.tab;
  indent = l.indent;
  unopened = l.unopened;
}

-- a piece that does not end the line
pub tracks_put : (text next rest : List ℕ) (w : Written) (g after : Grouping) (p : Piece) → Tracks text w g next → next ≡ spelled p ++ rest
    → InLine text (last_from 0 w) (last_line w ++ p ∷ []) after → after.from ≡ g.from → after.lines ≡ g.lines
    → (list_all is_blank (last_line w ++ p ∷ []) ≡ false → list_any is_token (last_line w ++ p ∷ []) ≡ false → begins_line_end rest ≡ true)
    → Tracks text (put w p) (passed g after (spelled p)) rest
tracks_put text next rest w g after p t next_is in_line from lines comment_ends =
    let front : List ℕ = text_of (pieces_of w) in
    let longer : text_of (pieces_of (put w p)) ≡ front ++ spelled p = ap text_of (put-pieces w p) ∙ text_of-snoc (pieces_of w) p in
    record {
      text_is = t.text_is ∙ ap (λ (n : List ℕ). front ++ n) next_is ∙ sym (append_assoc front (spelled p) rest) ∙ ap (λ (f : List ℕ). f ++ rest) (sym longer);
      at = ap (λ (n : ℕ). n + length (spelled p)) t.at ∙ sym (length-append front (spelled p)) ∙ ap length (sym longer);
      here = ap (λ (h : Pos). place_after h (spelled p)) t.here ∙ sym (place_behind-append front (spelled p)) ∙ ap place_behind (sym longer);
      from = from ∙ t.from ∙ sym (put-last_from 0 w p);
      lines = lines ∙ t.lines ∙ sym (put-lines text 0 w p);
      before = put-before 0 w p ∙ t.before;
      line =
          subst (λ (line : List Piece). InLine text (last_from 0 (put w p)) line (passed g after (spelled p))) (sym (put-last_line w p))
          (subst (λ (n : ℕ). InLine text n (last_line w ++ p ∷ []) (passed g after (spelled p))) (sym (put-last_from 0 w p))
          (in_line_passed text (last_from 0 w) (last_line w ++ p ∷ []) g after (spelled p) in_line));
      comment_ends =
          subst (λ (line : List Piece). list_all is_blank line ≡ false → list_any is_token line ≡ false → begins_line_end rest ≡ true) (sym (put-last_line w p)) comment_ends;
    }

-- ---- a line end outside brackets

or_none : (a b : Bool) → (a || b) ≡ false → (a ≡ false) × (b ≡ false)
or_none true b none = absurd (cc)
or_none false b none = (refl, none)

not_some : (kind : Option TokenKind) → is_some kind ≡ false → kind ≡ None
not_some None none = refl
not_some (Some kind) none = absurd (cc)

no_tokens : (text : List ℕ) (at : ℕ) (line : List Piece) → list_any is_token line ≡ false → tokens_of text at line ≡ []
no_tokens text at [] none = refl
no_tokens text at (p ∷ line) none =
    let parts = or_none (is_token p) (list_any is_token line) none in
    ap (λ (t : List Token). t ++ tokens_of text (at + length (spelled p)) line) (no_token_at text at p (not_some (kind_of p) parts.0)) ∙ no_tokens text (at + length (spelled p)) line parts.1

with_line_none : (tokens : List Token) (g : Grouping) → tokens ≡ [] → with_line tokens g ≡ g.lines
with_line_none [] g none = refl
with_line_none (token ∷ tokens) g none = absurd (cc)

with_line_some : (tokens : List Token) (g : Grouping) → (tokens ≡ [] → ⊥) → with_line tokens g ≡ g.lines ++ record { indent = g.indent; tokens = tokens; span = record { from = g.from; to = g.at } } ∷ []
with_line_some [] g some = absurd (some refl)
with_line_some (token ∷ tokens) g some = refl

not_empty : (a b : List Token) → (a ≡ [] → ⊥) → a ++ b ≡ [] → ⊥
not_empty [] b some none = some refl
not_empty (t ∷ a) b some none = cc

not_empty_right : (a b : List Token) → (b ≡ [] → ⊥) → a ++ b ≡ [] → ⊥
not_empty_right [] b some none = some none
not_empty_right (t ∷ a) b some none = cc

some_tokens : (text : List ℕ) (at : ℕ) (line : List Piece) → list_any is_token line ≡ true → tokens_of text at line ≡ [] → ⊥
some_tokens text at [] has = λ none. cc
some_tokens text at (p ∷ line) has =
    first (λ more. some_tokens text (at + length (spelled p)) line more) (kind_of p) refl
  where
    one : (kind : TokenKind) → kind_of p ≡ Some kind → token_at text at p ≡ [] → ⊥
    one kind is none = let shown = shown_token text at p kind is in cc

    first : (list_any is_token line ≡ true → tokens_of text (at + length (spelled p)) line ≡ [] → ⊥) → (kind : Option TokenKind) → kind_of p ≡ kind
        → token_at text at p ++ tokens_of text (at + length (spelled p)) line ≡ [] → ⊥
    first rest (Some kind) is = not_empty (token_at text at p) (tokens_of text (at + length (spelled p)) line) (one kind is)
    first rest None is =
        not_empty_right (token_at text at p) (tokens_of text (at + length (spelled p)) line)
        (rest (ap (λ (o : Option TokenKind). is_some o || list_any is_token line) (sym is) ∙ has))

-- the line, where it ends here, is shown as the definition says
pub shown_line : (text : List ℕ) (from : ℕ) (line : List Piece) (g : Grouping) → InLine text from line g → g.from ≡ from → g.at ≡ from + length (text_of line)
    → with_line g.tokens g ≡ g.lines ++ line_at text from line
shown_line text from line g l from_is at = shown (list_any is_token line) refl
  where
    shown : (has : Bool) → list_any is_token line ≡ has → with_line g.tokens g ≡ g.lines ++ line_at text from line
    shown false has =
        with_line_none g.tokens g (l.tokens ∙ no_tokens text from line has) ∙ sym (append-nil g.lines) ∙ ap (λ (ls : List Line). g.lines ++ ls) (sym (rw has))
    shown true has =
        let tokens = l.tokens in
        let indent = l.indent has in
        let whole : line_at text from line ≡ record { indent = length (indentation line); tokens = tokens_of text from line; span = record { from = from; to = from + length (text_of line) } } ∷ [] = rw has in
        with_line_some g.tokens g (λ none. some_tokens text from line has (sym l.tokens ∙ none)) ∙ cc (whole, tokens, indent, from_is, at)

pub line_ended : (text : List ℕ) (from : ℕ) (line : List Piece) (g : Grouping) → (l : InLine text from line g) → l.opened ≡ [] → is_line from line ≡ true
line_ended text from line g l none = closed (is_indented line) (open_after from [] line) l.indented (l.opened_is ∙ ap (λ (o : List Open). Some o) none)
  where
    closed : (indented : Bool) (o : Option (List Open)) → indented ≡ true → o ≡ Some [] → (indented && is_closed o) ≡ true
    closed indented o is opened = rw (is, opened) refl

in_no_line : (text : List ℕ) (from : ℕ) (g : Grouping) → g.tokens ≡ [] → g.brackets ≡ [] → g.only_blanks ≡ true → g.tab ≡ None → InLine text from [] g
in_no_line text from g tokens brackets blanks tab = record {
  tokens = tokens;
  opened = [];
  opened_is = refl;
  brackets = brackets;
  indented = refl;
  blanks = blanks;
  tab = λ all. tab;
  indent = λ has. absurd (cc);
  unopened = λ has. refl;
}

and_both : (a b : Bool) → a ≡ true → b ≡ true → (a && b) ≡ true
and_both a b is_a is_b = rw (is_a, is_b)

pub tracks_ended : (text next rest : List ℕ) (w : Written) (g : Grouping) (r : Bool) → (t : Tracks text w g next) → next ≡ line_end_text r ++ rest → t.line.opened ≡ []
    → Tracks text (ended w r) (passed g (with_line_ended g (g.at + length (line_end_text r))) (line_end_text r)) rest
tracks_ended text next rest w g r t next_is none =
    let front : List ℕ = text_of (pieces_of w) in
    let piece : List ℕ = line_end_text r in
    let after : Grouping = passed g (with_line_ended g (g.at + length piece)) piece in
    let longer : text_of (pieces_of (ended w r)) ≡ front ++ piece = ap text_of (ended-pieces w r) ∙ text_of-snoc (pieces_of w) (line_end r) in
    let offset = offset_is text next w g t in
    record {
      text_is = t.text_is ∙ ap (λ (n : List ℕ). front ++ n) next_is ∙ sym (append_assoc front piece rest) ∙ ap (λ (f : List ℕ). f ++ rest) (sym longer);
      at = ap (λ (n : ℕ). n + length piece) t.at ∙ sym (length-append front piece) ∙ ap length (sym longer);
      here = ap (λ (h : Pos). place_after h piece) t.here ∙ sym (place_behind-append front piece) ∙ ap place_behind (sym longer);
      from = ap (λ (n : ℕ). n + length piece) offset ∙ sym (ended-last_from 0 w r);
      lines = shown_line text (last_from 0 w) (last_line w) g t.line t.from offset ∙ ap (λ (ls : List Line). ls ++ line_at text (last_from 0 w) (last_line w)) t.lines ∙ sym (ended-lines text 0 w r);
      before = ended-before 0 w r ∙ and_both (are_lines_before 0 w) (is_line (last_from 0 w) (last_line w)) t.before (line_ended text (last_from 0 w) (last_line w) g t.line none);
      line =
          subst (λ (line : List Piece). InLine text (last_from 0 (ended w r)) line after) (sym (ended-last_line w r))
          (in_no_line text (last_from 0 (ended w r)) after refl (t.line.brackets ∙ ap (brackets_at text) none) refl refl);
      comment_ends =
          subst (λ (line : List Piece). list_all is_blank line ≡ false → list_any is_token line ≡ false → begins_line_end rest ≡ true) (sym (ended-last_line w r)) (λ all. absurd (cc));
    }
