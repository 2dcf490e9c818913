-- The ways in which a row is cut: it stays, it goes, or it goes from a token on, with or without `pass`.
use Rattle.std.proofs.Common.{◌≡◌, ℕ, ◌+◌, ◌-◌, ◌<◌, ◌≤◌, ◌==◌, nat_le, Bool, true, false, ◌&&◌, List, [], ◌∷◌, ◌++◌, length, map, drop, codes, Option, Some, None, option_and_then, is_some, if◌then◌else◌, refl, sym, ap, subst, ◌∙◌, append_assoc, append-nil, length-append, arith}
use Rattle.std.specs.List.{list_any}
use Rattle.std.specs.Option.{option_map_or}
use Rattle.std.specs.Str.{IsUtf8}
use Rattle.std.proofs.lemmas.Bool.{false≢true, and_parts, and_from, or_from, le-leb, lt-leb, eq-eqb, ne_eqb}
use Rattle.std.proofs.lemmas.List.{map-append, length-map}
use Rattle.std.proofs.lemmas.Str.{IsUtf8-append}
use Rattle.prov_base.specs.declared.place.Pos.{Pos}
use Rattle.prov_base.specs.declared.place.Span.{Span}
use Rattle.py_lines.specs.declared.parts.Token.{Token}
use Rattle.py_lines.specs.declared.parts.TokenKind.{TokenKind}
use Rattle.py_lines.specs.declared.parts.TokenKind.TheVariants.{Keyword}
use Rattle.py_lines.specs.Piece.{Piece, word, ends_line, spelled, text_of, is_piece, ends, are_cut}
use Rattle.py_lines.specs.Place.{place}
use Rattle.py_lines.specs.Written.{Open, kind_of, is_token, token_at, tokens_of, is_tab, indentation, is_indented, open_after, is_closed, is_line, line_at}
use Rattle.py_lines.proofs.Snoc.{text_of-append, text_of-snoc, tokens_of-snoc, open_after-snoc}
use Rattle.py_lines.proofs.Texts.{utf8_split}
use Rattle.slice_text.specs.Cut.{letter_or, cut_from, to_line_end}
use Rattle.slice_text.proofs.Balanced.{after}
use Rattle.slice_text.proofs.BlankPieces.{blank_from, blank_text}
use Rattle.slice_text.proofs.CutRows.{AreOff, AreOn, blank_byte, over, cut_stays, cut_goes, cut_fills}
use Rattle.slice_text.proofs.Fronts.{indent_front, has_token, token_not_blank, no_tab, tabless, tokenless, Split}
use Rattle.slice_text.proofs.Growth.{length_skip, end_from}
use Rattle.slice_text.proofs.Letters.{skip, over_skips, returns_skip, blanks_are, is_end, spaces_gap, gap_plain, pass_ends}
use Rattle.slice_text.proofs.Moved.{moved_token}
use Rattle.slice_text.proofs.OpenBrackets.{front_closed, closed_at}
use Rattle.slice_text.proofs.Plain.{plain_utf8}
use Rattle.slice_text.proofs.Recut.{LastEnds, is_plain, EndsColon, recut, last_as, cut_parts, cut_both, plain_end}
use Rattle.slice_text.proofs.Redone.{AreMoved}
use Rattle.slice_text.proofs.Returns.{Returns, returns_text, First, first_of_token}
use Rattle.slice_text.proofs.RowCut.{moved_from, shift, Kept, kept_tokens, NewRow}
use Rattle.slice_text.proofs.Spread.{empty_row}

closed_is : (o : Option (List Open)) → is_closed o ≡ true → o ≡ Some []
closed_is None is = absurd (false≢true is)
closed_is (Some []) is = refl
closed_is (Some (x ∷ xs)) is = absurd (false≢true is)

pub line_closed : (at : ℕ) (line : List Piece) → is_line at line ≡ true → open_after at [] line ≡ Some []
line_closed at line is = closed_is (open_after at [] line) (and_parts (is_indented line) (is_closed (open_after at [] line)) is).1

line_indented : (at : ℕ) (line : List Piece) → is_line at line ≡ true → is_indented line ≡ true
line_indented at line is = (and_parts (is_indented line) (is_closed (open_after at [] line)) is).0

module _ (goes begins : ℕ → Bool) (text : List ℕ) (at : ℕ) where
  front_tokens : (new : List ℕ) (at' count : ℕ) (line : List Piece) → Kept goes begins text new at at' count → length (text_of line) ≤ count → tokens_of new at' line ≡ map (moved_token (shift goes begins text)) (tokens_of text at line)
  front_tokens new at' count line kept within =
      let one : at' ≡ at' + 0 = omega arith in
      let two : at + 0 ≡ at = omega arith in
      ap (λ n. tokens_of new n line) one ∙ (kept_tokens goes begins text new at at' count kept 0 line (omega (arith, within)) ∙ ap (λ n. map (moved_token (shift goes begins text)) (tokens_of text n line)) two)

  -- a row that stays
  pub stay_row : (line : List Piece) → is_line at line ≡ true → AreOff goes at (length (text_of line)) → AreOff begins at (length (text_of line)) → NewRow goes begins text at line (line_at text at line)
  stay_row line is g b = record {
    stays = text_of line;
    rest = [];
    rest' = [];
    text_is = sym (append-nil (text_of line));
    goes_off = g;
    begins_off = b;
    front = line;
    blanks = [];
    are_spaces = refl;
    front_is = sym (append-nil (text_of line));
    bytes = ap (cut_from goes begins at []) (sym (append-nil (text_of line))) ∙ cut_stays goes begins at (text_of line) [] g b;
    cut = λ after after' cut end same. recut line after after' cut (last_as line after after' cut (sym same));
    utf8 = λ utf8. utf8;
    row = λ new at' kept. record { indented = line_indented at line is; closed = closed_at at at' line (line_closed at line is); moved = by new at' (list_any is_token line) (front_tokens new at' (length (text_of line)) line kept (omega arith)) };
  }
    where
      by : (new : List ℕ) (at' : ℕ) (b : Bool) → tokens_of new at' line ≡ map (moved_token (shift goes begins text)) (tokens_of text at line)
          → AreMoved (shift goes begins text) (if b then record { indent = length (indentation line); tokens = tokens_of text at line; span = record { from = at; to = at + length (text_of line) } } ∷ [] else [])
          (if b then record { indent = length (indentation line); tokens = tokens_of new at' line; span = record { from = at'; to = at' + length (text_of line) } } ∷ [] else [])
      by new at' false tokens = tt
      by new at' true tokens = (record { indent_is = refl; tokens_are = tokens }, tt)

  -- a row that goes
  pub gone_row : (line : List Piece) (after0 : List ℕ) → are_cut line after0 ≡ true → AreOn goes at (length (text_of line)) → AreOff begins at (length (text_of line)) → NewRow goes begins text at line []
  gone_row line after0 cut0 g b = record {
    stays = [];
    rest = text_of line;
    rest' = [];
    text_is = refl;
    goes_off = λ i lo hi. absurd (omega (arith, lo, hi));
    begins_off = λ i lo hi. absurd (omega (arith, lo, hi));
    front = [];
    blanks = blank_from false (text_of line);
    are_spaces = blanks_are false (text_of line);
    front_is = refl;
    bytes = cut_goes goes begins at [] (text_of line) g b ∙ (over_skips [] (text_of line) ∙ sym (blank_text false (text_of line) (returns_text line after0 cut0)));
    cut = λ after after' cut end same. refl;
    utf8 = λ utf8. plain_utf8 [] refl;
    row = λ new at' kept. empty_row (shift goes begins text) new at';
  }

-- where no `pass` begins nothing grows
pub same_length : (goes begins : ℕ → Bool) (at : ℕ) (bytes : List ℕ) → AreOff begins at (length bytes) → length (cut_from goes begins at [] bytes) ≡ length bytes
same_length goes begins at [] off = refl
same_length goes begins at (byte ∷ bytes) off =
    by (begins at) (ends_line byte) (off at (omega arith) (omega arith)) (same_length goes begins (at + 1) bytes (λ i lo hi. off i (omega (arith, lo)) (omega (arith, hi))))
  where
    by : (b e : Bool) → b ≡ false → length (cut_from goes begins (at + 1) [] bytes) ≡ length bytes
        → length (if e then (if b then codes "pass" else []) ++ byte ∷ cut_from goes begins (at + 1) [] bytes
        else letter_or (if goes at then 32 else byte) (if b then codes "pass" else []) ∷ cut_from goes begins (at + 1) (drop 1 (if b then codes "pass" else [])) bytes) ≡ length (byte ∷ bytes)
    by true e is later = absurd (false≢true (sym is))
    by false true is later = omega (arith, later)
    by false false is later = omega (arith, later)

-- ---- a row that goes from a token on

tokens_none : (text : List ℕ) (at : ℕ) (line : List Piece) → tokens_of text at line ≡ [] → list_any is_token line ≡ false
tokens_none text at [] is = refl
tokens_none text at (p ∷ line) is = by (kind_of p) refl is (tokens_none text (at + length (spelled p)) line)
  where
    by : (kind : Option TokenKind) → kind_of p ≡ kind
        → option_map_or (λ kind. record { at = place text at; span = record { from = at; to = at + length (spelled p) }; kind = kind } ∷ []) kind [] ++ tokens_of text (at + length (spelled p)) line ≡ []
        → (tokens_of text (at + length (spelled p)) line ≡ [] → list_any is_token line ≡ false) → list_any is_token (p ∷ line) ≡ false
    by None none is later = or_from (is_token p) (list_any is_token line) (ap is_some none) (later is)
    by (Some kind) some is later = absurd (cc)

module _ (goes begins : ℕ → Bool) (text : List ℕ) (at : ℕ) (line : List Piece) (ahead : List Token) (t : Token) (behind : List Token) (s : Split text at line ahead t behind) (after0 : List ℕ) (cut0 : are_cut line after0 ≡ true) (is : is_line at line ≡ true)
    (balanced : after ahead [] ≡ Some []) (colon : EndsColon ahead) (goes_is : (i : ℕ) → at ≤ i → i < at + length (text_of line) → goes i ≡ nat_le t.span.from i) where
  abbrev front_text : List ℕ
  front_text = text_of s.front

  abbrev back : List Piece
  back = s.piece ∷ s.back

  abbrev count : ℕ
  count = length front_text

  text_parts : text_of line ≡ front_text ++ text_of back
  text_parts = ap text_of s.line_is ∙ text_of-append s.front back

  counted : length (text_of line) ≡ count + length (text_of back)
  counted = ap (λ (l : List ℕ). length l) text_parts ∙ length-append front_text (text_of back)

  cut_both_parts : (are_cut s.front (text_of back ++ after0) ≡ true) × (are_cut back after0 ≡ true)
  cut_both_parts = cut_parts s.front back after0 (ap (λ (l : List Piece). are_cut l after0) (sym s.line_is) ∙ cut0)

  first : First (spelled s.piece)
  first =
      first_of_token s.piece
      (and_parts (is_piece s.piece) (ends s.piece (text_of s.back ++ after0)) (and_parts (is_piece s.piece && ends s.piece (text_of s.back ++ after0)) (are_cut s.back after0) cut_both_parts.1).0).0 s.is_token

  abbrev others : List ℕ
  others = first.others ++ text_of s.back

  back_is : text_of back ≡ first.byte ∷ others
  back_is = ap (λ (l : List ℕ). l ++ text_of s.back) first.is

  last_plain : (other : List ℕ) → is_plain other ≡ true → LastEnds s.front other
  last_plain other plain =
      plain_end text at s.front first.byte (others ++ after0) other (ap (λ (l : List ℕ). are_cut s.front (l ++ after0)) (sym back_is) ∙ cut_both_parts.0) first.off (subst EndsColon (sym s.front_is) colon) plain

  front_shut : open_after at [] s.front ≡ Some []
  front_shut =
      front_closed text at s.front back (text_of back ++ after0) cut_both_parts.0 (ap (open_after at []) (sym s.line_is) ∙ line_closed at line is) (ap (λ (ts : List Token). after ts []) s.front_is ∙ balanced)

  off : AreOff goes at count
  off i lo hi = goes_is i lo (let c = counted in omega (arith, hi, c)) ∙ lt-leb t.span.from i (let from = s.from_is in omega (arith, hi, from))

  on : AreOn goes (at + count) (length (text_of back))
  on i lo hi = goes_is i (omega (arith, lo)) (let c = counted in omega (arith, hi, c)) ∙ le-leb t.span.from i (let from = s.from_is in omega (arith, lo, from))

  front_utf8 : IsUtf8 (text_of line) → IsUtf8 front_text
  front_utf8 utf8 = (utf8_split front_text others first.byte (subst IsUtf8 (text_parts ∙ ap (λ (l : List ℕ). front_text ++ l) back_is) utf8) first.ascii).0

  back_returns : Returns (text_of back)
  back_returns = returns_text back after0 cut_both_parts.1

  indent_same : (xs : List Piece) (p : Piece) → is_token p ≡ true → indentation (s.front ++ p ∷ xs) ≡ indentation line
  indent_same xs p token =
      indent_front s.front p xs (token_not_blank p token) ∙ (sym (indent_front s.front s.piece s.back (token_not_blank s.piece s.is_token)) ∙ ap indentation (sym s.line_is))

  line_tabless : list_any is_tab (indentation line) ≡ false
  line_tabless = no_tab line (ap (list_any is_token) s.line_is ∙ has_token s.front s.piece s.back s.is_token) (line_indented at line is)

  -- nothing in its place: no token stands before it
  pub emptied_row : ahead ≡ [] → AreOff begins at (length (text_of line)) → NewRow goes begins text at line []
  emptied_row none b = record {
    stays = front_text;
    rest = text_of back;
    rest' = [];
    text_is = text_parts;
    goes_off = off;
    begins_off = λ i lo hi. b i lo (let c = counted in omega (arith, hi, c));
    front = s.front;
    blanks = blank_from false (text_of back);
    are_spaces = blanks_are false (text_of back);
    front_is = sym (append-nil front_text);
    bytes = ap (cut_from goes begins at []) text_parts
        ∙ (cut_stays goes begins at front_text (text_of back) off (λ i lo hi. b i lo (let c = counted in omega (arith, hi, c)))
        ∙ ap (λ (l : List ℕ). front_text ++ l)
        (cut_goes goes begins (at + count) [] (text_of back) on (λ i lo hi. b i (omega (arith, lo)) (let c = counted in omega (arith, hi, c)))
        ∙ (over_skips [] (text_of back) ∙ sym (blank_text false (text_of back) back_returns))));
    cut = λ after after' cut end same.
        recut s.front (text_of back ++ after0) (text_of (blank_from false (text_of back)) ++ after') cut_both_parts.0
        (last_plain (text_of (blank_from false (text_of back)) ++ after') (gap_plain (text_of (blank_from false (text_of back)) ++ after') (spaces_gap (blank_from false (text_of back)) after' (blanks_are false (text_of back)) end)));
    utf8 = front_utf8;
    row = λ new at' kept. record {
      indented = tokenless s.front no_token;
      closed = closed_at at at' s.front front_shut;
      moved = subst (λ b. AreMoved (shift goes begins text) [] (if b then record { indent = length (indentation s.front); tokens = tokens_of new at' s.front; span = record { from = at'; to = at' + length (text_of s.front) } } ∷ [] else [])) (sym no_token) tt;
    };
  }
    where
      no_token : list_any is_token s.front ≡ false
      no_token = tokens_none text at s.front (s.front_is ∙ none)

  abbrev filled_front : List Piece
  filled_front = s.front ++ word (codes "pass") ∷ []

  abbrev left : List ℕ
  left = skip (codes "pass") (text_of back)

  abbrev blanks : List Piece
  blanks = blank_from false left

  abbrev BeginsHere : Type 0
  BeginsHere = (i : ℕ) → at ≤ i → i < at + length (text_of line) → begins i ≡ (t.span.from == i)

  filled_off : BeginsHere → AreOff begins at count
  filled_off begins_is i lo hi = begins_is i lo (let c = counted in omega (arith, hi, c)) ∙ ne_eqb t.span.from i (λ same. let from = s.from_is in omega (arith, hi, from, same))

  back_cut : BeginsHere → cut_from goes begins (at + count) [] (text_of back) ≡ codes "pass" ++ text_of blanks
  back_cut begins_is =
      let size : length (text_of back) ≡ length (first.byte ∷ others) = ap (λ (l : List ℕ). length l) back_is in
      ap (cut_from goes begins (at + count) []) back_is
      ∙ (cut_fills goes begins (at + count) [] first.byte others (λ i lo hi. on i lo (omega (arith, hi, size)))
      (begins_is (at + count) (omega arith) (let c = counted in omega (arith, c, size)) ∙ eq-eqb t.span.from (at + count) s.from_is)
      (λ i lo hi. begins_is i (omega (arith, lo)) (let c = counted in omega (arith, c, hi, size)) ∙ ne_eqb t.span.from i (λ same. let from = s.from_is in omega (arith, lo, from, same)))
      ∙ (ap (λ (l : List ℕ). over (codes "pass") l) (sym back_is)
      ∙ (over_skips (codes "pass") (text_of back) ∙ ap (λ (l : List ℕ). codes "pass" ++ l) (sym (blank_text false left (returns_skip (codes "pass") (text_of back) back_returns))))))

  filled_bytes : BeginsHere → cut_from goes begins at [] (text_of line) ≡ text_of filled_front ++ text_of blanks
  filled_bytes begins_is =
      ap (cut_from goes begins at []) text_parts
      ∙ (cut_stays goes begins at front_text (text_of back) off (filled_off begins_is)
      ∙ (ap (λ (l : List ℕ). front_text ++ l) (back_cut begins_is)
      ∙ (sym (append_assoc front_text (codes "pass") (text_of blanks)) ∙ ap (λ (l : List ℕ). l ++ text_of blanks) (sym (text_of-snoc s.front (word (codes "pass")))))))

  -- it grows by the letters that find no place
  pub filled_length : BeginsHere → length (cut_from goes begins at [] (text_of line)) ≡ length (text_of line) + (4 - to_line_end (text_of back))
  filled_length begins_is =
      let cut = ap (λ (l : List ℕ). length l) (filled_bytes begins_is) in
      let one = length-append (text_of filled_front) (text_of blanks) in
      let two = ap (λ (l : List ℕ). length l) (text_of-snoc s.front (word (codes "pass"))) in
      let three = length-append front_text (codes "pass") in
      let blank = ap (λ (l : List ℕ). length l) (blank_text false left (returns_skip (codes "pass") (text_of back) back_returns)) in
      let mapped = length-map left blank_byte in
      let skipped = length_skip (codes "pass") (text_of back) in
      let c = counted in omega (arith, cut, one, two, three, blank, mapped, skipped, c)

  -- the bytes of the line from the token on
  pub line_rest : (front rest : List ℕ) → text ≡ front ++ (text_of line ++ rest) → length front ≡ at → is_end rest ≡ true → to_line_end (drop t.span.from text) ≡ to_line_end (text_of back)
  line_rest front rest text_is here end =
      end_from text front front_text (text_of back) rest t.span.from (text_is ∙ ap (λ (l : List ℕ). front ++ (l ++ rest)) text_parts) (let from = s.from_is in omega (arith, from, here)) end

  -- `pass` in its place
  pub filled_row : (span : Span) → BeginsHere
      → NewRow goes begins text at line (record { indent = length (indentation line); tokens = ahead ++ record { at = t.at; span = record { from = t.span.from; to = t.span.from + 4 }; kind = Keyword 28 } ∷ []; span = span } ∷ [])
  filled_row span begins_is = record {
    stays = front_text;
    rest = text_of back;
    rest' = codes "pass";
    text_is = text_parts;
    goes_off = off;
    begins_off = filled_off begins_is;
    front = filled_front;
    blanks = blanks;
    are_spaces = blanks_are false left;
    front_is = text_of-snoc s.front (word (codes "pass"));
    bytes = filled_bytes begins_is;
    cut = λ after after' cut end same.
        cut_both s.front (word (codes "pass") ∷ []) (text_of blanks ++ after')
        (recut s.front (text_of back ++ after0) (text_of (word (codes "pass") ∷ []) ++ (text_of blanks ++ after')) cut_both_parts.0 (last_plain (text_of (word (codes "pass") ∷ []) ++ (text_of blanks ++ after')) refl))
        (and_from (ends (word (codes "pass")) (text_of blanks ++ after')) true (pass_ends (text_of blanks ++ after') (spaces_gap blanks after' (blanks_are false left) end)) refl);
    utf8 = λ utf8. subst IsUtf8 (sym (text_of-snoc s.front (word (codes "pass")))) (IsUtf8-append front_text (codes "pass") (front_utf8 utf8) (plain_utf8 (codes "pass") refl));
    row = λ new at' kept. record {
      indented = tabless filled_front (ap (list_any is_tab) (indent_same [] (word (codes "pass")) refl) ∙ line_tabless);
      closed = open_after-snoc at' [] s.front (word (codes "pass")) ∙ ap (λ o. option_and_then (λ now. Some now) o) (closed_at at at' s.front front_shut);
      moved = moved new at' kept;
    };
  }
    where
      moved : (new : List ℕ) (at' : ℕ) → Kept goes begins text new at at' count
          → AreMoved (shift goes begins text) (record { indent = length (indentation line); tokens = ahead ++ record { at = t.at; span = record { from = t.span.from; to = t.span.from + 4 }; kind = Keyword 28 } ∷ []; span = span } ∷ []) (line_at new at' filled_front)
      moved new at' kept =
          let here = kept count (omega arith) in
          let places : place new (at' + count) ≡ t.at = here.0 ∙ sym s.at_is in
          let from : at' + count ≡ moved_from goes begins text t.span.from = sym here.1 ∙ ap (moved_from goes begins text) (sym s.from_is) in
          let to : at' + count + 4 ≡ moved_from goes begins text t.span.from + ((t.span.from + 4) - t.span.from) = omega (arith, from) in
          let one = pass_token (place new (at' + count)) t.at (at' + count) (moved_from goes begins text t.span.from) (at' + count + 4) (moved_from goes begins text t.span.from + ((t.span.from + 4) - t.span.from)) places from to in
          let ahead_moved = front_tokens goes begins text at new at' count s.front kept (omega arith) ∙ ap (map (moved_token (shift goes begins text))) s.front_is in
          let tokens =
          tokens_of-snoc new at' s.front (word (codes "pass"))
          ∙ (ap (λ (ts : List Token). ts ++ token_at new (at' + count) (word (codes "pass"))) ahead_moved
          ∙ (ap (λ (u : Token). map (moved_token (shift goes begins text)) ahead ++ u ∷ []) one
          ∙ sym (map-append (moved_token (shift goes begins text)) ahead (record { at = t.at; span = record { from = t.span.from; to = t.span.from + 4 }; kind = Keyword 28 } ∷ [])))) in
          subst (λ b. AreMoved (shift goes begins text) (record { indent = length (indentation line); tokens = ahead ++ record { at = t.at; span = record { from = t.span.from; to = t.span.from + 4 }; kind = Keyword 28 } ∷ []; span = span } ∷ [])
          (if b then record { indent = length (indentation filled_front); tokens = tokens_of new at' filled_front; span = record { from = at'; to = at' + length (text_of filled_front) } } ∷ [] else [])) (sym (has_token s.front (word (codes "pass")) [] refl))
          (record { indent_is = ap (λ (l : List Piece). length l) (indent_same [] (word (codes "pass")) refl); tokens_are = tokens }, tt)
        where
          pass_token : (p q : Pos) (a b c e : ℕ) → p ≡ q → a ≡ b → c ≡ e → ◌≡◌ {A = Token} (record { at = p; span = record { from = a; to = c }; kind = Keyword 28 }) (record { at = q; span = record { from = b; to = e }; kind = Keyword 28 })
          pass_token p q a b c e e1 e2 e3 = cc
