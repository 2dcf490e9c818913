-- What was read and can be closed is not faulty: a continuation of it has lines.
use Rattle.std.proofs.Common.{◌≡◌, ◌⊎◌, ⊎_elim, inl, inr, ℕ, ◌+◌, ◌==◌, Bool, true, false, ◌&&◌, ◌||◌, not, List, [], ◌∷◌, ◌++◌, length, codes, Option, Some, None, option_and_then, refl, sym, ap, ◌∙◌, subst, append_assoc, append-nil, le-leb, nat_le, arith, if◌then◌else◌}
use Rattle.std.specs.Option.{option_map_or}
use Rattle.std.specs.List.{list_all, list_any}
use Rattle.std.specs.Str.{bytes_eq}
use Rattle.std.proofs.lemmas.Bool.{and_parts}
use Rattle.prov_base.specs.declared.place.Pos.{Pos}
use Rattle.py_lines.specs.Tables.{sign_at}
use Rattle.py_lines.specs.declared.grouping.Grouping.{Grouping}
use Rattle.py_lines.specs.declared.scan.Reader.{Reader}
use Rattle.py_lines.specs.declared.mode.Quote.{Quote}
use Rattle.py_lines.specs.declared.mode.Mode.{Mode}
use Rattle.py_lines.specs.declared.mode.Mode.TheVariants as M
use Rattle.py_lines.specs.declared.mode.Kind.{Kind}
use Rattle.py_lines.specs.declared.mode.Kind.TheVariants as K
use Rattle.py_lines.specs.declared.mode.Shape.TheVariants as H
use Rattle.py_lines.specs.Piece.{Piece, word, number, sign, literal, blank, comment, line_end, escape, break, text_of, spelled, is_piece, ends, are_cut, is_sign, signs, number_of}
use Rattle.py_lines.specs.Written.{Written, pieces_of, Open, closing_byte, is_closing, close, after_piece, open_after, is_closed, is_indented, is_line, is_token, is_blank, is_tab, indentation}
use Rattle.py_lines.specs.Logical.{IsWritten}
use Rattle.py_lines.specs.Faults.{IsFaulty, last_line, last_from, are_lines_before}
use Rattle.py_lines.specs.Grouping.{tab_before, fault_at, with_piece, fault_among}
use Rattle.py_lines.specs.Reading.{at_start, begun_of, after_bytes}
use Rattle.py_lines.proofs.Snoc.{text_of-append}
use Rattle.py_lines.proofs.WrittenLemmas.{put, put-pieces, put-last_line, put-last_from, put-before, whole-are}
use Rattle.py_lines.proofs.InLines.{token_blanks}
use Rattle.py_lines.proofs.Tracks.{line_ended}
use Rattle.py_lines.proofs.Begun.{Begun, Fits, IsWhole, is_mark, same_byte, or_split, choose, and_both, number_is, text_more, more_quotes, closed_text, escape_item, break_item}
use Rattle.py_lines.proofs.Pieces.{in_table, next_of}
use Rattle.py_lines.proofs.Scanning.{Scans, scans_front, begun_is, scans_taken}
use Rattle.py_lines.proofs.Complete.{open_after-append}
use Rattle.py_lines.proofs.Doomed.{IsToken}

-- a sign that is begun is a `!`
abbrev pub IsClosable : Mode → List ℕ → Type 0
IsClosable M.Sign begun = begun ≡ 33 ∷ []
IsClosable mode begun = Unit {0}

-- ---- other rests

-- a piece is not empty
first_of : (p : Piece) → is_piece p ≡ true → (c : ℕ) × (cs : List ℕ) × (spelled p ≡ c ∷ cs)
first_of (word []) is = absurd (cc)
first_of (word (c ∷ cs)) is = (c, cs, refl)
first_of (number []) is = absurd (cc)
first_of (number (c ∷ cs)) is = (c, cs, refl)
first_of (sign []) is = absurd (cc)
first_of (sign (c ∷ cs)) is = (c, cs, refl)
first_of (literal mark true items) is = (mark, _, refl)
first_of (literal mark false items) is = (mark, _, refl)
first_of (blank byte) is = (byte, [], refl)
first_of (comment bytes) is = (35, bytes, refl)
first_of (line_end false) is = (10, [], refl)
first_of (line_end true) is = (13, 10 ∷ [], refl)

cut_other : (b : List ℕ) → ((p : Piece) → is_piece p ≡ true → ends p b ≡ true) → (ps : List Piece) (a : List ℕ) → are_cut ps a ≡ true → are_cut ps b ≡ true
cut_other b each [] a cut = refl
cut_other b each (p ∷ []) a cut =
    let parts = and_parts (is_piece p && ends p a) true cut in
    let here = (and_parts (is_piece p) (ends p a) parts.0).0 in
    rw (here, each p here) refl
cut_other b each (p ∷ q ∷ ps) a cut =
    let parts = and_parts (is_piece p && ends p (text_of (q ∷ ps) ++ a)) (are_cut (q ∷ ps) a) cut in
    let q_is = (and_parts (is_piece q) (ends q (text_of ps ++ a)) (and_parts (is_piece q && ends q (text_of ps ++ a)) (are_cut ps a) parts.1).0).0 in
    let first = first_of q q_is in
    let more = cut_other b each (q ∷ ps) a parts.1 in
    let same : ends p (text_of (q ∷ ps) ++ b) ≡ ends p (text_of (q ∷ ps) ++ a) = ends_at first.0 first.1 (spelled q) (text_of ps) first.2 in
    ap (λ (e : Bool). is_piece p && e && are_cut (q ∷ ps) b) same ∙ ap (λ (c : Bool). is_piece p && ends p (text_of (q ∷ ps) ++ a) && c) more ∙ ap (λ (c : Bool). c && true) parts.0
  where
    ends_at : (c : ℕ) (cs front rest : List ℕ) → front ≡ c ∷ cs → ends p ((front ++ rest) ++ b) ≡ ends p ((front ++ rest) ++ a)
    ends_at c cs front rest is = ap (λ (f : List ℕ). ends p ((f ++ rest) ++ b)) is ∙ sym (ap (λ (f : List ℕ). ends p ((f ++ rest) ++ a)) is)

-- a LF may stand behind each piece
lf_ends : (p : Piece) (rest : List ℕ) → is_piece p ≡ true → ends p (10 ∷ rest) ≡ true
lf_ends (word name) rest is = refl
lf_ends (number digits) rest is = refl
lf_ends (sign bytes) rest is = in_table (λ one. not (is_sign (one ++ 10 ∷ []))) signs bytes refl is
lf_ends (literal mark true items) rest is = refl
lf_ends (literal mark false []) rest is =
    or_split (mark == 39) (mark == 34) (and_parts (is_mark mark) true is).0
    (λ same. ap (λ (m : ℕ). not (10 == m)) (same_byte mark 39 same)) (λ same. ap (λ (m : ℕ). not (10 == m)) (same_byte mark 34 same))
lf_ends (literal mark false (item ∷ items)) rest is = refl
lf_ends (blank byte) rest is = refl
lf_ends (comment bytes) rest is = refl
lf_ends (line_end return) rest is = refl

cut_both : (a b : List Piece) (rest : List ℕ) → are_cut a (text_of b ++ rest) ≡ true → are_cut b rest ≡ true → are_cut (a ++ b) rest ≡ true
cut_both [] b rest cut_a cut_b = cut_b
cut_both (p ∷ a) b rest cut_a cut_b =
    let parts = and_parts (is_piece p && ends p (text_of a ++ (text_of b ++ rest))) (are_cut a (text_of b ++ rest)) cut_a in
    let more = cut_both a b rest parts.1 cut_b in
    let same : text_of (a ++ b) ++ rest ≡ text_of a ++ (text_of b ++ rest) = ap (λ (t : List ℕ). t ++ rest) (text_of-append a b) ∙ append_assoc (text_of a) (text_of b) rest in
    ap (λ (t : List ℕ). is_piece p && ends p t && are_cut (a ++ b) rest) same ∙ ap (λ (c : Bool). is_piece p && ends p (text_of a ++ (text_of b ++ rest)) && c) more ∙ ap (λ (c : Bool). c && true) parts.0

-- ---- closing brackets

abbrev is_closer : ℕ → Bool
is_closer byte = (byte == 41) || (byte == 93) || (byte == 125)

abbrev known : List Open → Bool
known [] = true
known (inner ∷ outer) = is_closer inner.closed_by && known outer

closing_known : (bytes : List ℕ) (byte : ℕ) → closing_byte bytes ≡ Some byte → is_closer byte ≡ true
closing_known bytes byte =
    choose P (bytes_eq bytes (codes "(")) _ _ (λ _ same. from 41 refl same)
    (λ _. choose P (bytes_eq bytes (codes "[")) _ _ (λ _ same. from 93 refl same)
    (λ _. choose P (bytes_eq bytes (codes "{")) _ _ (λ _ same. from 125 refl same) (λ _ same. absurd (cc))))
  where
    P : Option ℕ → Type 0
    P o = o ≡ Some byte → is_closer byte ≡ true

    from : (b : ℕ) → is_closer b ≡ true → Some b ≡ Some byte → is_closer byte ≡ true
    from b is same = let e : b ≡ byte = cc in ap is_closer (sym e) ∙ is

close_known : (bytes : List ℕ) (opened now : List Open) → close bytes opened ≡ Some now → known opened ≡ true → known now ≡ true
close_known bytes [] now is all = absurd (cc)
close_known bytes (inner ∷ outer) now is all = by (bytes_eq bytes (inner.closed_by ∷ [])) is
  where
    by : (same : Bool) → (if same then Some outer else None) ≡ Some now → known now ≡ true
    by true is' = let e : outer ≡ now = cc in ap known (sym e) ∙ (and_parts (is_closer inner.closed_by) (known outer) all).1
    by false is' = absurd (cc)

some_known : (opened now : List Open) → Some opened ≡ Some now → known opened ≡ true → known now ≡ true
some_known opened now is all = let e : opened ≡ now = cc in ap known (sym e) ∙ all

piece_known : (at : ℕ) (p : Piece) (opened now : List Open) → after_piece at p opened ≡ Some now → known opened ≡ true → known now ≡ true
piece_known at (word name) opened now is all = some_known opened now is all
piece_known at (number digits) opened now is all = some_known opened now is all
piece_known at (sign bytes) opened now is all = by (closing_byte bytes) refl (is_closing bytes) is
  where
    by : (byte : Option ℕ) → closing_byte bytes ≡ byte → (closing : Bool)
        → option_map_or (λ b. Some (record { closed_by = b; at = at } ∷ opened)) byte (if closing then close bytes opened else Some opened) ≡ Some now → known now ≡ true
    by (Some b) same closing is' =
        let e : record { closed_by = b; at = at } ∷ opened ≡ now = cc in
        ap known (sym e) ∙ and_both (is_closer b) (known opened) (closing_known bytes b same) all
    by None same true is' = close_known bytes opened now is' all
    by None same false is' = some_known opened now is' all
piece_known at (literal mark triple items) opened now is all = some_known opened now is all
piece_known at (blank byte) opened now is all = some_known opened now is all
piece_known at (comment bytes) opened now is all = some_known opened now is all
piece_known at (line_end r) [] now is all = absurd (cc)
piece_known at (line_end r) (inner ∷ outer) now is all = some_known (inner ∷ outer) now is all

then_some : {A C : Type 0} (f : A → Option C) (o : Option A) (y : C) → option_and_then f o ≡ Some y → (x : A) × (o ≡ Some x) × (f x ≡ Some y)
then_some f None y is = absurd (cc)
then_some f (Some x) y is = (x, refl, is)

opened_known : (at : ℕ) (opened now : List Open) (line : List Piece) → open_after at opened line ≡ Some now → known opened ≡ true → known now ≡ true
opened_known at opened now [] is all = some_known opened now is all
opened_known at opened now (p ∷ line) is all =
    let found = then_some (λ next. open_after (at + length (spelled p)) next line) (after_piece at p opened) now is in
    opened_known (at + length (spelled p)) found.0 now line found.2 (piece_known at p opened found.0 found.1 all)

abbrev closers : List Open → List Piece
closers [] = []
closers (inner ∷ outer) = sign (inner.closed_by ∷ []) ∷ closers outer

-- what holds of the three closing bytes
closer_cases : (P : ℕ → Type 0) (byte : ℕ) → is_closer byte ≡ true → P 41 → P 93 → P 125 → P byte
closer_cases P byte is a b c =
    or_split ((byte == 41) || (byte == 93)) (byte == 125) is
    (λ more. or_split (byte == 41) (byte == 93) more
    (λ same. subst P (sym (same_byte byte 41 same)) a) (λ same. subst P (sym (same_byte byte 93 same)) b))
    (λ same. subst P (sym (same_byte byte 125 same)) c)

closer_ends : (byte : ℕ) (rest : List ℕ) → is_closer byte ≡ true → ends (sign (byte ∷ [])) rest ≡ true
closer_ends byte [] is = refl
closer_ends byte (x ∷ rest) is = closer_cases (λ b. ends (sign (b ∷ [])) (x ∷ rest) ≡ true) byte is refl refl refl

closers_cut : (opened : List Open) → known opened ≡ true → are_cut (closers opened) [] ≡ true
closers_cut [] all = refl
closers_cut (inner ∷ outer) all =
    let parts = and_parts (is_closer inner.closed_by) (known outer) all in
    let is : is_sign (inner.closed_by ∷ []) ≡ true = closer_cases (λ b. is_sign (b ∷ []) ≡ true) inner.closed_by parts.0 refl refl refl in
    let ends' = closer_ends inner.closed_by (text_of (closers outer) ++ []) parts.0 in
    let more = closers_cut outer parts.1 in
    rw (is, ends', more) refl

closers_close : (at : ℕ) (opened : List Open) → known opened ≡ true → open_after at opened (closers opened) ≡ Some []
closers_close at [] all = refl
closers_close at (inner ∷ outer) all =
    let parts = and_parts (is_closer inner.closed_by) (known outer) all in
    let none : closing_byte (inner.closed_by ∷ []) ≡ None = closer_cases (λ b. closing_byte (b ∷ []) ≡ None) inner.closed_by parts.0 refl refl refl in
    let closing : is_closing (inner.closed_by ∷ []) ≡ true = closer_cases (λ b. is_closing (b ∷ []) ≡ true) inner.closed_by parts.0 refl refl refl in
    let same : bytes_eq (inner.closed_by ∷ []) (inner.closed_by ∷ []) ≡ true = closer_cases (λ b. bytes_eq (b ∷ []) (b ∷ []) ≡ true) inner.closed_by parts.0 refl refl refl in
    let here : after_piece at (sign (inner.closed_by ∷ [])) (inner ∷ outer) ≡ Some outer = rw (none, closing, same) refl in
    ap (option_and_then (λ now. open_after (at + length (spelled (sign (inner.closed_by ∷ [])))) now (closers outer))) here ∙ closers_close (at + 1) outer parts.1

-- ---- pieces at the end

abbrev puts : Written → List Piece → Written
puts w [] = w
puts w (p ∷ ps) = puts (put w p) ps

puts-pieces : (w : Written) (ps : List Piece) → pieces_of (puts w ps) ≡ pieces_of w ++ ps
puts-pieces w [] = sym (append-nil (pieces_of w))
puts-pieces w (p ∷ ps) = puts-pieces (put w p) ps ∙ ap (λ (qs : List Piece). qs ++ ps) (put-pieces w p) ∙ append_assoc (pieces_of w) (p ∷ []) ps

puts-last_line : (w : Written) (ps : List Piece) → last_line (puts w ps) ≡ last_line w ++ ps
puts-last_line w [] = sym (append-nil (last_line w))
puts-last_line w (p ∷ ps) = puts-last_line (put w p) ps ∙ ap (λ (qs : List Piece). qs ++ ps) (put-last_line w p) ∙ append_assoc (last_line w) (p ∷ []) ps

puts-last_from : (at : ℕ) (w : Written) (ps : List Piece) → last_from at (puts w ps) ≡ last_from at w
puts-last_from at w [] = refl
puts-last_from at w (p ∷ ps) = puts-last_from at (put w p) ps ∙ put-last_from at w p

puts-before : (at : ℕ) (w : Written) (ps : List Piece) → are_lines_before at (puts w ps) ≡ are_lines_before at w
puts-before at w [] = refl
puts-before at w (p ∷ ps) = puts-before at (put w p) ps ∙ put-before at w p

indentation-more : (line more : List Piece) → list_all is_blank line ≡ false → indentation (line ++ more) ≡ indentation line
indentation-more [] more all = cc
indentation-more (q ∷ line) more all = by (is_blank q) (list_all is_blank line) (indentation (line ++ more)) (indentation line) all (indentation-more line more)
  where
    by : (here rest : Bool) (a b : List Piece) → (here && rest) ≡ false → (rest ≡ false → a ≡ b) → (if here then q ∷ a else []) ≡ (if here then q ∷ b else [])
    by true rest a b all' same = ap (λ (l : List Piece). q ∷ l) (same all')
    by false rest a b all' same = refl

indented-more : (line more : List Piece) → list_any is_token line ≡ true → is_indented line ≡ true → is_indented (line ++ more) ≡ true
indented-more line more has is =
    by (list_any is_token (line ++ more)) (list_any is_token line) (list_any is_tab (indentation line)) (list_any is_tab (indentation (line ++ more)))
    (ap (list_any is_tab) (indentation-more line more (token_blanks line has))) has is
  where
    by : (now before tabs tabs' : Bool) → tabs' ≡ tabs → before ≡ true → (not before || not tabs) ≡ true → (not now || not tabs') ≡ true
    by now true true tabs' same has' is' = absurd (cc)
    by now false tabs tabs' same has' is' = absurd (cc)
    by true true false tabs' same has' is' = rw same refl
    by false true false tabs' same has' is' = refl

pub alive_pieces : (text front next : List ℕ) (r : Reader) → (s : Scans text front r next) → IsFaulty (text_of (pieces_of s.written)) → ⊥
alive_pieces text front next r s faulty = by s.tracks.line.opened refl
  where
    f : List ℕ
    f = text_of (pieces_of s.written)

    w : Written
    w = s.written

    cut_in : (b : List ℕ) → ((p : Piece) → is_piece p ≡ true → ends p b ≡ true) → are_cut (pieces_of s.written) b ≡ true
    cut_in b each = cut_other b each (pieces_of s.written) (s.begun ++ next) s.cut

    by : (opened : List Open) → s.tracks.line.opened ≡ opened → ⊥
    by [] none = faulty [] s.written (record {
      text_is = append-nil (text_of (pieces_of s.written));
      cut = cut_in [] (λ p is. refl);
      are_lines = whole-are 0 s.written ∙ and_both (are_lines_before 0 s.written) (is_line (last_from 0 s.written) (last_line s.written)) s.tracks.before
          (line_ended text (last_from 0 s.written) (last_line s.written) r.grouping s.tracks.line none);
    })
    by (inner ∷ outer) some =
        let opened : List Open = inner ∷ outer in
        let all : known opened ≡ true = opened_known (last_from 0 s.written) [] opened (last_line s.written) (s.tracks.line.opened_is ∙ ap (λ (o : List Open). Some o) some) refl in
        let tail : List Piece = line_end false ∷ closers opened in
        let u : Written = puts s.written tail in
        let has : list_any is_token (last_line s.written) ≡ true = true_of (list_any is_token (last_line s.written)) (λ no_token. (let none = s.tracks.line.unopened no_token in cc (none, some))) in
        let open_is : open_after (last_from 0 s.written) [] (last_line s.written ++ tail) ≡ Some [] =
        open_after-append (last_from 0 s.written) [] (last_line s.written) tail
        ∙ ap (option_and_then (λ now. open_after (last_from 0 s.written + length (text_of (last_line s.written))) now tail)) (s.tracks.line.opened_is ∙ ap (λ (o : List Open). Some o) some)
        ∙ closers_close ((last_from 0 s.written + length (text_of (last_line s.written))) + 1) opened all in
        let line : is_line (last_from 0 s.written) (last_line s.written ++ tail) ≡ true =
        and_both (is_indented (last_line s.written ++ tail)) (is_closed (open_after (last_from 0 s.written) [] (last_line s.written ++ tail)))
        (indented-more (last_line s.written) tail has s.tracks.line.indented) (ap is_closed open_is) in
        faulty (text_of tail) u (record {
          text_is = sym (text_of-append (pieces_of s.written) tail) ∙ ap text_of (sym (puts-pieces s.written tail));
          cut = ap (λ (ps : List Piece). are_cut ps []) (puts-pieces s.written tail)
              ∙ cut_both (pieces_of s.written) tail [] (ap (are_cut (pieces_of s.written)) (append-nil (text_of tail)) ∙ cut_in (text_of tail) (λ p is. lf_ends p (text_of (closers opened)) is))
              (tail_cut opened all);
          are_lines = whole-are 0 u ∙ and_both (are_lines_before 0 u) (is_line (last_from 0 u) (last_line u)) (puts-before 0 s.written tail ∙ s.tracks.before)
              (ap (λ (n : ℕ). is_line n (last_line u)) (puts-last_from 0 s.written tail) ∙ ap (is_line (last_from 0 s.written)) (puts-last_line s.written tail) ∙ line);
        })
      where
        true_of : (b : Bool) → (b ≡ false → ⊥) → b ≡ true
        true_of true is = refl
        true_of false is = absurd (is refl)

        line_end_ends : (rest : List ℕ) → ends (line_end false) rest ≡ true
        line_end_ends [] = refl
        line_end_ends (x ∷ rest) = refl

        tail_cut : (opened : List Open) → known opened ≡ true → are_cut (line_end false ∷ closers opened) [] ≡ true
        tail_cut opened all = let a = line_end_ends (text_of (closers opened) ++ []) in let b = closers_cut opened all in rw (a, b) refl

-- ---- what is begun, closed

-- with these bytes behind it what is begun is a piece, and one that may stand there
record Closed (mode : Mode) (begun : List ℕ) : Type 0 where
  more : List ℕ
  piece : Piece
  kind : Kind
  spelled_is : spelled piece ≡ begun ++ more
  is : is_piece piece ≡ true
  fits : Fits piece kind
  fault : (g : Grouping) → (IsToken mode → tab_before g ≡ None) → fault_at g kind (spelled piece) ≡ None

plain_fault : (g : Grouping) → tab_before g ≡ None → fault_among (tab_before g) (Some g.brackets) g.here ≡ None
plain_fault g tab = ap (λ (o : Option Pos). fault_among o (Some g.brackets) g.here) tab

text_closed : (quote : Quote) (mode : Mode) (begun more : List ℕ) → (g' : (g : Grouping) → (IsToken mode → tab_before g ≡ None) → tab_before g ≡ None) → (w : IsWhole (begun ++ more) (K.Token (H.Text quote))) → Closed mode begun
text_closed quote mode begun more tab w = record {
  more = more;
  piece = w.piece;
  kind = K.Token (H.Text quote);
  spelled_is = w.spelled_is;
  is = w.is;
  fits = w.fits;
  fault = λ g each. plain_fault g (tab g each);
}

closing_now : (quote : Quote) (quotes : ℕ) (bytes : List ℕ) → Begun (M.Inside quote quotes) bytes → (not quote.triple || nat_le 2 quotes) ≡ true → (more : List ℕ) × IsWhole (bytes ++ more) (K.Token (H.Text quote))
closing_now quote quotes bytes (t, has) closes = (quote.mark ∷ [], closed_text quote quotes bytes t has closes)

one_more : (quote : Quote) (bytes : List ℕ) → (later : (more : List ℕ) × IsWhole ((bytes ++ quote.mark ∷ []) ++ more) (K.Token (H.Text quote))) → (more : List ℕ) × IsWhole (bytes ++ more) (K.Token (H.Text quote))
one_more quote bytes (more, whole) = (quote.mark ∷ more, subst (λ (b : List ℕ). IsWhole b (K.Token (H.Text quote))) (append_assoc bytes (quote.mark ∷ []) more) whole)

-- two quotes more, at most, and one that closes
closing_two : (quote : Quote) (quotes : ℕ) (bytes : List ℕ) → Begun (M.Inside quote quotes) bytes → (last : (not quote.triple || nat_le 2 (quotes + 1 + 1)) ≡ true) → (more : List ℕ) × IsWhole (bytes ++ more) (K.Token (H.Text quote))
closing_two quote quotes bytes begun last = by (not quote.triple || nat_le 2 quotes) refl (not quote.triple || nat_le 2 (quotes + 1)) refl
  where
    by : (a : Bool) → (not quote.triple || nat_le 2 quotes) ≡ a → (b : Bool) → (not quote.triple || nat_le 2 (quotes + 1)) ≡ b → (more : List ℕ) × IsWhole (bytes ++ more) (K.Token (H.Text quote))
    by true is b is' = closing_now quote quotes bytes begun is
    by false is true is' = one_more quote bytes (closing_now quote (quotes + 1) (bytes ++ quote.mark ∷ []) (more_quotes quote quotes bytes begun is) is')
    by false is false is' =
        one_more quote bytes (one_more quote (bytes ++ quote.mark ∷ [])
        (closing_now quote (quotes + 1 + 1) ((bytes ++ quote.mark ∷ []) ++ quote.mark ∷ []) (more_quotes quote (quotes + 1) (bytes ++ quote.mark ∷ []) (more_quotes quote quotes bytes begun is) is') last))

inside_closed : (quote : Quote) (quotes : ℕ) (bytes : List ℕ) → Begun (M.Inside quote quotes) bytes → (more : List ℕ) × IsWhole (bytes ++ more) (K.Token (H.Text quote))
inside_closed quote quotes bytes begun = closing_two quote quotes bytes begun (last (not quote.triple))
  where
    last : (a : Bool) → (a || nat_le 2 (quotes + 1 + 1)) ≡ true
    last true = refl
    last false = le-leb 2 (quotes + 1 + 1) (omega arith)

-- some bytes of the literal first
behind : (quote : Quote) (mode : Mode) (begun front tail more : List ℕ) → begun ++ more ≡ front ++ tail → Begun (M.Inside quote 0) (front ++ tail) → ((g : Grouping) → (IsToken mode → tab_before g ≡ None) → tab_before g ≡ None) → Closed mode begun
behind quote mode begun front tail more same inside tab =
    let closed = inside_closed quote 0 (front ++ tail) inside in
    text_closed quote mode begun (more ++ closed.0) tab
    (subst (λ (b : List ℕ). IsWhole b (K.Token (H.Text quote))) (ap (λ (b : List ℕ). b ++ closed.0) (sym same) ∙ append_assoc begun more closed.0) closed.1)

closed_of : (mode : Mode) (begun : List ℕ) → Begun mode begun → IsClosable mode begun → (begun ≡ []) ⊎ Closed mode begun
closed_of M.Between begun is closable = inl is
closed_of M.Word begun is closable = inr (record { more = []; piece = word begun; kind = K.Token H.Word; spelled_is = sym (append-nil begun); is = is; fits = refl; fault = λ g tab. plain_fault g (tab tt) })
closed_of (M.Number value) begun is closable = inr (record {
  more = [];
  piece = number begun;
  kind = K.Token (H.Number (number_of begun));
  spelled_is = sym (append-nil begun);
  is = number_is begun value is;
  fits = refl;
  fault = λ g tab. plain_fault g (tab tt);
})
closed_of M.Sign begun is closable = inr (record {
  more = 61 ∷ [];
  piece = sign (33 ∷ 61 ∷ []);
  kind = K.Token (H.Sign (sign_at 16));
  spelled_is = ap (λ (b : List ℕ). b ++ 61 ∷ []) (sym closable);
  is = refl;
  fits = (16, refl, refl);
  fault = λ g tab. plain_fault g (tab tt);
})
closed_of M.Return begun is closable = inr (record { more = 10 ∷ []; piece = line_end true; kind = K.LineEnd; spelled_is = ap (λ (b : List ℕ). b ++ 10 ∷ []) (sym is); is = refl; fits = refl; fault = λ g tab. refl })
closed_of M.Comment begun (rest, begun_is', free) closable = inr (record { more = []; piece = comment rest; kind = K.Comment; spelled_is = sym begun_is' ∙ sym (append-nil begun); is = free; fits = refl; fault = λ g tab. refl })
closed_of (M.OneQuote mark) begun (is, begun_is') closable = inr (record {
  more = mark ∷ [];
  piece = literal mark false [];
  kind = K.Token (H.Text (record { mark = mark; triple = false }));
  spelled_is = ap (λ (b : List ℕ). b ++ mark ∷ []) (sym begun_is');
  is = and_both (is_mark mark) true is refl;
  fits = refl;
  fault = λ g tab. plain_fault g (tab tt);
})
closed_of (M.TwoQuotes mark) begun (is, begun_is') closable = inr (record {
  more = [];
  piece = literal mark false [];
  kind = K.Token (H.Text (record { mark = mark; triple = false }));
  spelled_is = sym begun_is' ∙ sym (append-nil begun);
  is = and_both (is_mark mark) true is refl;
  fits = refl;
  fault = λ g tab. plain_fault g (tab tt);
})
closed_of (M.Inside quote quotes) begun is closable =
    let closed = inside_closed quote quotes begun is in
    inr (text_closed quote (M.Inside quote quotes) begun closed.0 (λ g tab. tab tt) closed.1)
closed_of (M.Escape quote) begun (front, quotes, t, begun_is') closable =
    inr (behind quote (M.Escape quote) begun front (92 ∷ 92 ∷ []) (92 ∷ []) (ap (λ (b : List ℕ). b ++ 92 ∷ []) begun_is' ∙ append_assoc front (92 ∷ []) (92 ∷ []))
    (text_more quote quotes front (92 ∷ 92 ∷ []) (escape quotes 92) t refl (escape_item quote quotes 92 t.few refl)) (λ g tab. tab tt))
closed_of (M.InsideReturn mark) begun (front, quotes, t, begun_is') closable =
    inr (behind (record { mark = mark; triple = true }) (M.InsideReturn mark) begun front (13 ∷ 10 ∷ []) (10 ∷ []) (ap (λ (b : List ℕ). b ++ 10 ∷ []) begun_is' ∙ append_assoc front (13 ∷ []) (10 ∷ []))
    (text_more (record { mark = mark; triple = true }) quotes front (13 ∷ 10 ∷ []) (break quotes true) t refl (break_item (record { mark = mark; triple = true }) quotes true t.few refl)) (λ g tab. tab tt))

faulty_more : (front more : List ℕ) → IsFaulty front → IsFaulty (front ++ more)
faulty_more front more faulty rest written is = faulty (more ++ rest) written (subst (λ (t : List ℕ). IsWritten t written) (append_assoc front more rest) is)

-- where nothing is begun, the pieces are all
alive_between : (text front next : List ℕ) (r : Reader) → (s : Scans text front r next) → s.begun ≡ [] → IsFaulty front → ⊥
alive_between text front next r s none faulty =
    let f : List ℕ = text_of (pieces_of s.written) in
    alive_pieces text front next r s (subst (λ (t : List ℕ). IsFaulty t) (s.front_is ∙ ap (λ (b : List ℕ). f ++ b) none ∙ append-nil f) faulty)

pub alive_begun : (front : List ℕ) (r : Reader) → after_bytes [] at_start front ≡ Some r → IsClosable r.mode (begun_of front r) → (IsToken r.mode → tab_before r.grouping ≡ None) → IsFaulty front → ⊥
alive_begun front r reads closable tab faulty =
    let s0 = scans_front front [] r reads in
    let same0 = begun_is (front ++ []) front [] r s0 in
    ⊎_elim
    (λ none. alive_between (front ++ []) front [] r s0 none faulty)
    (λ closed. close_it s0.begun same0 closed)
    (closed_of r.mode s0.begun s0.mode (subst (λ (b : List ℕ). IsClosable r.mode b) same0 closable))
  where
    close_it : (begun : List ℕ) → begun_of front r ≡ begun → Closed r.mode begun → ⊥
    close_it begun same c =
        let text : List ℕ = front ++ c.more in
        let s = scans_front front c.more r reads in
        let f : List ℕ = text_of (pieces_of s.written) in
        let begun_is' : s.begun ≡ begun = sym (begun_is text front c.more r s) ∙ same in
        let spelled_is' : s.begun ++ c.more ≡ spelled c.piece = ap (λ (b : List ℕ). b ++ c.more) begun_is' ∙ sym c.spelled_is in
        let next_is : s.begun ++ c.more ≡ spelled c.piece ++ [] = spelled_is' ∙ sym (append-nil (spelled c.piece)) in
        let fault = c.fault r.grouping tab in
        let taken = next_of text (s.begun ++ c.more) [] s.written r.grouping c.piece c.kind s.tracks next_is c.is refl c.fits fault in
        let longer : front ++ c.more ≡ f ++ spelled c.piece = ap (λ (x : List ℕ). x ++ c.more) s.front_is ∙ append_assoc f s.begun c.more ∙ ap (λ (x : List ℕ). f ++ x) spelled_is' in
        let s' = scans_taken text front (front ++ c.more) [] r c.piece c.kind c.more s next_is c.is refl c.fits fault taken longer in
        alive_between text (front ++ c.more) [] (record { grouping = with_piece r.grouping c.kind (spelled c.piece); mode = M.Between }) s' s'.mode (faulty_more front c.more faulty)
