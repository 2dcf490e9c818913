-- What the end of the text shows is the text's first fault, or what it leaves open.
use Rattle.std.proofs.Common.{◌≡◌, ◌⊎◌, ⊎_elim, inl, inr, ℕ, ◌==◌, Bool, true, false, ◌&&◌, not, List, [], ◌∷◌, ◌++◌, length, replicate, Option, Some, None, is_none, unwrap_or, refl, sym, ap, ◌∙◌, subst, append_assoc, append-nil, eq-eqb, if◌then◌else◌}
use Rattle.std.specs.List.{list_all}
use Rattle.std.specs.Str.{bytes_eq}
use Rattle.std.proofs.lemmas.Bool.{and_parts, not-true}
use Rattle.prov_base.specs.declared.place.Pos.{Pos}
use Rattle.py_lines.specs.declared.brackets.Bracket.{Bracket}
use Rattle.py_lines.specs.declared.grouping.Grouping.{Grouping}
use Rattle.py_lines.specs.declared.parts.Line.{Line}
use Rattle.py_lines.specs.declared.scan.Reader.{Reader}
use Rattle.py_lines.specs.declared.mode.Quote.{Quote}
use Rattle.py_lines.specs.declared.mode.Mode.{Mode}
use Rattle.py_lines.specs.declared.mode.Mode.TheVariants as M
use Rattle.py_lines.specs.declared.mode.Kind.{Kind}
use Rattle.py_lines.specs.declared.mode.Kind.TheVariants as K
use Rattle.py_lines.specs.declared.mode.Shape.{Shape}
use Rattle.py_lines.specs.declared.mode.Bad.{Bad}
use Rattle.py_lines.specs.declared.mode.Bad.TheVariants as B
use Rattle.py_lines.specs.declared.mode.End.{End}
use Rattle.py_lines.specs.declared.mode.End.TheVariants as E
use Rattle.py_lines.specs.Piece.{Item, plain, escape, break, spelled, text_of, are_cut, items_text, item_text, is_item, are_quotes, quotes_text}
use Rattle.py_lines.specs.Place.{place}
use Rattle.py_lines.specs.Written.{pieces_of, lines_of, Open}
use Rattle.py_lines.specs.Faults.{IsFaulty, HasNoLines, bad_at, may_rest, is_long_text, is_text, ends_with_return, first_open, IsLeftOpen}
use Rattle.py_lines.specs.Bracketing as seen
use Rattle.py_lines.specs.Stepping.{end, last_sign}
use Rattle.py_lines.specs.Tables.{sign_number}
use Rattle.py_lines.specs.Grouping.{fault_at, with_piece, tab_before}
use Rattle.py_lines.specs.Reading.{at_start, begun_of, after_bytes, Ending, whole, bad_token, left_open, ending_of, last_piece, open_text, ending_at, ending, piece_fault, bad_place}
use Rattle.py_lines.proofs.InLines.{brackets_at, differ, false_of}
use Rattle.py_lines.proofs.Begun.{Begun, InText, has_items, Ends, end_reads, choose, is_mark, same_byte}
use Rattle.py_lines.proofs.Values.{mark_is_plain}
use Rattle.py_lines.proofs.Pieces.{next_of}
use Rattle.py_lines.proofs.Scanning.{Scans, scans_front, begun_is, scans_taken}
use Rattle.py_lines.proofs.Complete.{unended}
use Rattle.py_lines.proofs.Stops.{is_last}
use Rattle.py_lines.proofs.FaultPlaces.{placed_end, piece_place, start_place, text_return, return-append}
use Rattle.py_lines.proofs.Doomed.{IsToken}
use Rattle.py_lines.proofs.Alive.{IsClosable, alive_pieces, alive_begun}
use Rattle.py_lines.proofs.Faulting.{Fault, placed_at, begun_front, tab_here, opened_at}
use Rattle.py_lines.proofs.FaultCases.{token_here, token_or_not, bang_of, closable_end}

-- the text is left open at this place
pub record LeftOpen (text : List ℕ) (shown : Pos) : Type 0 where
  pub at : ℕ
  pub is : IsLeftOpen text at
  pub shown_is : shown ≡ place text at

-- ---- what may rest

long_not : (a b : ℕ) (rest : List ℕ) → (a == b) ≡ false → is_long_text (a ∷ b ∷ rest) ≡ false
long_not a b [] other = refl
long_not a b (c ∷ rest) other = and_middle (is_text (a ∷ [])) (a == b) (b == c) other
  where
    and_middle : (x y z : Bool) → y ≡ false → (x && y && z) ≡ false
    and_middle true y z is = rw is refl
    and_middle false y z is = refl

other_way : (a b : ℕ) → (b == a) ≡ false → (a == b) ≡ false
other_way a b is = false_of (a == b) (λ same. differ (b == a) (eq-eqb b a (sym (same_byte a b same))) is)

-- what stands behind an opening quote that is not doubled is no beginning of three
second_differs : (mark : ℕ) (item : Item) (more : List ℕ) → is_item mark false item ≡ true → is_mark mark ≡ true → is_long_text (mark ∷ (item_text mark item ++ more)) ≡ false
second_differs mark (plain quotes byte) more is marked =
    let a = and_parts (are_quotes false quotes && not (byte == mark) && not (byte == 92) && not (byte == 10)) (not (byte == 13)) is in
    let b = and_parts (are_quotes false quotes && not (byte == mark) && not (byte == 92)) (not (byte == 10)) a.0 in
    let c = and_parts (are_quotes false quotes && not (byte == mark)) (not (byte == 92)) b.0 in
    let d = and_parts (are_quotes false quotes) (not (byte == mark)) c.0 in
    let none = same_byte quotes 0 d.0 in
    ap (λ (n : ℕ). is_long_text (mark ∷ ((replicate n mark ++ byte ∷ []) ++ more))) none ∙ long_not mark byte more (other_way mark byte (not-true (byte == mark) d.1))
second_differs mark (escape quotes name) more is marked =
    let none = same_byte quotes 0 (and_parts (are_quotes false quotes) _ is).0 in
    ap (λ (n : ℕ). is_long_text (mark ∷ ((replicate n mark ++ 92 ∷ name ∷ []) ++ more))) none ∙ long_not mark 92 (name ∷ more) (mark_is_plain mark 92 marked refl refl)
second_differs mark (break quotes return) more is marked = absurd (differ false ((and_parts (are_quotes false quotes) false is).1) refl)

short_text : (mark : ℕ) (quotes : ℕ) (bytes more : List ℕ) (last : ℕ) → (t : InText (record { mark = mark; triple = false }) quotes bytes) → (more ≡ [] → has_items false t.items ≡ true) → (mark == last) ≡ false
    → (more ≡ []) ⊎ (more ≡ last ∷ []) → is_long_text (bytes ++ more) ≡ false
short_text mark quotes bytes more last t has other more_is =
    ap (λ (b : List ℕ). is_long_text (b ++ more)) (t.bytes_is ∙ ap (λ (n : ℕ). quotes_text mark false ++ (items_text mark t.items ++ replicate n mark)) (same_byte quotes 0 t.few)) ∙ by t.items t.are_items has
  where
    by : (items : List Item) → list_all (is_item mark false) items ≡ true → (more ≡ [] → has_items false items ≡ true) → is_long_text (mark ∷ ((items_text mark items ++ []) ++ more)) ≡ false
    by [] all has' =
        ⊎_elim (λ none. absurd (let h = has' none in cc)) (λ one. ap (λ (m : List ℕ). is_long_text (mark ∷ m)) one ∙ long_not mark last [] other) more_is
    by (item ∷ items) all has' =
        ap (λ (b : List ℕ). is_long_text (mark ∷ (b ++ more))) (append_assoc (item_text mark item) (items_text mark items) [])
        ∙ ap (λ (b : List ℕ). is_long_text (mark ∷ b)) (append_assoc (item_text mark item) (items_text mark items ++ []) more)
        ∙ second_differs mark item ((items_text mark items ++ []) ++ more) (and_parts (is_item mark false item) (list_all (is_item mark false) items) all).0 t.mark

long_text : (mark : ℕ) (quotes : ℕ) (bytes more : List ℕ) → InText (record { mark = mark; triple = true }) quotes bytes → is_long_text (bytes ++ more) ≡ true
long_text mark quotes bytes more t =
    let same = eq-eqb mark mark refl in
    let marked = t.mark in
    ap (λ (b : List ℕ). is_long_text (b ++ more)) t.bytes_is ∙ rw (marked, same) refl

some_bytes : (front : List ℕ) (byte : ℕ) → bytes_eq (front ++ byte ∷ []) [] ≡ false
some_bytes [] byte = refl
some_bytes (x ∷ front) byte = refl

not_nil : (bytes : List ℕ) → is_long_text bytes ≡ true → bytes_eq bytes [] ≡ false
not_nil [] is = absurd (cc)
not_nil (x ∷ bytes) is = refl

text_not_nil : (quote : Quote) (quotes : ℕ) (bytes more : List ℕ) → InText quote quotes bytes → bytes_eq (bytes ++ more) [] ≡ false
text_not_nil quote quotes bytes more t = ap (λ (b : List ℕ). bytes_eq (b ++ more) []) t.bytes_is ∙ by quote.triple
  where
    by : (triple : Bool) → bytes_eq ((quotes_text quote.mark triple ++ (items_text quote.mark t.items ++ replicate quotes quote.mark)) ++ more) [] ≡ false
    by true = refl
    by false = refl

rest_not : (begun : List ℕ) → bytes_eq begun [] ≡ false → (is_long_text begun && not (ends_with_return begun)) ≡ false → may_rest begun ≡ false
rest_not begun a b = rw (a, b) refl

or_rest : (a b : Bool) → a ≡ false → (a && b) ≡ false
or_rest a b is = rw is refl

-- in a literal of one quote, nothing may rest
one_quote_rest : (quote : Quote) (quotes : ℕ) (bytes more : List ℕ) (last : ℕ) → quote.triple ≡ false → (t : InText quote quotes bytes) → (more ≡ [] → has_items quote.triple t.items ≡ true) → (quote.mark == last) ≡ false
    → (more ≡ []) ⊎ (more ≡ last ∷ []) → may_rest (bytes ++ more) ≡ false
one_quote_rest quote quotes bytes more last single t has other more_is = by quote.triple single t has
  where
    by : (triple : Bool) → triple ≡ false → (t' : InText (record { mark = quote.mark; triple = triple }) quotes bytes) → (more ≡ [] → has_items triple t'.items ≡ true) → may_rest (bytes ++ more) ≡ false
    by true is t' has' = absurd (cc)
    by false is t' has' =
        rest_not (bytes ++ more) (text_not_nil (record { mark = quote.mark; triple = false }) quotes bytes more t')
        (or_rest (is_long_text (bytes ++ more)) (not (ends_with_return (bytes ++ more))) (short_text quote.mark quotes bytes more last t' has' other more_is))

end_rest : (mode : Mode) (begun : List ℕ) (bad : Bad) → Begun mode begun → end mode begun ≡ E.Bad bad → may_rest begun ≡ false
end_rest M.Between begun bad is same = absurd (cc)
end_rest M.Word begun bad is same = absurd (cc)
end_rest (M.Number value) begun bad is same = absurd (cc)
end_rest M.Sign begun bad is same = ap may_rest (bang_of begun (sign_number begun) refl is (none_of (sign_number begun) same))
  where
    none_of : (number : Option ℕ) → last_sign number ≡ E.Bad bad → is_none number ≡ true
    none_of None other = refl
    none_of (Some n) other = absurd (cc)
end_rest M.Return begun bad is same = ap may_rest is
end_rest M.Comment begun bad is same = absurd (cc)
end_rest (M.OneQuote mark) begun bad (is, bytes_is) same = ap may_rest bytes_is
end_rest (M.TwoQuotes mark) begun bad is same = absurd (cc)
end_rest (M.Inside quote quotes) begun bad (t, has) same =
    choose (λ (e : End). e ≡ E.Bad bad → may_rest begun ≡ false) quote.triple E.Open (E.Bad B.Start) (λ _ other. absurd (cc))
    (λ single _. ap may_rest (sym (append-nil begun)) ∙ one_quote_rest quote quotes begun [] 92 single t (λ _. has) (mark_is_plain quote.mark 92 t.mark refl refl) (inl refl)) same
end_rest (M.Escape quote) begun bad (front, quotes, t, bytes_is) same =
    choose (λ (e : End). e ≡ E.Bad bad → may_rest begun ≡ false) quote.triple E.Open (E.Bad B.Start) (λ _ other. absurd (cc))
    (λ single _. ap may_rest bytes_is ∙ one_quote_rest quote quotes front (92 ∷ []) 92 single t (λ none. absurd (cc)) (mark_is_plain quote.mark 92 t.mark refl refl) (inr refl)) same
end_rest (M.InsideReturn mark) begun bad (front, quotes, t, bytes_is) same =
    let ret = return-append false front (13 ∷ []) in
    ap may_rest bytes_is ∙ rest_not (front ++ 13 ∷ []) (some_bytes front 13) (and_not (is_long_text (front ++ 13 ∷ [])) (ends_with_return (front ++ 13 ∷ [])) ret)
  where
    and_not : (a b : Bool) → b ≡ true → (a && not b) ≡ false
    and_not true b is = rw is refl
    and_not false b is = refl

open_rest : (mode : Mode) (begun : List ℕ) → Begun mode begun → end mode begun ≡ E.Open → (may_rest begun ≡ true) × IsToken mode × IsClosable mode begun
open_rest M.Between begun is same = absurd (cc)
open_rest M.Word begun is same = absurd (cc)
open_rest (M.Number value) begun is same = absurd (cc)
open_rest M.Sign begun is same = absurd (not_open (sign_number begun) same)
  where
    not_open : (number : Option ℕ) → last_sign number ≡ E.Open → ⊥
    not_open None other = cc
    not_open (Some n) other = cc
open_rest M.Return begun is same = absurd (cc)
open_rest M.Comment begun is same = absurd (cc)
open_rest (M.OneQuote mark) begun is same = absurd (cc)
open_rest (M.TwoQuotes mark) begun is same = absurd (cc)
open_rest (M.Inside quote quotes) begun (t, has) same = (by quote.triple t same, tt, tt)
  where
    by : (triple : Bool) → InText (record { mark = quote.mark; triple = triple }) quotes begun → (if triple then E.Open else E.Bad B.Start) ≡ E.Open → may_rest begun ≡ true
    by false t' same' = absurd (cc)
    by true t' same' =
        let long = ap is_long_text (sym (append-nil begun)) ∙ long_text quote.mark quotes begun [] t' in
        let ret = text_return (record { mark = quote.mark; triple = true }) quotes begun t' in
        let some = not_nil begun long in
        rw (some, long, ret) refl
open_rest (M.Escape quote) begun (front, quotes, t, bytes_is) same = (ap may_rest bytes_is ∙ by quote.triple t same, tt, tt)
  where
    by : (triple : Bool) → InText (record { mark = quote.mark; triple = triple }) quotes front → (if triple then E.Open else E.Bad B.Start) ≡ E.Open → may_rest (front ++ 92 ∷ []) ≡ true
    by false t' same' = absurd (cc)
    by true t' same' =
        let long = long_text quote.mark quotes front (92 ∷ []) t' in
        let ret = return-append false front (92 ∷ []) in
        let some = some_bytes front 92 in
        rw (some, long, ret) refl
open_rest (M.InsideReturn mark) begun is same = absurd (cc)

-- ---- faults

last_kind_token : (mode : Mode) (begun : List ℕ) (shape : Shape) → end mode begun ≡ E.Last (K.Token shape) → IsToken mode
last_kind_token M.Between begun shape is = cc
last_kind_token M.Return begun shape is = cc
last_kind_token M.Comment begun shape is = cc
last_kind_token M.Word begun shape is = tt
last_kind_token (M.Number value) begun shape is = tt
last_kind_token M.Sign begun shape is = tt
last_kind_token (M.OneQuote mark) begun shape is = tt
last_kind_token (M.TwoQuotes mark) begun shape is = tt
last_kind_token (M.Inside quote quotes) begun shape is = tt
last_kind_token (M.Escape quote) begun shape is = tt
last_kind_token (M.InsideReturn mark) begun shape is = tt

not_bad : (g : Grouping) (o : Option Pos) (shown : Pos) → ending_of g o ≡ bad_token shown → ⊥
not_bad g None shown is = cc
not_bad g (Some at) shown is = cc

no_lines : (text : List ℕ) (r : Reader) (e : Ending) → ending text r ≡ e → after_bytes [] at_start text ≡ Some r → ((lines : List Line) → e ≡ whole lines → ⊥) → HasNoLines text
no_lines text r e same reads other written is = other (lines_of text 0 written) (sym same ∙ unended text written r reads is)

module _ (text : List ℕ) (r : Reader) (reads : after_bytes [] at_start text ≡ Some r) (s : Scans text text r []) where
  text_is : text ≡ text ++ []
  text_is = sym (append-nil text)

  bad_end : (bad : Bad) (shown : Pos) → end r.mode s.begun ≡ E.Bad bad → ending text r ≡ bad_token shown → (IsFaulty text → ⊥) → Fault text (bad_place r text [] bad)
  bad_end bad shown ends' same alive = record {
    at = bad_at s.written s.begun [];
    is = record {
      front = text;
      rest = [];
      text_is = text_is;
      written = s.written;
      begun = s.begun;
      opened = s.tracks.line.opened;
      is_front = begun_front text text [] r s (ap is_last ends');
      not_faulty = alive;
      shown = (end_rest r.mode s.begun bad s.mode ends', no_lines text r (bad_token shown) same reads (λ lines other. cc));
      at_is = refl;
    };
    shown_is = placed_at text (s.begun ++ []) s.written r.grouping s.begun [] (piece_fault r text [] bad) s.tracks
        (piece_place text text [] r s [] bad ∙ ap (place text) (placed_end r.mode (length (text_of (pieces_of s.written))) s.begun bad s.mode ends'));
  }

  bad_ending : (bad : Bad) (shown : Pos) → end r.mode s.begun ≡ E.Bad bad → ending text r ≡ bad_token shown → Fault text (bad_place r text [] bad)
  bad_ending bad shown ends' same =
      ⊎_elim (λ token. by_tab token (tab_before r.grouping) refl) (λ other. here (λ token. absurd (other token))) (token_or_not r.mode)
    where
      closable : IsClosable r.mode (begun_of text r)
      closable = subst (λ (b : List ℕ). IsClosable r.mode b) (sym (begun_is text text [] r s)) (closable_end r.mode s.begun bad s.mode ends')

      here : (IsToken r.mode → tab_before r.grouping ≡ None) → Fault text (bad_place r text [] bad)
      here tab = bad_end bad shown ends' same (alive_begun text r reads closable tab)

      by_tab : IsToken r.mode → (tab : Option Pos) → tab_before r.grouping ≡ tab → Fault text (bad_place r text [] bad)
      by_tab token None same' = here (λ _. same')
      by_tab token (Some tab) same' = subst (λ (o : Option Pos). Fault text (unwrap_or o (piece_fault r text [] bad))) (sym same') (tab_here text text [] r s tab same' token)

  end_fault : (e : End) (shown : Pos) → end r.mode s.begun ≡ e → ending_at text r e ≡ bad_token shown → ending text r ≡ bad_token shown → Fault text shown
  end_fault E.Whole shown ends' is same = absurd (not_bad r.grouping (seen.first_open r.grouping.brackets) shown is)
  end_fault (E.Last kind) shown ends' is same = by_fault (fault_at r.grouping kind (begun_of text r)) refl is
    where
      whole' : s.begun ++ [] ≡ begun_of text r ++ []
      whole' = ap (λ (b : List ℕ). b ++ []) (sym (begun_is text text [] r s))

      by_kind : (k : Kind) → end r.mode s.begun ≡ E.Last k → fault_at r.grouping k (begun_of text r) ≡ Some shown → Fault text shown
      by_kind (K.Token shape) ends'' fault = token_here text text [] r s shape (begun_of text r) [] shown whole' (last_kind_token r.mode s.begun shape ends'') fault
      by_kind K.Blank ends'' fault = absurd (cc)
      by_kind K.Comment ends'' fault = absurd (cc)
      by_kind K.LineEnd ends'' fault = absurd (cc)

      by_fault : (o : Option Pos) → fault_at r.grouping kind (begun_of text r) ≡ o → last_piece r.grouping kind (begun_of text r) o ≡ bad_token shown → Fault text shown
      by_fault None fault is' = absurd (not_bad (with_piece r.grouping kind (begun_of text r)) (seen.first_open (with_piece r.grouping kind (begun_of text r)).brackets) shown is')
      by_fault (Some p) fault is' = by_kind kind ends' (fault ∙ ap (λ (q : Pos). Some q) (let e : p ≡ shown = cc in e))
  end_fault (E.Bad bad) shown ends' is same = subst (λ (p : Pos). Fault text p) (let e : bad_place r text [] bad ≡ shown = cc in e) (bad_ending bad shown ends' same)
  end_fault E.Open shown ends' is same = by_tab (tab_before r.grouping) refl is
    where
      by_tab : (o : Option Pos) → tab_before r.grouping ≡ o → open_text o (unwrap_or (seen.first_open r.grouping.brackets) r.grouping.here) ≡ bad_token shown → Fault text shown
      by_tab None tab is' = absurd (cc)
      by_tab (Some tab) same' is' = subst (λ (p : Pos). Fault text p) (let e : tab ≡ shown = cc in e) (tab_here text text [] r s tab same' (open_rest r.mode s.begun s.mode ends').1)

-- ---- what is left open

open_places : (text : List ℕ) (from : ℕ) (inner : Open) (outer : List Open) → seen.first_open (brackets_at text (inner ∷ outer)) ≡ Some (place text (first_open from (inner ∷ outer)))
open_places text from inner [] = refl
open_places text from inner (outer ∷ more) = open_places text from outer more

open_or : (text : List ℕ) (from : ℕ) (opened : List Open) (here : Pos) → here ≡ place text from → unwrap_or (seen.first_open (brackets_at text opened)) here ≡ place text (first_open from opened)
open_or text from [] here is = is
open_or text from (inner ∷ outer) here is = ap (λ (o : Option Pos). unwrap_or o here) (open_places text from inner outer)

left_of : (g : Grouping) (o : Option Pos) (shown : Pos) → ending_of g o ≡ left_open shown → o ≡ Some shown
left_of g None shown is = absurd (cc)
left_of g (Some at) shown is = cc

-- brackets alone are open
brackets_left : (text front : List ℕ) (r : Reader) (shown : Pos) → front ≡ text → (s : Scans text front r []) → s.begun ≡ [] → ending_of r.grouping (seen.first_open r.grouping.brackets) ≡ left_open shown → HasNoLines text → LeftOpen text shown
brackets_left text front r shown front_is s none is no_lines' =
    let f : List ℕ = text_of (pieces_of s.written) in
    let whole' : text ≡ f ++ [] = sym front_is ∙ s.front_is ∙ ap (λ (b : List ℕ). f ++ b) none in
    let shown_is = left_of r.grouping (seen.first_open r.grouping.brackets) shown is in
    let there = open_or text (length f) s.tracks.line.opened r.grouping.here (start_place text front [] r s) in
    let first : seen.first_open (brackets_at text s.tracks.line.opened) ≡ Some shown = ap seen.first_open (sym s.tracks.line.brackets) ∙ shown_is in
    record {
      at = first_open (length f) s.tracks.line.opened;
      is = record {
        written = s.written;
        begun = [];
        opened = s.tracks.line.opened;
        is_front = record {
          front_is = whole';
          cut = ap (λ (b : List ℕ). are_cut (pieces_of s.written) (b ++ [])) (sym none) ∙ s.cut;
          opened_is = opened_at text (s.begun ++ []) s.written r.grouping s.tracks;
          unfinished = λ some. absurd (some refl);
        };
        rests = refl;
        not_faulty = λ faulty. alive_pieces text front [] r s (subst (λ (t : List ℕ). IsFaulty t) (whole' ∙ append-nil f) faulty);
        no_lines = no_lines';
        at_is = refl;
      };
      shown_is = ap (λ (o : Option Pos). unwrap_or o r.grouping.here) (sym first) ∙ there;
    }

module _ (text : List ℕ) (r : Reader) (reads : after_bytes [] at_start text ≡ Some r) (s : Scans text text r []) where
  text_left : (shown : Pos) → end r.mode s.begun ≡ E.Open → ending text r ≡ left_open shown → tab_before r.grouping ≡ None → unwrap_or (seen.first_open r.grouping.brackets) r.grouping.here ≡ shown → LeftOpen text shown
  text_left shown ends' same tab first =
      let f : List ℕ = text_of (pieces_of s.written) in
      let rests = open_rest r.mode s.begun s.mode ends' in
      let there = open_or text (length f) s.tracks.line.opened r.grouping.here (start_place text text [] r s) in
      record {
        at = first_open (length f) s.tracks.line.opened;
        is = record {
          written = s.written;
          begun = s.begun;
          opened = s.tracks.line.opened;
          is_front = begun_front text text [] r s (ap is_last ends');
          rests = rests.0;
          not_faulty = alive_begun text r reads (subst (λ (b : List ℕ). IsClosable r.mode b) (sym (begun_is text text [] r s)) rests.2) (λ _. tab);
          no_lines = no_lines text r (left_open shown) same reads (λ lines other. cc);
          at_is = refl;
        };
        shown_is = sym first ∙ ap (λ (b : List Bracket). unwrap_or (seen.first_open b) r.grouping.here) s.tracks.line.brackets ∙ there;
      }

  end_left : (e : End) (shown : Pos) → end r.mode s.begun ≡ e → Ends s.begun e → ending_at text r e ≡ left_open shown → ending text r ≡ left_open shown → LeftOpen text shown
  end_left E.Whole shown ends' none is same = brackets_left text text r shown refl s none is (no_lines text r (left_open shown) same reads (λ lines other. cc))
  end_left (E.Last kind) shown ends' last is same = by_fault (fault_at r.grouping kind (begun_of text r)) refl is
    where
      piece_is : begun_of text r ≡ spelled last.piece
      piece_is = begun_is text text [] r s ∙ sym last.spelled_is

      next_is : s.begun ++ [] ≡ spelled last.piece ++ []
      next_is = ap (λ (b : List ℕ). b ++ []) (sym last.spelled_is)

      by_fault : (o : Option Pos) → fault_at r.grouping kind (begun_of text r) ≡ o → last_piece r.grouping kind (begun_of text r) o ≡ left_open shown → LeftOpen text shown
      by_fault (Some p) fault is' = absurd (cc)
      by_fault None fault is' =
          let g : Grouping = with_piece r.grouping kind (spelled last.piece) in
          let fault' : fault_at r.grouping kind (spelled last.piece) ≡ None = ap (fault_at r.grouping kind) (sym piece_is) ∙ fault in
          let taken = next_of text (s.begun ++ []) [] s.written r.grouping last.piece kind s.tracks next_is last.is refl last.fits fault' in
          let whole' : text_of (pieces_of s.written) ++ spelled last.piece ≡ text = ap (λ (b : List ℕ). text_of (pieces_of s.written) ++ b) last.spelled_is ∙ sym s.front_is in
          let s' = scans_taken text text text [] r last.piece kind [] s next_is last.is refl last.fits fault' taken (sym whole') in
          let is'' : ending_of g (seen.first_open g.brackets) ≡ left_open shown =
          ap (λ (b : List ℕ). ending_of (with_piece r.grouping kind b) (seen.first_open (with_piece r.grouping kind b).brackets)) (sym piece_is) ∙ is' in
          brackets_left text text (record { grouping = g; mode = M.Between }) shown refl s' s'.mode is'' (no_lines text r (left_open shown) same reads (λ lines other. cc))
  end_left (E.Bad bad) shown ends' none is same = absurd (cc)
  end_left E.Open shown ends' none is same = by_tab (tab_before r.grouping) refl is
    where
      by_tab : (o : Option Pos) → tab_before r.grouping ≡ o → open_text o (unwrap_or (seen.first_open r.grouping.brackets) r.grouping.here) ≡ left_open shown → LeftOpen text shown
      by_tab (Some tab) tab_is is' = absurd (cc)
      by_tab None tab_is is' = text_left shown ends' same tab_is (cc)

-- ---- from the start

scans_all : (text : List ℕ) (r : Reader) → after_bytes [] at_start text ≡ Some r → Scans text text r []
scans_all text r reads = subst (λ (t : List ℕ). Scans t text r []) (append-nil text) (scans_front text [] r reads)

pub ending_fault : (text : List ℕ) (r : Reader) (shown : Pos) → after_bytes [] at_start text ≡ Some r → ending text r ≡ bad_token shown → Fault text shown
ending_fault text r shown reads same =
    let s = scans_all text r reads in
    end_fault text r reads s (end r.mode s.begun) shown refl (ap (λ (b : List ℕ). ending_at text r (end r.mode b)) (sym (begun_is text text [] r s)) ∙ same) same

pub ending_left : (text : List ℕ) (r : Reader) (shown : Pos) → after_bytes [] at_start text ≡ Some r → ending text r ≡ left_open shown → LeftOpen text shown
ending_left text r shown reads same =
    let s = scans_all text r reads in
    end_left text r reads s (end r.mode s.begun) shown refl (end_reads r.mode s.begun s.mode) (ap (λ (b : List ℕ). ending_at text r (end r.mode b)) (sym (begun_is text text [] r s)) ∙ same) same
