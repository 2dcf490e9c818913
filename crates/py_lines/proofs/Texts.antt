-- The texts of words and literals are UTF-8 where the whole text is.
use Rattle.std.proofs.Common.{◌≡◌, ℕ, zero, suc, ◌+◌, ◌<◌, ◌==◌, nat_le, Bool, true, false, ◌&&◌, ◌||◌, List, [], ◌∷◌, ◌++◌, length, take, drop, get_or, slice_index, Some, replicate, refl, sym, ap, ◌∙◌, subst, append_assoc, append-nil, length-append, add-one, arith, leb-true}
use Rattle.std.specs.List.{list_all}
use Rattle.std.specs.Str.{IsUtf8}
use Rattle.std.proofs.lemmas.Bool.{and_parts}
use Rattle.std.proofs.lemmas.Str.{IsUtf8-append, IsUtf8-from_ascii, IsUtf8-take, IsUtf8-drop, IsCharBoundary-before_ascii, IsCharBoundary-after_ascii}
use Rattle.py_lines.specs.Piece.{Piece, word, number, sign, literal, blank, comment, line_end, spelled, is_piece, text_of, Item, plain, escape, break, items_text, items_value, is_item, are_quotes, quotes_text, is_escape, escape_value, is_name, is_name_byte, begins_name, is_digit}
use Rattle.std.proofs.lemmas.List.{take-append-drop}
use Rattle.py_lines.specs.declared.scan.Reader.{Reader}
use Rattle.py_lines.specs.declared.mode.Kind.{Kind}
use Rattle.py_lines.specs.declared.mode.Read.TheVariants as R
use Rattle.py_lines.specs.declared.mode.Step.{Step}
use Rattle.py_lines.specs.declared.mode.Step.TheVariants as S
use Rattle.py_lines.specs.declared.mode.End.{End}
use Rattle.py_lines.specs.declared.mode.End.TheVariants as E
use Rattle.py_lines.specs.Written.{pieces_of}
use Rattle.py_lines.specs.Literal.{inside_of, value_of}
use Rattle.py_lines.specs.Spelling.{IsKindText}
use Rattle.py_lines.specs.Stepping.{step, end}
use Rattle.py_lines.specs.Reading.{at_start, begun_of, after_bytes, AreTexts, IsLastText}
use Rattle.py_lines.proofs.Begun.{is_mark, same_byte, or_split, Fits, IsWhole, IsBroken, IsLast, Steps, Ends, step_reads, end_reads}
use Rattle.py_lines.proofs.Values.{literal_value}
use Rattle.py_lines.proofs.Runs.{take_more}
use Rattle.py_lines.proofs.Scanning.{Scans, scans_front, begun_is, longer_begun}

-- ---- cut at an ASCII byte

take_front : (a b : List ℕ) → take (length a) (a ++ b) ≡ a
take_front [] b = refl
take_front (x ∷ a) b = ap (λ (t : List ℕ). x ∷ t) (take_front a b)

drop_behind : (a b : List ℕ) (c : ℕ) → drop (length a + 1) (a ++ c ∷ b) ≡ b
drop_behind a b c = rw add-one (by a)
  where
    by : (d : List ℕ) → drop (length (c ∷ d)) (d ++ c ∷ b) ≡ b
    by [] = refl
    by (x ∷ d) = by d

at_cut : (a b : List ℕ) (c : ℕ) → get_or (a ++ c ∷ b) (length a) 0 ≡ c
at_cut [] b c = refl
at_cut (x ∷ a) b c = at_cut a b c

pub utf8_split : (a b : List ℕ) (c : ℕ) → IsUtf8 (a ++ c ∷ b) → c < 128 → IsUtf8 a × IsUtf8 b
utf8_split a b c utf8 ascii =
    let whole : List ℕ = a ++ c ∷ b in
    let count : length whole ≡ length a + length (c ∷ b) = length-append a (c ∷ b) in
    let within : length a < length whole = omega arith in
    let here : get_or whole (length a) 0 < 128 = subst (λ (x : ℕ). x < 128) (sym (at_cut a b c)) ascii in (
      subst IsUtf8 (take_front a (c ∷ b)) (IsUtf8-take whole (length a) utf8 (IsCharBoundary-before_ascii whole (length a) within here)),
      subst IsUtf8 (drop_behind a b c) (IsUtf8-drop whole (length a + 1) utf8 (IsCharBoundary-after_ascii whole (length a) utf8 within here)),
    )

utf8_one : (c : ℕ) → c < 128 → IsUtf8 (c ∷ [])
utf8_one c ascii = IsUtf8-from_ascii (c ∷ []) each
  where
    none : (i : ℕ) → get_or [] i 0 < 128
    none i = omega arith

    each : (i : ℕ) → get_or (c ∷ []) i 0 < 128
    each zero = ascii
    each (suc i) = none i

-- bytes that pass a test which only ASCII passes
ascii_of : (test : ℕ → Bool) → ((byte : ℕ) → test byte ≡ true → byte < 128) → (bytes : List ℕ) → list_all test bytes ≡ true → (i : ℕ) → get_or bytes i 0 < 128
ascii_of test low [] all i = omega arith
ascii_of test low (b ∷ bytes) all zero = low b (and_parts (test b) (list_all test bytes) all).0
ascii_of test low (b ∷ bytes) all (suc i) = ascii_of test low bytes (and_parts (test b) (list_all test bytes) all).1 i

letter_ascii : (byte : ℕ) → begins_name byte ≡ true → byte < 128
letter_ascii byte is =
    or_split ((nat_le 97 byte && nat_le byte 122) || (nat_le 65 byte && nat_le byte 90)) (byte == 95) is
    (λ letter. or_split (nat_le 97 byte && nat_le byte 122) (nat_le 65 byte && nat_le byte 90) letter
    (λ small. let high = leb-true byte 122 (and_parts (nat_le 97 byte) (nat_le byte 122) small).1 in omega arith)
    (λ big. let high = leb-true byte 90 (and_parts (nat_le 65 byte) (nat_le byte 90) big).1 in omega arith))
    (λ line. let same = same_byte byte 95 line in omega arith)

name_ascii : (byte : ℕ) → is_name_byte byte ≡ true → byte < 128
name_ascii byte is =
    or_split (begins_name byte) (is_digit byte) is (letter_ascii byte)
    (λ digit. let high = leb-true byte 57 (and_parts (nat_le 48 byte) (nat_le byte 57) digit).1 in omega arith)

pub name_utf8 : (name : List ℕ) → is_name name ≡ true → IsUtf8 name
name_utf8 [] is = absurd (cc)
name_utf8 (c ∷ cs) is =
    let parts = and_parts (begins_name c) (list_all is_name_byte cs) is in
    IsUtf8-append (c ∷ []) cs (utf8_one c (letter_ascii c parts.0)) (IsUtf8-from_ascii cs (ascii_of is_name_byte name_ascii cs parts.1))

-- ---- literals

escape_ascii : (name : ℕ) → is_escape name ≡ true → (name < 128) × (escape_value name < 128)
escape_ascii name is =
    or_split ((name == 92) || (name == 39) || (name == 34) || (name == 110) || (name == 114)) (name == 116) is
    (λ a. or_split ((name == 92) || (name == 39) || (name == 34) || (name == 110)) (name == 114) a
    (λ b. or_split ((name == 92) || (name == 39) || (name == 34)) (name == 110) b
    (λ c. or_split ((name == 92) || (name == 39)) (name == 34) c
    (λ d. or_split (name == 92) (name == 39) d (low 92 (omega arith) (omega arith)) (low 39 (omega arith) (omega arith)))
    (low 34 (omega arith) (omega arith)))
    (low 110 (omega arith) (omega arith)))
    (low 114 (omega arith) (omega arith)))
    (low 116 (omega arith) (omega arith))
  where
    low : (n : ℕ) → n < 128 → escape_value n < 128 → (name == n) ≡ true → (name < 128) × (escape_value name < 128)
    low n small value same = let e = sym (same_byte name n same) in (subst (λ (m : ℕ). m < 128) e small, subst (λ (m : ℕ). escape_value m < 128) e value)

module _ (mark : ℕ) where
  values_utf8 : (triple : Bool) (items : List Item) (run : List ℕ) → list_all (is_item mark triple) items ≡ true → IsUtf8 (run ++ items_text mark items) → IsUtf8 (run ++ items_value mark items)
  values_utf8 triple [] run all utf8 = utf8
  values_utf8 triple (plain quotes byte ∷ items) run all utf8 =
      let front : List ℕ = replicate quotes mark ++ byte ∷ [] in
      let parts = and_parts (is_item mark triple (plain quotes byte)) (list_all (is_item mark triple) items) all in
      subst IsUtf8 (append_assoc run front (items_value mark items))
      (values_utf8 triple items (run ++ front) parts.1 (subst IsUtf8 (sym (append_assoc run front (items_text mark items))) utf8))
  values_utf8 triple (escape quotes name ∷ items) run all utf8 =
      let parts = and_parts (is_item mark triple (escape quotes name)) (list_all (is_item mark triple) items) all in
      let ascii = escape_ascii name (and_parts (are_quotes triple quotes) (is_escape name) parts.0).1 in
      let marks : List ℕ = replicate quotes mark in
      let text : List ℕ = items_text mark items in
      let value : List ℕ = items_value mark items in
      let cut : IsUtf8 ((run ++ marks) ++ 92 ∷ (name ∷ text)) =
      subst IsUtf8 (ap (λ (t : List ℕ). run ++ t) (append_assoc marks (92 ∷ name ∷ []) text) ∙ sym (append_assoc run marks (92 ∷ name ∷ text))) utf8 in
      let first = utf8_split (run ++ marks) (name ∷ text) 92 cut (omega arith) in
      let second = utf8_split [] text name first.1 ascii.0 in
      let rest = values_utf8 triple items [] parts.1 second.1 in
      subst IsUtf8 (append_assoc run marks (escape_value name ∷ value) ∙ ap (λ (t : List ℕ). run ++ t) (sym (append_assoc marks (escape_value name ∷ []) value)))
      (IsUtf8-append (run ++ marks) (escape_value name ∷ value) first.0 (IsUtf8-append (escape_value name ∷ []) value (utf8_one (escape_value name) ascii.1) rest))
  values_utf8 triple (break quotes false ∷ items) run all utf8 =
      let front : List ℕ = replicate quotes mark ++ 10 ∷ [] in
      let parts = and_parts (is_item mark triple (break quotes false)) (list_all (is_item mark triple) items) all in
      subst IsUtf8 (append_assoc run front (items_value mark items))
      (values_utf8 triple items (run ++ front) parts.1 (subst IsUtf8 (sym (append_assoc run front (items_text mark items))) utf8))
  values_utf8 triple (break quotes true ∷ items) run all utf8 =
      let parts = and_parts (is_item mark triple (break quotes true)) (list_all (is_item mark triple) items) all in
      let marks : List ℕ = replicate quotes mark in
      let text : List ℕ = items_text mark items in
      let value : List ℕ = items_value mark items in
      let cut : IsUtf8 ((run ++ marks) ++ 13 ∷ (10 ∷ text)) =
      subst IsUtf8 (ap (λ (t : List ℕ). run ++ t) (append_assoc marks (13 ∷ 10 ∷ []) text) ∙ sym (append_assoc run marks (13 ∷ 10 ∷ text))) utf8 in
      let first = utf8_split (run ++ marks) (10 ∷ text) 13 cut (omega arith) in
      let second = utf8_split [] text 10 first.1 (omega arith) in
      let rest = values_utf8 triple items [] parts.1 second.1 in
      subst IsUtf8 (append_assoc run marks (10 ∷ value) ∙ ap (λ (t : List ℕ). run ++ t) (sym (append_assoc marks (10 ∷ []) value)))
      (IsUtf8-append (run ++ marks) (10 ∷ value) first.0 (IsUtf8-append (10 ∷ []) value (utf8_one 10 (omega arith)) rest))

mark_ascii : (mark : ℕ) → is_mark mark ≡ true → mark < 128
mark_ascii mark is =
    or_split (mark == 39) (mark == 34) is (λ same. let e = same_byte mark 39 same in omega arith) (λ same. let e = same_byte mark 34 same in omega arith)

-- what stands between quotes in a text that is UTF-8
inside_utf8 : (front inside rest : List ℕ) (mark : ℕ) (triple : Bool) → mark < 128 → IsUtf8 (front ++ (((quotes_text mark triple ++ inside) ++ quotes_text mark triple) ++ rest)) → IsUtf8 inside
inside_utf8 front inside rest mark false low utf8 =
    let same : ((mark ∷ inside) ++ mark ∷ []) ++ rest ≡ mark ∷ (inside ++ mark ∷ rest) = append_assoc (mark ∷ inside) (mark ∷ []) rest in
    let first = utf8_split front (inside ++ mark ∷ rest) mark (subst (λ (t : List ℕ). IsUtf8 (front ++ t)) same utf8) low in
    (utf8_split inside rest mark first.1 low).0
inside_utf8 front inside rest mark true low utf8 =
    let q : List ℕ = mark ∷ mark ∷ mark ∷ [] in
    let same : ((q ++ inside) ++ q) ++ rest ≡ mark ∷ mark ∷ mark ∷ (inside ++ mark ∷ mark ∷ mark ∷ rest) = append_assoc (q ++ inside) q rest in
    let a = utf8_split front (mark ∷ mark ∷ (inside ++ mark ∷ mark ∷ mark ∷ rest)) mark (subst (λ (t : List ℕ). IsUtf8 (front ++ t)) same utf8) low in
    let b = utf8_split [] (mark ∷ (inside ++ mark ∷ mark ∷ mark ∷ rest)) mark a.1 low in
    let c = utf8_split [] (inside ++ mark ∷ mark ∷ mark ∷ rest) mark b.1 low in
    (utf8_split inside (mark ∷ mark ∷ rest) mark c.1 low).0

pub literal_utf8 : (front rest : List ℕ) (mark : ℕ) (triple : Bool) (items : List Item) → is_mark mark ≡ true → list_all (is_item mark triple) items ≡ true
    → IsUtf8 (front ++ (((quotes_text mark triple ++ items_text mark items) ++ quotes_text mark triple) ++ rest)) → IsUtf8 (items_value mark items)
literal_utf8 front rest mark triple items is all utf8 =
    values_utf8 mark triple items [] all (inside_utf8 front (items_text mark items) rest mark triple (mark_ascii mark is) utf8)

-- ---- pieces

-- a piece of a text that is UTF-8
pub piece_text : (text front rest bytes : List ℕ) (p : Piece) (kind : Kind) → IsUtf8 text → text ≡ front ++ (bytes ++ rest) → spelled p ≡ bytes → is_piece p ≡ true → Fits p kind → IsKindText kind bytes
piece_text text front rest bytes (word name) kind utf8 text_is spelled_is is fits =
    subst (λ (k : Kind). IsKindText k bytes) (sym fits) (subst IsUtf8 spelled_is (name_utf8 name is))
piece_text text front rest bytes (number digits) kind utf8 text_is spelled_is is fits = subst (λ (k : Kind). IsKindText k bytes) (sym fits) tt
piece_text text front rest bytes (sign sign_bytes) kind utf8 text_is spelled_is is (n, fits, number_is) = subst (λ (k : Kind). IsKindText k bytes) (sym fits) tt
piece_text text front rest bytes (literal mark triple items) kind utf8 text_is spelled_is is fits =
    let parts = and_parts (is_mark mark) (list_all (is_item mark triple) items) is in
    let value = literal_utf8 front rest mark triple items parts.0 parts.1 (subst IsUtf8 (text_is ∙ ap (λ (b : List ℕ). front ++ (b ++ rest)) (sym spelled_is)) utf8) in
    subst (λ (k : Kind). IsKindText k bytes) (sym fits)
    (subst (λ (b : List ℕ). IsUtf8 (value_of false (inside_of (record { mark = mark; triple = triple }) b))) spelled_is (subst IsUtf8 (sym (literal_value mark triple items is)) value))
piece_text text front rest bytes (blank byte) kind utf8 text_is spelled_is is fits = subst (λ (k : Kind). IsKindText k bytes) (sym fits) tt
piece_text text front rest bytes (comment comment_bytes) kind utf8 text_is spelled_is is fits = subst (λ (k : Kind). IsKindText k bytes) (sym fits) tt
piece_text text front rest bytes (line_end return) kind utf8 text_is spelled_is is fits = subst (λ (k : Kind). IsKindText k bytes) (sym fits) tt

module _ (text front after : List ℕ) (byte : ℕ) (r : Reader) (utf8 : IsUtf8 text) (s : Scans text front r (byte ∷ after)) where
  step_ended : (kind : Kind) (x : Step) → Steps s.begun (s.begun ++ byte ∷ []) byte x → x ≡ S.Reads (R.Ends kind) → IsKindText kind (s.begun ++ byte ∷ [])
  step_ended kind x steps same = by (subst (λ (y : Step). Steps s.begun (s.begun ++ byte ∷ []) byte y) same steps)
    where
      by : IsWhole (s.begun ++ byte ∷ []) kind → IsKindText kind (s.begun ++ byte ∷ [])
      by w = piece_text text (text_of (pieces_of s.written)) after (s.begun ++ byte ∷ []) w.piece kind utf8
          (s.tracks.text_is ∙ ap (λ (b : List ℕ). text_of (pieces_of s.written) ++ b) (sym (append_assoc s.begun (byte ∷ []) after))) w.spelled_is w.is w.fits

  step_broken : (kind : Kind) (x : Step) → Steps s.begun (s.begun ++ byte ∷ []) byte x → x ≡ S.Breaks kind → IsKindText kind s.begun
  step_broken kind x steps same = by (subst (λ (y : Step). Steps s.begun (s.begun ++ byte ∷ []) byte y) same steps)
    where
      by : IsBroken s.begun kind byte → IsKindText kind s.begun
      by w = piece_text text (text_of (pieces_of s.written)) (byte ∷ after) s.begun w.piece kind utf8 s.tracks.text_is w.spelled_is w.is w.fits

pub are_texts : (text : List ℕ) (at : ℕ) (r : Reader) → IsUtf8 text → at < length text → after_bytes [] at_start (take at text) ≡ Some r → AreTexts text at r
are_texts text at r utf8 within reads =
    let front : List ℕ = take at text in
    let byte : ℕ = slice_index text at in
    let after : List ℕ = drop (at + 1) text in
    let longer = take_more text at within in
    let text_is : text ≡ front ++ byte ∷ after = sym (take-append-drop (at + 1) text) ∙ ap (λ (l : List ℕ). l ++ after) longer ∙ append_assoc front (byte ∷ []) after in
    let s = subst (λ (t : List ℕ). Scans t front r (byte ∷ after)) (sym text_is) (scans_front front (byte ∷ after) r reads) in
    let a = begun_is text front (byte ∷ after) r s in
    let b : begun_of (take (at + 1) text) r ≡ s.begun ++ byte ∷ [] = ap (λ (l : List ℕ). begun_of l r) longer ∙ longer_begun text front (byte ∷ after) r byte s in
    let steps = step_reads r.mode s.begun byte s.mode in
    let same : step r.mode (begun_of front r) (begun_of (take (at + 1) text) r) byte ≡ step r.mode s.begun (s.begun ++ byte ∷ []) byte =
    ap (λ (x : List ℕ). step r.mode x (begun_of (take (at + 1) text) r) byte) a ∙ ap (λ (x : List ℕ). step r.mode s.begun x byte) b in
    record {
      ended = λ kind is. subst (IsKindText kind) (sym b) (step_ended text front after byte r utf8 s kind (step r.mode s.begun (s.begun ++ byte ∷ []) byte) steps (sym same ∙ is));
      broken = λ kind is. subst (IsKindText kind) (sym a) (step_broken text front after byte r utf8 s kind (step r.mode s.begun (s.begun ++ byte ∷ []) byte) steps (sym same ∙ is));
    }

pub is_last_text : (text : List ℕ) (r : Reader) → IsUtf8 text → after_bytes [] at_start text ≡ Some r → IsLastText text r
is_last_text text r utf8 reads =
    let s = subst (λ (t : List ℕ). Scans t text r []) (append-nil text) (scans_front text [] r reads) in
    let a = begun_is text text [] r s in
    record { last = λ kind is. subst (IsKindText kind) (sym a) (by s kind (end r.mode s.begun) (end_reads r.mode s.begun s.mode) (ap (end r.mode) (sym a) ∙ is)) }
  where
    by : (s : Scans text text r []) (kind : Kind) (e : End) → Ends s.begun e → e ≡ E.Last kind → IsKindText kind s.begun
    by s kind e ends' same = last (subst (λ (y : End). Ends s.begun y) same ends')
      where
        last : IsLast s.begun kind → IsKindText kind s.begun
        last w = piece_text text (text_of (pieces_of s.written)) [] s.begun w.piece kind utf8 s.tracks.text_is w.spelled_is w.is w.fits

pub take_all : (text : List ℕ) → take (length text) text ≡ text
take_all [] = refl
take_all (byte ∷ text) = ap (λ (t : List ℕ). byte ∷ t) (take_all text)
