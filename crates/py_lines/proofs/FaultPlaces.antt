-- Where the reader places a bad token is where the table does.
use Rattle.std.proofs.Common.{◌≡◌, ⊎_elim, ℕ, zero, suc, ◌+◌, ◌-◌, ◌*◌, ◌/◌, ◌==◌, nat_le, nat_lt, Bool, true, false, ◌&&◌, ◌||◌, not, List, [], ◌∷◌, ◌++◌, length, take, drop, replicate, Option, Some, None, is_some, refl, sym, ap, ◌∙◌, subst, append_assoc, append-nil, length-append, length-take, arith, leb-true, eq-eqb, if◌then◌else◌}
use Rattle.std.specs.List.{list_all}
use Rattle.std.specs.Str.{bytes_eq}
use Rattle.std.proofs.lemmas.Bool.{and_parts, not-true}
use Rattle.std.proofs.lemmas.List.{take-append-drop}
use Rattle.prov_base.specs.declared.place.Pos.{Pos}
use Rattle.py_lines.specs.declared.scan.Reader.{Reader}
use Rattle.py_lines.specs.declared.mode.Quote.{Quote}
use Rattle.py_lines.specs.declared.mode.Mode.{Mode}
use Rattle.py_lines.specs.declared.mode.Mode.TheVariants as M
use Rattle.py_lines.specs.declared.mode.Kind.TheVariants as K
use Rattle.py_lines.specs.declared.mode.Shape.TheVariants as H
use Rattle.py_lines.specs.declared.mode.Bad.{Bad}
use Rattle.py_lines.specs.declared.mode.Bad.TheVariants as B
use Rattle.py_lines.specs.declared.mode.Read.{Read}
use Rattle.py_lines.specs.declared.mode.Read.TheVariants as R
use Rattle.py_lines.specs.declared.mode.Step.{Step}
use Rattle.py_lines.specs.declared.mode.Step.TheVariants as S
use Rattle.py_lines.specs.declared.mode.End.{End}
use Rattle.py_lines.specs.declared.mode.End.TheVariants as E
use Rattle.py_lines.specs.Piece.{Item, plain, escape, break, text_of, item_text, items_text, is_item, are_quotes, quotes_text, is_numeral, number_of, greatest, is_digit, begins_name, is_name_byte, is_escape}
use Rattle.py_lines.specs.Place.{place, place_behind}
use Rattle.py_lines.specs.Written.{pieces_of}
use Rattle.py_lines.specs.Faults.{is_text, is_escaping, is_return_last, ends_with_return, begins_with_lone_return, grows_too_large, bad_piece_at}
use Rattle.py_lines.specs.Counting.{place_after}
use Rattle.py_lines.specs.Stepping.{begins_sign, first_step, number_step, sign_step, broken_sign, inside_step, step, end, last_sign}
use Rattle.py_lines.specs.Tables.{sign_number}
use Rattle.py_lines.specs.Reading.{begun_of, piece_fault, begins_with_line_feed}
use Rattle.py_lines.proofs.PlaceLemmas.{place_behind-append, place-front}
use Rattle.py_lines.proofs.InLines.{false_of, differ}
use Rattle.py_lines.proofs.Begun.{Begun, InText, is_mark, same_byte, or_split, choose, numeral_more}
use Rattle.py_lines.proofs.Values.{mark_is_plain}
use Rattle.py_lines.proofs.Accepting.{number_least}
use Rattle.py_lines.proofs.Scanning.{Scans, begun_is}

-- ---- places

abbrev pub offset_of : Bad → ℕ → List ℕ → List ℕ → ℕ
offset_of B.Start from begun after = from
offset_of B.Here from begun after = from + length begun
offset_of B.Back from begun after = from + (length begun - 1)
offset_of B.Return from begun after = if begins_with_line_feed after then from else from + length begun

prefix_place : (text front a b : List ℕ) → text ≡ front ++ (a ++ b) → place_after (place_behind front) a ≡ place text (length front + length a)
prefix_place text front a b is =
    sym (place_behind-append front a) ∙ sym (place-front (front ++ a) b) ∙ ap (λ (t : List ℕ). place t (length (front ++ a))) (append_assoc front a b ∙ sym is)
    ∙ ap (place text) (length-append front a)

pub start_place : (text front next : List ℕ) (r : Reader) → (s : Scans text front r next) → r.grouping.here ≡ place text (length (text_of (pieces_of s.written)))
start_place text front next r s =
    let f : List ℕ = text_of (pieces_of s.written) in
    s.tracks.here ∙ sym (place-front f (s.begun ++ next)) ∙ ap (λ (t : List ℕ). place t (length f)) (sym s.tracks.text_is)

module _ (text front next : List ℕ) (r : Reader) (s : Scans text front r next) where
  begun_place : (a b : List ℕ) → s.begun ≡ a ++ b → place_after r.grouping.here a ≡ place text (length (text_of (pieces_of s.written)) + length a)
  begun_place a b is =
      let f : List ℕ = text_of (pieces_of s.written) in
      ap (λ (p : Pos). place_after p a) s.tracks.here
      ∙ prefix_place text f a (b ++ next) (s.tracks.text_is ∙ ap (λ (x : List ℕ). f ++ (x ++ next)) is ∙ ap (λ (x : List ℕ). f ++ x) (append_assoc a b next))

  pub piece_place : (after : List ℕ) (bad : Bad) → piece_fault r front after bad ≡ place text (offset_of bad (length (text_of (pieces_of s.written))) s.begun after)
  piece_place after B.Start = start_place text front next r s
  piece_place after B.Here = ap (place_after r.grouping.here) (begun_is text front next r s) ∙ begun_place s.begun [] (sym (append-nil s.begun))
  piece_place after B.Back =
      let n : ℕ = length s.begun - 1 in
      let count : length (take n s.begun) ≡ n = simp length-take (omega arith) in
      ap (λ (b : List ℕ). place_after r.grouping.here (take (length b - 1) b)) (begun_is text front next r s)
      ∙ begun_place (take n s.begun) (drop n s.begun) (sym (take-append-drop n s.begun))
      ∙ ap (λ (m : ℕ). place text (length (text_of (pieces_of s.written)) + m)) count
  piece_place after B.Return = by (begins_with_line_feed after)
    where
      by : (lf : Bool) → (if lf then r.grouping.here else place_after r.grouping.here (begun_of front r))
          ≡ place text (if lf then length (text_of (pieces_of s.written)) else length (text_of (pieces_of s.written)) + length s.begun)
      by true = start_place text front next r s
      by false = ap (place_after r.grouping.here) (begun_is text front next r s) ∙ begun_place s.begun [] (sym (append-nil s.begun))

-- ---- escapes and returns

escaping-append : (e : Bool) (a b : List ℕ) → is_escaping e (a ++ b) ≡ is_escaping (is_escaping e a) b
escaping-append e [] b = refl
escaping-append e (x ∷ a) b = escaping-append (not e && (x == 92)) a b

pub return-append : (e : Bool) (a b : List ℕ) → is_return_last e (a ++ b) ≡ is_return_last (is_return_last e a) b
return-append e [] b = refl
return-append e (x ∷ a) b = return-append (x == 13) a b

module _ (mark : ℕ) (slash : (mark == 92) ≡ false) (cr : (mark == 13) ≡ false) where
  marks_escape : (n : ℕ) → is_escaping false (replicate n mark) ≡ false
  marks_escape zero = refl
  marks_escape (suc n) = ap (λ (b : Bool). is_escaping b (replicate n mark)) slash ∙ marks_escape n

  marks_return : (n : ℕ) → is_return_last false (replicate n mark) ≡ false
  marks_return zero = refl
  marks_return (suc n) = ap (λ (b : Bool). is_return_last b (replicate n mark)) cr ∙ marks_return n

  behind_marks : (n : ℕ) (rest : List ℕ) → is_escaping false rest ≡ false → is_escaping false (replicate n mark ++ rest) ≡ false
  behind_marks n rest is = escaping-append false (replicate n mark) rest ∙ ap (λ (b : Bool). is_escaping b rest) (marks_escape n) ∙ is

  item_escape : (triple : Bool) (item : Item) → is_item mark triple item ≡ true → is_escaping false (item_text mark item) ≡ false
  item_escape triple (plain quotes byte) is =
      let a = and_parts (are_quotes triple quotes && not (byte == mark) && not (byte == 92) && not (byte == 10)) (not (byte == 13)) is in
      let b = and_parts (are_quotes triple quotes && not (byte == mark) && not (byte == 92)) (not (byte == 10)) a.0 in
      let c = and_parts (are_quotes triple quotes && not (byte == mark)) (not (byte == 92)) b.0 in
      behind_marks quotes (byte ∷ []) (not-true (byte == 92) c.1)
  item_escape triple (escape quotes name) is = behind_marks quotes (92 ∷ name ∷ []) refl
  item_escape triple (break quotes false) is = behind_marks quotes (10 ∷ []) refl
  item_escape triple (break quotes true) is = behind_marks quotes (13 ∷ 10 ∷ []) refl

  item_return : (triple : Bool) (item : Item) (before : Bool) → is_item mark triple item ≡ true → is_return_last before (item_text mark item) ≡ false
  item_return triple (plain quotes byte) before is =
      let a = and_parts (are_quotes triple quotes && not (byte == mark) && not (byte == 92) && not (byte == 10)) (not (byte == 13)) is in
      return-append before (replicate quotes mark) (byte ∷ []) ∙ not-true (byte == 13) a.1
  item_return triple (escape quotes name) before is =
      let parts = and_parts (are_quotes triple quotes) (is_escape name) is in
      return-append before (replicate quotes mark) (92 ∷ name ∷ []) ∙ false_of (name == 13) (λ same. differ (is_escape name) parts.1 (ap is_escape (same_byte name 13 same)))
  item_return triple (break quotes false) before is = return-append before (replicate quotes mark) (10 ∷ [])
  item_return triple (break quotes true) before is = return-append before (replicate quotes mark) (13 ∷ 10 ∷ [])

  items_escape : (triple : Bool) (items : List Item) → list_all (is_item mark triple) items ≡ true → is_escaping false (items_text mark items) ≡ false
  items_escape triple [] all = refl
  items_escape triple (item ∷ items) all =
      let parts = and_parts (is_item mark triple item) (list_all (is_item mark triple) items) all in
      escaping-append false (item_text mark item) (items_text mark items) ∙ ap (λ (b : Bool). is_escaping b (items_text mark items)) (item_escape triple item parts.0) ∙ items_escape triple items parts.1

  items_return : (triple : Bool) (items : List Item) → list_all (is_item mark triple) items ≡ true → is_return_last false (items_text mark items) ≡ false
  items_return triple [] all = refl
  items_return triple (item ∷ items) all =
      let parts = and_parts (is_item mark triple item) (list_all (is_item mark triple) items) all in
      return-append false (item_text mark item) (items_text mark items) ∙ ap (λ (b : Bool). is_return_last b (items_text mark items)) (item_return triple item false parts.0) ∙ items_return triple items parts.1

  quotes_escape : (triple : Bool) → is_escaping false (quotes_text mark triple) ≡ false
  quotes_escape true = marks_escape 3
  quotes_escape false = slash

  quotes_return : (triple : Bool) → is_return_last false (quotes_text mark triple) ≡ false
  quotes_return true = marks_return 3
  quotes_return false = cr

pub text_escape : (quote : Quote) (quotes : ℕ) (bytes : List ℕ) → InText quote quotes bytes → is_escaping false bytes ≡ false
text_escape quote quotes bytes t =
    let slash = mark_is_plain quote.mark 92 t.mark refl refl in
    let cr = mark_is_plain quote.mark 13 t.mark refl refl in
    let q : List ℕ = quotes_text quote.mark quote.triple in
    let i : List ℕ = items_text quote.mark t.items in
    let r : List ℕ = replicate quotes quote.mark in
    ap (is_escaping false) t.bytes_is ∙ escaping-append false q (i ++ r) ∙ ap (λ (b : Bool). is_escaping b (i ++ r)) (quotes_escape quote.mark slash cr quote.triple)
    ∙ escaping-append false i r ∙ ap (λ (b : Bool). is_escaping b r) (items_escape quote.mark slash cr quote.triple t.items t.are_items) ∙ marks_escape quote.mark slash cr quotes

pub text_return : (quote : Quote) (quotes : ℕ) (bytes : List ℕ) → InText quote quotes bytes → ends_with_return bytes ≡ false
text_return quote quotes bytes t =
    let slash = mark_is_plain quote.mark 92 t.mark refl refl in
    let cr = mark_is_plain quote.mark 13 t.mark refl refl in
    let q : List ℕ = quotes_text quote.mark quote.triple in
    let i : List ℕ = items_text quote.mark t.items in
    let r : List ℕ = replicate quotes quote.mark in
    ap (is_return_last false) t.bytes_is ∙ return-append false q (i ++ r) ∙ ap (λ (b : Bool). is_return_last b (i ++ r)) (quotes_return quote.mark slash cr quote.triple)
    ∙ return-append false i r ∙ ap (λ (b : Bool). is_return_last b r) (items_return quote.mark slash cr quote.triple t.items t.are_items) ∙ marks_return quote.mark slash cr quotes

quotes_are_text : (mark : ℕ) (triple : Bool) (more : List ℕ) → is_mark mark ≡ true → is_text (quotes_text mark triple ++ more) ≡ true
quotes_are_text mark true more is = is
quotes_are_text mark false more is = is

pub text_text : (quote : Quote) (quotes : ℕ) (bytes more : List ℕ) → InText quote quotes bytes → is_text (bytes ++ more) ≡ true
text_text quote quotes bytes more t =
    let q : List ℕ = quotes_text quote.mark quote.triple in
    let tail : List ℕ = items_text quote.mark t.items ++ replicate quotes quote.mark in
    ap (λ (b : List ℕ). is_text (b ++ more)) t.bytes_is ∙ ap is_text (append_assoc q tail more) ∙ quotes_are_text quote.mark quote.triple (tail ++ more) t.mark

-- ---- the table, byte by byte

module _ (from : ℕ) (begun rest : List ℕ) where
  at_back : ends_with_return begun ≡ true → from + (length begun - 1) ≡ bad_piece_at from begun rest
  at_back ret = rw ret refl

  at_lone : ends_with_return begun ≡ false → (is_text begun && not (is_escaping false begun) && begins_with_lone_return rest) ≡ true → from + length begun ≡ bad_piece_at from begun rest
  at_lone ret lone = rw (ret, lone) refl

  at_start : ends_with_return begun ≡ false → (is_text begun && not (is_escaping false begun) && begins_with_lone_return rest) ≡ false
      → (is_text begun || bytes_eq begun (33 ∷ []) || grows_too_large begun rest) ≡ true → from ≡ bad_piece_at from begun rest
  at_start ret lone start = rw (ret, lone, start) refl

  at_here : ends_with_return begun ≡ false → (is_text begun && not (is_escaping false begun) && begins_with_lone_return rest) ≡ false
      → (is_text begun || bytes_eq begun (33 ∷ []) || grows_too_large begun rest) ≡ false → from + length begun ≡ bad_piece_at from begun rest
  at_here ret lone start = rw (ret, lone, start) refl

abbrev pub Placed : ℕ → List ℕ → ℕ → List ℕ → Bad → Type 0
Placed from begun byte after bad = offset_of bad from begun after ≡ bad_piece_at from begun (byte ∷ after)

module _ (from : ℕ) (begun : List ℕ) (byte : ℕ) (after : List ℕ) (bad : Bad) where
  bad_read : (x : Bad) → Placed from begun byte after x → R.Bad x ≡ R.Bad bad → Placed from begun byte after bad
  bad_read x placed same = let e : x ≡ bad = cc in subst (Placed from begun byte after) e placed

  bad_step : (x : Bad) → Placed from begun byte after x → S.Reads (R.Bad x) ≡ S.Reads (R.Bad bad) → Placed from begun byte after bad
  bad_step x placed same = let e : x ≡ bad = cc in subst (Placed from begun byte after) e placed

no_digit_start : (from byte : ℕ) (after : List ℕ) → is_digit byte ≡ false → Placed from [] byte after B.Here
no_digit_start from byte after digit = at_here from [] (byte ∷ after) refl refl (rw digit refl)

first_placed : (from byte : ℕ) (after : List ℕ) (bad : Bad) → first_step byte ≡ R.Bad bad → Placed from [] byte after bad
first_placed from byte after bad =
    choose P ((byte == 32) || (byte == 9)) _ _ (λ _ same. absurd (cc))
    (λ _. choose P (byte == 10) _ _ (λ _ same. absurd (cc))
    (λ _. choose P (byte == 13) _ _ (λ _ same. absurd (cc))
    (λ _. choose P (byte == 35) _ _ (λ _ same. absurd (cc))
    (λ _. choose P ((byte == 39) || (byte == 34)) _ _ (λ _ same. absurd (cc))
    (λ _. choose P (begins_name byte) _ _ (λ _ same. absurd (cc))
    (λ _. choose P (is_digit byte) _ _ (λ _ same. absurd (cc))
    (λ digit. choose P (begins_sign byte) _ _ (λ _ same. absurd (cc))
    (λ _. bad_read from [] byte after bad B.Here (no_digit_start from byte after digit)))))))))
  where
    P : Read → Type 0
    P read = read ≡ R.Bad bad → Placed from [] byte after bad

-- ---- numbers

digits_return : (digits : List ℕ) → list_all is_digit digits ≡ true → is_return_last false digits ≡ false
digits_return [] all = refl
digits_return (d ∷ digits) all =
    let parts = and_parts (is_digit d) (list_all is_digit digits) all in
    let other : (d == 13) ≡ false = false_of (d == 13) (λ same. differ (is_digit d) parts.0 (ap is_digit (same_byte d 13 same))) in
    ap (λ (b : Bool). is_return_last b digits) other ∙ digits_return digits parts.1

numeral_digits : (digits : List ℕ) → is_numeral digits ≡ true → list_all is_digit digits ≡ true
numeral_digits [] is = absurd (cc)
numeral_digits (d ∷ digits) is = by (d == 48) refl is
  where
    by : (zero' : Bool) → (d == 48) ≡ zero' → (if zero' then bytes_eq digits [] else is_digit d && list_all is_digit digits) ≡ true → (is_digit d && list_all is_digit digits) ≡ true
    by false same is' = is'
    by true same is' = let digit : is_digit d ≡ true = ap is_digit (same_byte d 48 same) in rw digit (none digits is')
      where
        none : (ds : List ℕ) → bytes_eq ds [] ≡ true → list_all is_digit ds ≡ true
        none [] is'' = refl
        none (x ∷ ds) is'' = absurd (cc)

numeral_text : (digits : List ℕ) → is_numeral digits ≡ true → is_text digits ≡ false
numeral_text [] is = refl
numeral_text (d ∷ digits) is =
    let digit = (and_parts (is_digit d) (list_all is_digit digits) (numeral_digits (d ∷ digits) is)).0 in
    false_of (is_mark d) (λ mark. or_split (d == 39) (d == 34) mark
    (λ same. differ (is_digit d) digit (ap is_digit (same_byte d 39 same)))
    (λ same. differ (is_digit d) digit (ap is_digit (same_byte d 34 same))))

numeral_bang : (digits : List ℕ) → is_numeral digits ≡ true → bytes_eq digits (33 ∷ []) ≡ false
numeral_bang [] is = refl
numeral_bang (d ∷ digits) is =
    let digit = (and_parts (is_digit d) (list_all is_digit digits) (numeral_digits (d ∷ digits) is)).0 in
    let other : (d == 33) ≡ false = false_of (d == 33) (λ same. differ (is_digit d) digit (ap is_digit (same_byte d 33 same))) in
    rw other refl

-- `0` with a digit behind it is no number
zero_grows : (digits : List ℕ) (byte : ℕ) → is_numeral digits ≡ true → (number_of digits == 0) ≡ true → is_numeral (digits ++ byte ∷ []) ≡ false
zero_grows [] byte is zero' = absurd (cc)
zero_grows (d ∷ digits) byte is zero' = by (d == 48) refl is
  where
    by : (first : Bool) → (d == 48) ≡ first → (if first then bytes_eq digits [] else is_digit d && list_all is_digit digits) ≡ true
        → (if first then bytes_eq (digits ++ byte ∷ []) [] else is_digit d && list_all is_digit (digits ++ byte ∷ [])) ≡ false
    by true same is' = longer digits
      where
        longer : (ds : List ℕ) → bytes_eq (ds ++ byte ∷ []) [] ≡ false
        longer [] = refl
        longer (x ∷ ds) = refl
    by false other is' =
        let parts = and_parts (is_digit d) (list_all is_digit digits) is' in
        let low = leb-true 48 d (and_parts (nat_le 48 d) (nat_le d 57) parts.0).0 in
        let not_zero : d ≡ 48 → ⊥ = λ same. (let is'' = eq-eqb d 48 same in cc) in
        let value = same_byte (number_of (d ∷ digits)) 0 zero' in
        let least = number_least (10 * 0 + (d - 48)) digits in
        absurd (omega arith)

module _ (from : ℕ) (begun : List ℕ) (byte value : ℕ) (after : List ℕ) (bad : Bad) (numeral : is_numeral begun ≡ true) (value_is : number_of begun ≡ value) where
  no_lone : (is_text begun && not (is_escaping false begun) && begins_with_lone_return (byte ∷ after)) ≡ false
  no_lone = rw (numeral_text begun numeral) refl

  number_start : is_digit byte ≡ true → (value == 0) ≡ false → Placed from begun byte after B.Start
  number_start digit not_zero =
      let grows : is_numeral (begun ++ byte ∷ []) ≡ true = numeral_more begun byte numeral (ap (λ (n : ℕ). n == 0) value_is ∙ not_zero) digit in
      at_start from begun (byte ∷ after) (digits_return begun (numeral_digits begun numeral)) no_lone (rw (numeral_text begun numeral, numeral_bang begun numeral, digit, grows) refl)

  number_here : (is_digit byte && is_numeral (begun ++ byte ∷ [])) ≡ false → Placed from begun byte after B.Here
  number_here small = at_here from begun (byte ∷ after) (digits_return begun (numeral_digits begun numeral)) no_lone (rw (numeral_text begun numeral, numeral_bang begun numeral, small) refl)

  number_placed : number_step value byte ≡ S.Reads (R.Bad bad) → Placed from begun byte after bad
  number_placed =
      choose P (is_digit byte) _ _
      (λ digit. choose P (value == 0) _ _
      (λ zero'. bad_step from begun byte after bad B.Here (number_here (rw (digit, zero_grows begun byte numeral (ap (λ (n : ℕ). n == 0) value_is ∙ zero')) refl)))
      (λ not_zero. choose P (nat_lt ((greatest - (byte - 48)) / 10) value) _ _
      (λ _. bad_step from begun byte after bad B.Start (number_start digit not_zero)) (λ _ same. absurd (cc))))
      (λ digit. choose P (begins_name byte || (byte == 46)) _ _
      (λ _. bad_step from begun byte after bad B.Here (number_here (rw digit refl))) (λ _ same. absurd (cc)))
    where
      P : Step → Type 0
      P step' = step' ≡ S.Reads (R.Bad bad) → Placed from begun byte after bad

-- ---- literals

lone_or : (lf : Bool) → (false || not lf) ≡ not lf
lone_or lf = refl

module _ (from : ℕ) (begun : List ℕ) (byte : ℕ) (after : List ℕ) (bad : Bad) (text : is_text begun ≡ true) (ret : ends_with_return begun ≡ false) where
  text_start : (is_text begun && not (is_escaping false begun) && begins_with_lone_return (byte ∷ after)) ≡ false → Placed from begun byte after B.Start
  text_start lone = at_start from begun (byte ∷ after) ret lone (rw text refl)

  escape_start : is_escaping false begun ≡ true → Placed from begun byte after B.Start
  escape_start esc = text_start (rw (text, esc) refl)

  line_start : is_escaping false begun ≡ false → (byte == 13) ≡ false → Placed from begun byte after B.Start
  line_start esc other = text_start (rw (text, esc, no_return after) refl)
    where
      no_return : (rest : List ℕ) → begins_with_lone_return (byte ∷ rest) ≡ false
      no_return [] = other
      no_return (x ∷ rest) = rw other refl

  return_placed : is_escaping false begun ≡ false → (byte == 13) ≡ true → Placed from begun byte after B.Return
  return_placed esc is = by after
    where
      by : (rest : List ℕ) → Placed from begun byte rest B.Return
      by [] = at_lone from begun (byte ∷ []) ret (rw (text, esc, is) refl)
      by (x ∷ rest) = lf (x == 10) refl
        where
          lf : (ends' : Bool) → (x == 10) ≡ ends' → Placed from begun byte (x ∷ rest) B.Return
          lf true same = ap (λ (b : Bool). if b then from else from + length begun) same ∙ (at_start from begun (byte ∷ x ∷ rest) ret (rw (text, esc, is, same) refl) (rw text refl))
          lf false same = ap (λ (b : Bool). if b then from else from + length begun) same ∙ (at_lone from begun (byte ∷ x ∷ rest) ret (rw (text, esc, is, same) refl))

  inside_placed : (quote : Quote) (quotes : ℕ) → is_escaping false begun ≡ false → inside_step quote quotes byte ≡ R.Bad bad → Placed from begun byte after bad
  inside_placed quote quotes esc =
      choose P (byte == quote.mark) _ _ (λ _. choose P (not quote.triple || nat_le 2 quotes) _ _ (λ _ same. absurd (cc)) (λ _ same. absurd (cc)))
      (λ _. choose P (byte == 92) _ _ (λ _ same. absurd (cc))
      (λ _. choose P (byte == 13) _ _ (λ cr. choose P quote.triple _ _ (λ _ same. absurd (cc)) (λ _. bad_read from begun byte after bad B.Return (return_placed esc cr)))
      (λ cr. choose P ((byte == 10) && not quote.triple) _ _ (λ _. bad_read from begun byte after bad B.Start (line_start esc cr)) (λ _ same. absurd (cc)))))
    where
      P : Read → Type 0
      P read = read ≡ R.Bad bad → Placed from begun byte after bad

-- ---- every mode

text_front : (quote : Quote) (quotes : ℕ) (front : List ℕ) (byte : ℕ) → InText quote quotes front → (byte == 13) ≡ false → ends_with_return (front ++ byte ∷ []) ≡ false
text_front quote quotes front byte t other = return-append false front (byte ∷ []) ∙ other

escaping_front : (quote : Quote) (quotes : ℕ) (front : List ℕ) → InText quote quotes front → is_escaping false (front ++ 92 ∷ []) ≡ true
escaping_front quote quotes front t = escaping-append false front (92 ∷ []) ∙ ap (λ (b : Bool). is_escaping b (92 ∷ [])) (text_escape quote quotes front t)

text_of_front : (quote : Quote) (quotes : ℕ) (front : List ℕ) → InText quote quotes front → is_text front ≡ true
text_of_front quote quotes front t = ap is_text (sym (append-nil front)) ∙ text_text quote quotes front [] t

mark_alone : (mark byte : ℕ) → is_mark mark ≡ true → (39 == byte) ≡ false → (34 == byte) ≡ false → (mark == byte) ≡ false
mark_alone mark byte is one two = mark_is_plain mark byte is one two

sign_lone : (begun longer : List ℕ) (number : Option ℕ) (bad : Bad) → broken_sign number ≡ S.Reads (R.Bad bad) → number ≡ None
sign_lone begun longer None bad is = refl
sign_lone begun longer (Some n) bad is = absurd (cc)

module _ (from : ℕ) (begun : List ℕ) (byte : ℕ) (after : List ℕ) (bad : Bad) where
  bang_placed : begun ≡ 33 ∷ [] → Placed from begun byte after B.Start
  bang_placed is = subst (λ (b : List ℕ). Placed from b byte after B.Start) (sym is) (at_start from (33 ∷ []) (byte ∷ after) refl refl refl)

  return_alone : begun ≡ 13 ∷ [] → Placed from begun byte after B.Start
  return_alone is = subst (λ (b : List ℕ). Placed from b byte after B.Start) (sym is) (let same : from ≡ from + 0 = omega arith in same ∙ at_back from (13 ∷ []) (byte ∷ after) refl)

  sign_placed : Begun M.Sign begun → sign_step begun (begun ++ byte ∷ []) ≡ S.Reads (R.Bad bad) → Placed from begun byte after bad
  sign_placed is = choose P (is_some (sign_number (begun ++ byte ∷ []))) _ _ (λ _ same. absurd (cc)) (λ _ same. lone (sign_number begun) refl same)
    where
      P : Step → Type 0
      P step' = step' ≡ S.Reads (R.Bad bad) → Placed from begun byte after bad

      lone : (number : Option ℕ) → sign_number begun ≡ number → broken_sign number ≡ S.Reads (R.Bad bad) → Placed from begun byte after bad
      lone (Some n) known same = absurd (cc)
      lone None known same =
          ⊎_elim (λ bang. bad_step from begun byte after bad B.Start (bang_placed bang) same)
          (λ some. absurd (differ (is_some (sign_number begun)) some (ap is_some known))) is

pub placed_step : (mode : Mode) (from : ℕ) (begun : List ℕ) (byte : ℕ) (after : List ℕ) (bad : Bad) → Begun mode begun → step mode begun (begun ++ byte ∷ []) byte ≡ S.Reads (R.Bad bad)
    → Placed from begun byte after bad
placed_step M.Between from begun byte after bad is same = subst (λ (b : List ℕ). Placed from b byte after bad) (sym is) (first_placed from byte after bad (same_read (first_step byte) (R.Bad bad) same))
  where
    same_read : (a b : Read) → S.Reads a ≡ S.Reads b → a ≡ b
    same_read a b same' = cc
placed_step M.Word from begun byte after bad is same = choose (λ (s : Step). s ≡ S.Reads (R.Bad bad) → Placed from begun byte after bad) (is_name_byte byte) (S.Reads (R.Goes M.Word)) (S.Breaks (K.Token H.Word)) (λ _ other. absurd (cc)) (λ _ other. absurd (cc)) same
placed_step (M.Number value) from begun byte after bad is same = number_placed from begun byte value after bad is.0 is.1 same
placed_step M.Sign from begun byte after bad is same = sign_placed from begun byte after bad is same
placed_step M.Return from begun byte after bad is same =
    choose (λ (s : Step). s ≡ S.Reads (R.Bad bad) → Placed from begun byte after bad) (byte == 10) (S.Reads (R.Ends K.LineEnd)) (S.Reads (R.Bad B.Start)) (λ _ other. absurd (cc))
    (λ _. bad_step from begun byte after bad B.Start (return_alone from begun byte after bad is)) same
placed_step M.Comment from begun byte after bad is same =
    choose (λ (s : Step). s ≡ S.Reads (R.Bad bad) → Placed from begun byte after bad) ((byte == 10) || (byte == 13)) (S.Breaks K.Comment) (S.Reads (R.Goes M.Comment)) (λ _ other. absurd (cc)) (λ _ other. absurd (cc)) same
placed_step (M.OneQuote mark) from begun byte after bad (is, bytes_is) same =
    let text : is_text begun ≡ true = ap is_text bytes_is ∙ is in
    let ret : ends_with_return begun ≡ false = ap ends_with_return bytes_is ∙ mark_alone mark 13 is refl refl in
    let esc : is_escaping false begun ≡ false = ap (is_escaping false) bytes_is ∙ mark_alone mark 92 is refl refl in
    choose (λ (s : Step). s ≡ S.Reads (R.Bad bad) → Placed from begun byte after bad) (byte == mark) (S.Reads (R.Goes (M.TwoQuotes mark))) (S.Reads (inside_step (record { mark = mark; triple = false }) 0 byte)) (λ _ other. absurd (cc))
    (λ _ other. inside_placed from begun byte after bad text ret (record { mark = mark; triple = false }) 0 esc (same_read (inside_step (record { mark = mark; triple = false }) 0 byte) (R.Bad bad) other)) same
  where
    same_read : (a b : Read) → S.Reads a ≡ S.Reads b → a ≡ b
    same_read a b same' = cc
placed_step (M.TwoQuotes mark) from begun byte after bad is same =
    choose (λ (s : Step). s ≡ S.Reads (R.Bad bad) → Placed from begun byte after bad) (byte == mark) (S.Reads (R.Goes (M.Inside (record { mark = mark; triple = true }) 0))) (S.Breaks (K.Token (H.Text (record { mark = mark; triple = false }))))
    (λ _ other. absurd (cc)) (λ _ other. absurd (cc)) same
placed_step (M.Inside quote quotes) from begun byte after bad (t, has) same =
    inside_placed from begun byte after bad (text_of_front quote quotes begun t) (text_return quote quotes begun t) quote quotes (text_escape quote quotes begun t) (same_read (inside_step quote quotes byte) (R.Bad bad) same)
  where
    same_read : (a b : Read) → S.Reads a ≡ S.Reads b → a ≡ b
    same_read a b same' = cc
placed_step (M.Escape quote) from begun byte after bad (front, quotes, t, bytes_is) same =
    choose (λ (s : Step). s ≡ S.Reads (R.Bad bad) → Placed from begun byte after bad) (is_escape byte) (S.Reads (R.Goes (M.Inside quote 0))) (S.Reads (R.Bad B.Start)) (λ _ other. absurd (cc))
    (λ _. bad_step from begun byte after bad B.Start
    (escape_start from begun byte after bad (ap is_text bytes_is ∙ text_text quote quotes front (92 ∷ []) t) (ap ends_with_return bytes_is ∙ text_front quote quotes front 92 t refl)
    (ap (is_escaping false) bytes_is ∙ escaping_front quote quotes front t))) same
placed_step (M.InsideReturn mark) from begun byte after bad (front, quotes, t, bytes_is) same =
    choose (λ (s : Step). s ≡ S.Reads (R.Bad bad) → Placed from begun byte after bad) (byte == 10) (S.Reads (R.Goes (M.Inside (record { mark = mark; triple = true }) 0))) (S.Reads (R.Bad B.Back)) (λ _ other. absurd (cc))
    (λ _. bad_step from begun byte after bad B.Back (at_back from begun (byte ∷ after) (ap ends_with_return bytes_is ∙ return-append false front (13 ∷ [])))) same

-- ---- the end of the text

abbrev pub EndPlaced : ℕ → List ℕ → Bad → Type 0
EndPlaced from begun bad = offset_of bad from begun [] ≡ bad_piece_at from begun []

end_bad : (from : ℕ) (begun : List ℕ) (x bad : Bad) → EndPlaced from begun x → E.Bad x ≡ E.Bad bad → EndPlaced from begun bad
end_bad from begun x bad placed same = let e : x ≡ bad = cc in subst (EndPlaced from begun) e placed

and_last : (a b : Bool) → (a && b && false) ≡ false
and_last true true = refl
and_last true false = refl
and_last false b = refl

end_start : (from : ℕ) (begun : List ℕ) → ends_with_return begun ≡ false → is_text begun ≡ true → EndPlaced from begun B.Start
end_start from begun ret text = at_start from begun [] ret (and_last (is_text begun) (not (is_escaping false begun))) (rw text refl)

pub placed_end : (mode : Mode) (from : ℕ) (begun : List ℕ) (bad : Bad) → Begun mode begun → end mode begun ≡ E.Bad bad → EndPlaced from begun bad
placed_end M.Between from begun bad is same = absurd (cc)
placed_end M.Word from begun bad is same = absurd (cc)
placed_end (M.Number value) from begun bad is same = absurd (cc)
placed_end M.Sign from begun bad is same = lone (sign_number begun) refl same
  where
    lone : (number : Option ℕ) → sign_number begun ≡ number → last_sign number ≡ E.Bad bad → EndPlaced from begun bad
    lone (Some n) known same' = absurd (cc)
    lone None known same' =
        ⊎_elim (λ bang. end_bad from begun B.Start bad (subst (λ (b : List ℕ). EndPlaced from b B.Start) (sym bang) (at_start from (33 ∷ []) [] refl refl refl)) same')
        (λ some. absurd (differ (is_some (sign_number begun)) some (ap is_some known))) is
placed_end M.Return from begun bad is same =
    end_bad from begun B.Start bad (subst (λ (b : List ℕ). EndPlaced from b B.Start) (sym is) (let same' : from ≡ from + 0 = omega arith in same' ∙ at_back from (13 ∷ []) [] refl)) same
placed_end M.Comment from begun bad is same = absurd (cc)
placed_end (M.OneQuote mark) from begun bad (is, bytes_is) same =
    end_bad from begun B.Start bad (end_start from begun (ap ends_with_return bytes_is ∙ mark_alone mark 13 is refl refl) (ap is_text bytes_is ∙ is)) same
placed_end (M.TwoQuotes mark) from begun bad is same = absurd (cc)
placed_end (M.Inside quote quotes) from begun bad (t, has) same =
    choose (λ (e : End). e ≡ E.Bad bad → EndPlaced from begun bad) quote.triple E.Open (E.Bad B.Start) (λ _ other. absurd (cc))
    (λ _. end_bad from begun B.Start bad (end_start from begun (text_return quote quotes begun t) (text_of_front quote quotes begun t))) same
placed_end (M.Escape quote) from begun bad (front, quotes, t, bytes_is) same =
    choose (λ (e : End). e ≡ E.Bad bad → EndPlaced from begun bad) quote.triple E.Open (E.Bad B.Start) (λ _ other. absurd (cc))
    (λ _. end_bad from begun B.Start bad (end_start from begun (ap ends_with_return bytes_is ∙ text_front quote quotes front 92 t refl) (ap is_text bytes_is ∙ text_text quote quotes front (92 ∷ []) t))) same
placed_end (M.InsideReturn mark) from begun bad (front, quotes, t, bytes_is) same =
    end_bad from begun B.Back bad (at_back from begun [] (ap ends_with_return bytes_is ∙ return-append false front (13 ∷ []))) same
