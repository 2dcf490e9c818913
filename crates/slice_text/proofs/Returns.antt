-- In what is written a CR stands only before an LF, and a token begins with an ASCII byte that is no line end.
use Rattle.std.proofs.Common.{◌≡◌, ℕ, zero, suc, ◌==◌, nat_le, ◌≤◌, ◌<◌, Bool, true, false, ◌&&◌, ◌||◌, not, List, [], ◌∷◌, ◌++◌, if◌then◌else◌, replicate, leb-true, refl, sym, ap, ◌∙◌, arith}
use Rattle.std.specs.List.{list_all, list_any}
use Rattle.std.specs.Str.{bytes_eq}
use Rattle.std.proofs.lemmas.Bool.{false≢true, and_parts, or_from, not-true}
use Rattle.py_lines.specs.Piece.{Piece, word, number, sign, literal, blank, comment, line_end, spelled, ends_line, is_piece, text_of, are_cut, ends, is_digit, begins_name, is_name_byte, is_numeral, signs, greatest, number_of, Item, plain, escape, break, is_item, are_quotes, is_escape, item_text, items_text, quotes_text}
use Rattle.py_lines.specs.Written.{is_token}
use Rattle.py_lines.proofs.Accepting.{other_byte}
use Rattle.py_lines.proofs.Begun.{or_split, same_byte}
use Rattle.py_lines.proofs.Pieces.{same_bytes}
use Rattle.slice_text.proofs.BlankPieces.{returns_end}

-- ---- each CR has its LF

abbrev pub Returns : List ℕ → Type 0
Returns bytes = returns_end false bytes ≡ true

-- over such bytes the test goes on with what stands behind them
pub returns_over : (r : Bool) (a b : List ℕ) → returns_end r a ≡ true → returns_end r (a ++ b) ≡ returns_end false b
returns_over true [] b is = absurd (false≢true is)
returns_over false [] b is = refl
returns_over r (x ∷ a) b is = chosen r (x == 10) (x == 13) is (returns_over false a b) (returns_over true a b)
  where
    chosen : (r lf cr : Bool) → (if lf then returns_end false a else (not r && (if cr then returns_end true a else returns_end false a))) ≡ true
        → (returns_end false a ≡ true → returns_end false (a ++ b) ≡ returns_end false b) → (returns_end true a ≡ true → returns_end true (a ++ b) ≡ returns_end false b)
        → (if lf then returns_end false (a ++ b) else (not r && (if cr then returns_end true (a ++ b) else returns_end false (a ++ b)))) ≡ returns_end false b
    chosen r true cr is one two = one is
    chosen true false cr is one two = absurd (false≢true is)
    chosen false false true is one two = two is
    chosen false false false is one two = one is

pub returns_both : (a b : List ℕ) → Returns a → Returns b → Returns (a ++ b)
returns_both a b one two = returns_over false a b one ∙ two

pub returns_one : (x : ℕ) → (x == 13) ≡ false → Returns (x ∷ [])
returns_one x off = chosen (x == 10) (x == 13) off
  where
    chosen : (lf cr : Bool) → cr ≡ false → (if lf then true else (true && (if cr then false else true))) ≡ true
    chosen true cr off = refl
    chosen false false off = refl
    chosen false true off = absurd (false≢true (sym off))

-- bytes that pass a test which CR does not
pub returns_by : (test : ℕ → Bool) → test 13 ≡ false → (bytes : List ℕ) → list_all test bytes ≡ true → Returns bytes
returns_by test off [] all = refl
returns_by test off (x ∷ xs) all =
    let parts = and_parts (test x) (list_all test xs) all in
    returns_both (x ∷ []) xs (returns_one x (other_byte test x 13 parts.0 off)) (returns_by test off xs parts.1)

returns_marks : (mark : ℕ) → (mark == 13) ≡ false → (n : ℕ) → Returns (replicate n mark)
returns_marks mark off zero = refl
returns_marks mark off (suc n) = returns_both (mark ∷ []) (replicate n mark) (returns_one mark off) (returns_marks mark off n)

returns_item : (mark : ℕ) → (mark == 13) ≡ false → (triple : Bool) (item : Item) → is_item mark triple item ≡ true → Returns (item_text mark item)
returns_item mark off triple (plain quotes byte) is =
    returns_both (replicate quotes mark) (byte ∷ []) (returns_marks mark off quotes)
    (returns_one byte (not-true (byte == 13) (and_parts (are_quotes triple quotes && not (byte == mark) && not (byte == 92) && not (byte == 10)) (not (byte == 13)) is).1))
returns_item mark off triple (escape quotes name) is =
    returns_both (replicate quotes mark) (92 ∷ name ∷ []) (returns_marks mark off quotes)
    (returns_both (92 ∷ []) (name ∷ []) refl (returns_one name (other_byte is_escape name 13 (and_parts (are_quotes triple quotes) (is_escape name) is).1 refl)))
returns_item mark off triple (break quotes false) is = returns_both (replicate quotes mark) (10 ∷ []) (returns_marks mark off quotes) refl
returns_item mark off triple (break quotes true) is = returns_both (replicate quotes mark) (13 ∷ 10 ∷ []) (returns_marks mark off quotes) refl

returns_items : (mark : ℕ) → (mark == 13) ≡ false → (triple : Bool) (items : List Item) → list_all (is_item mark triple) items ≡ true → Returns (items_text mark items)
returns_items mark off triple [] all = refl
returns_items mark off triple (item ∷ items) all =
    let parts = and_parts (is_item mark triple item) (list_all (is_item mark triple) items) all in
    returns_both (item_text mark item) (items_text mark items) (returns_item mark off triple item parts.0) (returns_items mark off triple items parts.1)

returns_quotes : (mark : ℕ) → (mark == 13) ≡ false → (triple : Bool) → Returns (quotes_text mark triple)
returns_quotes mark off true = returns_marks mark off 3
returns_quotes mark off false = returns_one mark off

-- what one of a table's texts passes
pub of_any : (test : List ℕ → Bool) (table : List (List ℕ)) (bytes : List ℕ) → list_all test table ≡ true → list_any (λ one. bytes_eq one bytes) table ≡ true → test bytes ≡ true
of_any test [] bytes all any = absurd (false≢true any)
of_any test (one ∷ table) bytes all any =
    let parts = and_parts (test one) (list_all test table) all in
    or_split (bytes_eq one bytes) (list_any (λ other. bytes_eq other bytes) table) any
    (λ same. ap test (sym (same_bytes one bytes same)) ∙ parts.0) (of_any test table bytes parts.1)

mark_off : (mark : ℕ) → ((mark == 39) || (mark == 34)) ≡ true → (mark == 13) ≡ false
mark_off mark is = other_byte (λ m. (m == 39) || (m == 34)) mark 13 is refl

pub returns_piece : (p : Piece) → is_piece p ≡ true → Returns (spelled p)
returns_piece (word []) is = refl
returns_piece (word (c ∷ cs)) is =
    let parts = and_parts (begins_name c) (list_all is_name_byte cs) is in
    returns_both (c ∷ []) cs (returns_one c (other_byte begins_name c 13 parts.0 refl)) (returns_by is_name_byte refl cs parts.1)
returns_piece (number []) is = refl
returns_piece (number (d ∷ ds)) is = digits (d == 48) refl ds (and_parts (is_numeral (d ∷ ds)) (nat_le (number_of (d ∷ ds)) greatest) is).0
  where
    digits : (zero' : Bool) → (d == 48) ≡ zero' → (ds : List ℕ) → (if zero' then bytes_eq ds [] else is_digit d && list_all is_digit ds) ≡ true → Returns (d ∷ ds)
    digits true same [] is = returns_one d (other_byte (λ x. x == 48) d 13 same refl)
    digits true same (x ∷ xs) is = absurd (false≢true is)
    digits false other ds is = returns_by is_digit refl (d ∷ ds) is
returns_piece (sign bytes) is = of_any (returns_end false) signs bytes refl is
returns_piece (literal mark triple items) is =
    let parts = and_parts ((mark == 39) || (mark == 34)) (list_all (is_item mark triple) items) is in
    let off = mark_off mark parts.0 in
    returns_both (quotes_text mark triple ++ items_text mark items) (quotes_text mark triple)
    (returns_both (quotes_text mark triple) (items_text mark items) (returns_quotes mark off triple) (returns_items mark off triple items parts.1)) (returns_quotes mark off triple)
returns_piece (blank byte) is = returns_one byte (other_byte (λ b. (b == 32) || (b == 9)) byte 13 is refl)
returns_piece (comment bytes) is = returns_both (35 ∷ []) bytes refl (returns_by (λ byte. not (ends_line byte)) refl bytes is)
returns_piece (line_end false) is = refl
returns_piece (line_end true) is = refl

pub returns_text : (pieces : List Piece) (rest : List ℕ) → are_cut pieces rest ≡ true → Returns (text_of pieces)
returns_text [] rest cut = refl
returns_text (p ∷ pieces) rest cut =
    let parts = and_parts (is_piece p && ends p (text_of pieces ++ rest)) (are_cut pieces rest) cut in
    returns_both (spelled p) (text_of pieces) (returns_piece p (and_parts (is_piece p) (ends p (text_of pieces ++ rest)) parts.0).0) (returns_text pieces rest parts.1)

-- ---- the first byte of a token

pub record First (bytes : List ℕ) : Type 0 where
  pub byte : ℕ
  pub others : List ℕ
  pub is : bytes ≡ byte ∷ others
  pub off : ends_line byte ≡ false
  pub ascii : byte < 128

first_by : (test : ℕ → Bool) → test 10 ≡ false → test 13 ≡ false → (byte : ℕ) (others : List ℕ) → test byte ≡ true → byte ≤ 127 → First (byte ∷ others)
first_by test lf cr byte others is low = record {
  byte = byte;
  others = others;
  is = refl;
  off = or_from (byte == 10) (byte == 13) (other_byte test byte 10 is lf) (other_byte test byte 13 is cr);
  ascii = omega (arith, low);
}

below : (low high byte limit : ℕ) → high ≤ limit → (nat_le low byte && nat_le byte high) ≡ true → byte ≤ limit
below low high byte limit within is = let most = leb-true byte high (and_parts (nat_le low byte) (nat_le byte high) is).1 in omega (arith, within, most)

letter_low : (byte : ℕ) → begins_name byte ≡ true → byte ≤ 127
letter_low byte is =
    or_split ((nat_le 97 byte && nat_le byte 122) || (nat_le 65 byte && nat_le byte 90)) (byte == 95) is
    (λ letter. or_split (nat_le 97 byte && nat_le byte 122) (nat_le 65 byte && nat_le byte 90) letter
    (below 97 122 byte 127 (omega arith)) (below 65 90 byte 127 (omega arith)))
    (λ line. let same = same_byte byte 95 line in omega (arith, same))

-- the same as a test, for the table of signs
abbrev begins_plainly : List ℕ → Bool
begins_plainly [] = false
begins_plainly (byte ∷ others) = not (ends_line byte) && nat_le byte 127

plainly : (bytes : List ℕ) → begins_plainly bytes ≡ true → First bytes
plainly [] is = absurd (false≢true is)
plainly (byte ∷ others) is =
    let parts = and_parts (not (ends_line byte)) (nat_le byte 127) is in
    let low = leb-true byte 127 parts.1 in
    record { byte = byte; others = others; is = refl; off = not-true (ends_line byte) parts.0; ascii = omega (arith, low) }

mark_low : (mark : ℕ) → ((mark == 39) || (mark == 34)) ≡ true → mark ≤ 127
mark_low mark is = or_split (mark == 39) (mark == 34) is (λ one. let same = same_byte mark 39 one in omega (arith, same)) (λ two. let same = same_byte mark 34 two in omega (arith, same))

pub first_of_token : (p : Piece) → is_piece p ≡ true → is_token p ≡ true → First (spelled p)
first_of_token (word []) is token = absurd (false≢true is)
first_of_token (word (c ∷ cs)) is token =
    let parts = and_parts (begins_name c) (list_all is_name_byte cs) is in first_by begins_name refl refl c cs parts.0 (letter_low c parts.0)
first_of_token (number []) is token = absurd (false≢true is)
first_of_token (number (d ∷ ds)) is token = digits (d == 48) refl (and_parts (is_numeral (d ∷ ds)) (nat_le (number_of (d ∷ ds)) greatest) is).0
  where
    digits : (zero' : Bool) → (d == 48) ≡ zero' → (if zero' then bytes_eq ds [] else is_digit d && list_all is_digit ds) ≡ true → First (d ∷ ds)
    digits true same is = let e = same_byte d 48 same in first_by (λ x. x == 48) refl refl d ds same (omega (arith, e))
    digits false other is = let one = (and_parts (is_digit d) (list_all is_digit ds) is).0 in first_by is_digit refl refl d ds one (below 48 57 d 127 (omega arith) one)
first_of_token (sign bytes) is token = plainly bytes (of_any begins_plainly signs bytes refl is)
first_of_token (literal mark true items) is token = let parts = and_parts ((mark == 39) || (mark == 34)) (list_all (is_item mark true) items) is in first_by (λ m. (m == 39) || (m == 34)) refl refl mark _ parts.0 (mark_low mark parts.0)
first_of_token (literal mark false items) is token = let parts = and_parts ((mark == 39) || (mark == 34)) (list_all (is_item mark false) items) is in first_by (λ m. (m == 39) || (m == 34)) refl refl mark _ parts.0 (mark_low mark parts.0)
first_of_token (blank byte) is token = absurd (false≢true token)
first_of_token (comment bytes) is token = absurd (false≢true token)
first_of_token (line_end return) is token = absurd (false≢true token)
