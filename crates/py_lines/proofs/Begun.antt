-- What is begun of a piece, and what the next byte makes of it.
use Rattle.std.proofs.Common.{◌≡◌, ◌⊎◌, ℕ, suc, ◌+◌, ◌-◌, ◌*◌, ◌/◌, ◌≤◌, ◌==◌, nat_le, nat_lt, Bool, true, false, ◌&&◌, ◌||◌, not, List, [], ◌∷◌, ◌++◌, length, replicate, position, Option, Some, None, is_some, refl, sym, ap, ◌∙◌, subst, append_assoc, append-nil, inl, inr, arith, eq-eqb, eqb-true, leb-true, ltb-false, le-leb, leb-false, lt-ltb, ltb-true, if◌then◌else◌}
use Rattle.std.specs.List.{list_all, list_any, prefix_len}
use Rattle.std.specs.Str.{bytes_eq}
use Rattle.std.proofs.lemmas.Bool.{and_parts}
use Rattle.std.proofs.lemmas.Bool.Decides.{nat_tests}
use Rattle.std.proofs.lemmas.List.{replicate-append-replicate}
use Rattle.py_lines.specs.declared.mode.Quote.{Quote}
use Rattle.py_lines.specs.declared.mode.Mode.{Mode}
use Rattle.py_lines.specs.declared.mode.Mode.TheVariants as M
use Rattle.py_lines.specs.declared.mode.Kind.{Kind}
use Rattle.py_lines.specs.declared.mode.Kind.TheVariants as K
use Rattle.py_lines.specs.declared.mode.Shape.TheVariants as H
use Rattle.py_lines.specs.declared.mode.Bad.TheVariants as B
use Rattle.py_lines.specs.declared.mode.Read.{Read}
use Rattle.py_lines.specs.declared.mode.Read.TheVariants as R
use Rattle.py_lines.specs.declared.mode.Step.{Step}
use Rattle.py_lines.specs.declared.mode.Step.TheVariants as S
use Rattle.py_lines.specs.declared.mode.End.{End}
use Rattle.py_lines.specs.declared.mode.End.TheVariants as E
use Rattle.py_lines.specs.Piece.{Piece, word, number, sign, literal, blank, comment, line_end, Item, plain, escape, break, item_text, items_text, is_item, are_quotes, quotes_text, spelled, is_piece, goes_on, is_name, is_numeral, number_of, number_after, greatest, is_digit, begins_name, is_name_byte, is_escape, is_sign, signs, ends_line, line_end_text}
use Rattle.py_lines.specs.Stepping.{begins_sign, first_step, number_step, broken_sign, inside_step, step, end, last_sign}
use Rattle.py_lines.specs.Tables.{sign_number, sign_at}

abbrev pub is_mark : ℕ → Bool
is_mark mark = (mark == 39) || (mark == 34)

-- a literal so far: its quotes, whole items, and quotes at the end
pub record InText (quote : Quote) (quotes : ℕ) (bytes : List ℕ) : Type 0 where
  pub items : List Item
  pub mark : is_mark quote.mark ≡ true
  pub are_items : list_all (is_item quote.mark quote.triple) items ≡ true
  pub few : are_quotes quote.triple quotes ≡ true
  pub bytes_is : bytes ≡ quotes_text quote.mark quote.triple ++ (items_text quote.mark items ++ replicate quotes quote.mark)

-- in one of one quote something stands inside
abbrev pub has_items : Bool → List Item → Bool
has_items triple [] = triple
has_items triple (item ∷ items) = true

abbrev pub Begun : Mode → List ℕ → Type 0
Begun M.Between bytes = bytes ≡ []
Begun M.Word bytes = is_name bytes ≡ true
Begun (M.Number value) bytes = (is_numeral bytes ≡ true) × (number_of bytes ≡ value) × (value ≤ greatest)
Begun M.Sign bytes = (bytes ≡ 33 ∷ []) ⊎ (is_some (sign_number bytes) ≡ true)
Begun M.Return bytes = bytes ≡ 13 ∷ []
Begun M.Comment bytes = (rest : List ℕ) × (bytes ≡ 35 ∷ rest) × (list_all (λ byte. not (ends_line byte)) rest ≡ true)
Begun (M.OneQuote mark) bytes = (is_mark mark ≡ true) × (bytes ≡ mark ∷ [])
Begun (M.TwoQuotes mark) bytes = (is_mark mark ≡ true) × (bytes ≡ mark ∷ mark ∷ [])
Begun (M.Inside quote quotes) bytes = (text : InText quote quotes bytes) × (has_items quote.triple text.items ≡ true)
Begun (M.Escape quote) bytes = (front : List ℕ) × (quotes : ℕ) × InText quote quotes front × (bytes ≡ front ++ 92 ∷ [])
Begun (M.InsideReturn mark) bytes = (front : List ℕ) × (quotes : ℕ) × InText (record { mark = mark; triple = true }) quotes front × (bytes ≡ front ++ 13 ∷ [])

-- the piece is of this kind
abbrev pub Fits : Piece → Kind → Type 0
Fits (word name) kind = kind ≡ K.Token H.Word
Fits (number digits) kind = kind ≡ K.Token (H.Number (number_of digits))
Fits (sign bytes) kind = (n : ℕ) × (kind ≡ K.Token (H.Sign (sign_at n))) × (sign_number bytes ≡ Some n)
Fits (literal mark triple items) kind = kind ≡ K.Token (H.Text (record { mark = mark; triple = triple }))
Fits (blank byte) kind = kind ≡ K.Blank
Fits (comment bytes) kind = kind ≡ K.Comment
Fits (line_end return) kind = kind ≡ K.LineEnd

-- the bytes are a piece, whatever follows
pub record IsWhole (bytes : List ℕ) (kind : Kind) : Type 0 where
  pub piece : Piece
  pub spelled_is : spelled piece ≡ bytes
  pub is : is_piece piece ≡ true
  pub never : (byte : ℕ) → goes_on piece byte ≡ false
  pub fits : Fits piece kind

-- the bytes are a piece, if this byte follows
pub record IsBroken (bytes : List ℕ) (kind : Kind) (byte : ℕ) : Type 0 where
  pub piece : Piece
  pub spelled_is : spelled piece ≡ bytes
  pub is : is_piece piece ≡ true
  pub stops : goes_on piece byte ≡ false
  pub fits : Fits piece kind

-- the bytes are a piece, if nothing follows
pub record IsLast (bytes : List ℕ) (kind : Kind) : Type 0 where
  pub piece : Piece
  pub spelled_is : spelled piece ≡ bytes
  pub is : is_piece piece ≡ true
  pub fits : Fits piece kind

abbrev pub Reads : List ℕ → Read → Type 0
Reads longer (R.Goes mode) = Begun mode longer
Reads longer (R.Ends kind) = IsWhole longer kind
Reads longer (R.Bad bad) = Unit {0}

abbrev pub Steps : List ℕ → List ℕ → ℕ → Step → Type 0
Steps bytes longer byte (S.Reads read) = Reads longer read
Steps bytes longer byte (S.Breaks kind) = IsBroken bytes kind byte

pub choose : {A : Type 0} (P : A → Type 0) (test : Bool) (x y : A) → (test ≡ true → P x) → (test ≡ false → P y) → P (if test then x else y)
choose P true x y then' else' = then' refl
choose P false x y then' else' = else' refl

pub same_byte : (a b : ℕ) → (a == b) ≡ true → a ≡ b
same_byte a b is = eqb-true a b is

pub or_split : {P : Type 0} (a b : Bool) → (a || b) ≡ true → (a ≡ true → P) → (b ≡ true → P) → P
or_split true b is left right = left refl
or_split false b is left right = right is

pub and_both : (a b : Bool) → a ≡ true → b ≡ true → (a && b) ≡ true
and_both a b is_a is_b = rw (is_a, is_b) refl

-- ---- the first byte

digit_fits : (byte : ℕ) → is_digit byte ≡ true → byte - 48 ≤ greatest
digit_fits byte is = let parts = and_parts (nat_le 48 byte) (nat_le byte 57) is in let high = leb-true byte 57 parts.1 in omega arith

one_digit : (zero' : Bool) (digit : Bool) → digit ≡ true → (if zero' then true else (digit && true)) ≡ true
one_digit true digit is = refl
one_digit false digit is = rw is refl

first_number : (byte : ℕ) → is_digit byte ≡ true → Begun (M.Number (byte - 48)) (byte ∷ [])
first_number byte is = (one_digit (byte == 48) (is_digit byte) is, omega arith, digit_fits byte is)

first_sign : (byte : ℕ) (bang : Bool) → (byte == 33) ≡ bang → (bang || is_some (sign_number (byte ∷ []))) ≡ true → Begun M.Sign (byte ∷ [])
first_sign byte true same is = inl (ap (λ (b : ℕ). b ∷ []) (same_byte byte 33 same))
first_sign byte false same is = inr is

-- the empty line end, comment and blank
whole_blank : (byte : ℕ) → ((byte == 32) || (byte == 9)) ≡ true → IsWhole (byte ∷ []) K.Blank
whole_blank byte is = record { piece = blank byte; spelled_is = refl; is = is; never = λ next. refl; fits = refl }

whole_line_end : (r : Bool) (bytes : List ℕ) → line_end_text r ≡ bytes → IsWhole bytes K.LineEnd
whole_line_end r bytes same = record { piece = line_end r; spelled_is = same; is = refl; never = λ next. refl; fits = refl }

first_name : (byte : ℕ) → begins_name byte ≡ true → is_name (byte ∷ []) ≡ true
first_name byte is = rw is refl

pub first_reads : (byte : ℕ) → Reads (byte ∷ []) (first_step byte)
first_reads byte =
    choose (Reads (byte ∷ [])) ((byte == 32) || (byte == 9)) _ _ (λ is. whole_blank byte is)
    (λ _. choose (Reads (byte ∷ [])) (byte == 10) _ _ (λ is. whole_line_end false (byte ∷ []) (ap (λ (b : ℕ). b ∷ []) (sym (same_byte byte 10 is))))
    (λ _. choose (Reads (byte ∷ [])) (byte == 13) _ _ (λ is. ap (λ (b : ℕ). b ∷ []) (same_byte byte 13 is))
    (λ _. choose (Reads (byte ∷ [])) (byte == 35) _ _ (λ is. ([], ap (λ (b : ℕ). b ∷ []) (same_byte byte 35 is), refl))
    (λ _. choose (Reads (byte ∷ [])) ((byte == 39) || (byte == 34)) _ _ (λ is. (is, refl))
    (λ _. choose (Reads (byte ∷ [])) (begins_name byte) _ _ (λ is. first_name byte is)
    (λ _. choose (Reads (byte ∷ [])) (is_digit byte) _ _ (λ is. first_number byte is)
    (λ _. choose (Reads (byte ∷ [])) (begins_sign byte) _ _ (λ is. first_sign byte (byte == 33) refl is)
    (λ _. tt))))))))

-- ---- names and numbers

list_all-one : (test : ℕ → Bool) (bytes : List ℕ) (byte : ℕ) → list_all test bytes ≡ true → test byte ≡ true → list_all test (bytes ++ byte ∷ []) ≡ true
list_all-one test [] byte all is = rw is refl
list_all-one test (b ∷ bytes) byte all is =
    let parts = and_parts (test b) (list_all test bytes) all in
    let rest = list_all-one test bytes byte parts.1 is in
    rw (parts.0, rest) refl

name_more : (bytes : List ℕ) (byte : ℕ) → is_name bytes ≡ true → is_name_byte byte ≡ true → is_name (bytes ++ byte ∷ []) ≡ true
name_more [] byte is next = absurd (cc)
name_more (b ∷ bytes) byte is next =
    let parts = and_parts (begins_name b) (list_all is_name_byte bytes) is in
    let rest = list_all-one is_name_byte bytes byte parts.1 next in
    rw (parts.0, rest) refl

broken_word : (bytes : List ℕ) (byte : ℕ) → is_name bytes ≡ true → is_name_byte byte ≡ false → IsBroken bytes (K.Token H.Word) byte
broken_word bytes byte is stops = record { piece = word bytes; spelled_is = refl; is = is; stops = stops; fits = refl }

pub number_after-append : (n : ℕ) (digits : List ℕ) (byte : ℕ) → number_after n (digits ++ byte ∷ []) ≡ 10 * number_after n digits + (byte - 48)
number_after-append n [] byte = refl
number_after-append n (d ∷ digits) byte = number_after-append (10 * n + (d - 48)) digits byte

zero_only : (d : ℕ) (bytes : List ℕ) → d ≡ 48 → bytes_eq bytes [] ≡ true → (number_of (d ∷ bytes) == 0) ≡ false → ⊥
zero_only d [] is none not_zero = let value : 10 * 0 + (d - 48) ≡ 0 = omega arith in let same = eq-eqb (10 * 0 + (d - 48)) 0 value in cc
zero_only d (b ∷ bytes) is none not_zero = cc

pub numeral_more : (bytes : List ℕ) (byte : ℕ) → is_numeral bytes ≡ true → (number_of bytes == 0) ≡ false → is_digit byte ≡ true → is_numeral (bytes ++ byte ∷ []) ≡ true
numeral_more [] byte is not_zero next = absurd (cc)
numeral_more (d ∷ bytes) byte is not_zero next = more (d == 48) refl is
  where
    more : (zero' : Bool) → (d == 48) ≡ zero' → (if zero' then bytes_eq bytes [] else is_digit d && list_all is_digit bytes) ≡ true
        → (if zero' then bytes_eq (bytes ++ byte ∷ []) [] else is_digit d && list_all is_digit (bytes ++ byte ∷ [])) ≡ true
    more true same is' = absurd (zero_only d bytes (same_byte d 48 same) is' not_zero)
    more false same is' =
        let parts = and_parts (is_digit d) (list_all is_digit bytes) is' in
        let rest = list_all-one is_digit bytes byte parts.1 next in
        rw (parts.0, rest) refl

pub number_is : (bytes : List ℕ) (value : ℕ) → Begun (M.Number value) bytes → is_piece (number bytes) ≡ true
number_is bytes value begun =
    let fits = le-leb (number_of bytes) greatest (subst (λ (n : ℕ). n ≤ greatest) (sym begun.1) begun.2) in
    rw (begun.0, fits) refl

broken_number : (bytes : List ℕ) (byte value : ℕ) → Begun (M.Number value) bytes → (is_name_byte byte || (byte == 46)) ≡ false → IsBroken bytes (K.Token (H.Number value)) byte
broken_number bytes byte value begun stops = record {
  piece = number bytes;
  spelled_is = refl;
  is = number_is bytes value begun;
  stops = stops;
  fits = ap (λ (n : ℕ). K.Token (H.Number n)) (sym begun.1);
}

within_limit : (limit digit value : ℕ) → digit ≤ limit → value ≤ (limit - digit) / 10 → 10 * value + digit ≤ limit
within_limit limit digit value small fits = omega arith

more_digits : (bytes : List ℕ) (byte value : ℕ) → Begun (M.Number value) bytes → (value == 0) ≡ false → is_digit byte ≡ true → nat_lt ((greatest - (byte - 48)) / 10) value ≡ false
    → Begun (M.Number (10 * value + (byte - 48))) (bytes ++ byte ∷ [])
more_digits bytes byte value begun not_zero digit fits = (
  numeral_more bytes byte begun.0 (ap (λ (n : ℕ). n == 0) begun.1 ∙ not_zero) digit,
  number_after-append 0 bytes byte ∙ ap (λ (n : ℕ). 10 * n + (byte - 48)) begun.1,
  within_limit greatest (byte - 48) value (digit_fits byte digit) (ltb-false ((greatest - (byte - 48)) / 10) value fits),
)

or_more : (a b c : Bool) → a ≡ false → (b || c) ≡ false → ((b || a) || c) ≡ false
or_more false true c is_a is = absurd (cc)
or_more false false c is_a is = is
or_more true b c is_a is = absurd (cc)

number_reads : (bytes : List ℕ) (byte value : ℕ) → Begun (M.Number value) bytes → Steps bytes (bytes ++ byte ∷ []) byte (number_step value byte)
number_reads bytes byte value begun =
    choose (Steps bytes (bytes ++ byte ∷ []) byte) (is_digit byte) _ _
    (λ digit. choose (Steps bytes (bytes ++ byte ∷ []) byte) (value == 0) _ _ (λ _. tt)
    (λ not_zero. choose (Steps bytes (bytes ++ byte ∷ []) byte) (nat_lt ((greatest - (byte - 48)) / 10) value) _ _ (λ _. tt)
    (λ fits. more_digits bytes byte value begun not_zero digit fits)))
    (λ digit. choose (Steps bytes (bytes ++ byte ∷ []) byte) (begins_name byte || (byte == 46)) _ _ (λ _. tt)
    (λ stops. broken_number bytes byte value begun (or_more (is_digit byte) (begins_name byte) (byte == 46) digit stops)))

-- ---- signs

some_below : (below : Bool) (n : ℕ) → is_some (if below then Some n else None) ≡ below
some_below true n = refl
some_below false n = refl

below_more : (here : Bool) (n len : ℕ) (rest : Bool) → nat_lt n len ≡ rest → nat_lt (if not here then 1 + n else 0) (suc len) ≡ (here || rest)
below_more true n len rest same = lt-ltb 0 (suc len) (omega arith)
below_more false n len true same = let below = ltb-true n len same in lt-ltb (1 + n) (suc len) (omega arith)
below_more false n len false same = let above = ltb-false n len same in grind (arith, nat_tests)

below_any : (test : List ℕ → Bool) (table : List (List ℕ)) → nat_lt (prefix_len (λ one. not (test one)) table) (length table) ≡ list_any test table
below_any test [] = refl
below_any test (one ∷ table) = below_more (test one) (prefix_len (λ other. not (test other)) table) (length table) (list_any test table) (below_any test table)

sign_from : (table : List (List ℕ)) (bytes : List ℕ) → is_some (position (λ other. bytes_eq other bytes) table) ≡ list_any (λ other. bytes_eq other bytes) table
sign_from table bytes =
    some_below (nat_lt (prefix_len (λ one. not (bytes_eq one bytes)) table) (length table)) (prefix_len (λ one. not (bytes_eq one bytes)) table)
    ∙ below_any (λ other. bytes_eq other bytes) table

pub is_sign-number : (bytes : List ℕ) → is_some (sign_number bytes) ≡ is_sign bytes
is_sign-number bytes = sign_from signs bytes

sign_broken : (bytes : List ℕ) (byte : ℕ) (number : Option ℕ) → sign_number bytes ≡ number → is_some (sign_number (bytes ++ byte ∷ [])) ≡ false → Steps bytes (bytes ++ byte ∷ []) byte (broken_sign number)
sign_broken bytes byte None same stops = tt
sign_broken bytes byte (Some n) same stops = record {
  piece = sign bytes;
  spelled_is = refl;
  is = sym (is_sign-number bytes) ∙ ap is_some same;
  stops = sym (is_sign-number (bytes ++ byte ∷ [])) ∙ stops;
  fits = (n, refl, same);
}

-- ---- literals

items_text-one : (mark : ℕ) (items : List Item) (item : Item) → items_text mark (items ++ item ∷ []) ≡ items_text mark items ++ item_text mark item
items_text-one mark [] item = append-nil (item_text mark item)
items_text-one mark (first ∷ items) item =
    ap (λ (t : List ℕ). item_text mark first ++ t) (items_text-one mark items item) ∙ sym (append_assoc (item_text mark first) (items_text mark items) (item_text mark item))

all_items : (mark : ℕ) (triple : Bool) (items : List Item) (item : Item) → list_all (is_item mark triple) items ≡ true → is_item mark triple item ≡ true → list_all (is_item mark triple) (items ++ item ∷ []) ≡ true
all_items mark triple [] item all is = rw is refl
all_items mark triple (first ∷ items) item all is =
    let parts = and_parts (is_item mark triple first) (list_all (is_item mark triple) items) all in
    let rest = all_items mark triple items item parts.1 is in
    rw (parts.0, rest) refl

some_items : (triple : Bool) (items : List Item) (item : Item) → has_items triple (items ++ item ∷ []) ≡ true
some_items triple [] item = refl
some_items triple (first ∷ items) item = refl

few_none : (triple : Bool) → are_quotes triple 0 ≡ true
few_none true = refl
few_none false = refl

-- one item more
pub text_more : (quote : Quote) (quotes : ℕ) (front tail : List ℕ) (item : Item) → (t : InText quote quotes front) → item_text quote.mark item ≡ replicate quotes quote.mark ++ tail
    → is_item quote.mark quote.triple item ≡ true → Begun (M.Inside quote 0) (front ++ tail)
text_more quote quotes front tail item t text is =
    let q : List ℕ = quotes_text quote.mark quote.triple in
    let i : List ℕ = items_text quote.mark t.items in
    let r : List ℕ = replicate quotes quote.mark in (
      record {
        items = t.items ++ item ∷ [];
        mark = t.mark;
        are_items = all_items quote.mark quote.triple t.items item t.are_items is;
        few = few_none quote.triple;
        bytes_is = ap (λ (b : List ℕ). b ++ tail) t.bytes_is ∙ append_assoc q (i ++ r) tail ∙ ap (λ (b : List ℕ). q ++ b) (append_assoc i r tail)
            ∙ ap (λ (b : List ℕ). q ++ (i ++ b)) (sym text) ∙ ap (λ (b : List ℕ). q ++ b) (sym (items_text-one quote.mark t.items item)) ∙ ap (λ (b : List ℕ). q ++ b) (sym (append-nil (items_text quote.mark (t.items ++ item ∷ []))));
      },
      some_items quote.triple t.items item,
    )

-- ---- inside a literal

and_not : (a b : Bool) → a ≡ true → b ≡ false → (a && not b) ≡ true
and_not a b is_a is_b = rw (is_a, is_b) refl

plain_item : (quote : Quote) (quotes byte : ℕ) → are_quotes quote.triple quotes ≡ true → (byte == quote.mark) ≡ false → (byte == 92) ≡ false → (byte == 10) ≡ false → (byte == 13) ≡ false
    → is_item quote.mark quote.triple (plain quotes byte) ≡ true
plain_item quote quotes byte few a b c d = rw (few, a, b, c, d) refl

pub break_item : (quote : Quote) (quotes : ℕ) (r : Bool) → are_quotes quote.triple quotes ≡ true → quote.triple ≡ true → is_item quote.mark quote.triple (break quotes r) ≡ true
break_item quote quotes r few triple = rw (few, triple) refl

pub escape_item : (quote : Quote) (quotes byte : ℕ) → are_quotes quote.triple quotes ≡ true → is_escape byte ≡ true → is_item quote.mark quote.triple (escape quotes byte) ≡ true
escape_item quote quotes byte few is = rw (few, is) refl

replicate_more : (n mark : ℕ) → replicate n mark ++ mark ∷ [] ≡ replicate (n + 1) mark
replicate_more n mark = replicate-append-replicate n 1 mark

-- the quotes that close it
closing_few : (triple : Bool) (quotes mark : ℕ) → are_quotes triple quotes ≡ true → (not triple || nat_le 2 quotes) ≡ true → replicate quotes mark ++ mark ∷ [] ≡ quotes_text mark triple
closing_few true quotes mark few closes =
    let low = leb-true 2 quotes closes in let high = leb-true quotes 2 few in let two : quotes ≡ 2 = omega arith in
    ap (λ (n : ℕ). replicate n mark ++ mark ∷ []) two
closing_few false quotes mark few closes = let none = same_byte quotes 0 few in ap (λ (n : ℕ). replicate n mark ++ mark ∷ []) none

more_few : (triple : Bool) (quotes : ℕ) → (not triple || nat_le 2 quotes) ≡ false → are_quotes triple (quotes + 1) ≡ true
more_few true quotes opens = let low = leb-false 2 quotes opens in le-leb (quotes + 1) 2 (omega arith)
more_few false quotes opens = absurd (cc)

never_on : (mark : ℕ) (triple : Bool) (items : List Item) → has_items triple items ≡ true → (byte : ℕ) → goes_on (literal mark triple items) byte ≡ false
never_on mark true items has byte = refl
never_on mark false [] has byte = absurd (cc)
never_on mark false (item ∷ items) has byte = refl

pub closed_text : (quote : Quote) (quotes : ℕ) (bytes : List ℕ) → (t : InText quote quotes bytes) → has_items quote.triple t.items ≡ true → (not quote.triple || nat_le 2 quotes) ≡ true
    → IsWhole (bytes ++ quote.mark ∷ []) (K.Token (H.Text quote))
closed_text quote quotes bytes t has closes =
    let q : List ℕ = quotes_text quote.mark quote.triple in
    let i : List ℕ = items_text quote.mark t.items in
    let r : List ℕ = replicate quotes quote.mark in
    record {
      piece = literal quote.mark quote.triple t.items;
      spelled_is =
          append_assoc q i q ∙ ap (λ (b : List ℕ). q ++ (i ++ b)) (sym (closing_few quote.triple quotes quote.mark t.few closes))
          ∙ ap (λ (b : List ℕ). q ++ b) (sym (append_assoc i r (quote.mark ∷ []))) ∙ sym (append_assoc q (i ++ r) (quote.mark ∷ [])) ∙ ap (λ (b : List ℕ). b ++ quote.mark ∷ []) (sym t.bytes_is);
      is = and_both (is_mark quote.mark) (list_all (is_item quote.mark quote.triple) t.items) t.mark t.are_items;
      never = never_on quote.mark quote.triple t.items has;
      fits = refl;
    }

pub more_quotes : (quote : Quote) (quotes : ℕ) (bytes : List ℕ) → Begun (M.Inside quote quotes) bytes → (not quote.triple || nat_le 2 quotes) ≡ false → Begun (M.Inside quote (quotes + 1)) (bytes ++ quote.mark ∷ [])
more_quotes quote quotes bytes (t, has) opens =
    let q : List ℕ = quotes_text quote.mark quote.triple in
    let i : List ℕ = items_text quote.mark t.items in
    let r : List ℕ = replicate quotes quote.mark in (
      record {
        items = t.items;
        mark = t.mark;
        are_items = t.are_items;
        few = more_few quote.triple quotes opens;
        bytes_is = ap (λ (b : List ℕ). b ++ quote.mark ∷ []) t.bytes_is ∙ append_assoc q (i ++ r) (quote.mark ∷ []) ∙ ap (λ (b : List ℕ). q ++ b) (append_assoc i r (quote.mark ∷ []))
            ∙ ap (λ (b : List ℕ). q ++ (i ++ b)) (replicate_more quotes quote.mark);
      },
      has,
    )

three_quotes : (mark : ℕ) (triple : Bool) (quotes : ℕ) (bytes : List ℕ) → triple ≡ true → InText (record { mark = mark; triple = triple }) quotes bytes → InText (record { mark = mark; triple = true }) quotes bytes
three_quotes mark triple quotes bytes is t = subst (λ (b : Bool). InText (record { mark = mark; triple = b }) quotes bytes) is t

-- the literal may have nothing inside only where the next byte does not close it
module _ (quote : Quote) (quotes : ℕ) (bytes : List ℕ) (byte : ℕ) (t : InText quote quotes bytes) where
  inside_plain : (byte == quote.mark) ≡ false → (byte == 92) ≡ false → (byte == 13) ≡ false → (lf : Bool) → (byte == 10) ≡ lf → (lf && not quote.triple) ≡ false
      → Begun (M.Inside quote 0) (bytes ++ byte ∷ [])
  inside_plain mark slash cr false lf is =
      text_more quote quotes bytes (byte ∷ []) (plain quotes byte) t refl (plain_item quote quotes byte t.few mark slash lf cr)
  inside_plain mark slash cr true lf is =
      text_more quote quotes bytes (byte ∷ []) (break quotes false) t (ap (λ (b : ℕ). replicate quotes quote.mark ++ b ∷ []) (sym (same_byte byte 10 lf)))
      (break_item quote quotes false t.few (not_false quote.triple is))
    where
      not_false : (b : Bool) → not b ≡ false → b ≡ true
      not_false true is = refl
      not_false false is = cc

  inside_reads : (byte ≡ quote.mark → has_items quote.triple t.items ≡ true) → Reads (bytes ++ byte ∷ []) (inside_step quote quotes byte)
  inside_reads has =
      choose (Reads (bytes ++ byte ∷ [])) (byte == quote.mark) _ _
      (λ mark. let same = same_byte byte quote.mark mark in choose (Reads (bytes ++ byte ∷ [])) (not quote.triple || nat_le 2 quotes) _ _
      (λ closes. subst (λ (b : ℕ). IsWhole (bytes ++ b ∷ []) (K.Token (H.Text quote))) (sym same) (closed_text quote quotes bytes t (has same) closes))
      (λ opens. subst (λ (b : ℕ). Begun (M.Inside quote (quotes + 1)) (bytes ++ b ∷ [])) (sym same) (more_quotes quote quotes bytes (t, has same) opens)))
      (λ mark. choose (Reads (bytes ++ byte ∷ [])) (byte == 92) _ _
      (λ slash. (bytes, quotes, t, ap (λ (b : ℕ). bytes ++ b ∷ []) (same_byte byte 92 slash)))
      (λ slash. choose (Reads (bytes ++ byte ∷ [])) (byte == 13) _ _
      (λ cr. choose (Reads (bytes ++ byte ∷ [])) quote.triple _ _
      (λ triple. (bytes, quotes, three_quotes quote.mark quote.triple quotes bytes triple t, ap (λ (b : ℕ). bytes ++ b ∷ []) (same_byte byte 13 cr))) (λ _. tt))
      (λ cr. choose (Reads (bytes ++ byte ∷ [])) ((byte == 10) && not quote.triple) _ _ (λ _. tt)
      (λ lf. inside_plain mark slash cr (byte == 10) refl lf))))

-- ---- every byte

nothing_inside : (mark : ℕ) (triple : Bool) → is_mark mark ≡ true → InText (record { mark = mark; triple = triple }) 0 (quotes_text mark triple)
nothing_inside mark triple is = record { items = []; mark = is; are_items = refl; few = few_none triple; bytes_is = sym (append-nil (quotes_text mark triple)) }

comment_reads : (bytes : List ℕ) (byte : ℕ) → Begun M.Comment bytes → Steps bytes (bytes ++ byte ∷ []) byte (if (byte == 10) || (byte == 13) then S.Breaks K.Comment else S.Reads (R.Goes M.Comment))
comment_reads bytes byte (rest, bytes_is, free) =
    choose (Steps bytes (bytes ++ byte ∷ []) byte) ((byte == 10) || (byte == 13)) _ _
    (λ ends. record { piece = comment rest; spelled_is = sym bytes_is; is = free; stops = rw ends refl; fits = refl })
    (λ more. (rest ++ byte ∷ [], ap (λ (b : List ℕ). b ++ byte ∷ []) bytes_is, list_all-one (λ b. not (ends_line b)) rest byte free (rw more refl)))

pub step_reads : (mode : Mode) (bytes : List ℕ) (byte : ℕ) → Begun mode bytes → Steps bytes (bytes ++ byte ∷ []) byte (step mode bytes (bytes ++ byte ∷ []) byte)
unfolding nothing_inside
step_reads M.Between bytes byte begun = subst (λ (b : List ℕ). Reads (b ++ byte ∷ []) (first_step byte)) (sym begun) (first_reads byte)
step_reads M.Word bytes byte begun =
    choose (Steps bytes (bytes ++ byte ∷ []) byte) (is_name_byte byte) _ _ (λ is. name_more bytes byte begun is) (λ stops. broken_word bytes byte begun stops)
step_reads (M.Number value) bytes byte begun = number_reads bytes byte value begun
step_reads M.Sign bytes byte begun =
    choose (Steps bytes (bytes ++ byte ∷ []) byte) (is_some (sign_number (bytes ++ byte ∷ []))) _ _ (λ is. inr is) (λ stops. sign_broken bytes byte (sign_number bytes) refl stops)
step_reads M.Return bytes byte begun =
    choose (Steps bytes (bytes ++ byte ∷ []) byte) (byte == 10) _ _
    (λ is. whole_line_end true (bytes ++ byte ∷ []) (sym (ap (λ (b : List ℕ). b ++ byte ∷ []) begun ∙ ap (λ (b : ℕ). 13 ∷ b ∷ []) (same_byte byte 10 is)))) (λ _. tt)
step_reads M.Comment bytes byte begun = comment_reads bytes byte begun
step_reads (M.OneQuote mark) bytes byte (is, bytes_is) =
    choose (Steps bytes (bytes ++ byte ∷ []) byte) (byte == mark) _ _
    (λ same. (is, ap (λ (b : List ℕ). b ++ byte ∷ []) bytes_is ∙ ap (λ (b : ℕ). mark ∷ b ∷ []) (same_byte byte mark same)))
    (λ other. subst (λ (b : List ℕ). Reads (b ++ byte ∷ []) (inside_step (record { mark = mark; triple = false }) 0 byte)) (sym bytes_is)
    (inside_reads (record { mark = mark; triple = false }) 0 (mark ∷ []) byte (nothing_inside mark false is) (λ same. absurd (different byte mark other same))))
  where
    different : (a b : ℕ) → (a == b) ≡ false → a ≡ b → ⊥
    different a b other same = let is' = eq-eqb a b same in cc
step_reads (M.TwoQuotes mark) bytes byte (is, bytes_is) =
    choose (Steps bytes (bytes ++ byte ∷ []) byte) (byte == mark) _ _
    (λ same. subst (λ (b : List ℕ). Begun (M.Inside (record { mark = mark; triple = true }) 0) b)
    (sym (ap (λ (b : List ℕ). b ++ byte ∷ []) bytes_is ∙ ap (λ (b : ℕ). mark ∷ mark ∷ b ∷ []) (same_byte byte mark same)))
    (nothing_inside mark true is, refl))
    (λ other. record { piece = literal mark false []; spelled_is = sym bytes_is; is = and_both (is_mark mark) true is refl; stops = other; fits = refl })
step_reads (M.Inside quote quotes) bytes byte (t, has) = inside_reads quote quotes bytes byte t (λ _. has)
step_reads (M.Escape quote) bytes byte (front, quotes, t, bytes_is) =
    choose (Steps bytes (bytes ++ byte ∷ []) byte) (is_escape byte) _ _
    (λ is. subst (λ (b : List ℕ). Begun (M.Inside quote 0) b)
    (sym (ap (λ (b : List ℕ). b ++ byte ∷ []) bytes_is ∙ append_assoc front (92 ∷ []) (byte ∷ [])))
    (text_more quote quotes front (92 ∷ byte ∷ []) (escape quotes byte) t refl (escape_item quote quotes byte t.few is)))
    (λ _. tt)
step_reads (M.InsideReturn mark) bytes byte (front, quotes, t, bytes_is) =
    choose (Steps bytes (bytes ++ byte ∷ []) byte) (byte == 10) _ _
    (λ is. subst (λ (b : List ℕ). Begun (M.Inside (record { mark = mark; triple = true }) 0) b)
    (sym (ap (λ (b : List ℕ). b ++ byte ∷ []) bytes_is ∙ append_assoc front (13 ∷ []) (byte ∷ []) ∙ ap (λ (b : ℕ). front ++ 13 ∷ b ∷ []) (same_byte byte 10 is)))
    (text_more (record { mark = mark; triple = true }) quotes front (13 ∷ 10 ∷ []) (break quotes true) t refl
    (break_item (record { mark = mark; triple = true }) quotes true t.few refl)))
    (λ _. tt)

-- ---- the end of the text

abbrev pub Ends : List ℕ → End → Type 0
Ends bytes E.Whole = bytes ≡ []
Ends bytes (E.Last kind) = IsLast bytes kind
Ends bytes (E.Bad bad) = Unit {0}
Ends bytes E.Open = Unit {0}

sign_ends : (bytes : List ℕ) (number : Option ℕ) → sign_number bytes ≡ number → Ends bytes (last_sign number)
sign_ends bytes None same = tt
sign_ends bytes (Some n) same = record { piece = sign bytes; spelled_is = refl; is = sym (is_sign-number bytes) ∙ ap is_some same; fits = (n, refl, same) }

pub end_reads : (mode : Mode) (bytes : List ℕ) → Begun mode bytes → Ends bytes (end mode bytes)
end_reads M.Between bytes begun = begun
end_reads M.Word bytes begun = record { piece = word bytes; spelled_is = refl; is = begun; fits = refl }
end_reads (M.Number value) bytes begun = record { piece = number bytes; spelled_is = refl; is = number_is bytes value begun; fits = ap (λ (n : ℕ). K.Token (H.Number n)) (sym begun.1) }
end_reads M.Sign bytes begun = sign_ends bytes (sign_number bytes) refl
end_reads M.Return bytes begun = tt
end_reads M.Comment bytes (rest, bytes_is, free) = record { piece = comment rest; spelled_is = sym bytes_is; is = free; fits = refl }
end_reads (M.OneQuote mark) bytes begun = tt
end_reads (M.TwoQuotes mark) bytes (is, bytes_is) = record { piece = literal mark false []; spelled_is = sym bytes_is; is = and_both (is_mark mark) true is refl; fits = refl }
end_reads (M.Inside quote quotes) bytes begun = choose (Ends bytes) quote.triple E.Open (E.Bad B.Start) (λ _. tt) (λ _. tt)
end_reads (M.Escape quote) bytes begun = choose (Ends bytes) quote.triple E.Open (E.Bad B.Start) (λ _. tt) (λ _. tt)
end_reads (M.InsideReturn mark) bytes begun = tt
