-- Reading the bytes of a piece.
use Rattle.std.proofs.Common.{◌≡◌, ◌⊎◌, ℕ, zero, suc, ◌+◌, ◌-◌, ◌*◌, ◌/◌, ◌<◌, ◌≤◌, ◌==◌, nat_le, Bool, true, false, ◌&&◌, ◌||◌, not, List, [], ◌∷◌, ◌++◌, replicate, Option, Some, None, option_and_then, is_some, refl, sym, ap, ◌∙◌, subst, append_assoc, append-nil, inl, inr, arith, eq-eqb, leb-true, le-ltb, add-zero, if◌then◌else◌}
use Rattle.std.specs.List.{list_all}
use Rattle.std.specs.Str.{bytes_eq}
use Rattle.std.proofs.lemmas.Bool.{and_parts, not-true}
use Rattle.py_lines.specs.declared.mode.Quote.{Quote}
use Rattle.py_lines.specs.declared.mode.Mode.{Mode}
use Rattle.py_lines.specs.declared.mode.Mode.TheVariants as M
use Rattle.py_lines.specs.declared.mode.Kind.{Kind}
use Rattle.py_lines.specs.declared.mode.Kind.TheVariants as K
use Rattle.py_lines.specs.declared.mode.Shape.TheVariants as H
use Rattle.py_lines.specs.declared.mode.Read.TheVariants as R
use Rattle.py_lines.specs.declared.mode.Step.{Step}
use Rattle.py_lines.specs.declared.mode.Step.TheVariants as S
use Rattle.py_lines.specs.declared.mode.End.TheVariants as E
use Rattle.py_lines.specs.Piece.{Piece, word, number, sign, literal, blank, comment, line_end, Item, plain, escape, break, item_text, items_text, is_item, are_quotes, spelled, is_piece, goes_on, is_name, is_numeral, number_of, number_after, greatest, is_digit, begins_name, is_name_byte, is_escape, is_sign, signs, ends_line, line_end_text}
use Rattle.py_lines.specs.Stepping.{first_step, number_step, inside_step, step, end, last_sign}
use Rattle.py_lines.specs.Tables.{sign_number, sign_at}
use Rattle.py_lines.proofs.InLines.{false_of, differ}
use Rattle.py_lines.proofs.Begun.{Fits, is_mark, same_byte, or_split, is_sign-number}
use Rattle.py_lines.proofs.Pieces.{in_table, same_bytes}

abbrev pub mode_behind : Step → Option Mode
mode_behind (S.Reads (R.Goes mode)) = Some mode
mode_behind (S.Reads (R.Ends kind)) = None
mode_behind (S.Reads (R.Bad bad)) = None
mode_behind (S.Breaks kind) = None

-- the mode behind bytes of which none ends a piece
abbrev pub runs : Mode → List ℕ → List ℕ → Option Mode
runs mode begun [] = Some mode
runs mode begun (byte ∷ bytes) = option_and_then (λ next. runs next (begun ++ byte ∷ []) bytes) (mode_behind (step mode begun (begun ++ byte ∷ []) byte))

-- the last byte ends the piece
pub record EndsIn (bytes : List ℕ) (kind : Kind) : Type 0 where
  pub front : List ℕ
  pub byte : ℕ
  pub mode : Mode
  pub bytes_are : bytes ≡ front ++ byte ∷ []
  pub run : runs M.Between [] front ≡ Some mode
  pub ends : step mode front (front ++ byte ∷ []) byte ≡ S.Reads (R.Ends kind)

-- what may stand behind the piece, or the end of the text, shows that it has ended
pub record BreaksIn (p : Piece) (kind : Kind) : Type 0 where
  pub mode : Mode
  pub run : runs M.Between [] (spelled p) ≡ Some mode
  pub breaks : (byte : ℕ) → goes_on p byte ≡ false → step mode (spelled p) (spelled p ++ byte ∷ []) byte ≡ S.Breaks kind
  pub last : end mode (spelled p) ≡ E.Last kind

pub record Accepted (p : Piece) : Type 0 where
  pub kind : Kind
  pub fits : Fits p kind
  pub how : EndsIn (spelled p) kind ⊎ BreaksIn p kind

pub runs-append : (mode : Mode) (begun a b : List ℕ) → runs mode begun (a ++ b) ≡ option_and_then (λ next. runs next (begun ++ a) b) (runs mode begun a)
runs-append mode begun [] b = ap (λ (x : List ℕ). runs mode x b) (sym (append-nil begun))
runs-append mode begun (byte ∷ a) b = after (mode_behind (step mode begun (begun ++ byte ∷ []) byte)) (λ next. runs-append next (begun ++ byte ∷ []) a b)
  where
    after : (o : Option Mode) → ((next : Mode) → runs next (begun ++ byte ∷ []) (a ++ b) ≡ option_and_then (λ then'. runs then' ((begun ++ byte ∷ []) ++ a) b) (runs next (begun ++ byte ∷ []) a))
        → option_and_then (λ next. runs next (begun ++ byte ∷ []) (a ++ b)) o ≡ option_and_then (λ next. runs next (begun ++ byte ∷ a) b) (option_and_then (λ next. runs next (begun ++ byte ∷ []) a) o)
    after None each = refl
    after (Some next) each = each next ∙ ap (λ (x : List ℕ). option_and_then (λ then'. runs then' x b) (runs next (begun ++ byte ∷ []) a)) (append_assoc begun (byte ∷ []) a)

-- two runs, one behind the other
pub runs_on : (mode middle last : Mode) (begun a b : List ℕ) → runs mode begun a ≡ Some middle → runs middle (begun ++ a) b ≡ Some last → runs mode begun (a ++ b) ≡ Some last
runs_on mode middle last begun a b first second = runs-append mode begun a b ∙ ap (option_and_then (λ next. runs next (begun ++ a) b)) first ∙ second

pub run_one : (mode next : Mode) (begun : List ℕ) (byte : ℕ) → step mode begun (begun ++ byte ∷ []) byte ≡ S.Reads (R.Goes next) → runs mode begun (byte ∷ []) ≡ Some next
run_one mode next begun byte is = rw is refl

pub run_more : (mode next last : Mode) (begun bytes : List ℕ) (byte : ℕ) → step mode begun (begun ++ byte ∷ []) byte ≡ S.Reads (R.Goes next) → runs next (begun ++ byte ∷ []) bytes ≡ Some last
    → runs mode begun (byte ∷ bytes) ≡ Some last
run_more mode next last begun bytes byte is rest = rw is rest

-- ---- the first byte

-- a byte that passes a test is not one that fails it
pub other_byte : (test : ℕ → Bool) (a b : ℕ) → test a ≡ true → test b ≡ false → (a == b) ≡ false
other_byte test a b is not' = false_of (a == b) (λ same. differ (test a) is (ap test (same_byte a b same) ∙ not'))

first_name : (c : ℕ) → begins_name c ≡ true → first_step c ≡ R.Goes M.Word
first_name c is =
    let a : (c == 32) ≡ false = other_byte begins_name c 32 is refl in
    let b : (c == 9) ≡ false = other_byte begins_name c 9 is refl in
    let d : (c == 10) ≡ false = other_byte begins_name c 10 is refl in
    let e : (c == 13) ≡ false = other_byte begins_name c 13 is refl in
    let f : (c == 35) ≡ false = other_byte begins_name c 35 is refl in
    let g : (c == 39) ≡ false = other_byte begins_name c 39 is refl in
    let h : (c == 34) ≡ false = other_byte begins_name c 34 is refl in
    rw (a, b, d, e, f, g, h, is) refl

digit_no_name : (c : ℕ) → is_digit c ≡ true → begins_name c ≡ false
digit_no_name c is =
    let low = leb-true 48 c (and_parts (nat_le 48 c) (nat_le c 57) is).0 in
    let high = leb-true c 57 (and_parts (nat_le 48 c) (nat_le c 57) is).1 in
    false_of (begins_name c) (λ name.
    or_split ((nat_le 97 c && nat_le c 122) || (nat_le 65 c && nat_le c 90)) (c == 95) name
    (λ letter. or_split (nat_le 97 c && nat_le c 122) (nat_le 65 c && nat_le c 90) letter
    (λ small. let at = leb-true 97 c (and_parts (nat_le 97 c) (nat_le c 122) small).0 in omega arith)
    (λ big. let at = leb-true 65 c (and_parts (nat_le 65 c) (nat_le c 90) big).0 in omega arith))
    (λ line. let at = same_byte c 95 line in omega arith))

first_digit : (c : ℕ) → is_digit c ≡ true → first_step c ≡ R.Goes (M.Number (c - 48))
first_digit c is =
    let a : (c == 32) ≡ false = other_byte is_digit c 32 is refl in
    let b : (c == 9) ≡ false = other_byte is_digit c 9 is refl in
    let d : (c == 10) ≡ false = other_byte is_digit c 10 is refl in
    let e : (c == 13) ≡ false = other_byte is_digit c 13 is refl in
    let f : (c == 35) ≡ false = other_byte is_digit c 35 is refl in
    let g : (c == 39) ≡ false = other_byte is_digit c 39 is refl in
    let h : (c == 34) ≡ false = other_byte is_digit c 34 is refl in
    let n = digit_no_name c is in
    rw (a, b, d, e, f, g, h, n, is) refl

-- ---- names

word_runs : (begun bytes : List ℕ) → list_all is_name_byte bytes ≡ true → runs M.Word begun bytes ≡ Some M.Word
word_runs begun [] all = refl
word_runs begun (byte ∷ bytes) all =
    let parts = and_parts (is_name_byte byte) (list_all is_name_byte bytes) all in
    run_more M.Word M.Word M.Word begun bytes byte (rw parts.0 refl) (word_runs (begun ++ byte ∷ []) bytes parts.1)

accepted_word : (name : List ℕ) → is_name name ≡ true → Accepted (word name)
accepted_word [] is = absurd (cc)
accepted_word (c ∷ cs) is =
    let parts = and_parts (begins_name c) (list_all is_name_byte cs) is in
    record {
      kind = K.Token H.Word;
      fits = refl;
      how = inr (record {
        mode = M.Word;
        run = run_more M.Between M.Word M.Word [] cs c (ap S.Reads (first_name c parts.0)) (word_runs (c ∷ []) cs parts.1);
        breaks = λ byte stops. rw stops refl;
        last = refl;
      });
    }

-- ---- numbers

pub number_least : (value : ℕ) (digits : List ℕ) → value ≤ number_after value digits
number_least value [] = omega arith
number_least value (d ∷ digits) = let rest = number_least (10 * value + (d - 48)) digits in omega arith

fits_limit : (limit digit value : ℕ) → 10 * value + digit ≤ limit → value ≤ (limit - digit) / 10
fits_limit limit digit value is = omega arith

number_goes : (value byte : ℕ) → is_digit byte ≡ true → (value == 0) ≡ false → 10 * value + (byte - 48) ≤ greatest → number_step value byte ≡ S.Reads (R.Goes (M.Number (10 * value + (byte - 48))))
number_goes value byte digit not_zero fits =
    let below = le-ltb ((greatest - (byte - 48)) / 10) value (fits_limit greatest (byte - 48) value fits) in
    rw (digit, not_zero, below) refl

number_runs : (value : ℕ) (begun digits : List ℕ) → list_all is_digit digits ≡ true → 0 < value → number_after value digits ≤ greatest → runs (M.Number value) begun digits ≡ Some (M.Number (number_after value digits))
number_runs value begun [] all positive fits = refl
number_runs value begun (d ∷ digits) all positive fits =
    let parts = and_parts (is_digit d) (list_all is_digit digits) all in
    let next : ℕ = 10 * value + (d - 48) in
    let least = number_least next digits in
    let not_zero : (value == 0) ≡ false = false_of (value == 0) (λ zero'. let is = same_byte value 0 zero' in omega arith) in
    run_more (M.Number value) (M.Number next) (M.Number (number_after next digits)) begun digits d (number_goes value d parts.0 not_zero (omega arith))
    (number_runs next (begun ++ d ∷ []) digits parts.1 (omega arith) fits)

or_parts : (a b c : Bool) → ((b || a) || c) ≡ false → (a ≡ false) × ((b || c) ≡ false)
or_parts false false c is = (refl, is)
or_parts false true c is = absurd (cc)
or_parts true false c is = absurd (cc)
or_parts true true c is = absurd (cc)

number_breaks : (value byte : ℕ) → (is_name_byte byte || (byte == 46)) ≡ false → number_step value byte ≡ S.Breaks (K.Token (H.Number value))
number_breaks value byte stops =
    let parts = or_parts (is_digit byte) (begins_name byte) (byte == 46) stops in
    rw (parts.0, parts.1) refl

accepted_number_of : (digits : List ℕ) → runs M.Between [] digits ≡ Some (M.Number (number_of digits)) → Accepted (number digits)
accepted_number_of digits run = record {
  kind = K.Token (H.Number (number_of digits));
  fits = refl;
  how = inr (record { mode = M.Number (number_of digits); run = run; breaks = λ byte stops. number_breaks (number_of digits) byte stops; last = refl });
}

numeral_runs : (d : ℕ) (digits : List ℕ) → is_numeral (d ∷ digits) ≡ true → number_of (d ∷ digits) ≤ greatest → runs M.Between [] (d ∷ digits) ≡ Some (M.Number (number_of (d ∷ digits)))
numeral_runs d digits is fits = by (d == 48) refl is
  where
    value_is : 10 * 0 + (d - 48) ≡ d - 48
    value_is = omega arith

    by : (zero' : Bool) → (d == 48) ≡ zero' → (if zero' then bytes_eq digits [] else is_digit d && list_all is_digit digits) ≡ true → runs M.Between [] (d ∷ digits) ≡ Some (M.Number (number_of (d ∷ digits)))
    by true same is' =
        let none = same_bytes digits [] is' in
        let digit : is_digit d ≡ true = ap is_digit (same_byte d 48 same) in
        run_more M.Between (M.Number (d - 48)) (M.Number (number_of (d ∷ digits))) [] digits d (ap S.Reads (first_digit d digit))
        (ap (runs (M.Number (d - 48)) (d ∷ [])) none ∙ ap (λ (n : ℕ). Some (M.Number n)) (sym value_is ∙ ap (number_after (10 * 0 + (d - 48))) (sym none)))
    by false other is' =
        let parts = and_parts (is_digit d) (list_all is_digit digits) is' in
        let low = leb-true 48 d (and_parts (nat_le 48 d) (nat_le d 57) parts.0).0 in
        let not_zero : d ≡ 48 → ⊥ = λ same. (let is'' = eq-eqb d 48 same in cc) in
        let positive : 0 < d - 48 = omega arith in
        let start = ap (λ (n : ℕ). number_after n digits) value_is in
        run_more M.Between (M.Number (d - 48)) (M.Number (number_of (d ∷ digits))) [] digits d (ap S.Reads (first_digit d parts.0))
        (number_runs (d - 48) (d ∷ []) digits parts.1 positive (subst (λ (n : ℕ). n ≤ greatest) start fits) ∙ ap (λ (n : ℕ). Some (M.Number n)) (sym start))

accepted_number : (digits : List ℕ) → is_piece (number digits) ≡ true → Accepted (number digits)
accepted_number [] is = absurd (cc)
accepted_number (d ∷ digits) is =
    let parts = and_parts (is_numeral (d ∷ digits)) (nat_le (number_of (d ∷ digits)) greatest) is in
    accepted_number_of (d ∷ digits) (numeral_runs d digits parts.0 (leb-true (number_of (d ∷ digits)) greatest parts.1))

-- ---- signs

abbrev is_sign_mode : Option Mode → Bool
is_sign_mode (Some M.Sign) = true
is_sign_mode mode = false

sign_mode : (mode : Option Mode) → is_sign_mode mode ≡ true → mode ≡ Some M.Sign
sign_mode None is = absurd (cc)
sign_mode (Some M.Between) is = absurd (cc)
sign_mode (Some M.Word) is = absurd (cc)
sign_mode (Some (M.Number value)) is = absurd (cc)
sign_mode (Some M.Sign) is = refl
sign_mode (Some M.Return) is = absurd (cc)
sign_mode (Some M.Comment) is = absurd (cc)
sign_mode (Some (M.OneQuote mark)) is = absurd (cc)
sign_mode (Some (M.TwoQuotes mark)) is = absurd (cc)
sign_mode (Some (M.Inside quote quotes)) is = absurd (cc)
sign_mode (Some (M.Escape quote)) is = absurd (cc)
sign_mode (Some (M.InsideReturn mark)) is = absurd (cc)

sign_runs : (bytes : List ℕ) → is_sign bytes ≡ true → runs M.Between [] bytes ≡ Some M.Sign
sign_runs bytes is = sign_mode (runs M.Between [] bytes) (in_table (λ one. is_sign_mode (runs M.Between [] one)) signs bytes refl is)

-- a sign, however it is numbered
pub breaking_sign : (bytes : List ℕ) (n : ℕ) → is_sign bytes ≡ true → sign_number bytes ≡ Some n → BreaksIn (sign bytes) (K.Token (H.Sign (sign_at n)))
breaking_sign bytes n is same = record {
  mode = M.Sign;
  run = sign_runs bytes is;
  breaks = λ byte stops. (let none : is_some (sign_number (bytes ++ byte ∷ [])) ≡ false = is_sign-number (bytes ++ byte ∷ []) ∙ stops in rw (none, same) refl);
  last = ap last_sign same;
}

accepted_sign : (bytes : List ℕ) → is_sign bytes ≡ true → Accepted (sign bytes)
accepted_sign bytes is = with_number (sign_number bytes) refl
  where
    with_number : (number' : Option ℕ) → sign_number bytes ≡ number' → Accepted (sign bytes)
    with_number None same = absurd (differ (is_sign bytes) is (sym (is_sign-number bytes) ∙ ap is_some same))
    with_number (Some n) same = record {
      kind = K.Token (H.Sign (sign_at n));
      fits = (n, refl, same);
      how = inr (record {
        mode = M.Sign;
        run = sign_runs bytes is;
        breaks = λ byte stops. (let none : is_some (sign_number (bytes ++ byte ∷ [])) ≡ false = is_sign-number (bytes ++ byte ∷ []) ∙ stops in rw (none, same) refl);
        last = ap last_sign same;
      });
    }

-- ---- blanks, comments, line ends

comment_runs : (begun bytes : List ℕ) → list_all (λ byte. not (ends_line byte)) bytes ≡ true → runs M.Comment begun bytes ≡ Some M.Comment
comment_runs begun [] all = refl
comment_runs begun (byte ∷ bytes) all =
    let parts = and_parts (not (ends_line byte)) (list_all (λ byte. not (ends_line byte)) bytes) all in
    let stays : ends_line byte ≡ false = not-true (ends_line byte) parts.0 in
    run_more M.Comment M.Comment M.Comment begun bytes byte (rw stays refl) (comment_runs (begun ++ byte ∷ []) bytes parts.1)

not_false : (b : Bool) → not b ≡ false → b ≡ true
not_false true is = refl
not_false false is = cc

accepted_comment : (bytes : List ℕ) → is_piece (comment bytes) ≡ true → Accepted (comment bytes)
accepted_comment bytes is = record {
  kind = K.Comment;
  fits = refl;
  how = inr (record {
    mode = M.Comment;
    run = run_more M.Between M.Comment M.Comment [] bytes 35 refl (comment_runs (35 ∷ []) bytes is);
    breaks = λ byte stops. (let ends' : ends_line byte ≡ true = not_false (ends_line byte) stops in rw ends' refl);
    last = refl;
  });
}

accepted_blank : (byte : ℕ) → is_piece (blank byte) ≡ true → Accepted (blank byte)
accepted_blank byte is = record {
  kind = K.Blank;
  fits = refl;
  how = inl (record { front = []; byte = byte; mode = M.Between; bytes_are = refl; run = refl; ends = rw is refl });
}

pub accepted_line_end : (r : Bool) → Accepted (line_end r)
accepted_line_end false = record { kind = K.LineEnd; fits = refl; how = inl (record { front = []; byte = 10; mode = M.Between; bytes_are = refl; run = refl; ends = refl }) }
accepted_line_end true = record { kind = K.LineEnd; fits = refl; how = inl (record { front = 13 ∷ []; byte = 10; mode = M.Return; bytes_are = refl; run = refl; ends = refl }) }

-- ---- literals

abbrev item_quotes : Item → ℕ
item_quotes (plain quotes byte) = quotes
item_quotes (escape quotes name) = quotes
item_quotes (break quotes return) = quotes

abbrev item_tail : Item → List ℕ
item_tail (plain quotes byte) = byte ∷ []
item_tail (escape quotes name) = 92 ∷ name ∷ []
item_tail (break quotes return) = line_end_text return

item_parts : (mark : ℕ) (item : Item) → item_text mark item ≡ replicate (item_quotes item) mark ++ item_tail item
item_parts mark (plain quotes byte) = refl
item_parts mark (escape quotes name) = refl
item_parts mark (break quotes return) = refl

few_of : (mark : ℕ) (triple : Bool) (item : Item) → is_item mark triple item ≡ true → are_quotes triple (item_quotes item) ≡ true
few_of mark triple (plain quotes byte) is =
    let a = and_parts (are_quotes triple quotes && not (byte == mark) && not (byte == 92) && not (byte == 10)) (not (byte == 13)) is in
    let b = and_parts (are_quotes triple quotes && not (byte == mark) && not (byte == 92)) (not (byte == 10)) a.0 in
    let c = and_parts (are_quotes triple quotes && not (byte == mark)) (not (byte == 92)) b.0 in
    (and_parts (are_quotes triple quotes) (not (byte == mark)) c.0).0
few_of mark triple (escape quotes name) is = (and_parts (are_quotes triple quotes) (is_escape name) is).0
few_of mark triple (break quotes return) is = (and_parts (are_quotes triple quotes) triple is).0

module _ (quote : Quote) (slash : (92 == quote.mark) ≡ false) (cr : (13 == quote.mark) ≡ false) (lf : (10 == quote.mark) ≡ false) where
  -- one quote more, which does not close the literal
  quote_goes : (quotes : ℕ) (begun longer : List ℕ) → (not quote.triple || nat_le 2 quotes) ≡ false → step (M.Inside quote quotes) begun longer quote.mark ≡ S.Reads (R.Goes (M.Inside quote (quotes + 1)))
  quote_goes quotes begun longer opens = let same = eq-eqb quote.mark quote.mark refl in rw (same, opens) refl

  quotes_run : (quotes more : ℕ) (begun : List ℕ) → quote.triple ≡ true → quotes + more ≤ 2 → runs (M.Inside quote quotes) begun (replicate more quote.mark) ≡ Some (M.Inside quote (quotes + more))
  quotes_run quotes zero begun triple few = ap (λ (n : ℕ). Some (M.Inside quote n)) (sym (add-zero quotes))
  quotes_run quotes (suc more) begun triple few =
      let below : nat_le 2 quotes ≡ false = false_of (nat_le 2 quotes) (λ le. let low = leb-true 2 quotes le in omega arith) in
      let opens : (not quote.triple || nat_le 2 quotes) ≡ false = rw (triple, below) refl in
      let count : (quotes + 1) + more ≡ quotes + suc more = omega arith in
      run_more (M.Inside quote quotes) (M.Inside quote (quotes + 1)) (M.Inside quote (quotes + suc more)) begun (replicate more quote.mark) quote.mark
      (quote_goes quotes begun (begun ++ quote.mark ∷ []) opens)
      (quotes_run (quotes + 1) more (begun ++ quote.mark ∷ []) triple (omega arith) ∙ ap (λ (n : ℕ). Some (M.Inside quote n)) count)

  marks_run : (triple : Bool) (more : ℕ) (begun : List ℕ) → quote.triple ≡ triple → are_quotes triple more ≡ true → runs (M.Inside quote 0) begun (replicate more quote.mark) ≡ Some (M.Inside quote more)
  marks_run true more begun is few =
      let high = leb-true more 2 few in
      let count : 0 + more ≡ more = omega arith in
      quotes_run 0 more begun is (omega arith) ∙ ap (λ (n : ℕ). Some (M.Inside quote n)) count
  marks_run false more begun is few =
      let none = same_byte more 0 few in
      ap (λ (n : ℕ). runs (M.Inside quote 0) begun (replicate n quote.mark)) none ∙ ap (λ (n : ℕ). Some (M.Inside quote n)) (sym none)

  -- what stands behind an item's quotes, in a mode in which the literal goes on
  tail_run : (mode : Mode) (quotes : ℕ) (begun : List ℕ) (item : Item) → ((byte : ℕ) (b longer : List ℕ) → (byte == quote.mark) ≡ false → step mode b longer byte ≡ S.Reads (inside_step quote quotes byte))
      → is_item quote.mark quote.triple item ≡ true → runs mode begun (item_tail item) ≡ Some (M.Inside quote 0)
  tail_run mode quotes begun (plain n byte) acts is =
      let a = and_parts (are_quotes quote.triple n && not (byte == quote.mark) && not (byte == 92) && not (byte == 10)) (not (byte == 13)) is in
      let b = and_parts (are_quotes quote.triple n && not (byte == quote.mark) && not (byte == 92)) (not (byte == 10)) a.0 in
      let c = and_parts (are_quotes quote.triple n && not (byte == quote.mark)) (not (byte == 92)) b.0 in
      let d = and_parts (are_quotes quote.triple n) (not (byte == quote.mark)) c.0 in
      let no_mark = not-true (byte == quote.mark) d.1 in
      let no_slash = not-true (byte == 92) c.1 in
      let no_lf = not-true (byte == 10) b.1 in
      let no_cr = not-true (byte == 13) a.1 in
      let goes : inside_step quote quotes byte ≡ R.Goes (M.Inside quote 0) = rw (no_mark, no_slash, no_cr, no_lf) refl in
      run_one mode (M.Inside quote 0) begun byte (acts byte begun (begun ++ byte ∷ []) no_mark ∙ ap S.Reads goes)
  tail_run mode quotes begun (escape n name) acts is =
      let parts = and_parts (are_quotes quote.triple n) (is_escape name) is in
      let goes : inside_step quote quotes 92 ≡ R.Goes (M.Escape quote) = rw slash refl in
      run_more mode (M.Escape quote) (M.Inside quote 0) begun (name ∷ []) 92 (acts 92 begun (begun ++ 92 ∷ []) slash ∙ ap S.Reads goes)
      (run_one (M.Escape quote) (M.Inside quote 0) (begun ++ 92 ∷ []) name (rw parts.1 refl))
  tail_run mode quotes begun (break n false) acts is =
      let parts = and_parts (are_quotes quote.triple n) quote.triple is in
      let goes : inside_step quote quotes 10 ≡ R.Goes (M.Inside quote 0) = rw (lf, parts.1) refl in
      run_one mode (M.Inside quote 0) begun 10 (acts 10 begun (begun ++ 10 ∷ []) lf ∙ ap S.Reads goes)
  tail_run mode quotes begun (break n true) acts is =
      let parts = and_parts (are_quotes quote.triple n) quote.triple is in
      let goes : inside_step quote quotes 13 ≡ R.Goes (M.InsideReturn quote.mark) = rw (cr, parts.1) refl in
      let same : M.Inside (record { mark = quote.mark; triple = true }) 0 ≡ M.Inside quote 0 = ap (λ (b : Bool). M.Inside (record { mark = quote.mark; triple = b }) 0) (sym parts.1) in
      run_more mode (M.InsideReturn quote.mark) (M.Inside quote 0) begun (10 ∷ []) 13 (acts 13 begun (begun ++ 13 ∷ []) cr ∙ ap S.Reads goes)
      (ap (λ (m : Mode). Some m) same)

  item_run : (begun : List ℕ) (item : Item) → is_item quote.mark quote.triple item ≡ true → runs (M.Inside quote 0) begun (item_text quote.mark item) ≡ Some (M.Inside quote 0)
  item_run begun item is =
      let marks : List ℕ = replicate (item_quotes item) quote.mark in
      ap (runs (M.Inside quote 0) begun) (item_parts quote.mark item)
      ∙ runs_on (M.Inside quote 0) (M.Inside quote (item_quotes item)) (M.Inside quote 0) begun marks (item_tail item)
      (marks_run quote.triple (item_quotes item) begun refl (few_of quote.mark quote.triple item is))
      (tail_run (M.Inside quote (item_quotes item)) (item_quotes item) (begun ++ marks) item (λ byte b longer other. refl) is)

  items_run : (begun : List ℕ) (items : List Item) → list_all (is_item quote.mark quote.triple) items ≡ true → runs (M.Inside quote 0) begun (items_text quote.mark items) ≡ Some (M.Inside quote 0)
  items_run begun [] all = refl
  items_run begun (item ∷ items) all =
      let parts = and_parts (is_item quote.mark quote.triple item) (list_all (is_item quote.mark quote.triple) items) all in
      runs_on (M.Inside quote 0) (M.Inside quote 0) (M.Inside quote 0) begun (item_text quote.mark item) (items_text quote.mark items)
      (item_run begun item parts.0) (items_run (begun ++ item_text quote.mark item) items parts.1)

first_mark : (mark : ℕ) → is_mark mark ≡ true → first_step mark ≡ R.Goes (M.OneQuote mark)
first_mark mark is =
    or_split (mark == 39) (mark == 34) is
    (λ same. subst (λ (m : ℕ). first_step m ≡ R.Goes (M.OneQuote m)) (sym (same_byte mark 39 same)) refl)
    (λ same. subst (λ (m : ℕ). first_step m ≡ R.Goes (M.OneQuote m)) (sym (same_byte mark 34 same)) refl)

pub not_mark : (byte mark : ℕ) → is_mark mark ≡ true → (byte == 39) ≡ false → (byte == 34) ≡ false → (byte == mark) ≡ false
not_mark byte mark is one two =
    or_split (mark == 39) (mark == 34) is
    (λ same. ap (λ (m : ℕ). byte == m) (same_byte mark 39 same) ∙ one)
    (λ same. ap (λ (m : ℕ). byte == m) (same_byte mark 34 same) ∙ two)

-- the whole literal but its last quote was read
closed_literal : (mark : ℕ) (triple : Bool) (items : List Item) (front : List ℕ) (quotes : ℕ) → spelled (literal mark triple items) ≡ front ++ mark ∷ []
    → runs M.Between [] front ≡ Some (M.Inside (record { mark = mark; triple = triple }) quotes) → (not triple || nat_le 2 quotes) ≡ true → Accepted (literal mark triple items)
closed_literal mark triple items front quotes bytes_are run closes = record {
  kind = K.Token (H.Text (record { mark = mark; triple = triple }));
  fits = refl;
  how = inl (record {
    front = front;
    byte = mark;
    mode = M.Inside (record { mark = mark; triple = triple }) quotes;
    bytes_are = bytes_are;
    run = run;
    ends = let same = eq-eqb mark mark refl in rw (same, closes) refl;
  });
}

step_same : (mark : ℕ) (then' else' : Step) → (if mark == mark then then' else else') ≡ then'
step_same mark then' else' = let same = eq-eqb mark mark refl in rw same refl

long_start : (mark : ℕ) → is_mark mark ≡ true → runs M.Between [] (mark ∷ mark ∷ mark ∷ []) ≡ Some (M.Inside (record { mark = mark; triple = true }) 0)
long_start mark is =
    let long : Mode = M.Inside (record { mark = mark; triple = true }) 0 in
    run_more M.Between (M.OneQuote mark) long [] (mark ∷ mark ∷ []) mark (ap S.Reads (first_mark mark is))
    (run_more (M.OneQuote mark) (M.TwoQuotes mark) long (mark ∷ []) (mark ∷ []) mark (step_same mark _ _)
    (run_one (M.TwoQuotes mark) long (mark ∷ mark ∷ []) mark (step_same mark _ _)))

accepted_long : (mark : ℕ) (items : List Item) → is_mark mark ≡ true → list_all (is_item mark true) items ≡ true → Accepted (literal mark true items)
accepted_long mark items is all =
    let quote : Quote = record { mark = mark; triple = true } in
    let q : List ℕ = mark ∷ mark ∷ mark ∷ [] in
    let i : List ℕ = items_text mark items in
    let slash = not_mark 92 mark is refl refl in
    let cr = not_mark 13 mark is refl refl in
    let lf = not_mark 10 mark is refl refl in
    closed_literal mark true items ((q ++ i) ++ mark ∷ mark ∷ []) 2 (sym (append_assoc (q ++ i) (mark ∷ mark ∷ []) (mark ∷ [])))
    (runs_on M.Between (M.Inside quote 0) (M.Inside quote 2) [] (q ++ i) (mark ∷ mark ∷ [])
    (runs_on M.Between (M.Inside quote 0) (M.Inside quote 0) [] q i (long_start mark is) (items_run quote slash cr lf q items all))
    (marks_run quote slash cr lf true 2 (q ++ i) refl refl))
    refl

accepted_empty : (mark : ℕ) → is_mark mark ≡ true → Accepted (literal mark false [])
accepted_empty mark is = record {
  kind = K.Token (H.Text (record { mark = mark; triple = false }));
  fits = refl;
  how = inr (record {
    mode = M.TwoQuotes mark;
    run = run_more M.Between (M.OneQuote mark) (M.TwoQuotes mark) [] (mark ∷ []) mark (ap S.Reads (first_mark mark is))
        (run_one (M.OneQuote mark) (M.TwoQuotes mark) (mark ∷ []) mark (step_same mark _ _));
    breaks = λ byte stops. rw stops refl;
    last = refl;
  });
}

accepted_short : (mark : ℕ) (item : Item) (items : List Item) → is_mark mark ≡ true → list_all (is_item mark false) (item ∷ items) ≡ true → Accepted (literal mark false (item ∷ items))
accepted_short mark item items is all =
    let quote : Quote = record { mark = mark; triple = false } in
    let parts = and_parts (is_item mark false item) (list_all (is_item mark false) items) all in
    let slash = not_mark 92 mark is refl refl in
    let cr = not_mark 13 mark is refl refl in
    let lf = not_mark 10 mark is refl refl in
    let none : item_quotes item ≡ 0 = same_byte (item_quotes item) 0 (few_of mark false item parts.0) in
    let text : item_text mark item ≡ item_tail item = item_parts mark item ∙ ap (λ (n : ℕ). replicate n mark ++ item_tail item) none in
    let i : List ℕ = items_text mark items in
    closed_literal mark false (item ∷ items) (mark ∷ (item_text mark item ++ i)) 0 refl
    (run_more M.Between (M.OneQuote mark) (M.Inside quote 0) [] (item_text mark item ++ i) mark (ap S.Reads (first_mark mark is))
    (runs_on (M.OneQuote mark) (M.Inside quote 0) (M.Inside quote 0) (mark ∷ []) (item_text mark item) i
    (ap (runs (M.OneQuote mark) (mark ∷ [])) text ∙ tail_run quote slash cr lf (M.OneQuote mark) 0 (mark ∷ []) item (λ byte b longer other. rw other refl) parts.0)
    (items_run quote slash cr lf (mark ∷ item_text mark item) items parts.1)))
    refl

pub accepted : (p : Piece) → is_piece p ≡ true → Accepted p
accepted (word name) is = accepted_word name is
accepted (number digits) is = accepted_number digits is
accepted (sign bytes) is = accepted_sign bytes is
accepted (literal mark true items) is = let parts = and_parts (is_mark mark) (list_all (is_item mark true) items) is in accepted_long mark items parts.0 parts.1
accepted (literal mark false []) is = accepted_empty mark (and_parts (is_mark mark) true is).0
accepted (literal mark false (item ∷ items)) is = let parts = and_parts (is_mark mark) (list_all (is_item mark false) (item ∷ items)) is in accepted_short mark item items parts.0 parts.1
accepted (blank byte) is = accepted_blank byte is
accepted (comment bytes) is = accepted_comment bytes is
accepted (line_end r) is = accepted_line_end r
