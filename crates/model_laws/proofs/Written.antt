-- `int` undoes `str` of a number, and `ord` undoes `chr`.
use Rattle.std.proofs.Common.{◌≡◌, ◌∙◌, refl, sym, ap, ap₂, subst, arith, leb-true, leb-false, ltb-true, ℕ, zero, suc, ◌+◌, ◌-◌, ◌*◌, ◌/◌, ◌%◌, ◌<◌, ◌≤◌, ◌==◌, ◌&&◌, ◌||◌, nat_le, nat_lt, ℤ, pos, negsuc, neg_ℤ, Bool, true, false, if◌then◌else◌, cond, append-nil, List, [], ◌∷◌, ◌++◌, length, Option, Some, None, codes}
use Rattle.std.proofs.lemmas.Bool.{ne_eqb}
use Rattle.std.proofs.lemmas.List.{length-append}
use Rattle.std.proofs.lemmas.Str.{chars-encodes}
use Rattle.std.specs.Prelude.{chars, encode_utf8}
use lib.Utf8.{scalars}
use Rattle.std.specs.Option.{option_map}
use Rattle.py_value.specs.Contents.{int, text}
use Rattle.py_model.specs.Arithmetic.{int_plan, chr_plan, ord_plan}
use Rattle.py_model.specs.Effect.{Answers, effect}
use Rattle.py_model.specs.Faults.{fault, value_error, out_of_range}
use Rattle.py_model.specs.Numbers.{is_int, digits_of, int_text}
use Rattle.py_model.specs.Operands.{gives_int, gives_text}
use Rattle.py_model.specs.Plan.{Plan, writes, done}
use Rattle.py_model.specs.Printing.{str_of}
use Rattle.py_model.specs.Store.{RunStore}
use Rattle.py_model.specs.Texts.{is_white, without_white_front, without_white_back, without_white, is_digit, are_digits, digits_value, number_written, int_written, is_scalar}
use Rattle.model_laws.specs.Results.{gives, DoesAlone}

differ : true ≡ false → ⊥
differ is = cc

-- a byte is a digit, or a sign, and so no white space
abbrev IsInk : ℕ → Type 0
IsInk byte = is_white byte ≡ false

abbrev AreInk : List ℕ → Type 0
AreInk [] = Unit {0}
AreInk (byte ∷ bytes) = IsInk byte × AreInk bytes

front_stays : (byte : ℕ) (bytes : List ℕ) → IsInk byte → without_white_front (byte ∷ bytes) ≡ byte ∷ bytes
front_stays byte bytes ink = ap (λ (b : Bool). if b then without_white_front bytes else byte ∷ bytes) ink

abbrev in_front : ℕ → List ℕ → List ℕ
in_front first [] = if is_white first then [] else first ∷ []
in_front first (next ∷ rest) = first ∷ next ∷ rest

back_stays : (bytes : List ℕ) → AreInk bytes → without_white_back bytes ≡ bytes
back_stays [] ink = refl
back_stays (byte ∷ bytes) ink = ap (in_front byte) (back_stays bytes ink.1) ∙ by_rest bytes
  where
    by_rest : (rest : List ℕ) → in_front byte rest ≡ byte ∷ rest
    by_rest [] = ap (λ (b : Bool). if b then [] else byte ∷ []) ink.0
    by_rest (next ∷ rest) = refl

all_stays : (byte : ℕ) (bytes : List ℕ) → AreInk (byte ∷ bytes) → without_white (byte ∷ bytes) ≡ byte ∷ bytes
all_stays byte bytes ink = ap without_white_back (front_stays byte bytes ink.0) ∙ back_stays (byte ∷ bytes) ink

-- digits
both_hold : (b c : Bool) → (b && c) ≡ true → (b ≡ true) × (c ≡ true)
both_hold true c is = (refl, is)
both_hold false c is = absurd (differ (sym is))

digit_between : (byte : ℕ) → is_digit byte ≡ true → (48 ≤ byte) × (byte ≤ 57)
digit_between byte is = let both = both_hold (nat_le 48 byte) (nat_le byte 57) is in (leb-true 48 byte both.0, leb-true byte 57 both.1)

digit_is : (n : ℕ) → n < 10 → is_digit (48 + n) ≡ true
digit_is n less = by_tests (nat_le 48 (48 + n)) (nat_le (48 + n) 57) refl refl
  where
    by_tests : (b c : Bool) → nat_le 48 (48 + n) ≡ b → nat_le (48 + n) 57 ≡ c → (b && c) ≡ true
    by_tests true true one other = refl
    by_tests false c one other = let more = leb-false 48 (48 + n) one in absurd (omega (arith, more))
    by_tests true false one other = let more = leb-false (48 + n) 57 other in absurd (omega (arith, more, less))

digit_ink : (byte : ℕ) → is_digit byte ≡ true → IsInk byte
digit_ink byte is = let between = digit_between byte is in
    ap (λ (b : Bool). b || (nat_le 9 byte && nat_le byte 13)) (ne_eqb byte 32 (λ same. omega (arith, between.0, same)))
    ∙ by_tests (nat_le 9 byte) (nat_le byte 13) refl between.0
  where
    by_tests : (b c : Bool) → nat_le byte 13 ≡ c → 48 ≤ byte → (b && c) ≡ false
    by_tests true true one most = absurd (omega (arith, leb-true byte 13 one, most))
    by_tests true false one most = refl
    by_tests false c one most = refl

digits_ink : (bytes : List ℕ) → are_digits bytes ≡ true → AreInk bytes
digits_ink [] is = tt
digits_ink (byte ∷ bytes) is = let both = both_hold (is_digit byte) (are_digits bytes) is in (digit_ink byte both.0, digits_ink bytes both.1)

more_digits : (xs ys : List ℕ) → are_digits xs ≡ true → are_digits ys ≡ true → are_digits (xs ++ ys) ≡ true
more_digits [] ys one other = other
more_digits (x ∷ xs) ys one other = let both = both_hold (is_digit x) (are_digits xs) one in ap₂ (λ (b c : Bool). b && c) both.0 (more_digits xs ys both.1 other)

digits_are : (most n : ℕ) → are_digits (digits_of most n) ≡ true
digits_are zero n = refl
digits_are (suc most) n = by_test (nat_lt n 10) refl (digits_are most (n / 10))
  where
    by_test : (b : Bool) → nat_lt n 10 ≡ b → are_digits (digits_of most (n / 10)) ≡ true → are_digits (if b then (48 + n) ∷ [] else (digits_of most (n / 10) ++ (48 + n % 10) ∷ [])) ≡ true
    by_test true is each = ap (λ (b : Bool). b && true) (digit_is n (ltb-true n 10 is))
    by_test false is each = more_digits (digits_of most (n / 10)) ((48 + n % 10) ∷ []) each (ap (λ (b : Bool). b && true) (digit_is (n % 10) (omega arith)))

abbrev tens : ℕ → ℕ
tens zero = 1
tens (suc most) = 10 * tens most

last_digit : (n : ℕ) (xs : List ℕ) (byte : ℕ) → digits_value n (xs ++ byte ∷ []) ≡ digits_value n xs * 10 + (byte - 48)
last_digit n [] byte = refl
last_digit n (x ∷ xs) byte = last_digit (n * 10 + (x - 48)) xs byte

digits_tell : (most n : ℕ) → n < tens most → digits_value 0 (digits_of most n) ≡ n
digits_tell zero n less = omega (arith, less)
digits_tell (suc most) n less = by_test (nat_lt n 10) (digits_tell most (n / 10) (omega (arith, less)))
  where
    one : (n : ℕ) → 0 * 10 + (48 + n - 48) ≡ n
    one n = omega arith

    more : (n m : ℕ) → m ≡ n / 10 → m * 10 + (48 + n % 10 - 48) ≡ n
    more n m is = omega (arith, is)

    by_test : (b : Bool) → digits_value 0 (digits_of most (n / 10)) ≡ n / 10 → digits_value 0 (if b then (48 + n) ∷ [] else (digits_of most (n / 10) ++ (48 + n % 10) ∷ [])) ≡ n
    by_test true rest = one n
    by_test false rest = last_digit 0 (digits_of most (n / 10)) (48 + n % 10) ∙ more n (digits_value 0 (digits_of most (n / 10))) rest

digits_some : (most n : ℕ) → 0 < length (digits_of (suc most) n)
digits_some most n = by_test (nat_lt n 10)
  where
    by_test : (b : Bool) → 0 < length (if b then (48 + n) ∷ [] else (digits_of most (n / 10) ++ (48 + n % 10) ∷ []))
    by_test true = omega arith
    by_test false = omega (arith, length-append (digits_of most (n / 10)) ((48 + n % 10) ∷ []))

abbrev negative : ℕ → ℤ
negative n = neg_ℤ (pos n)

abbrev signed_by : Bool → Bool → ℕ → List ℕ → Option ℤ
signed_by minus plus byte rest = if minus then option_map negative (number_written rest) else if plus then option_map pos (number_written rest) else option_map pos (number_written (byte ∷ rest))

-- what digits write, without a sign and with one
number_of_digits : (bytes : List ℕ) → are_digits bytes ≡ true → 0 < length bytes → number_written bytes ≡ Some (digits_value 0 bytes)
number_of_digits [] is some = absurd (omega (arith, some))
number_of_digits (byte ∷ bytes) is some = ap (λ (b : Bool). if b then Some (digits_value 0 (byte ∷ bytes)) else None) is

unsigned : (bytes : List ℕ) → are_digits bytes ≡ true → 0 < length bytes → int_written bytes ≡ Some (pos (digits_value 0 bytes))
unsigned [] is some = absurd (omega (arith, some))
unsigned (byte ∷ bytes) is some =
    let between = digit_between byte (both_hold (is_digit byte) (are_digits bytes) is).0 in
    ap (λ (row : List ℕ). elim row as (λ r. Option ℤ) [ [] ↦ None | first ∷ rest ↦ signed_by (first == 45) (first == 43) first rest ]) (all_stays byte bytes (digits_ink (byte ∷ bytes) is))
    ∙ (ap (λ (b : Bool). signed_by b (byte == 43) byte bytes) (ne_eqb byte 45 (λ same. omega (arith, between.0, same)))
    ∙ (ap (λ (b : Bool). signed_by false b byte bytes) (ne_eqb byte 43 (λ same. omega (arith, between.0, same)))
    ∙ ap (option_map pos) (number_of_digits (byte ∷ bytes) is some)))

with_minus : (bytes : List ℕ) → are_digits bytes ≡ true → 0 < length bytes → int_written (45 ∷ bytes) ≡ Some (negative (digits_value 0 bytes))
with_minus bytes is some =
    ap (λ (row : List ℕ). elim row as (λ r. Option ℤ) [ [] ↦ None | first ∷ rest ↦ signed_by (first == 45) (first == 43) first rest ]) (all_stays 45 bytes (refl, digits_ink bytes is))
    ∙ ap (option_map negative) (number_of_digits bytes is some)

pub written_back : (i : ℤ) → is_int i ≡ true → int_written (int_text i) ≡ Some i
written_back (pos n) is = unsigned (digits_of 20 n) (digits_are 20 n) (digits_some 19 n) ∙ ap (λ (m : ℕ). Some (pos m)) (digits_tell 20 n (few n (leb-true n 9223372036854775807 is)))
  where
    few : (n : ℕ) → n ≤ 9223372036854775807 → n < tens 20
    few n most = omega (arith, most)
written_back (negsuc n) is = with_minus (digits_of 20 (suc n)) (digits_are 20 (suc n)) (digits_some 19 (suc n)) ∙ ap (λ (m : ℕ). Some (negative m)) (digits_tell 20 (suc n) (few n (leb-true n 9223372036854775807 is)))
  where
    few : (n : ℕ) → n ≤ 9223372036854775807 → suc n < tens 20
    few n most = omega (arith, most)

abbrev int_by : Option ℤ → Plan
int_by None = fault value_error (codes "not an integer")
int_by (Some i) = gives_int i

module _ (store : RunStore) (answers : Answers) where
  pub text_of_number : (i : ℤ) → DoesAlone store (effect store answers (str_of (int i))) (gives (text (int_text i)))
  text_of_number i = record { answer_is = refl; made_is = refl; after_is = refl }

  pub number_of_text : (i : ℤ) → is_int i ≡ true → DoesAlone store (effect store answers (int_plan (text (int_text i) ∷ []))) (gives (int i))
  number_of_text i is = subst (λ (found : Option ℤ). DoesAlone store (effect store answers (int_by found)) (gives (int i))) (sym (written_back i is))
      (subst (λ (b : Bool). DoesAlone store (effect store answers (gives_as b)) (gives (int i))) (sym is) (record { answer_is = refl; made_is = refl; after_is = refl }))
    where
      gives_as : Bool → Plan
      gives_as b = if b then writes (done (int i)) else out_of_range

-- the code of a character
code_small : (code : ℕ) → is_scalar code ≡ true → code < 1114112
code_small code is = by_tests (nat_lt code 55296) (nat_le 57344 code) (nat_lt code 1114112) refl refl is
  where
    by_tests : (b c d : Bool) → nat_lt code 55296 ≡ b → nat_lt code 1114112 ≡ d → (b || (c && d)) ≡ true → code < 1114112
    by_tests true c d one two some = let low = ltb-true code 55296 one in omega (arith, low)
    by_tests false true true one two some = ltb-true code 1114112 two
    by_tests false true false one two some = absurd (differ (sym some))
    by_tests false false d one two some = absurd (differ (sym some))

scalar_is : (code : ℕ) → is_scalar code ≡ true → scalars (code ∷ []) ≡ true
scalar_is code is = by_tests (nat_lt code 55296) (nat_le 57344 code && nat_lt code 1114112) is
  where
    by_tests : (b c : Bool) → (b || c) ≡ true → (cond b true c && true) ≡ true
    by_tests true c some = refl
    by_tests false true some = refl
    by_tests false false some = absurd (differ (sym some))

code_back : (code : ℕ) → is_scalar code ≡ true → chars (encode_utf8 code) ≡ code ∷ []
code_back code is = ap chars (sym (append-nil (encode_utf8 code))) ∙ chars-encodes (code ∷ []) (scalar_is code is)

abbrev code_by : List ℕ → Plan
code_by (code ∷ []) = gives_int (pos code)
code_by other = fault value_error (codes "not a character")

module _ (store : RunStore) (answers : Answers) (code : ℕ) (is : is_scalar code ≡ true) where
  pub character_of_code : DoesAlone store (effect store answers (chr_plan (int (pos code) ∷ []))) (gives (text (encode_utf8 code)))
  character_of_code = subst (λ (b : Bool). DoesAlone store (effect store answers (if b then gives_text (encode_utf8 code) else fault value_error (codes "not a character"))) (gives (text (encode_utf8 code)))) (sym is)
      (record { answer_is = refl; made_is = refl; after_is = refl })

  pub code_of_character : DoesAlone store (effect store answers (ord_plan (text (encode_utf8 code) ∷ []))) (gives (int (pos code)))
  code_of_character = subst (λ (row : List ℕ). DoesAlone store (effect store answers (code_by row)) (gives (int (pos code)))) (sym (code_back code is))
      (subst (λ (b : Bool). DoesAlone store (effect store answers (if b then writes (done (int (pos code))) else out_of_range)) (gives (int (pos code)))) (sym fits) (record { answer_is = refl; made_is = refl; after_is = refl }))
    where
      fits : nat_le code 9223372036854775807 ≡ true
      fits = by_test (nat_le code 9223372036854775807) refl
        where
          by_test : (b : Bool) → nat_le code 9223372036854775807 ≡ b → b ≡ true
          by_test true one = refl
          by_test false one = let more = leb-false code 9223372036854775807 one in let few = code_small code is in absurd (omega (arith, more, few))
