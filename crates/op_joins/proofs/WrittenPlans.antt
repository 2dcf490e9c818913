-- Integers that texts write, as plans.
use Rattle.std.proofs.Common.{◌≡◌, ◌∙◌, refl, sym, ap, arith, ℕ, zero, suc, ◌+◌, ◌*◌, ◌-◌, ◌≤◌, ◌<◌, ◌==◌, drop, ℤ, pos, neg_ℤ, Bool, true, false, Option, Some, None, List, [], ◌∷◌, length, get_or, if◌then◌else◌}
use Rattle.std.specs.Option.{option_map}
use Rattle.py_model.specs.Arithmetic.{int_plan}
use Rattle.py_model.specs.Operands.{gives_int, with_number, of_one}
use Rattle.py_model.specs.Plan.{Plan}
use Rattle.py_model.specs.Texts.{int_written, number_written, all_digits, digits_value, without_white}
use Rattle.py_value.specs.Contents.{Contents, contents, text}
use Rattle.py_value.specs.Seen.{bytes_of}
use Rattle.py_value.specs.Values.{ValuesView}
use Rattle.py_value.specs.declared.value.Value.{Value}
use Rattle.py_value.specs.declared.value.Value.TheVariants.{None as NoneValue, Bool as TruthValue, Int, Text, Tuple, Range, Fn, Class, Exc, Builtin, Object}
use Rattle.op_texts.specs.Operands.{text_of_value}
use Rattle.py_model.proofs.Tuples.{some_tuple}
use Rattle.op_joins.specs.Written.{behind_sign, is_negative, with_sign, as_written}

-- the integer of a word
abbrev pub of_word : List ℕ → Option ℤ
of_word word = if all_digits (behind_sign word) then Some (with_sign (is_negative word) (digits_value 0 (behind_sign word))) else None

mapped : (b : Bool) (f : ℕ → ℤ) (n : ℕ) → option_map f (if b then Some n else None) ≡ (if b then Some (f n) else None)
mapped true f n = refl
mapped false f n = refl

abbrev by_signs : Bool → Bool → ℕ → List ℕ → Option ℤ
by_signs minus plus byte rest = if minus then option_map (λ n. neg_ℤ (pos n)) (number_written rest) else if plus then option_map pos (number_written rest) else option_map pos (number_written (byte ∷ rest))

abbrev digits_by : Bool → Bool → ℕ → List ℕ → List ℕ
digits_by minus plus byte rest = if minus then rest else if plus then rest else byte ∷ rest

signs : (minus plus : Bool) (byte : ℕ) (rest : List ℕ)
    → by_signs minus plus byte rest ≡ (if all_digits (digits_by minus plus byte rest) then Some (with_sign minus (digits_value 0 (digits_by minus plus byte rest))) else None)
signs true plus byte rest = mapped (all_digits rest) (λ n. neg_ℤ (pos n)) (digits_value 0 rest)
signs false true byte rest = mapped (all_digits rest) pos (digits_value 0 rest)
signs false false byte rest = mapped (all_digits (byte ∷ rest)) pos (digits_value 0 (byte ∷ rest))

abbrev signed_word : List ℕ → Option ℤ
signed_word [] = None
signed_word (byte ∷ rest) = by_signs (byte == 45) (byte == 43) byte rest

word_is : (word : List ℕ) → signed_word word ≡ of_word word
word_is [] = refl
word_is (byte ∷ rest) = signs (byte == 45) (byte == 43) byte rest

signed_is : (bytes : List ℕ) → int_written bytes ≡ signed_word (without_white bytes)
signed_is bytes = refl

pub written_is : (bytes : List ℕ) → int_written bytes ≡ of_word (without_white bytes)
written_is bytes = signed_is bytes ∙ word_is (without_white bytes)

pub by_digits : (b : Bool) (i : ℤ) → b ≡ true → (if b then Some i else None) ≡ Some i
by_digits true i is = refl
by_digits false i is = absurd (cc)

pub no_digits : (b : Bool) (i : ℤ) → b ≡ false → (if b then Some i else None) ≡ None
no_digits true i is = absurd (cc)
no_digits false i is = refl

-- digits write no less than what stands before them
pub digits_grow : (n : ℕ) (bytes : List ℕ) → n ≤ digits_value n bytes
digits_grow n [] = omega (arith)
digits_grow n (byte ∷ bytes) = let more = digits_grow (n * 10 + (byte - 48)) bytes in omega (arith, more)

pub one_digit : (n : ℕ) (bytes : List ℕ) (i : ℕ) → i < length bytes → digits_value n (drop i bytes) ≡ digits_value (n * 10 + (get_or bytes i 0 - 48)) (drop (i + 1) bytes)
one_digit n bytes i less = by_suc bytes i less ∙ ap (λ k. digits_value (n * 10 + (get_or bytes i 0 - 48)) (drop k bytes)) (one i)
  where
    one : (i : ℕ) → suc i ≡ i + 1
    one i = omega (arith)

    by_suc : (bytes : List ℕ) (i : ℕ) → i < length bytes → digits_value n (drop i bytes) ≡ digits_value (n * 10 + (get_or bytes i 0 - 48)) (drop (suc i) bytes)
    by_suc [] i less = absurd (omega (arith, less))
    by_suc (byte ∷ bytes) zero less = refl
    by_suc (byte ∷ bytes) (suc i) less = by_suc bytes i (omega (arith, less))

-- behind the last digit
pub all_read : (n : ℕ) (bytes : List ℕ) (i : ℕ) → length bytes ≤ i → digits_value n (drop i bytes) ≡ n
all_read n [] zero past = refl
all_read n [] (suc i) past = refl
all_read n (byte ∷ bytes) zero past = absurd (omega (arith, past))
all_read n (byte ∷ bytes) (suc i) past = all_read n bytes i (omega (arith, past))

-- the operand of `int`
abbrev pub int_of : Contents → Plan
int_of (text bytes) = as_written (int_written bytes)
int_of v = with_number v gives_int

abbrev pub by_text : ValuesView → Value → Option ℕ → Plan
by_text table v (Some id) = as_written (int_written (bytes_of table id))
by_text table v None = with_number (contents table v) gives_int

pub int_is : (operands : List Contents) → int_plan operands ≡ of_one int_of operands
int_is [] = refl
int_is (v ∷ []) = refl
int_is (v ∷ w ∷ more) = refl

pub kind_is : (table : ValuesView) (v : Value) → int_of (contents table v) ≡ by_text table v (text_of_value v)
kind_is table NoneValue = refl
kind_is table (TruthValue b) = refl
kind_is table (Int i) = refl
kind_is table (Text id) = refl
kind_is table (Tuple id) = ap int_of (some_tuple table id).1 ∙ ap (λ c. with_number c gives_int) (sym (some_tuple table id).1)
kind_is table (Range a b c) = refl
kind_is table (Fn place) = refl
kind_is table (Class place) = refl
kind_is table (Exc number) = refl
kind_is table (Builtin number) = refl
kind_is table (Object o) = refl
