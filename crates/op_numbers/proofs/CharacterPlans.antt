-- Characters and texts as plans.
use Rattle.std.proofs.Common.{◌≡◌, ◌∙◌, refl, ap, arith, ℕ, suc, ◌+◌, ◌%◌, ◌/◌, ℤ, pos, negsuc, Bool, true, false, cond, ltb, le-leb, ◌&&◌, nat_le, nat_lt, List, [], ◌∷◌, length, Option, Some, None, is_some, slice_get, encode_utf8, codes, if◌then◌else◌}
use Rattle.py_model.specs.Faults.{fault, value_error, wrong_kind}
use Rattle.py_model.specs.Operands.{with_text, gives_int, gives_text}
use Rattle.py_model.specs.Plan.{Plan}
use Rattle.py_model.specs.Texts.{is_continuation, characters, size, onto_first, is_scalar}
use Rattle.py_value.specs.Contents.{contents}
use Rattle.py_value.specs.Seen.{bytes_of}
use Rattle.py_value.specs.Values.{ValuesView}
use Rattle.py_value.specs.declared.value.Value.{Value}
use Rattle.py_value.specs.declared.value.Value.TheVariants.{None as NoneValue, Bool as TruthValue, Int, Text, Tuple, Range, Fn, Class, Exc, Builtin, Object}
use Rattle.py_model.proofs.Tuples.{some_tuple}
use Rattle.op_numbers.specs.Characters.{only, character_of, text_of_value}

-- a text, or another value
abbrev pub or_no_text : ValuesView → Option ℕ → (List ℕ → Plan) → Plan
or_no_text table (Some id) go = go (bytes_of table id)
or_no_text table None go = wrong_kind

pub text_is : (table : ValuesView) (v : Value) (go : List ℕ → Plan) → with_text (contents table v) go ≡ or_no_text table (text_of_value v) go
text_is table NoneValue go = refl
text_is table (TruthValue b) go = refl
text_is table (Int i) go = refl
text_is table (Text id) go = refl
text_is table (Tuple id) go = ap (λ c. with_text c go) (some_tuple table id).1
text_is table (Range a b c) go = refl
text_is table (Fn place) go = refl
text_is table (Class place) go = refl
text_is table (Exc number) go = refl
text_is table (Builtin number) go = refl
text_is table (Object o) go = refl

-- one character, or not
pub many : (first : ℕ) (rest : List ℕ) → is_some (slice_get rest 0) ≡ true → only (first ∷ rest) ≡ None
many first [] is = absurd (cc)
many first (next ∷ rest) is = refl

pub one : (first : ℕ) (rest : List ℕ) → is_some (slice_get rest 0) ≡ false → only (first ∷ rest) ≡ Some first
one first [] is = refl
one first (next ∷ rest) is = absurd (cc)

abbrev pub no_character : Plan
no_character = fault value_error (codes "not a character")

abbrev pub by_characters : List ℕ → Plan
by_characters (code ∷ []) = gives_int (pos code)
by_characters other = no_character

abbrev pub code_of : Option ℕ → Plan
code_of (Some code) = gives_int (pos code)
code_of None = no_character

pub ord_is : (all : List ℕ) → by_characters all ≡ code_of (only all)
ord_is [] = refl
ord_is (code ∷ []) = refl
ord_is (code ∷ next ∷ rest) = refl

abbrev pub by_code : ℤ → Plan
by_code (pos code) = if is_scalar code then gives_text (encode_utf8 code) else no_character
by_code (negsuc n) = no_character

abbrev pub text_by : Option ℕ → Plan
text_by (Some code) = gives_text (encode_utf8 code)
text_by None = no_character

by_test : (b : Bool) (code : ℕ) → (if b then gives_text (encode_utf8 code) else no_character) ≡ text_by (if b then Some code else None)
by_test true code = refl
by_test false code = refl

pub chr_is : (i : ℤ) → by_code i ≡ text_by (character_of i)
chr_is (pos code) = by_test (is_scalar code) code
chr_is (negsuc n) = refl

-- a character is one
onto_one : (byte : ℕ) (all : List (List ℕ)) → length all ≡ 1 → length (onto_first byte all) ≡ 1
onto_one byte [] is = absurd (omega (arith, is))
onto_one byte (first ∷ rest) is = is

goes_on : (x : ℕ) → is_continuation (128 + x % 64) ≡ true
goes_on x = both (nat_le 128 (128 + x % 64)) (nat_lt (128 + x % 64) 192) (le-leb 128 (128 + x % 64) (omega (arith))) (le-leb (suc (128 + x % 64)) 192 (omega (arith)))
  where
    both : (a b : Bool) → a ≡ true → b ≡ true → (a && b) ≡ true
    both true true first second = refl
    both false b first second = first
    both true false first second = second

longer : (byte next : ℕ) (rest : List ℕ) → is_continuation next ≡ true → size (next ∷ rest) ≡ 1 → size (byte ∷ next ∷ rest) ≡ 1
longer byte next rest is one = ap (λ t. length (if t then onto_first byte (characters (next ∷ rest)) else (byte ∷ []) ∷ characters (next ∷ rest))) is ∙ onto_one byte (characters (next ∷ rest)) one

by_length : (x y z : Bool) (a b c d : List ℕ) → size a ≡ 1 → size b ≡ 1 → size c ≡ 1 → size d ≡ 1 → size (cond x a (cond y b (cond z c d))) ≡ 1
by_length true y z a b c d one two three four = one
by_length false true z a b c d one two three four = two
by_length false false true a b c d one two three four = three
by_length false false false a b c d one two three four = four

pub size_one : (c : ℕ) → size (encode_utf8 c) ≡ 1
unfolding lib.Utf8.encode
size_one c = by_length (ltb c 128) (ltb c 2048) (ltb c 65536) (c ∷ []) ((192 + c / 64) ∷ (128 + c % 64) ∷ [])
    ((224 + c / 4096) ∷ (128 + c / 64 % 64) ∷ (128 + c % 64) ∷ []) ((240 + c / 262144) ∷ (128 + c / 4096 % 64) ∷ (128 + c / 64 % 64) ∷ (128 + c % 64) ∷ [])
    refl (last (192 + c / 64) c) (longer (224 + c / 4096) (128 + c / 64 % 64) ((128 + c % 64) ∷ []) (goes_on (c / 64)) (last (128 + c / 64 % 64) c))
    (longer (240 + c / 262144) (128 + c / 4096 % 64) ((128 + c / 64 % 64) ∷ (128 + c % 64) ∷ []) (goes_on (c / 4096))
    (longer (128 + c / 4096 % 64) (128 + c / 64 % 64) ((128 + c % 64) ∷ []) (goes_on (c / 64)) (last (128 + c / 64 % 64) c)))
  where
    last : (byte x : ℕ) → size (byte ∷ (128 + x % 64) ∷ []) ≡ 1
    last byte x = longer byte (128 + x % 64) [] (goes_on x) refl
