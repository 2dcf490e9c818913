-- The characters of a text are the bytes of its code points.
use Rattle.std.proofs.Common.{◌≡◌, ◌∙◌, refl, sym, ap, arith, ℕ, suc, ◌+◌, ◌%◌, ◌/◌, ◌<◌, ◌≤◌, Bool, true, false, cond, ltb, le-leb, leb-true, ◌&&◌, nat_le, nat_lt, List, [], ◌∷◌, ◌++◌, map, length, encode_utf8, encode_utf8_all, chars, IsUtf8, if◌then◌else◌, slice_get, unwrap_or, Some}
use Rattle.std.proofs.lemmas.Bool.{lt-leb}
use Rattle.std.proofs.lemmas.List.{length-map}
use Rattle.std.proofs.lemmas.Str.{chars_from_encodes}
use Rattle.py_model.specs.Plan.{Plan, counts}
use Rattle.py_model.specs.Walks.{walk}
use Rattle.py_value.specs.Contents.{Contents, contents, text}
use Rattle.py_value.specs.Values.{ValuesView}
use Rattle.py_value.specs.declared.value.Value.TheVariants.{Text}
use Rattle.py_model.specs.Texts.{is_continuation, characters, size, onto_first}

-- a character begins here, or nothing stands here
abbrev Begins : List ℕ → Type 0
Begins [] = Unit {0}
Begins (byte ∷ bytes) = is_continuation byte ≡ false

both_true : (a b : Bool) → a ≡ true → b ≡ true → (a && b) ≡ true
both_true true true first second = refl
both_true false b first second = first
both_true true false first second = second

goes_on : (x : ℕ) → is_continuation (128 + x % 64) ≡ true
goes_on x = both_true (nat_le 128 (128 + x % 64)) (nat_lt (128 + x % 64) 192) (le-leb 128 (128 + x % 64) (omega (arith))) (le-leb (suc (128 + x % 64)) 192 (omega (arith)))

high : (byte : ℕ) → 192 ≤ byte → is_continuation byte ≡ false
high byte more = by_low (nat_le 128 byte) (lt-leb (suc byte) 192 (omega (arith, more)))
  where
    by_low : (low : Bool) → nat_lt byte 192 ≡ false → (low && nat_lt byte 192) ≡ false
    by_low false is = refl
    by_low true is = is

low : (byte : ℕ) → byte < 128 → is_continuation byte ≡ false
low byte less = ap (λ t. t && nat_lt byte 192) (lt-leb 128 byte less)

-- the last byte of a character, and one before others of it
last_byte : (byte : ℕ) (rest : List ℕ) → Begins rest → characters (byte ∷ rest) ≡ (byte ∷ []) ∷ characters rest
last_byte byte [] begins = refl
last_byte byte (next ∷ rest) begins = ap (λ t. if t then onto_first byte (characters (next ∷ rest)) else (byte ∷ []) ∷ characters (next ∷ rest)) begins

byte_more : (byte next : ℕ) (bytes first : List ℕ) (others : List (List ℕ)) → is_continuation next ≡ true → characters (next ∷ bytes) ≡ first ∷ others → characters (byte ∷ next ∷ bytes) ≡ (byte ∷ first) ∷ others
byte_more byte next bytes first others goes is = ap (λ t. if t then onto_first byte (characters (next ∷ bytes)) else (byte ∷ []) ∷ characters (next ∷ bytes)) goes ∙ ap (onto_first byte) is

by_length : (P : List ℕ → Type 0) (x y z : Bool) (a b c d : List ℕ) → (x ≡ true → P a) → P b → P c → P d → P (cond x a (cond y b (cond z c d)))
by_length P true y z a b c d one two three four = one refl
by_length P false true z a b c d one two three four = two
by_length P false false true a b c d one two three four = three
by_length P false false false a b c d one two three four = four

pub one_character : (c : ℕ) (rest : List ℕ) → Begins rest → characters (encode_utf8 c ++ rest) ≡ encode_utf8 c ∷ characters rest
unfolding lib.Utf8.encode
one_character c rest begins = by_length (λ bytes. characters (bytes ++ rest) ≡ bytes ∷ characters rest) (ltb c 128) (ltb c 2048) (ltb c 65536) (c ∷ []) ((192 + c / 64) ∷ (128 + c % 64) ∷ [])
    ((224 + c / 4096) ∷ (128 + c / 64 % 64) ∷ (128 + c % 64) ∷ []) ((240 + c / 262144) ∷ (128 + c / 4096 % 64) ∷ (128 + c / 64 % 64) ∷ (128 + c % 64) ∷ [])
    (λ small. last_byte c rest begins) (two (192 + c / 64) c)
    (byte_more (224 + c / 4096) (128 + c / 64 % 64) ((128 + c % 64) ∷ rest) _ _ (goes_on (c / 64)) (two (128 + c / 64 % 64) c))
    (byte_more (240 + c / 262144) (128 + c / 4096 % 64) ((128 + c / 64 % 64) ∷ (128 + c % 64) ∷ rest) _ _ (goes_on (c / 4096))
    (byte_more (128 + c / 4096 % 64) (128 + c / 64 % 64) ((128 + c % 64) ∷ rest) _ _ (goes_on (c / 64)) (two (128 + c / 64 % 64) c)))
  where
    two : (byte x : ℕ) → characters (byte ∷ (128 + x % 64) ∷ rest) ≡ (byte ∷ (128 + x % 64) ∷ []) ∷ characters rest
    two byte x = byte_more byte (128 + x % 64) rest _ _ (goes_on x) (last_byte (128 + x % 64) rest begins)

begins_so : (c : ℕ) (rest : List ℕ) → Begins (encode_utf8 c ++ rest)
unfolding lib.Utf8.encode
begins_so c rest = by_length (λ bytes. Begins (bytes ++ rest)) (ltb c 128) (ltb c 2048) (ltb c 65536) (c ∷ []) ((192 + c / 64) ∷ (128 + c % 64) ∷ [])
    ((224 + c / 4096) ∷ (128 + c / 64 % 64) ∷ (128 + c % 64) ∷ []) ((240 + c / 262144) ∷ (128 + c / 4096 % 64) ∷ (128 + c / 64 % 64) ∷ (128 + c % 64) ∷ [])
    (λ small. low c (less c small)) (high (192 + c / 64) (omega (arith))) (high (224 + c / 4096) (omega (arith))) (high (240 + c / 262144) (omega (arith)))
  where
    less : (c : ℕ) → ltb c 128 ≡ true → c < 128
    less c is = leb-true (suc c) 128 is

all_begin : (cs : List ℕ) → Begins (encode_utf8_all cs)
all_begin [] = tt
all_begin (c ∷ cs) = begins_so c (encode_utf8_all cs)

each_character : (cs : List ℕ) → characters (encode_utf8_all cs) ≡ map encode_utf8 cs
each_character [] = refl
each_character (c ∷ cs) = one_character c (encode_utf8_all cs) (all_begin cs) ∙ ap (λ rest. encode_utf8 c ∷ rest) (each_character cs)

pub characters_are : (bytes : List ℕ) → IsUtf8 bytes → characters bytes ≡ map encode_utf8 (chars bytes)
characters_are bytes utf8 = ap characters (sym utf8.1.1) ∙ (each_character utf8.0 ∙ ap (map encode_utf8) (chars_from_encodes utf8.0 bytes utf8 utf8.1.1))

pub size_is : (bytes : List ℕ) → IsUtf8 bytes → size bytes ≡ length (chars bytes)
size_is bytes utf8 = ap length (characters_are bytes utf8) ∙ length-map (chars bytes) encode_utf8

-- a text that has a number is walked by its code points
pub text_walk : (table : ValuesView) (id n : ℕ) (bytes : List ℕ) → slice_get table.texts id ≡ Some bytes → IsUtf8 bytes → n ≡ length (chars bytes) → (go : List Contents → Plan)
    → walk (contents table (Text id)) go ≡ counts n (go (map text (map encode_utf8 (chars bytes))))
text_walk table id n bytes is utf8 count go = ap (λ found. walk (text (unwrap_or found [])) go) is
    ∙ (ap (λ k. counts k (go (map text (characters bytes)))) (size_is bytes utf8 ∙ sym count)
    ∙ ap (λ all. counts n (go (map text all))) (characters_are bytes utf8))

pub same_bytes : (one other : List ℕ) → Some one ≡ Some other → one ≡ other
same_bytes one other is = cc
