-- The next turn of a `for`, as a plan.
use Rattle.std.proofs.Common.{◌≡◌, ◌∙◌, refl, ap, arith, ◌<◌, ◌≤◌, le-leb, nat_lt, ℕ, zero, suc, pos, Bool, true, false, List, [], ◌∷◌, map, slice_get, unwrap_or, Option, Some, chars, encode_utf8, IsUtf8, if◌then◌else◌}
use Rattle.std.specs.Option.{option_map}
use Rattle.std.proofs.lemmas.Bool.{lt-leb}
use Rattle.op_lists.proofs.Tuples.{items_are}
use Rattle.op_lists.proofs.TextParts.{characters_are}
use Rattle.py_model.specs.Lists.{next, item_or_end}
use Rattle.py_model.specs.Operands.{gives}
use Rattle.py_model.specs.Plan.{Plan, looks, counts, ends}
use Rattle.py_value.specs.Contents.{Contents, contents, int, text, tuple, parts_by}
use Rattle.py_value.specs.Values.{ValuesView}
use Rattle.py_value.specs.declared.value.Value.{Value}
use Rattle.py_value.specs.declared.value.Value.TheVariants.{Text, Tuple}

abbrev pub looked : Option Contents → Plan
looked found = item_or_end (λ item. looks 1 (gives item)) found

abbrev pub counted : Option Contents → Plan
counted found = item_or_end (λ item. counts 1 (gives item)) found

abbrev pub before : ℕ → ℕ → Plan → Plan
before n count go = if nat_lt n count then go else ends

by_bool : (b : Bool) (go : Plan) → b ≡ true → (if b then go else ends) ≡ go
by_bool true go is = refl
by_bool false go is = absurd (cc)

by_other : (b : Bool) (go : Plan) → b ≡ false → (if b then go else ends) ≡ ends
by_other true go is = absurd (cc)
by_other false go is = refl

pub is_before : (n count : ℕ) (go : Plan) → n < count → before n count go ≡ go
is_before n count go less = by_bool (nat_lt n count) go (le-leb (suc n) count less)

pub not_before : (n count : ℕ) (go : Plan) → count ≤ n → before n count go ≡ ends
not_before n count go past = by_other (nat_lt n count) go (lt-leb (suc n) count (omega (arith, past)))

mapped : {A B : Type 0} (f : A → B) (xs : List A) (n : ℕ) → slice_get (map f xs) n ≡ option_map f (slice_get xs n)
mapped f [] n = refl
mapped f (x ∷ xs) zero = refl
mapped f (x ∷ xs) (suc n) = mapped f xs n

pub tuple_turn : (table : ValuesView) (file_line : ℕ → Plan) (begun : Contents) (id n : ℕ) (items : List Value) → contents table (Tuple id) ≡ tuple (parts_by (contents table) items)
    → next file_line (contents table (Tuple id) ∷ int (pos n) ∷ begun ∷ []) ≡ looked (option_map (contents table) (slice_get items n))
tuple_turn table file_line begun id n items is = ap (λ c. next file_line (c ∷ int (pos n) ∷ begun ∷ [])) is
    ∙ (ap (λ seen. looked (slice_get seen n)) (items_are (contents table) items) ∙ ap looked (mapped (contents table) items n))

pub text_turn : (table : ValuesView) (file_line : ℕ → Plan) (begun : Contents) (id n : ℕ) (bytes : List ℕ) → slice_get table.texts id ≡ Some bytes → IsUtf8 bytes
    → next file_line (contents table (Text id) ∷ int (pos n) ∷ begun ∷ []) ≡ counted (option_map text (option_map encode_utf8 (slice_get (chars bytes) n)))
text_turn table file_line begun id n bytes is utf8 = ap (λ found. next file_line (text (unwrap_or found []) ∷ int (pos n) ∷ begun ∷ [])) is
    ∙ (ap (λ letters. counted (slice_get (map text letters) n)) (characters_are bytes utf8)
    ∙ ap counted (mapped text (map encode_utf8 (chars bytes)) n ∙ ap (option_map text) (mapped encode_utf8 (chars bytes) n)))
