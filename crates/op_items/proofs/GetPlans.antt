-- Items at an index or a key, as plans.
use Rattle.std.proofs.Common.{◌≡◌, ◌∙◌, refl, sym, ap, ℕ, ℤ, zero, suc, List, [], ◌∷◌, map, length, slice_get, unwrap_or, Some, chars, encode_utf8, IsUtf8}
use Rattle.std.specs.Option.{option_map}
use Rattle.std.proofs.lemmas.List.{length-map}
use Rattle.py_model.specs.Faults.{wrong_kind}
use Rattle.py_model.specs.Lists.{getitem, with_place}
use Rattle.py_model.specs.Operands.{of_two, gives}
use Rattle.py_model.specs.Places.{with_index}
use Rattle.py_model.specs.Plan.{Plan, looks, counts}
use Rattle.py_model.specs.Texts.{characters, size}
use Rattle.py_value.specs.Contents.{Contents, contents, nothing, text, tuple, range, object, parts_by}
use Rattle.py_value.specs.Values.{ValuesView}
use Rattle.py_value.specs.declared.value.Value.{Value}
use Rattle.py_value.specs.declared.value.Value.TheVariants.{None as NoneValue, Bool, Int, Text, Tuple, Range, Fn, Class, Exc, Builtin, Object}
use Rattle.op_lists.proofs.Tuples.{items_are}
use Rattle.op_lists.proofs.TextParts.{characters_are}

abbrev pub two_items : Contents → Contents → Plan
two_items v w = getitem (v ∷ w ∷ [])

pub getitem_is : (operands : List Contents) → getitem operands ≡ of_two two_items operands
getitem_is [] = refl
getitem_is (tuple parts ∷ []) = refl
getitem_is (range a b c ∷ []) = refl
getitem_is (text bytes ∷ []) = refl
getitem_is (object o ∷ []) = refl
getitem_is (other ∷ []) = refl
getitem_is (v ∷ w ∷ []) = refl
getitem_is (tuple parts ∷ w ∷ x ∷ more) = refl
getitem_is (range a b c ∷ w ∷ x ∷ more) = refl
getitem_is (text bytes ∷ w ∷ x ∷ more) = refl
getitem_is (object o ∷ w ∷ x ∷ more) = refl
getitem_is (other ∷ w ∷ x ∷ more) = refl

pub no_item : (table : ValuesView) (v : Value) (w : Contents) → ((id : ℕ) → v ≡ Text id → ⊥) → ((id : ℕ) → v ≡ Tuple id → ⊥) → ((a b c : ℤ) → v ≡ Range a b c → ⊥)
    → ((o : ℕ) → v ≡ Object o → ⊥) → getitem (contents table v ∷ w ∷ []) ≡ wrong_kind
no_item table (Text id) w not_text not_tuple not_range not_object = absurd (not_text id refl)
no_item table (Tuple id) w not_text not_tuple not_range not_object = absurd (not_tuple id refl)
no_item table (Range a b c) w not_text not_tuple not_range not_object = absurd (not_range a b c refl)
no_item table (Object o) w not_text not_tuple not_range not_object = absurd (not_object o refl)
no_item table NoneValue w not_text not_tuple not_range not_object = refl
no_item table (Bool b) w not_text not_tuple not_range not_object = refl
no_item table (Int i) w not_text not_tuple not_range not_object = refl
no_item table (Fn place) w not_text not_tuple not_range not_object = refl
no_item table (Class place) w not_text not_tuple not_range not_object = refl
no_item table (Exc number) w not_text not_tuple not_range not_object = refl
no_item table (Builtin number) w not_text not_tuple not_range not_object = refl

-- what is looked at in a tuple at a place, and what it is by the values of the tuple
abbrev pub placed : Contents → ℕ → (ℕ → Plan) → Plan
placed w n go = with_index w (λ i. with_place i n go)

abbrev pub tuple_part : List Contents → ℕ → Plan
tuple_part items p = looks 1 (gives (unwrap_or (slice_get items p) nothing))

pub tuple_is : (table : ValuesView) (id : ℕ) (w : Contents) (items : List Value) → contents table (Tuple id) ≡ tuple (parts_by (contents table) items)
    → getitem (contents table (Tuple id) ∷ w ∷ []) ≡ placed w (length items) (tuple_part (map (contents table) items))
tuple_is table id w items is = ap (λ c. getitem (c ∷ w ∷ [])) is
    ∙ (ap (λ seen. placed w (length seen) (tuple_part seen)) (items_are (contents table) items)
    ∙ ap (λ n. placed w n (tuple_part (map (contents table) items))) (length-map items (contents table)))

-- the part at a place is what its value is
pub part_is : (f : Value → Contents) (items : List Value) (p : ℕ) → f NoneValue ≡ nothing → unwrap_or (slice_get (map f items) p) nothing ≡ f (unwrap_or (slice_get items p) NoneValue)
part_is f [] p none = sym none
part_is f (v ∷ items) zero none = refl
part_is f (v ∷ items) (suc p) none = part_is f items p none

abbrev pub text_part : List (List ℕ) → ℕ → Plan
text_part letters p = counts 1 (gives (text (unwrap_or (slice_get letters p) [])))

pub text_is : (table : ValuesView) (id n : ℕ) (w : Contents) (bytes : List ℕ) → slice_get table.texts id ≡ Some bytes → IsUtf8 bytes → n ≡ size bytes
    → getitem (contents table (Text id) ∷ w ∷ []) ≡ placed w n (text_part (map encode_utf8 (chars bytes)))
text_is table id n w bytes is utf8 count = ap (λ found. getitem (text (unwrap_or found []) ∷ w ∷ [])) is
    ∙ (ap (λ k. placed w k (text_part (characters bytes))) (sym count)
    ∙ ap (λ letters. placed w n (text_part letters)) (characters_are bytes utf8))

pub letter_is : (letters : List ℕ) (p : ℕ) → slice_get (map encode_utf8 letters) p ≡ option_map encode_utf8 (slice_get letters p)
letter_is [] p = refl
letter_is (c ∷ letters) zero = refl
letter_is (c ∷ letters) (suc p) = letter_is letters p
