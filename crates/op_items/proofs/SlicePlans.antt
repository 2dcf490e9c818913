-- Slices as plans.
use Rattle.std.proofs.Common.{◌≡◌, ◌∙◌, refl, sym, ap, append-nil, arith, ℕ, zero, suc, ◌+◌, ◌-◌, ◌<◌, ◌≤◌, ℤ, Option, Some, None, true, false, List, [], ◌∷◌, ◌++◌, map, length, take, drop, slice_get, unwrap_or, chars, encode_utf8, encode_utf8_all, IsUtf8}
use Rattle.std.proofs.lemmas.List.{length-map, append_assoc}
use Rattle.op_items.specs.Operands.{of_three}
use Rattle.op_items.specs.Bounds.{bound_of_value}
use Rattle.op_lists.proofs.Tuples.{items_are}
use Rattle.op_lists.proofs.TextParts.{characters_are}
use Rattle.py_model.proofs.Tuples.{some_tuple}
use Rattle.py_model.specs.Effect.{parts_of}
use Rattle.py_model.specs.Faults.{wrong_kind}
use Rattle.py_model.specs.Lists.{slice, with_bounds, with_part}
use Rattle.py_model.specs.Places.{with_bound, part_from}
use Rattle.py_model.specs.Operands.{gives}
use Rattle.py_model.specs.Plan.{Plan, looks, counts}
use Rattle.py_model.specs.Texts.{characters, size, joined}
use Rattle.py_value.specs.Contents.{Contents, contents, text, tuple, object, parts_by}
use Rattle.py_value.specs.Values.{ValuesView, AreNamed}
use Rattle.py_value.specs.declared.value.Value.{Value}
use Rattle.py_value.specs.declared.value.Value.TheVariants.{None as NoneValue, Bool as TruthValue, Int, Text, Tuple, Range, Fn, Class, Exc, Builtin, Object}

-- ---- bounds

abbrev pub or_wrong : Option (Option ℤ) → (Option ℤ → Plan) → Plan
or_wrong (Some found) go = go found
or_wrong None go = wrong_kind

pub bound_is : (table : ValuesView) (v : Value) (go : Option ℤ → Plan) → with_bound (contents table v) go ≡ or_wrong (bound_of_value v) go
bound_is table NoneValue go = refl
bound_is table (TruthValue true) go = refl
bound_is table (TruthValue false) go = refl
bound_is table (Int i) go = refl
bound_is table (Text id) go = refl
bound_is table (Tuple id) go = ap (λ c. with_bound c go) (some_tuple table id).1
bound_is table (Range a b c) go = refl
bound_is table (Fn place) go = refl
bound_is table (Class place) go = refl
bound_is table (Exc number) go = refl
bound_is table (Builtin number) go = refl
bound_is table (Object o) go = refl

-- ---- operands

abbrev pub three_slices : Contents → Contents → Contents → Plan
three_slices v low high = slice (v ∷ low ∷ high ∷ [])

pub slice_is : (operands : List Contents) → slice operands ≡ of_three three_slices operands
slice_is [] = refl
slice_is (tuple parts ∷ []) = refl
slice_is (text bytes ∷ []) = refl
slice_is (object o ∷ []) = refl
slice_is (other ∷ []) = refl
slice_is (tuple parts ∷ w ∷ []) = refl
slice_is (text bytes ∷ w ∷ []) = refl
slice_is (object o ∷ w ∷ []) = refl
slice_is (other ∷ w ∷ []) = refl
slice_is (v ∷ w ∷ x ∷ []) = refl
slice_is (tuple parts ∷ w ∷ x ∷ y ∷ more) = refl
slice_is (text bytes ∷ w ∷ x ∷ y ∷ more) = refl
slice_is (object o ∷ w ∷ x ∷ y ∷ more) = refl
slice_is (other ∷ w ∷ x ∷ y ∷ more) = refl

pub no_slice : (table : ValuesView) (v : Value) (w x : Contents) → ((id : ℕ) → v ≡ Text id → ⊥) → ((id : ℕ) → v ≡ Tuple id → ⊥) → ((o : ℕ) → v ≡ Object o → ⊥)
    → slice (contents table v ∷ w ∷ x ∷ []) ≡ wrong_kind
no_slice table (Text id) w x not_text not_tuple not_object = absurd (not_text id refl)
no_slice table (Tuple id) w x not_text not_tuple not_object = absurd (not_tuple id refl)
no_slice table (Object o) w x not_text not_tuple not_object = absurd (not_object o refl)
no_slice table (Range a b c) w x not_text not_tuple not_object = refl
no_slice table NoneValue w x not_text not_tuple not_object = refl
no_slice table (TruthValue b) w x not_text not_tuple not_object = refl
no_slice table (Int i) w x not_text not_tuple not_object = refl
no_slice table (Fn place) w x not_text not_tuple not_object = refl
no_slice table (Class place) w x not_text not_tuple not_object = refl
no_slice table (Exc number) w x not_text not_tuple not_object = refl
no_slice table (Builtin number) w x not_text not_tuple not_object = refl

-- ---- parts

pub part_map : {A B : Type 0} (f : A → B) (p m : ℕ) (xs : List A) → part_from p m (map f xs) ≡ map f (part_from p m xs)
part_map f p zero xs = refl
part_map f p (suc m) [] = refl
part_map f zero (suc m) (x ∷ xs) = ap (λ rest. f x ∷ rest) (part_map f zero m xs)
part_map f (suc p) (suc m) (x ∷ xs) = part_map f p (suc m) xs

pub part_taken : {A : Type 0} (p m : ℕ) (xs : List A) → take m (drop p xs) ≡ part_from p m xs
part_taken p zero xs = refl
part_taken zero (suc m) [] = refl
part_taken (suc p) (suc m) [] = refl
part_taken zero (suc m) (x ∷ xs) = ap (λ rest. x ∷ rest) (part_taken zero m xs)
part_taken (suc p) (suc m) (x ∷ xs) = part_taken p (suc m) xs

pub joined_is : (cs : List ℕ) → joined (map encode_utf8 cs) ≡ encode_utf8_all cs
joined_is [] = refl
joined_is (c ∷ cs) = ap (λ rest. encode_utf8 c ++ rest) (joined_is cs)

-- ---- a tuple, and a text

abbrev pub parts_looked : List Contents → ℕ × ℕ → Plan
parts_looked items part = looks part.1 (gives (tuple (parts_of (part_from part.0 part.1 items))))

abbrev pub letters_counted : List ℕ → ℕ × ℕ → Plan
letters_counted cs part = counts part.1 (gives (text (encode_utf8_all (part_from part.0 part.1 cs))))

abbrev pub between : Contents → Contents → ℕ → (ℕ × ℕ → Plan) → Plan
between low high n go = with_bounds low high (λ l h. with_part l h n (λ p m. go (p, m)))

pub tuple_is : (table : ValuesView) (id : ℕ) (low high : Contents) (items : List Value) → contents table (Tuple id) ≡ tuple (parts_by (contents table) items)
    → slice (contents table (Tuple id) ∷ low ∷ high ∷ []) ≡ between low high (length items) (parts_looked (map (contents table) items))
tuple_is table id low high items is = ap (λ c. slice (c ∷ low ∷ high ∷ [])) is
    ∙ (ap (λ seen. between low high (length seen) (parts_looked seen)) (items_are (contents table) items)
    ∙ ap (λ n. between low high n (parts_looked (map (contents table) items))) (length-map items (contents table)))

abbrev pub letters_of : List (List ℕ) → ℕ × ℕ → Plan
letters_of letters part = counts part.1 (gives (text (joined (part_from part.0 part.1 letters))))

pub text_is : (table : ValuesView) (id n : ℕ) (low high : Contents) (bytes : List ℕ) → slice_get table.texts id ≡ Some bytes → IsUtf8 bytes → n ≡ size bytes
    → slice (contents table (Text id) ∷ low ∷ high ∷ []) ≡ between low high n (λ part. letters_of (map encode_utf8 (chars bytes)) part)
text_is table id n low high bytes is utf8 count = ap (λ found. slice (text (unwrap_or found []) ∷ low ∷ high ∷ [])) is
    ∙ (ap (λ k. between low high k (letters_of (characters bytes))) (sym count)
    ∙ ap (λ letters. between low high n (letters_of letters)) (characters_are bytes utf8))

pub letters_is : (cs : List ℕ) (p m : ℕ) → letters_of (map encode_utf8 cs) (p, m) ≡ letters_counted cs (p, m)
letters_is cs p m = ap (λ bytes. counts m (gives (text bytes))) (ap joined (part_map encode_utf8 p m cs) ∙ joined_is (part_from p m cs))

-- ---- characters one by one

one_less : (n : ℕ) → suc n - 1 ≡ n
one_less n = omega (arith)

no_part : {A : Type 0} (p m : ℕ) → part_from {A = A} p m [] ≡ []
no_part p zero = refl
no_part zero (suc m) = refl
no_part (suc p) (suc m) = refl

passed : (p m c : ℕ) (cs : List ℕ) → 0 < p → part_from p m (c ∷ cs) ≡ part_from (p - 1) m cs
passed zero m c cs some = absurd (omega (arith, some))
passed (suc p) zero c cs some = refl
passed (suc p) (suc m) c cs some = ap (λ k. part_from k (suc m) cs) (sym (one_less p))

taken_one : (p m c : ℕ) (cs : List ℕ) → p ≤ 0 → 0 < m → part_from p m (c ∷ cs) ≡ c ∷ part_from p (m - 1) cs
taken_one zero zero c cs first some = absurd (omega (arith, some))
taken_one zero (suc m) c cs first some = ap (λ k. c ∷ part_from 0 k cs) (sym (one_less m))
taken_one (suc p) m c cs first some = absurd (omega (arith, first))

none_taken : (p m : ℕ) (cs ds : List ℕ) → m ≤ 0 → part_from p m cs ≡ part_from p m ds
none_taken p zero cs ds none = refl
none_taken p (suc m) cs ds none = absurd (omega (arith, none))

abbrev all : List ℕ → List ℕ
all cs = encode_utf8_all cs

module _ (made whole old : List ℕ) (cs : List ℕ) (c p m : ℕ) (step : old ≡ c ∷ cs) (so_far : made ++ all (part_from p m old) ≡ whole) where
  pub letter_passed : 0 < p → made ++ all (part_from (p - 1) m cs) ≡ whole
  letter_passed some = ap (λ ds. made ++ all ds) (sym (passed p m c cs some)) ∙ (ap (λ ds. made ++ all (part_from p m ds)) (sym step) ∙ so_far)

  pub letter_taken : (more : List ℕ) → more ≡ made ++ encode_utf8 c → p ≤ 0 → 0 < m → more ++ all (part_from p (m - 1) cs) ≡ whole
  letter_taken more is first some = ap (λ bytes. bytes ++ all (part_from p (m - 1) cs)) is
      ∙ (append_assoc made (encode_utf8 c) (all (part_from p (m - 1) cs))
      ∙ (ap (λ ds. made ++ all ds) (sym (taken_one p m c cs first some)) ∙ (ap (λ ds. made ++ all (part_from p m ds)) (sym step) ∙ so_far)))

  pub letter_behind : m ≤ 0 → made ++ all (part_from p m cs) ≡ whole
  letter_behind none = ap (λ ds. made ++ all ds) (none_taken p m cs old none) ∙ so_far

pub letters_end : (made whole old : List ℕ) (p m : ℕ) → old ≡ [] → made ++ all (part_from p m old) ≡ whole → made ≡ whole
letters_end made whole old p m none so_far = sym (append-nil made) ∙ (ap (λ ds. made ++ all ds) (sym (no_part {A = ℕ} p m)) ∙ (ap (λ ds. made ++ all (part_from p m ds)) (sym none) ∙ so_far))

-- ---- values of a part are named

no_item : {A : Type 0} (p m i : ℕ) (v : Value) → slice_get (part_from {A = Value} p (suc m) []) i ≡ Some v → A
no_item zero m i v is = absurd (cc)
no_item (suc p) m i v is = absurd (cc)

pub part_named : (values : ValuesView) (p m : ℕ) (xs : List Value) → AreNamed values xs → AreNamed values (part_from p m xs)
part_named values p zero xs named i v is = cc
part_named values p (suc m) [] named i v is = no_item p m i v is
part_named values zero (suc m) (x ∷ xs) named zero v is = named zero v is
part_named values zero (suc m) (x ∷ xs) named (suc i) v is = part_named values zero m xs (λ j w at. named (suc j) w at) i v is
part_named values (suc p) (suc m) (x ∷ xs) named i v is = part_named values p (suc m) xs (λ j w at. named (suc j) w at) i v is

pub count_is : (p m : ℕ) → p + m - p ≡ m
count_is p m = omega (arith)
