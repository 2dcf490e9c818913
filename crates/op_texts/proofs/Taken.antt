-- What operands are as plans.
use Rattle.std.proofs.Common.{◌≡◌, refl, ap, subst, ◌∙◌, arith, ℕ, ℤ, true, false, ◌<◌, length, List, [], ◌∷◌, map, Option, Some, None, slice_get, unwrap_or}
use Rattle.py_value.specs.Contents.{Contents, contents}
use Rattle.py_value.specs.Seen.{bytes_of}
use Rattle.py_value.specs.Values.{ValuesView, IsNamed, AreNamed}
use Rattle.py_value.specs.declared.value.Value.{Value}
use Rattle.py_value.specs.declared.value.Value.TheVariants.{None as NoneValue, Bool as TruthValue, Int, Text, Tuple, Range, Fn, Class, Exc, Builtin, Object}
use Rattle.py_model.specs.Faults.{wrong_kind, wrong_number}
use Rattle.py_model.specs.Operands.{with_text, with_number, of_one, of_two}
use Rattle.py_model.specs.Plan.{Plan}
use Rattle.py_model.proofs.Tuples.{some_tuple}
use Rattle.op_work.specs.Work.{Extends}
use Rattle.op_texts.specs.Operands.{one_value, two_values, text_of_value, with_two_texts, with_text_number}
use Rattle.py_value.specs.Numbers.{number_of_value}

module _ (old new : ValuesView) (extends : Extends old new) where
  pub named_stays : (v : Value) → IsNamed old v → IsNamed new v
  named_stays (Text id) named = omega (arith, named, extends.few.0)
  named_stays (Tuple id) named = omega (arith, named, extends.few.1)
  named_stays NoneValue named = tt
  named_stays (TruthValue b) named = tt
  named_stays (Int i) named = tt
  named_stays (Range a b c) named = tt
  named_stays (Fn place) named = tt
  named_stays (Class place) named = tt
  named_stays (Exc number) named = tt
  named_stays (Builtin number) named = tt
  named_stays (Object o) named = tt

-- a text, or another kind of value
abbrev pub or_wrong : ValuesView → Option ℕ → (List ℕ → Plan) → Plan
or_wrong table (Some id) go = go (bytes_of table id)
or_wrong table None go = wrong_kind

pub text_is : (table : ValuesView) (v : Value) (go : List ℕ → Plan) → with_text (contents table v) go ≡ or_wrong table (text_of_value v) go
text_is table NoneValue go = refl
text_is table (TruthValue b) go = refl
text_is table (Int i) go = refl
text_is table (Text id) go = refl
text_is table (Tuple id) go = ap (λ c. with_text c go) (some_tuple table id).1
text_is table (Range a b c) go = refl
text_is table (Fn place) go = refl
text_is table (Class place) go = refl
text_is table (Exc number) go = refl
text_is table (Builtin number) go = refl
text_is table (Object o) go = refl

pub text_named : (values : ValuesView) (v : Value) (id : ℕ) → text_of_value v ≡ Some id → IsNamed values v → id < length values.texts
text_named values NoneValue id is named = cc
text_named values (TruthValue b) id is named = cc
text_named values (Int i) id is named = cc
text_named values (Text n) id is named = subst (λ m. m < length values.texts) (same n id is) named
  where
    same : (n m : ℕ) → Some n ≡ Some m → n ≡ m
    same n m is = cc
text_named values (Tuple n) id is named = cc
text_named values (Range a b c) id is named = cc
text_named values (Fn place) id is named = cc
text_named values (Class place) id is named = cc
text_named values (Exc number) id is named = cc
text_named values (Builtin number) id is named = cc
text_named values (Object o) id is named = cc

-- one operand, or another number of them
abbrev pub by_one : ValuesView → (Contents → Plan) → Option Value → Plan
by_one table plan (Some v) = plan (contents table v)
by_one table plan None = wrong_number

pub one_is : (table : ValuesView) (plan : Contents → Plan) (operands : List Value) → of_one plan (map (contents table) operands) ≡ by_one table plan (one_value operands)
one_is table plan [] = refl
one_is table plan (v ∷ []) = refl
one_is table plan (v ∷ w ∷ operands) = refl

abbrev pub by_two : ValuesView → (Contents → Contents → Plan) → Option (Value × Value) → Plan
by_two table plan (Some two) = plan (contents table two.0) (contents table two.1)
by_two table plan None = wrong_number

pub two_is : (table : ValuesView) (plan : Contents → Contents → Plan) (operands : List Value) → of_two plan (map (contents table) operands) ≡ by_two table plan (two_values operands)
two_is table plan [] = refl
two_is table plan (v ∷ []) = refl
two_is table plan (v ∷ w ∷ []) = refl
two_is table plan (v ∷ w ∷ u ∷ operands) = refl

pub one_named : (values : ValuesView) (operands : List Value) (v : Value) → one_value operands ≡ Some v → AreNamed values operands → IsNamed values v
one_named values [] v is named = cc
one_named values (first ∷ []) v is named = named 0 v is
one_named values (first ∷ w ∷ operands) v is named = cc

abbrev pub AreTwoNamed : ValuesView → Option (Value × Value) → Type 0
AreTwoNamed values (Some two) = IsNamed values two.0 × IsNamed values two.1
AreTwoNamed values None = Unit {0}

pub two_named : (values : ValuesView) (operands : List Value) → AreNamed values operands → AreTwoNamed values (two_values operands)
two_named values [] named = tt
two_named values (v ∷ []) named = tt
two_named values (v ∷ w ∷ []) named = (named 0 v refl, named 1 w refl)
two_named values (v ∷ w ∷ u ∷ operands) named = tt

-- both operands as texts
pub two_texts_are : (table : ValuesView) (operands : List Value) (v w : Value) (go : List ℕ × List ℕ → Plan) → ◌≡◌ {A = Option (Value × Value)} (two_values operands) (Some (v, w))
    → with_two_texts (map (contents table) operands) go ≡ with_text (contents table v) (λ bytes. with_text (contents table w) (λ other. go (bytes, other)))
two_texts_are table operands v w go is = two_is table (λ x y. with_text x (λ bytes. with_text y (λ other. go (bytes, other)))) operands
    ∙ ap (by_two table (λ x y. with_text x (λ bytes. with_text y (λ other. go (bytes, other))))) is

pub two_are_named : (values : ValuesView) (operands : List Value) (v w : Value) → ◌≡◌ {A = Option (Value × Value)} (two_values operands) (Some (v, w))
    → AreNamed values operands → IsNamed values v × IsNamed values w
two_are_named values operands v w is named = subst (AreTwoNamed values) is (two_named values operands named)

-- a text that has a number has these bytes in each table that goes on
pub bytes_stay : (old table : ValuesView) (id : ℕ) (bytes : List ℕ) → slice_get old.texts id ≡ Some bytes → Extends old table → bytes_of table id ≡ bytes
bytes_stay old table id bytes is extends = ap (λ found. unwrap_or found []) (extends.texts id bytes is)

-- a number, or another kind of value
abbrev pub number_or_wrong : Option ℤ → (ℤ → Plan) → Plan
number_or_wrong (Some i) go = go i
number_or_wrong None go = wrong_kind

pub number_is : (table : ValuesView) (v : Value) (go : ℤ → Plan) → with_number (contents table v) go ≡ number_or_wrong (number_of_value v) go
number_is table NoneValue go = refl
number_is table (TruthValue true) go = refl
number_is table (TruthValue false) go = refl
number_is table (Int i) go = refl
number_is table (Text id) go = refl
number_is table (Tuple id) go = ap (λ c. with_number c go) (some_tuple table id).1
number_is table (Range a b c) go = refl
number_is table (Fn place) go = refl
number_is table (Class place) go = refl
number_is table (Exc number) go = refl
number_is table (Builtin number) go = refl
number_is table (Object o) go = refl

-- both operands as a text and a number
pub text_number_are : (table : ValuesView) (operands : List Value) (v w : Value) (go : List ℕ × ℤ → Plan) → ◌≡◌ {A = Option (Value × Value)} (two_values operands) (Some (v, w))
    → with_text_number (map (contents table) operands) go ≡ with_text (contents table v) (λ bytes. with_number (contents table w) (λ i. go (bytes, i)))
text_number_are table operands v w go is = two_is table (λ x y. with_text x (λ bytes. with_number y (λ i. go (bytes, i)))) operands
    ∙ ap (by_two table (λ x y. with_text x (λ bytes. with_number y (λ i. go (bytes, i))))) is
