-- What operands are as plans.
use Rattle.std.proofs.Common.{◌≡◌, refl, ap, zero, suc, neg_ℤ, unsigned_abs, SomeIff, ℤ, pos, negsuc, arith, le-leb, leb-true, w64, FitsSigned, Bool, true, false, Option, Some, None, List, [], ◌∷◌, map, length, slice_index_or, if◌then◌else◌}
use Rattle.py_value.specs.Contents.{Contents, contents, int}
use Rattle.py_value.specs.Values.{ValuesView, IsNamed, AreNamed}
use Rattle.py_value.specs.declared.value.Value.{Value}
use Rattle.py_value.specs.declared.value.Value.TheVariants.{None as NoneValue, Bool as TruthValue, Int, Text, Tuple, Range, Fn, Class, Exc, Builtin, Object}
use Rattle.py_model.specs.Faults.{wrong_kind, wrong_number, out_of_range}
use Rattle.py_model.specs.Numbers.{is_int, absolute}
use Rattle.py_model.specs.Operands.{with_number, of_one, of_two, gives, gives_int}
use Rattle.py_model.specs.Operations.{of_none}
use Rattle.py_model.specs.Plan.{Plan}
use Rattle.py_model.proofs.Tuples.{some_tuple}
use Rattle.py_value.specs.Numbers.{number_of_value}

abbrev pub or_wrong : Option ℤ → (ℤ → Plan) → Plan
or_wrong (Some i) go = go i
or_wrong None go = wrong_kind

pub number_is : (table : ValuesView) (v : Value) (go : ℤ → Plan) → with_number (contents table v) go ≡ or_wrong (number_of_value v) go
number_is table NoneValue go = refl
number_is table (TruthValue true) go = refl
number_is table (TruthValue false) go = refl
number_is table (Int i) go = refl
number_is table (Text id) go = refl
number_is table (Tuple id) go = ap (λ c. with_number c go) (some_tuple table id).1
number_is table (Range a b c) go = refl
number_is table (Fn place) go = refl
number_is table (Class place) go = refl
number_is table (Exc number) go = refl
number_is table (Builtin number) go = refl
number_is table (Object o) go = refl

-- one operand, or another number of them
module _ (go : Contents → Plan) (f : Value → Contents) where
  pub one_is : (operands : List Value) → length operands ≡ 1 → of_one go (map f operands) ≡ go (f (slice_index_or operands 0 NoneValue))
  one_is [] is = absurd (omega (arith, is))
  one_is (v ∷ []) is = refl
  one_is (v ∷ w ∷ more) is = absurd (omega (arith, is))

  pub not_one : (operands : List Value) → (length operands ≡ 1 → ⊥) → of_one go (map f operands) ≡ wrong_number
  not_one [] other = refl
  not_one (v ∷ []) other = absurd (other refl)
  not_one (v ∷ w ∷ more) other = refl

module _ (go : Contents → Contents → Plan) (f : Value → Contents) where
  pub two_is : (operands : List Value) → length operands ≡ 2 → of_two go (map f operands) ≡ go (f (slice_index_or operands 0 NoneValue)) (f (slice_index_or operands 1 NoneValue))
  two_is [] is = absurd (omega (arith, is))
  two_is (v ∷ []) is = absurd (omega (arith, is))
  two_is (v ∷ w ∷ []) is = refl
  two_is (v ∷ w ∷ x ∷ more) is = absurd (omega (arith, is))

  pub not_two : (operands : List Value) → (length operands ≡ 2 → ⊥) → of_two go (map f operands) ≡ wrong_number
  not_two [] other = refl
  not_two (v ∷ []) other = refl
  not_two (v ∷ w ∷ []) other = absurd (other refl)
  not_two (v ∷ w ∷ x ∷ more) other = refl

-- each operand is named
module _ (values : ValuesView) where
  pub one_named : (operands : List Value) → AreNamed values operands → length operands ≡ 1 → IsNamed values (slice_index_or operands 0 NoneValue)
  one_named [] named is = absurd (omega (arith, is))
  one_named (v ∷ more) named is = named 0 v refl

  pub two_named : (operands : List Value) → AreNamed values operands → length operands ≡ 2
      → IsNamed values (slice_index_or operands 0 NoneValue) × IsNamed values (slice_index_or operands 1 NoneValue)
  two_named [] named is = absurd (omega (arith, is))
  two_named (v ∷ []) named is = absurd (omega (arith, is))
  two_named (v ∷ w ∷ more) named is = (named 0 v refl, named 1 w refl)

-- which integers have 64 bits
pub int_fits : (i : ℤ) → FitsSigned w64 i → is_int i ≡ true
int_fits (pos n) fits = le-leb n 9223372036854775807 (omega (arith, fits))
int_fits (negsuc n) fits = le-leb n 9223372036854775807 (omega (arith, fits))

fits_int : (i : ℤ) → is_int i ≡ true → FitsSigned w64 i
fits_int (pos n) is = omega (arith, leb-true n 9223372036854775807 is)
fits_int (negsuc n) is = omega (arith, leb-true n 9223372036854775807 is)

by_test : (b : Bool) (one other : Plan) → b ≡ true → (if b then one else other) ≡ one
by_test true one other is = refl
by_test false one other is = absurd (cc)

by_other : (b : Bool) (one other : Plan) → (b ≡ true → ⊥) → (if b then one else other) ≡ other
by_other true one other is = absurd (is refl)
by_other false one other is = refl

pub int_gives : (i : ℤ) → FitsSigned w64 i → gives_int i ≡ gives (int i)
int_gives i fits = by_test (is_int i) (gives (int i)) out_of_range (int_fits i fits)

pub int_out : (i : ℤ) → (FitsSigned w64 i → ⊥) → gives_int i ≡ out_of_range
int_out i out = by_other (is_int i) (gives (int i)) out_of_range (λ is. out (fits_int i is))

-- the number without its sign
pub absolute_found : (i : ℤ) (found : Option ℤ) → FitsSigned w64 i → SomeIff found (FitsSigned w64 (neg_ℤ i)) (pos (unsigned_abs i))
    → SomeIff found (FitsSigned w64 (absolute i)) (absolute i)
absolute_found (pos n) (Some x) fits is = (fits, is.1)
absolute_found (pos zero) None fits is = absurd (is fits)
absolute_found (pos (suc n)) None fits is = absurd (is (omega (arith, fits)))
absolute_found (negsuc n) (Some x) fits is = is
absolute_found (negsuc n) None fits is = is

-- no operands, or some
module _ (go : Plan) (f : Value → Contents) where
  pub none_is : (operands : List Value) → length operands ≡ 0 → of_none go (map f operands) ≡ go
  none_is [] is = refl
  none_is (v ∷ more) is = absurd (omega (arith, is))

  pub not_none : (operands : List Value) → (length operands ≡ 0 → ⊥) → of_none go (map f operands) ≡ wrong_number
  not_none [] other = absurd (other refl)
  not_none (v ∷ more) other = refl
