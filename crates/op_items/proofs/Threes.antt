-- Three operands as plans.
use Rattle.std.proofs.Common.{◌≡◌, refl, arith, List, [], ◌∷◌, map, length, slice_index_or}
use Rattle.py_model.specs.Faults.{wrong_number}
use Rattle.py_model.specs.Plan.{Plan}
use Rattle.py_value.specs.Contents.{Contents}
use Rattle.py_value.specs.Values.{ValuesView, IsNamed, AreNamed}
use Rattle.py_value.specs.declared.value.Value.{Value}
use Rattle.py_value.specs.declared.value.Value.TheVariants.{None as NoneValue}
use Rattle.op_items.specs.Operands.{of_three}

module _ (go : Contents → Contents → Contents → Plan) (f : Value → Contents) where
  pub three_is : (operands : List Value) → length operands ≡ 3
      → of_three go (map f operands) ≡ go (f (slice_index_or operands 0 NoneValue)) (f (slice_index_or operands 1 NoneValue)) (f (slice_index_or operands 2 NoneValue))
  three_is [] is = absurd (omega (arith, is))
  three_is (v ∷ []) is = absurd (omega (arith, is))
  three_is (v ∷ w ∷ []) is = absurd (omega (arith, is))
  three_is (v ∷ w ∷ x ∷ []) is = refl
  three_is (v ∷ w ∷ x ∷ y ∷ more) is = absurd (omega (arith, is))

  pub not_three : (operands : List Value) → (length operands ≡ 3 → ⊥) → of_three go (map f operands) ≡ wrong_number
  not_three [] other = refl
  not_three (v ∷ []) other = refl
  not_three (v ∷ w ∷ []) other = refl
  not_three (v ∷ w ∷ x ∷ []) other = absurd (other refl)
  not_three (v ∷ w ∷ x ∷ y ∷ more) other = refl

pub three_named : (values : ValuesView) (operands : List Value) → AreNamed values operands → length operands ≡ 3
    → IsNamed values (slice_index_or operands 0 NoneValue) × (IsNamed values (slice_index_or operands 1 NoneValue) × IsNamed values (slice_index_or operands 2 NoneValue))
three_named values [] named is = absurd (omega (arith, is))
three_named values (v ∷ []) named is = absurd (omega (arith, is))
three_named values (v ∷ w ∷ []) named is = absurd (omega (arith, is))
three_named values (v ∷ w ∷ x ∷ more) named is = (named 0 v refl, (named 1 w refl, named 2 x refl))
