-- Methods of dictionaries as plans of their operands.
use Rattle.std.proofs.Common.{◌≡◌, refl, sym, arith, eqb-true, ℕ, suc, ◌==◌, List, [], ◌∷◌, map, length}
use Rattle.py_model.specs.Dicts.{when_dict, dict_builtin, keys_method, new_dict}
use Rattle.py_model.specs.Faults.{wrong_number}
use Rattle.py_model.specs.Making.{new_list}
use Rattle.py_model.specs.Plan.{Plan, read_order, kind_of}
use Rattle.py_value.specs.Contents.{Contents, object}
use Rattle.py_value.specs.declared.value.Value.{Value}
use Rattle.op_dicts.specs.Receivers.{with_dict}
use Rattle.op_dicts.proofs.ReceiverPlans.{by_false}

abbrev pub keys_of : ℕ → Plan
keys_of o = read_order o new_list

too_many : (n : ℕ) → suc (suc n) ≡ 1 → ⊥
too_many n is = omega (arith, is)

pub keys_is : (operands : List Contents) → keys_method operands ≡ with_dict 1 operands keys_of
keys_is [] = refl
keys_is (object o ∷ []) = refl
keys_is (object o ∷ w ∷ more) = sym (by_false (length (object o ∷ w ∷ more) == 1) (kind_of o (when_dict (keys_of o))) wrong_number
    (λ is. too_many (length more) (eqb-true (length (object o ∷ w ∷ more)) 1 is)))
keys_is (other ∷ more) = refl

pub some_operands : (f : Value → Contents) (operands : List Value) → (length operands ≡ 0 → ⊥) → dict_builtin (map f operands) ≡ wrong_number
some_operands f [] apart = absurd (apart refl)
some_operands f (v ∷ more) apart = refl

pub no_operands : (f : Value → Contents) (operands : List Value) → length operands ≡ 0 → dict_builtin (map f operands) ≡ new_dict []
no_operands f [] is = refl
no_operands f (v ∷ more) is = absurd (omega (arith, is))
