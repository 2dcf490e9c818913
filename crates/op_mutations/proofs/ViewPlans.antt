-- Methods of dictionaries as plans of their operands.
use Rattle.std.proofs.Common.{◌≡◌, refl, sym, arith, eqb-true, ℕ, suc, ◌==◌, List, [], ◌∷◌, length}
use Rattle.py_model.specs.Dicts.{when_dict, values_method, items_method, read_entries, paired}
use Rattle.py_model.specs.Faults.{wrong_number}
use Rattle.py_model.specs.Making.{new_list}
use Rattle.py_model.specs.Plan.{Plan, read_order, kind_of}
use Rattle.py_value.specs.Contents.{Contents, object}
use Rattle.op_dicts.specs.Receivers.{with_dict}
use Rattle.op_dicts.proofs.ReceiverPlans.{by_false}

abbrev pub values_of : ℕ → Plan
values_of o = read_order o (λ keys. read_entries o keys new_list)

abbrev pub items_of : ℕ → Plan
items_of o = read_order o (λ keys. read_entries o keys (λ items. new_list (paired keys items)))

too_many : (n : ℕ) → suc (suc n) ≡ 1 → ⊥
too_many n is = omega (arith, is)

pub values_is : (operands : List Contents) → values_method operands ≡ with_dict 1 operands values_of
values_is [] = refl
values_is (object o ∷ []) = refl
values_is (object o ∷ w ∷ more) = sym (by_false (length (object o ∷ w ∷ more) == 1) (kind_of o (when_dict (values_of o))) wrong_number
    (λ is. too_many (length more) (eqb-true (length (object o ∷ w ∷ more)) 1 is)))
values_is (other ∷ more) = refl

pub items_is : (operands : List Contents) → items_method operands ≡ with_dict 1 operands items_of
items_is [] = refl
items_is (object o ∷ []) = refl
items_is (object o ∷ w ∷ more) = sym (by_false (length (object o ∷ w ∷ more) == 1) (kind_of o (when_dict (items_of o))) wrong_number
    (λ is. too_many (length more) (eqb-true (length (object o ∷ w ∷ more)) 1 is)))
items_is (other ∷ more) = refl
