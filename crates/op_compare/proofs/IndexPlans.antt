-- The place of a value in a list, as a plan of the operands.
use Rattle.std.proofs.Common.{◌≡◌, refl, sym, arith, eqb-true, ℕ, suc, ◌==◌, List, [], ◌∷◌, length}
use Rattle.py_model.specs.Faults.{wrong_number}
use Rattle.py_model.specs.Lists.{when_list, seek, answer_place, index_method}
use Rattle.py_model.specs.Plan.{Plan, kind_of, read_len}
use Rattle.py_value.specs.Contents.{Contents, object}
use Rattle.op_joins.specs.Receivers.{with_list}
use Rattle.op_joins.proofs.ReceiverPlans.{by_false, second}

-- the length is read, and the items up to the hit
abbrev pub sought_in : Contents → ℕ → Plan
sought_in sought o = read_len o (λ n. seek n o 0 sought answer_place)

too_many : (n : ℕ) → suc (suc (suc n)) ≡ 2 → ⊥
too_many n is = omega (arith, is)

pub index_is : (operands : List Contents) → index_method operands ≡ with_list 2 operands (sought_in (second operands))
index_is [] = refl
index_is (object o ∷ []) = refl
index_is (object o ∷ w ∷ []) = refl
index_is (object o ∷ w ∷ x ∷ more) = sym (by_false (length (object o ∷ w ∷ x ∷ more) == 2) (kind_of o (when_list (sought_in w o))) wrong_number
    (λ is. too_many (length more) (eqb-true (length (object o ∷ w ∷ x ∷ more)) 2 is)))
index_is (other ∷ more) = refl
