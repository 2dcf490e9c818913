-- Rows of sums and of members of ranges, each found by computation.
use Rattle.std.proofs.Common.{◌≡◌, refl, pos, negsuc, true, false, [], ◌∷◌, Some, codes}
use Rattle.py_value.specs.Contents.{truth, int, text, tuple, range, exception_class, no_parts, part}
use Rattle.py_value.specs.Seen.{an_instance}
use Rattle.py_model.specs.Arithmetic.{sum_plan, in_plan, not_in_plan, int_plan}
use Rattle.py_model.specs.Effect.{effect, answered}
use Rattle.py_model.specs.Faults.{overflow, type_error, value_error}
use Rattle.py_model.specs.Plan.{value}
use Rattle.py_model.specs.Store.{empty}
use Rattle.model_laws.specs.Results.{gives, throws}
use Rattle.model_laws.specs.TableNumbers.{sum_is}
use Rattle.model_laws.proofs.WorkedLists.{n, devices}

summed : sum_is (pos 3 ∷ negsuc 0 ∷ pos 5 ∷ []) ≡ gives (n 7)
summed = refl

-- a sum on the way is too great, though that of all is not
too_great : sum_is (pos 9223372036854775807 ∷ pos 1 ∷ negsuc 0 ∷ []) ≡ throws overflow (text (codes "integer out of range") ∷ [])
too_great = refl

sum_read : (effect empty devices (sum_plan (tuple (part (n 2) (part (truth true) no_parts)) ∷ []))).outcome ≡ answered (value (n 3))
sum_read = refl

no_sum : (effect empty devices (sum_plan (tuple (part (n 2) (part (text (codes "a")) no_parts)) ∷ []))).made ≡ Some (an_instance (exception_class type_error))
no_sum = refl

-- 7 is in `range(1, 10, 3)`, 8 and 10 are not; 2 is in `range(5, 0, -3)`, -1 is not; a text is in no range
a_member : (effect empty devices (in_plan (n 7 ∷ range (pos 1) (pos 10) (pos 3) ∷ []))).outcome ≡ answered (value (truth true))
a_member = refl

between : (effect empty devices (in_plan (n 8 ∷ range (pos 1) (pos 10) (pos 3) ∷ []))).outcome ≡ answered (value (truth false))
between = refl

the_end : (effect empty devices (not_in_plan (n 10 ∷ range (pos 1) (pos 10) (pos 3) ∷ []))).outcome ≡ answered (value (truth true))
the_end = refl

downwards : (effect empty devices (in_plan (n 2 ∷ range (pos 5) (pos 0) (negsuc 2) ∷ []))).outcome ≡ answered (value (truth true))
downwards = refl

below : (effect empty devices (in_plan (int (negsuc 0) ∷ range (pos 5) (pos 0) (negsuc 2) ∷ []))).outcome ≡ answered (value (truth false))
below = refl

no_number : (effect empty devices (in_plan (text (codes "a") ∷ range (pos 0) (pos 9) (pos 1) ∷ []))).outcome ≡ answered (value (truth false))
no_number = refl

-- `int('-12')`, and of what writes no integer
read_number : (effect empty devices (int_plan (text (codes "-12") ∷ []))).outcome ≡ answered (value (int (negsuc 11)))
read_number = refl

no_integer : (effect empty devices (int_plan (text (codes "x") ∷ []))).made ≡ Some (an_instance (exception_class value_error))
no_integer = refl
