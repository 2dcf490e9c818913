use Rattle.std.proofs.Common.{◌≡◌, true, subst}
use Rattle.py_value.specs.Same.{same_value, same_location}
use Rattle.py_value.proofs.SameTests.{value_same, value_own, location_same, location_own}
use Rattle.py_value.proofs.laws.tests_are_equality.Goals as goal

pub returns-clause-values : goal.returns-clause-values
returns-clause-values c = λ v w. (value_same v w, λ same. subst (λ x. same_value v x ≡ true) same (value_own v))

pub returns-clause-locations : goal.returns-clause-locations
returns-clause-locations c = λ l m. (location_same l m, λ same. subst (λ x. same_location l x ≡ true) same (location_own l))
